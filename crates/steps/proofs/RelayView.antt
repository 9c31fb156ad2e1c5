-- What a relay step that is done says: where the packet came from, where it goes, and that it is not stopped; and when it is done.
use Prim.Native.Nat.{ℕ}
use mathlib.Core.Path.{◌≡◌, refl, sym, ap, ◌∙◌, subst}
use mathlib.Core.List.{[], Memᴰ as Mem}
use mathlib.Core.Bool.{Bool, false, not, ◌&&◌}
use mathlib.Core.Logic.{◌⊎◌, inl, inr, ⊎_elim}
use native.Mathlib.Omega.{arith}
use lib.Dec.{eqb}
use borrow.Author.Tests.{eqb-true, eqb-false}
use Rattle.wire.specs.Numbers.{ok, pick}
use Rattle.wire.specs.Version.{sequence, zero_version}
use Rattle.wire.specs.Packet.{Packet, op_read, query, answer_written}
use Rattle.wire.proofs.Numbers.{pick_true, pick_false, ok_inj, past_all, pass_all, Reflects, reflects_cases, reflects_yes, reflects_no, reflect_false, reflect_eqb, reflect_not, reflect_and, reflect_or, reflect_pick, reflect_iff}
use Rattle.wire.proofs.Packet.{reflect_zero}
use Rattle.steps.specs.declared.Change.{Change}
use Rattle.steps.specs.declared.Change.TheVariants.{Still, Before, After}
use Rattle.steps.specs.declared.Chain.{Chain}
use Rattle.steps.specs.declared.Joining.{Joining}
use Rattle.steps.specs.Chain.{members, memb, first_of, last_of, next_of, Follows, Opened, before, after}
use Rattle.steps.specs.Node.{is_read, Alters, Numbered}
use Rattle.steps.specs.Relay.{Way, node, client, to_node, to_client, from_client, onward, from_node, way_of, stops, stops_way, stray_client, stray_node, relay_tests, relay_step, StrayClient, StrayNode, Stops, changing, tail}
use Rattle.steps.proofs.ChainIds.{reflect_memb, next_follows}
use Rattle.steps.proofs.Node.{stable, reflect_unnumbered}

-- ---- where a packet comes from

-- a client's query: to, stamp and version are 0
pub record FromClient (p : Packet) : Type 0 where
  pub from : p.head.from ≡ 0
  pub to : p.head.to ≡ 0
  pub stamp : p.head.stamp.0 ≡ 0
  pub asks : p.head.answer ≡ query
  pub version : p.head.version ≡ zero_version

-- a packet of a chain node
pub record FromNode (r : Chain) (p : Packet) : Type 0 where
  pub from : p.head.from ≡ 0 → ⊥
  pub member : Mem p.head.from (members r)
  pub to : p.head.to ≡ 0

-- ---- where it goes

-- a read goes to the last node
pub record NewRead (r : Chain) (p : Packet) (w : Way) : Type 0 where
  pub sender : FromClient p
  pub read : p.head.op ≡ op_read
  pub goes : w ≡ node (last_of (members r)) (to_node r (last_of (members r)) p.head.version p)

-- a write or delete, the record's session put in, to the first
pub record NewWrite (r : Chain) (p : Packet) (w : Way) : Type 0 where
  pub sender : FromClient p
  pub alters : Alters p
  pub goes : w ≡ node (first_of (members r)) (to_node r (first_of (members r)) (record { session = r.session; sequence = sequence 0 }) p)

-- an answer goes to the client
pub record Handed (r : Chain) (p : Packet) (w : Way) : Type 0 where
  pub sender : FromNode r p
  pub answers : p.head.answer ≡ query → ⊥
  pub goes : w ≡ client (to_client p.head.answer p.value p)

-- a numbered write or delete from the last becomes answer 4
pub record Acknowledged (r : Chain) (p : Packet) (w : Way) : Type 0 where
  pub sender : FromNode r p
  pub asks : p.head.answer ≡ query
  pub numbered : Numbered p
  pub last : p.head.from ≡ last_of (members r)
  pub goes : w ≡ client (to_client answer_written [] p)

-- from another it goes to the next node
pub record Onward (r : Chain) (p : Packet) (w : Way) : Type 0 where
  pub sender : FromNode r p
  pub asks : p.head.answer ≡ query
  pub numbered : Numbered p
  pub inner : p.head.from ≡ last_of (members r) → ⊥
  pub follows : Follows p.head.from (next_of p.head.from (members r)) (members r)
  pub goes : w ≡ node (next_of p.head.from (members r)) (to_node r (next_of p.head.from (members r)) p.head.version p)

pub data RelayCase (r : Chain) (p : Packet) (w : Way) : Type 0 where
  new_read : NewRead r p w → RelayCase r p w
  new_write : NewWrite r p w → RelayCase r p w
  handed : Handed r p w → RelayCase r p w
  acknowledged : Acknowledged r p w → RelayCase r p w
  passed_on : Onward r p w → RelayCase r p w

pub record RelayView (r : Chain) (p : Packet) (w : Way) : Type 0 where
  pub case : RelayCase r p w
  pub unstopped : (j : ℕ) (q : Packet) → w ≡ node j q → stops r.change (is_read p) j ≡ false

-- ---- the tests

reflect_client : (p : Packet) → Reflects (stray_client p) (StrayClient p)
reflect_client p =
    reflect_or (reflect_not (reflect_eqb _ _))
    (reflect_or (reflect_not (reflect_eqb _ _)) (reflect_or (reflect_not (reflect_eqb _ _)) (reflect_not (reflect_zero _))))

reflect_node : (p : Packet) → Reflects (stray_node p) (StrayNode p)
reflect_node p = reflect_or (reflect_not (reflect_eqb _ _)) (reflect_and (reflect_eqb _ _) (reflect_or (reflect_eqb _ _) (reflect_unnumbered p)))

-- misaddressed: of a client, or of a node
abbrev pub Stray : Packet → Type 0
Stray p = ((p.head.from ≡ 0) × StrayClient p) ⊎ ((p.head.from ≡ 0 → ⊥) × StrayNode p)

pub reflect_stray : (p : Packet) → Reflects (pick (eqb p.head.from 0) (stray_client p) (stray_node p)) (Stray p)
reflect_stray p =
    reflect_pick
    (λ e.
    let z : p.head.from ≡ 0 = (reflect_eqb _ _).0 e in
    reflect_iff (reflect_client p) (λ s. inl (z, s), ⊎_elim (λ h. h.1) (λ h. absurd (h.0 z))))
    (λ e.
    let z : p.head.from ≡ 0 → ⊥ = (reflect_eqb _ _).1 e in
    reflect_iff (reflect_node p) (λ s. inr (z, s), ⊎_elim (λ h. absurd (z h.0)) (λ h. h.1)))

abbrev pub Outside : Chain → Packet → Type 0
Outside r p = (p.head.from ≡ 0 → ⊥) × (Mem p.head.from (members r) → ⊥)

pub reflect_outside : (r : Chain) (p : Packet) → Reflects (not (eqb p.head.from 0) && not (memb p.head.from (members r))) (Outside r p)
reflect_outside r p = reflect_and (reflect_not (reflect_eqb _ _)) (reflect_not (reflect_memb _ _))

after_inj : {a b : Joining} → After a ≡ After b → a ≡ b
after_inj e = cc

-- a stop
pub reflect_stops : (ch : Change) (p : Packet) (j : ℕ) → Reflects (stops ch (is_read p) j) (Stops ch p j)
reflect_stops Still p j = reflect_false none
  where
    none : Stops Still p j → ⊥
    none (tail c e f) = let z : ◌≡◌ {A = ℕ} 0 1 = cc in omega arith
    none (changing c x' _ _) = elim x' [ ]
reflect_stops (Before c) p j = reflect_iff (reflect_and (reflect_eqb _ _) (reflect_not (reflect_eqb _ _))) (λ h. changing c before h.0 h.1, from)
  where
    from : Stops (Before c) p j → (j ≡ c.named) × Alters p
    from (changing k before e a) = (e, a)
    from (tail k e f) = absurd (let z : ◌≡◌ {A = ℕ} 0 1 = cc in omega arith)
reflect_stops (After c) p j = (λ e. tail c refl (omega (arith, eqb-true)), λ e s. let f = from s in omega (arith, eqb-false))
  where
    from : Stops (After c) p j → j ≡ c.named
    from (changing k after e a) = e
    from (tail k e f) = f ∙ ap (λ (k : Joining). k.named) (sym (after_inj e))

-- ---- the way of a packet that is not misaddressed, and whose sender is in the chain

module _ (r : Chain) (p : Packet) (clear : Stray p → ⊥) (known : Outside r p → ⊥) where
  from_client_lem : p.head.from ≡ 0 → FromClient p
  from_client_lem z = record {
    from = z;
    to = stable (reflect_eqb _ _) (λ d. clear (inl (z, inl d)));
    stamp = stable (reflect_eqb _ _) (λ d. clear (inl (z, inr (inl d))));
    asks = stable (reflect_eqb _ _) (λ d. clear (inl (z, inr (inr (inl d)))));
    version = stable (reflect_zero _) (λ d. clear (inl (z, inr (inr (inr d)))));
  }

  from_node_lem : (p.head.from ≡ 0 → ⊥) → FromNode r p
  from_node_lem n = record {
    from = n;
    member = stable (reflect_memb _ _) (λ d. known (n, d));
    to = stable (reflect_eqb _ _) (λ d. clear (inr (n, inl d)));
  }

  client_case : p.head.from ≡ 0 → RelayCase r p (from_client r p)
  unfolding from_client
  client_case z = go (reflects_cases (reflect_eqb p.head.op op_read))
    where
      go : (p.head.op ≡ op_read) ⊎ Alters p → RelayCase r p (from_client r p)
      go (inl e) = new_read (record { sender = from_client_lem z; read = e; goes = pick_true _ _ _ (reflects_yes (reflect_eqb _ _) e) })
      go (inr n) = new_write (record { sender = from_client_lem z; alters = n; goes = pick_false _ _ _ (reflects_no (reflect_eqb _ _) n) })

  node_case : (p.head.from ≡ 0 → ⊥) → RelayCase r p (from_node r p)
  unfolding from_node onward
  node_case n = go (reflects_cases (reflect_eqb p.head.answer query)) (reflects_cases (reflect_eqb p.head.from (last_of (members r))))
    where
      m : FromNode r p
      m = from_node_lem n

      numbered : p.head.answer ≡ query → Numbered p
      numbered q = (λ e. clear (inr (n, inr (q, inl e))), λ e. clear (inr (n, inr (q, inr (λ o. clear (inr (n, inr (q, inl o))), e)))))

      go : (p.head.answer ≡ query) ⊎ (p.head.answer ≡ query → ⊥)
          → (p.head.from ≡ last_of (members r)) ⊎ (p.head.from ≡ last_of (members r) → ⊥)
          → RelayCase r p (from_node r p)
      go (inr a) l = handed (record { sender = m; answers = a; goes = pick_false _ _ _ (reflects_no (reflect_eqb _ _) a) })
      go (inl q) (inl l) =
          acknowledged
          (record {
            sender = m;
            asks = q;
            numbered = numbered q;
            last = l;
            goes = pick_true _ _ _ (reflects_yes (reflect_eqb _ _) q) ∙ pick_true _ _ _ (reflects_yes (reflect_eqb _ _) l);
          })
      go (inl q) (inr l) =
          passed_on
          (record {
            sender = m;
            asks = q;
            numbered = numbered q;
            inner = l;
            follows = next_follows p.head.from (members r) m.member l;
            goes = pick_true _ _ _ (reflects_yes (reflect_eqb _ _) q) ∙ pick_false _ _ _ (reflects_no (reflect_eqb _ _) l);
          })

  pub way_case : RelayCase r p (way_of r p)
  unfolding way_of
  way_case = go (reflects_cases (reflect_eqb p.head.from 0))
    where
      go : (p.head.from ≡ 0) ⊎ (p.head.from ≡ 0 → ⊥) → RelayCase r p (way_of r p)
      go (inl z) = subst (RelayCase r p) (sym (pick_true _ _ _ (reflects_yes (reflect_eqb _ _) z))) (client_case z)
      go (inr n) = subst (RelayCase r p) (sym (pick_false _ _ _ (reflects_no (reflect_eqb _ _) n))) (node_case n)

-- ---- a step that is done

pub relay_view : (r : Chain) (p : Packet) (w : Way) → relay_step r p ≡ ok w → RelayView r p w
unfolding relay_step
relay_view r p w e =
    let g = past_all (relay_tests r p) _ _ e in
    let d : way_of r p ≡ w = ok_inj g.1 in
    record {
      case = subst (RelayCase r p) d (way_case r p ((reflect_stray p).1 g.0.0) ((reflect_outside r p).1 g.0.1.0));
      unstopped = λ j q f. ap (stops_way r.change (is_read p)) (sym (d ∙ f)) ∙ g.0.1.1.0;
    }

-- ---- when a step is done

-- no change stops nothing; an open one stops nothing that is addressed to another than the named node, and one "before" it no read
pub still_unstopped : (ch : Change) (read : Bool) (j : ℕ) → ch ≡ Still → stops ch read j ≡ false
still_unstopped ch read j e = ap (λ (c : Change). stops c read j) e

pub other_unstopped : {ch : Change} {c : Joining} (read : Bool) (j : ℕ) → Opened ch c → (j ≡ c.named → ⊥) → stops ch read j ≡ false
other_unstopped read j before n = ap (λ (b : Bool). b && not read) (reflects_no (reflect_eqb _ _) n)
other_unstopped read j after n = reflects_no (reflect_eqb _ _) n

pub read_unstopped : (ch : Change) (c : Joining) (p : Packet) (j : ℕ) → ch ≡ Before c → p.head.op ≡ op_read → stops ch (is_read p) j ≡ false
read_unstopped ch c p j e o =
    ap (λ (x : Change). stops x (is_read p) j) e
    ∙ reflects_no (reflect_and (reflect_eqb j c.named) (reflect_not (reflect_eqb p.head.op op_read))) (λ h. h.1 o)

-- a client's query is not misaddressed, and neither is a node's packet that has an answer or a number
client_clear : (p : Packet) → FromClient p → Stray p → ⊥
client_clear p c (inl (z, inl d)) = d c.to
client_clear p c (inl (z, inr (inl d))) = d c.stamp
client_clear p c (inl (z, inr (inr (inl d)))) = d c.asks
client_clear p c (inl (z, inr (inr (inr d)))) = d c.version
client_clear p c (inr (n, d)) = n c.from

node_clear : (r : Chain) (p : Packet) → FromNode r p → (p.head.answer ≡ query → Numbered p) → Stray p → ⊥
node_clear r p c n (inl (z, d)) = c.from z
node_clear r p c n (inr (z, inl d)) = d c.to
node_clear r p c n (inr (z, inr (q, inl e))) = (n q).0 e
node_clear r p c n (inr (z, inr (q, inr u))) = (n q).1 u.1

module _ (r : Chain) (p : Packet) where
  -- the way of a packet, where neither its address nor its sender nor a stop keeps it
  done : (w : Way) → (Stray p → ⊥) → (Outside r p → ⊥) → way_of r p ≡ w → stops_way r.change (is_read p) w ≡ false → relay_step r p ≡ ok w
  unfolding relay_step
  done w clear known e free =
      pass_all (relay_tests r p) (ok (way_of r p))
      (reflects_no (reflect_stray p) clear, (reflects_no (reflect_outside r p) known, (ap (stops_way r.change (is_read p)) e ∙ free, tt)))
      ∙ ap ok e

  module _ (c : FromClient p) where
    -- a packet of a client goes where it is addressed
    client_done : (w : Way) → from_client r p ≡ w → stops_way r.change (is_read p) w ≡ false → relay_step r p ≡ ok w
    unfolding way_of
    client_done w e free = done w (client_clear p c) (λ o. o.0 c.from) (pick_true _ _ _ (reflects_yes (reflect_eqb _ _) c.from) ∙ e) free

    pub sends_read : p.head.op ≡ op_read → stops r.change (is_read p) (last_of (members r)) ≡ false
        → relay_step r p ≡ ok (node (last_of (members r)) (to_node r (last_of (members r)) p.head.version p))
    unfolding from_client
    sends_read o free = client_done _ (pick_true _ _ _ (reflects_yes (reflect_eqb _ _) o)) free

    pub sends_write : Alters p → stops r.change (is_read p) (first_of (members r)) ≡ false
        → relay_step r p ≡ ok (node (first_of (members r)) (to_node r (first_of (members r)) (record { session = r.session; sequence = sequence 0 }) p))
    unfolding from_client
    sends_write a free = client_done _ (pick_false _ _ _ (reflects_no (reflect_eqb _ _) a)) free

  module _ (c : FromNode r p) where
    -- a packet of a chain node: an answer, or one that has a number
    node_done : (w : Way) → (p.head.answer ≡ query → Numbered p) → from_node r p ≡ w → stops_way r.change (is_read p) w ≡ false → relay_step r p ≡ ok w
    unfolding way_of
    node_done w n e free = done w (node_clear r p c n) (λ o. o.1 c.member) (pick_false _ _ _ (reflects_no (reflect_eqb _ _) c.from) ∙ e) free

    pub hands_answer : (p.head.answer ≡ query → ⊥) → relay_step r p ≡ ok (client (to_client p.head.answer p.value p))
    unfolding from_node
    hands_answer a = node_done _ (λ q. absurd (a q)) (pick_false _ _ _ (reflects_no (reflect_eqb _ _) a)) refl

    module _ (asks : p.head.answer ≡ query) (n : Numbered p) where
      pub acknowledges : p.head.from ≡ last_of (members r) → relay_step r p ≡ ok (client (to_client answer_written [] p))
      unfolding from_node onward
      acknowledges l =
          node_done _ (λ _. n) (pick_true _ _ _ (reflects_yes (reflect_eqb _ _) asks) ∙ pick_true _ _ _ (reflects_yes (reflect_eqb _ _) l)) refl

      pub sends_on : (p.head.from ≡ last_of (members r) → ⊥) → stops r.change (is_read p) (next_of p.head.from (members r)) ≡ false
          → relay_step r p ≡ ok (node (next_of p.head.from (members r)) (to_node r (next_of p.head.from (members r)) p.head.version p))
      unfolding from_node onward
      sends_on l free =
          node_done _ (λ _. n) (pick_true _ _ _ (reflects_yes (reflect_eqb _ _) asks) ∙ pick_false _ _ _ (reflects_no (reflect_eqb _ _) l)) free
