-- The controller steps that change the chain keep the invariant: activate and remove.
use Prim.Native.Nat.{ℕ, ◌+◌, ◌≤◌}
use mathlib.Core.Path.{◌≡◌, refl, sym, ap, ◌∙◌, subst}
use mathlib.Core.Bool.{Bool, true, false, false≢true}
use mathlib.Core.List.Memᴰ.{cast}
use mathlib.Core.List.{List, [], ◌∷◌, Memᴰ as Mem}
use mathlib.Core.Logic.{◌⊎◌, inl, inr, ⊎_elim}
use native.Mathlib.Omega.{arith}
use lib.Seq.{ext_get_or}
use lib.Dec.{eqb}
use borrow.Author.Tests.{eqb-true, eq-eqb, ne_eqb}
use Rattle.wire.specs.Numbers.{Out, refuse, ok, pick}
use Rattle.wire.specs.Version.{AtMost}
use Rattle.wire.specs.Packet.{Packet, op_read}
use Rattle.wire.specs.declared.Session.{Session}
use Rattle.wire.specs.declared.Stamp.{Stamp}
use Rattle.wire.specs.declared.Version.{Version}
use Rattle.wire.proofs.Numbers.{pick_case, reflects_cases, reflect_eqb}
use Rattle.store.specs.Table.{Slot, free_slot}
use Rattle.store.specs.Held.{Content, version_at}
use Rattle.steps.specs.declared.Joining.{Joining}
use Rattle.steps.specs.declared.Change.{Change}
use Rattle.steps.specs.declared.Change.TheVariants.{Still}
use Rattle.steps.specs.declared.Chain.{Chain}
use Rattle.steps.specs.Chain.{members, first_of, First, ChainRules, JoiningRules, Opened}
use Rattle.steps.specs.Node.{is_read, Alters, Unnumbered}
use Rattle.steps.specs.Relay.{stops}
use Rattle.steps.specs.Control.{change_for, activate_step, remove_step}
use Rattle.steps.proofs.ChainIds.{first_mem, first_is, reflect_first}
use Rattle.steps.proofs.ChainOrder.{Ahead, none_ahead_first, ins, mem_ins, mem_ins_old, Joined, behind, just_behind, just_ahead, ahead, old, joined, del, mem_del, mem_del_other, ahead_del, del_gone}
use Rattle.steps.proofs.ControlViews.{opened_for, ActivateView, activate_view, RemoveView, remove_view}
use Rattle.steps.proofs.ControlRules.{activate_keeps, remove_keeps}
use Rattle.steps.proofs.Control.{some_members}
use Rattle.protocol.specs.System.{State, activates, removes, ghosts, ruled}
use Rattle.protocol.specs.Inv.{World, world_of, node_version, Logged, LiveTo, Good, Sound, Keyed, Inv}
use Rattle.protocol.proofs.Prims.{world, at_most_same, open_rules, copied_fenced, stops_named, inv_made_none, inv_same}
use Rattle.protocol.proofs.Control.{not_opened, table_under}

-- ---- the first node and the session

-- the first node stays and so does the session, or the first node is new and the session one higher
data Raised (l m : List ℕ) (s s' : Session) : Type 0 where
  kept : first_of m ≡ first_of l → s' ≡ s → Raised l m s s'
  raised : (first_of m ≡ first_of l → ⊥) → s'.0 ≡ s.0 + 1 → Raised l m s s'

session_grows : {l m : List ℕ} {s s' : Session} → Raised l m s s' → s.0 ≤ s'.0
session_grows (kept e q) = let z = ap (λ (x : Session). x.0) q in omega arith
session_grows (raised n q) = omega arith

-- ---- a record with other nodes

-- nothing but the nodes and the session differs, and no change is open; a node of it has the slots of a node that was there
record Rechained (w : World) (r : Chain) : Type 0 where
  rules : ChainRules r
  wiring : r.wiring ≡ w.chain.wiring
  highest : r.highest ≡ w.chain.highest
  count : r.count ≡ w.chain.count
  still : r.change ≡ Still
  session : Raised (members w.chain) (members r) w.chain.session r.session
  stands : (j : ℕ) → Mem j (members r) → (i : ℕ) × Mem i (members w.chain) × ((w.table j).slots ≡ (w.table i).slots)
  orders : (i j : ℕ) → Ahead i j (members r) → (k : List ℕ) → Keyed k w → AtMost (node_version w k j) (node_version w k i)

sound_rechained : {w : World} {r : Chain} → Sound w → Rechained w r → Sound (world r w.table w.halted w.history)
sound_rechained v c = record {
  rules = c.rules;
  tables = λ j. table_under c.count (let h = ap (λ (x : Stamp). x.0) c.wiring in omega arith) (v.tables j);
  fenced = λ d o. not_opened c.still o;
  copied = λ d o. not_opened c.still o;
}

keyed_rechained : {k : List ℕ} {w : World} {r : Chain} → Keyed k w → Rechained w r → Keyed k (world r w.table w.halted w.history)
keyed_rechained {k} {w} {r} v c = record {
  order = λ i j h. c.orders i j h k v;
  sessions = λ u d h. let a = v.sessions u d h in let b = session_grows c.session in omega arith;
  first_holds = λ u d h e. first u d h e c.session;
  growing = v.growing;
  acked_given = v.acked_given;
  seen_held = λ u h j m. let i = c.stands j m in rw i.2 (v.seen_held u h i.0 i.1);
  reads_rise = v.reads_rise;
}
  where
    first : (u : Version) (d : Content) → Logged w.history k u d → u.session.0 ≡ r.session.0
        → Raised (members w.chain) (members r) w.chain.session r.session → AtMost u (node_version w k (first_of (members r)))
    first u d h e (kept q z) = rw q (v.first_holds u d h (e ∙ ap (λ (x : Session). x.0) z))
    first u d h e (raised n z) = absurd (let a = v.sessions u d h in omega arith)

-- what a packet asks of it
record Follows (k : List ℕ) (w : World) (r : Chain) (p : Packet) : Type 0 where
  lands : Mem p.head.to (members w.chain) ⊎ (w.halted p.head.to ≡ true) → Mem p.head.to (members r) ⊎ (w.halted p.head.to ≡ true)
  to : Mem p.head.to (members r) → Mem p.head.to (members w.chain)
  from : Mem p.head.from (members r) → Mem p.head.from (members w.chain)
  reads : LiveTo w p → p.head.op ≡ op_read → (j : ℕ) → Ahead p.head.to j (members r) → (i : ℕ) × Ahead p.head.to i (members w.chain)
  alters : LiveTo w p → Alters p → (j : ℕ) → Ahead j p.head.to (members r)
      → (i : ℕ) × Ahead i p.head.to (members w.chain) × ((w.table j).slots ≡ (w.table i).slots)

good_rechained : {k : List ℕ} {w : World} {r : Chain} {p : Packet} → Rechained w r → Good k w p → Follows k w r p → Good k (world r w.table w.halted w.history) p
good_rechained {k} {w} {r} {p} c g f = record {
  fit = g.fit;
  to_used = rw c.highest g.to_used;
  from_used = rw c.highest g.from_used;
  to_old = λ d o. not_opened c.still o;
  from_old = λ d o. not_opened c.still o;
  asked = g.asked;
  lands = λ n. f.lands (g.lands n);
  stamped = rw c.wiring g.stamped;
  stopped = λ e. absurd (false≢true (ap (λ (ch : Change). stops ch (is_read p) p.head.to) (sym c.still) ∙ e));
  content = g.content;
  reads_last = λ l o j h. let i = f.reads (was l) o j h in g.reads_last (was l) o i.0 i.1;
  writes_first = first;
  session = λ l u. let a = g.session (was l) u in let b = session_grows c.session in omega arith;
  top = λ l. g.top (was l);
  current = λ l u. current l u c.session;
  ahead_hold = λ l n e j h. let i = f.alters (was l) n.0 j h in rw i.2 (g.ahead_hold (was l) n e i.0 i.1);
  sender_holds = λ m. g.sender_holds (f.from m);
}
  where
    was : LiveTo (world r w.table w.halted w.history) p → LiveTo w p
    was l = (f.to l.0, l.1)

    first : LiveTo (world r w.table w.halted w.history) p → Unnumbered p → (j : ℕ) → Ahead j p.head.to (members r) → ⊥
    first l u j h = let i = f.alters (was l) u.0 j h in g.writes_first (was l) u i.0 i.1

    current : LiveTo (world r w.table w.halted w.history) p → Unnumbered p → Raised (members w.chain) (members r) w.chain.session r.session
        → p.head.version.session ≡ r.session
    current l u (kept q z) = g.current (was l) u ∙ sym z
    current l u (raised n z) = absurd (n (sym (none_ahead_first _ l.0 (first l u)) ∙ none_ahead_first _ (f.to l.0) (g.writes_first (was l) u)))

-- ---- remove

first_del : (id : ℕ) (l : List ℕ) → (id ≡ first_of l → ⊥) → first_of (del id l) ≡ first_of l
unfolding del first_of
first_del id [] n = refl
first_del id (x ∷ l) n = pick_case (λ m. first_of m ≡ x) (eqb x id) l (x ∷ del id l) (λ e. absurd (n (sym (eqb-true x id e)))) (λ _. refl)

pub pres_remove : {k : List ℕ} {s : State} → Inv k s → (id : ℕ) → s.halted id ≡ true → (o : Out Chain) → remove_step s.chain id ≡ o → Inv k (ruled (removes id) s o)
pres_remove {k} {s} v id dead (refuse n) e = inv_same v refl refl
pres_remove {k} {s} v id dead (ok r) e =
    inv_made_none (world r s.table s.halted (ghosts s)) refl refl v (sound_rechained v.sound removed) (keyed_rechained v.keyed removed)
    (λ p g. good_rechained removed g (follows p))
  where
    f : RemoveView s.chain id r
    f = remove_view s.chain id r v.sound.rules e

    rules : ChainRules r
    rules = remove_keeps s.chain id r v.sound.rules e

    member : (j : ℕ) → Mem j (members r) → Mem j (members s.chain)
    member j m = mem_del id (members s.chain) (rw f.nodes at m)

    before : (i j : ℕ) → Ahead i j (members r) → Ahead i j (members s.chain)
    before i j h = ahead_del id (members s.chain) (rw f.nodes at h)

    session : First id (members s.chain) ⊎ (First id (members s.chain) → ⊥) → Raised (members s.chain) (members r) s.chain.session r.session
    session (inl q) =
        raised (λ z. del_gone id (members s.chain) v.sound.rules.distinct (subst (λ (l : List ℕ). Mem (first_of (members r)) l) f.nodes (first_mem (members r) (some_members _ rules))) (z ∙ sym (first_is (members s.chain) q)))
        (f.raised q)
    session (inr n) =
        kept (ap first_of f.nodes ∙ first_del id (members s.chain) (λ q. n ((reflect_first id (members s.chain) (some_members _ v.sound.rules)).0 (eq-eqb _ _ q)))) (f.same n)

    removed : Rechained (world_of s) r
    removed = record {
      rules = rules;
      wiring = f.wiring;
      highest = f.highest;
      count = f.count;
      still = f.change;
      session = session (reflects_cases (reflect_first id (members s.chain) (some_members _ v.sound.rules)));
      stands = λ j m. (j, member j m, refl);
      orders = λ i j h k u. u.order i j (before i j h);
    }

    follows : (p : Packet) → Follows k (world_of s) r p
    follows p = record {
      lands = land (reflects_cases (reflect_eqb p.head.to id));
      to = member p.head.to;
      from = member p.head.from;
      reads = λ l o j h. (j, before _ _ h);
      alters = λ l a j h. (j, before _ _ h, refl);
    }
      where
        land : (p.head.to ≡ id) ⊎ (p.head.to ≡ id → ⊥) → Mem p.head.to (members s.chain) ⊎ (s.halted p.head.to ≡ true)
            → Mem p.head.to (members r) ⊎ (s.halted p.head.to ≡ true)
        land q (inr h) = inr h
        land (inl q) (inl m) = inr (rw q dead)
        land (inr q) (inl m) = inl (rw f.nodes (mem_del_other id (members s.chain) m q))

-- ---- activate

first_ins : (side : Bool) (named fresh : ℕ) (l : List ℕ) → (first_of (ins side named fresh l) ≡ fresh) ⊎ (first_of (ins side named fresh l) ≡ first_of l)
unfolding ins first_of
first_ins side named fresh [] = inr refl
first_ins side named fresh (x ∷ l) =
    pick_case (λ m. (first_of m ≡ fresh) ⊎ (first_of m ≡ x)) (eqb x named) (pick side (x ∷ (fresh ∷ l)) (fresh ∷ (x ∷ l))) (x ∷ ins side named fresh l)
    (λ _. pick_case (λ m. (first_of m ≡ fresh) ⊎ (first_of m ≡ x)) side (x ∷ (fresh ∷ l)) (fresh ∷ (x ∷ l)) (λ _. inr refl) (λ _. inl refl)) (λ _. inr refl)

-- while a change after a node is open, everything to that node is stopped
stops_after : (side : Bool) (c : Joining) (read : Bool) (j : ℕ) → side ≡ true → j ≡ c.named → stops (change_for side c) read j ≡ true
stops_after true c read j b e = eq-eqb _ _ e
stops_after false c read j b e = absurd (false≢true b)

pub pres_activate : {k : List ℕ} {s : State} → Inv k s → (o : Out Chain) → activate_step s.chain ≡ o → Inv k (ruled activates s o)
pres_activate {k} {s} v (refuse n) e = inv_same v refl refl
pres_activate {k} {s} v (ok r) e =
    inv_made_none (world r s.table s.halted (ghosts s)) refl refl v (sound_rechained v.sound activated) (keyed_rechained v.keyed activated)
    (λ p g. good_rechained activated g (follows p g))
  where
    f : ActivateView s.chain r
    f = activate_view s.chain r v.sound.rules e

    side : Bool
    side = f.joins.after

    c : Joining
    c = f.joins.join

    rules : ChainRules r
    rules = activate_keeps s.chain r v.sound.rules e

    opened : Opened s.chain.change c
    opened = subst (λ (ch : Change). Opened ch c) (sym f.joins.change) (opened_for side c)

    joining : JoiningRules s.chain c
    joining = open_rules v.sound.rules c opened

    -- all slots are copied
    slots : (s.table c.fresh).slots ≡ (s.table c.named).slots
    slots =
        let a = (v.sound.tables c.fresh).count in
        let b = (v.sound.tables c.named).count in
        let h = f.copied in
        ext_get_or free_slot _ _ (a ∙ sym b) (λ i l. v.sound.copied c opened i (omega arith))

    -- and the named node is fenced
    fence : (s.table c.named).fence.0 ≡ s.chain.wiring.0
    fence =
        let h = f.copied in
        let n = v.sound.rules.count_some in
        let z = v.sound.fenced c opened (copied_fenced v.sound.rules c opened (omega arith)) in
        omega arith

    -- the new node, or one that was there
    member : (j : ℕ) → Mem j (members r) → (j ≡ c.fresh) ⊎ Mem j (members s.chain)
    member j m = ⊎_elim (λ q. inl q.0) inr (mem_ins side c.named c.fresh (members s.chain) (rw f.nodes at m))

    places : (i j : ℕ) → Ahead i j (members r) → Joined side i j c.named c.fresh (members s.chain)
    places i j h = joined side c.named c.fresh (members s.chain) (rw f.nodes at h)

    session : First c.fresh (members r) ⊎ (First c.fresh (members r) → ⊥) → Raised (members s.chain) (members r) s.chain.session r.session
    session (inl q) =
        raised (λ z. joining.outside (cast (first_is (members r) q ∙ z) (first_mem (members s.chain) (some_members _ v.sound.rules)))) (f.raised q)
    session (inr n) = kept (⊎_elim (λ q. absurd (n (first (sym q)))) (λ q. q) (subst (λ (l : List ℕ). (first_of l ≡ c.fresh) ⊎ (first_of l ≡ first_of (members s.chain))) (sym f.nodes) (first_ins side c.named c.fresh (members s.chain)))) (f.same n)
      where
        first : c.fresh ≡ first_of (members r) → First c.fresh (members r)
        first q = (reflect_first c.fresh (members r) (some_members _ rules)).0 (eq-eqb _ _ q)

    -- the new node holds what the named one holds
    same : (k : List ℕ) → node_version (world_of s) k c.fresh ≡ node_version (world_of s) k c.named
    same k = ap (λ (l : List Slot). version_at k l) slots

    order : (i j : ℕ) → Joined side i j c.named c.fresh (members s.chain) → (k : List ℕ) → Keyed k (world_of s)
        → AtMost (node_version (world_of s) k j) (node_version (world_of s) k i)
    order i j (behind q h) k u = rw (q, same k) (u.order i c.named h)
    order i j (just_behind q z _) k u = rw (q, z, same k) (at_most_same refl)
    order i j (just_ahead q z _) k u = rw (q, z, same k) (at_most_same refl)
    order i j (ahead q h) k u = rw (q, same k) (u.order c.named j h)
    order i j (old h) k u = u.order i j h

    activated : Rechained (world_of s) r
    activated = record {
      rules = rules;
      wiring = f.wiring;
      highest = f.highest;
      count = f.count;
      still = f.change;
      session = session (reflects_cases (reflect_first c.fresh (members r) (some_members _ rules)));
      stands = λ j m. stands j (member j m);
      orders = λ i j h. order i j (places i j h);
    }
      where
        stands : (j : ℕ) → (j ≡ c.fresh) ⊎ Mem j (members s.chain) → (i : ℕ) × Mem i (members s.chain) × ((s.table j).slots ≡ (s.table i).slots)
        stands j (inl q) = (c.named, joining.named, ap (λ (n : ℕ). (s.table n).slots) q ∙ slots)
        stands j (inr m) = (j, m, refl)

    follows : (p : Packet) → Good k (world_of s) p → Follows k (world_of s) r p
    follows p g = record {
      lands = ⊎_elim (λ m. inl (rw f.nodes (mem_ins_old side c.named c.fresh (members s.chain) m))) inr;
      to = λ m. ⊎_elim (λ q. absurd (g.to_old c opened q)) (λ m. m) (member p.head.to m);
      from = λ m. ⊎_elim (λ q. absurd (g.from_old c opened q)) (λ m. m) (member p.head.from m);
      reads = λ l o j h. reads l j (places p.head.to j h);
      alters = λ l a j h. alters l a j (places j p.head.to h);
    }
      where
        new : {A : Type 0} → p.head.to ≡ c.fresh → A
        new q = absurd (g.to_old c opened q)

        -- what the relay stops at the named node was stamped before its fence
        blocked : {A : Type 0} → LiveTo (world_of s) p → p.head.to ≡ c.named → stops s.chain.change (is_read p) p.head.to ≡ true → A
        blocked l q st =
            let z : (s.table p.head.to).fence.0 ≡ s.chain.wiring.0 = ap (λ (n : ℕ). (s.table n).fence.0) q ∙ fence in
            let b = g.stopped st in
            let h = l.1 in
            absurd (omega arith)

        reads : LiveTo (world_of s) p → (j : ℕ) → Joined side p.head.to j c.named c.fresh (members s.chain)
            → (i : ℕ) × Ahead p.head.to i (members s.chain)
        reads l j (behind q h) = (c.named, h)
        reads l j (just_behind q z b) = blocked l z (ap (λ (ch : Change). stops ch (is_read p) p.head.to) f.joins.change ∙ stops_after side c (is_read p) p.head.to b z)
        reads l j (just_ahead q z b) = new q
        reads l j (ahead q h) = new q
        reads l j (old h) = (j, h)

        alters : LiveTo (world_of s) p → Alters p → (j : ℕ) → Joined side j p.head.to c.named c.fresh (members s.chain)
            → (i : ℕ) × Ahead i p.head.to (members s.chain) × ((s.table j).slots ≡ (s.table i).slots)
        alters l a j (behind q h) = new q
        alters l a j (just_behind q z b) = new q
        alters l a j (just_ahead q z b) = blocked l z (ap (λ (x : Bool). stops s.chain.change x p.head.to) (ne_eqb p.head.op op_read a) ∙ stops_named c opened p.head.to z)
        alters l a j (ahead q h) = (c.named, h, ap (λ (n : ℕ). (s.table n).slots) q ∙ slots)
        alters l a j (old h) = (j, h, refl)
