-- The ways through the relay step: what the call and the step come to, by the facts that hold on each way.
use Prim.Native.Nat.{ℕ, ◌<◌, ◌≤◌}
use mathlib.Core.Path.{◌≡◌, refl, sym, ap, ◌∙◌, ap₂}
use mathlib.Core.List.{List, []}
use mathlib.Core.Bool.{Bool, true, false, not, ◌&&◌}
use native.Mathlib.Omega.{arith}
use lib.ListN.{length, take, length-take}
use lib.Seq.{take_all}
use lib.Dec.{eqb}
use denote.Bor.{Bor}
use borrow.Author.Tests.{lt-ltb, le-ltb, eq-eqb, ne_eqb}
use Rattle.wire.specs.Numbers.{Out, refuse, ok, left, pick, broken, small_outlet, malformed, misaddressed, stranger}
use Rattle.wire.specs.Version.{sequence}
use Rattle.wire.specs.Packet.{Packet, packet, packet_of, key_of, value_of, value_size, sent_in, Formed, Fit, outlet_size, op_read, query, answer_written}
use Rattle.wire.specs.declared.Head.{Head}
use Rattle.wire.specs.declared.Version.{Version}
use Rattle.wire.proofs.Numbers.{refuse_inj, refuse_ok, ok_inj, pick_true, pick_false, pick_case, pass_guard, stop_guard, Reflects, reflects_yes, reflects_no, reflect_and, reflect_not, reflect_eqb}
use Rattle.wire.proofs.Packet.{reflect_formed, ReadView}
use Rattle.wire.proofs.RoundTrip.{fit_packet}
use Rattle.steps.specs.declared.Chain.{Chain}
use Rattle.steps.specs.Relay.{Outcome}
use Rattle.steps.specs.declared.Destination.{Destination}
use Rattle.steps.specs.declared.Destination.TheVariants.{ToNode, ToClient}
use Rattle.steps.specs.Chain.{members, memb, first_of, last_of, next_of, chain_ok}
use Rattle.steps.specs.Node.{is_read, Alters}
use Rattle.steps.specs.Relay.{Way, node, client, to_node, to_client, from_client, onward, from_node, way_of, stops_way, stray_client, stray_node, packet_sent, outcome_of, relay_step, relay_call, RelayGives}
use Rattle.steps.proofs.ChainRules.{reflect_chain}
use Rattle.steps.proofs.Relay.{call_step}
use Rattle.steps.proofs.RelayView.{RelayCase, new_read, new_write, handed, acknowledged, passed_on, relay_view}
use Rattle.packet.specs.Emit.{emitted}
use Rattle.packet.proofs.Laws.{emit_done}
use Rattle.relay.specs.Ways.{read_as, unless_stopped, version_to, for_node, for_client, head_to, under_head}
use Rattle.relay.specs.Passages.{passing}
use Rattle.relay.specs.declared.Passage.{Passage}

-- ---- what a call promises

-- by what it comes to
gives : {r : Chain} {p out out' : List ℕ} {o : Outcome} (a : Out Way) → relay_call r p out ≡ a → o ≡ outcome_of a → out' ≡ left out (λ w. sent_in out (packet_sent w)) a
    → RelayGives r p out o out'
gives {out = out} a e o k = record { outcome = o ∙ ap outcome_of (sym e); outlet = k ∙ ap (left out (λ w. sent_in out (packet_sent w))) (sym e) }

-- a refusal leaves the outlet as it was
pub drops : {r : Chain} {p out : List ℕ} {n : ℕ} → relay_call r p out ≡ refuse n → RelayGives r p out (refuse n) out
drops {n = n} e = gives (refuse n) e refl refl

-- ---- the call

module _ (r : Chain) (p out : List ℕ) where
  pub call_broken : chain_ok r ≡ false → relay_call r p out ≡ refuse broken
  unfolding relay_call
  call_broken g = stop_guard _ _ _ (ap not g)

  module _ (g : chain_ok r ≡ true) where
    pub call_small : length out < outlet_size → relay_call r p out ≡ refuse small_outlet
    unfolding relay_call
    call_small h = pass_guard _ _ _ (ap not g) ∙ stop_guard _ _ _ (lt-ltb _ _ h)

    module _ (h : outlet_size ≤ length out) where
      pub call_malformed : {n : ℕ} → n ≡ malformed → (Formed p → ⊥) → relay_call r p out ≡ refuse n
      unfolding relay_call
      call_malformed e n =
          pass_guard _ _ _ (ap not g)
          ∙ (pass_guard _ _ _ (le-ltb _ _ h)
          ∙ (stop_guard _ _ _ (ap not (reflects_no (reflect_formed p) n)) ∙ ap refuse (sym e)))

      -- a packet that was read comes to the step
      pub call_read : {head : Head} → ReadView p head → relay_call r p out ≡ relay_step r (read_as head p)
      unfolding packet_of
      call_read v = call_step r p out ((reflect_chain r).0 g) h v.formed ∙ ap (λ (x : Head). relay_step r (read_as x p)) (sym v.head)

-- ---- the step

module _ (r : Chain) (p : Packet) where
  -- a way that is not stopped
  pub way_free : (w : Way) → stops_way r.change (is_read p) w ≡ false → unless_stopped r p w ≡ ok w
  unfolding unless_stopped
  way_free w e = pass_guard _ _ _ e

  -- the way to a node under a version, also under another name of the node
  abbrev on_to : ℕ → Version → Way
  on_to j v = node j (to_node r j v p)

  renamed : (v : Version) {i j : ℕ} → i ≡ j → unless_stopped r p (on_to j v) ≡ unless_stopped r p (on_to i v)
  renamed v e = ap (λ (k : ℕ). unless_stopped r p (on_to k v)) (sym e)

  -- on a packet of a client
  module _ (z : p.head.from ≡ 0) where
    stray_as_client : pick (eqb p.head.from 0) (stray_client p) (stray_node p) ≡ stray_client p
    stray_as_client = pick_true _ _ _ (eq-eqb _ _ z)

    pub client_stray : stray_client p ≡ true → relay_step r p ≡ refuse misaddressed
    unfolding relay_step
    client_stray e = stop_guard _ _ _ (stray_as_client ∙ e)

    module _ (e : stray_client p ≡ false) where
      client_way : {w : Way} → from_client r p ≡ w → relay_step r p ≡ unless_stopped r p w
      unfolding relay_step unless_stopped way_of
      client_way f =
          pass_guard _ _ _ (stray_as_client ∙ e)
          ∙ (pass_guard _ _ _ (ap (λ (b : Bool). not b && not (memb p.head.from (members r))) (eq-eqb _ _ z))
          ∙ ap (unless_stopped r p) (pick_true _ _ _ (eq-eqb _ _ z) ∙ f))

      pub client_read : p.head.op ≡ op_read → {j : ℕ} → j ≡ last_of (members r) → relay_step r p ≡ unless_stopped r p (on_to j p.head.version)
      unfolding from_client
      client_read o l = client_way (pick_true _ _ _ (eq-eqb _ _ o)) ∙ renamed _ l

      pub client_write : (p.head.op ≡ op_read → ⊥) → {j : ℕ} → j ≡ first_of (members r)
          → relay_step r p ≡ unless_stopped r p (on_to j (record { session = r.session; sequence = sequence 0 }))
      unfolding from_client
      client_write o f = client_way (pick_false _ _ _ (ne_eqb _ _ o)) ∙ renamed _ f

  -- on a packet of a node
  module _ (n : p.head.from ≡ 0 → ⊥) where
    stray_as_node : pick (eqb p.head.from 0) (stray_client p) (stray_node p) ≡ stray_node p
    stray_as_node = pick_false _ _ _ (ne_eqb _ _ n)

    pub node_stray : stray_node p ≡ true → relay_step r p ≡ refuse misaddressed
    unfolding relay_step
    node_stray e = stop_guard _ _ _ (stray_as_node ∙ e)

    module _ (e : stray_node p ≡ false) where
      outside : (b : Bool) → memb p.head.from (members r) ≡ b → (not (eqb p.head.from 0) && not (memb p.head.from (members r))) ≡ not b
      outside b m = ap₂ (λ (x y : Bool). not x && not y) (ne_eqb _ _ n) m

      pub node_outside : memb p.head.from (members r) ≡ false → relay_step r p ≡ refuse stranger
      unfolding relay_step
      node_outside m = pass_guard _ _ _ (stray_as_node ∙ e) ∙ stop_guard _ _ _ (outside _ m)

      module _ (m : memb p.head.from (members r) ≡ true) where
        node_way : {w : Way} → from_node r p ≡ w → relay_step r p ≡ unless_stopped r p w
        unfolding relay_step unless_stopped way_of
        node_way f =
            pass_guard _ _ _ (stray_as_node ∙ e)
            ∙ (pass_guard _ _ _ (outside _ m) ∙ ap (unless_stopped r p) (pick_false _ _ _ (ne_eqb _ _ n) ∙ f))

        pub node_answers : (p.head.answer ≡ query → ⊥) → relay_step r p ≡ ok (client (to_client p.head.answer p.value p))
        unfolding from_node
        node_answers a = node_way (pick_false _ _ _ (ne_eqb _ _ a)) ∙ way_free _ refl

        node_asks : p.head.answer ≡ query → {w : Way} → onward r p ≡ w → relay_step r p ≡ unless_stopped r p w
        unfolding from_node
        node_asks a f = node_way (pick_true _ _ _ (eq-eqb _ _ a) ∙ f)

        pub node_last : p.head.answer ≡ query → p.head.from ≡ last_of (members r) → relay_step r p ≡ ok (client (to_client answer_written [] p))
        unfolding onward
        node_last a l = node_asks a (pick_true _ _ _ (eq-eqb _ _ l)) ∙ way_free _ refl

        pub node_next : p.head.answer ≡ query → (p.head.from ≡ last_of (members r) → ⊥) → {j : ℕ} → j ≡ next_of p.head.from (members r)
            → relay_step r p ≡ unless_stopped r p (on_to j p.head.version)
        unfolding onward
        node_next a l f = node_asks a (pick_false _ _ _ (ne_eqb _ _ l)) ∙ renamed _ f

-- ---- what is sent, by the outcome

-- to a client: a query as answer 4, an answer as it is
pub client_query : (p : Packet) → p.head.answer ≡ query → for_client p ≡ to_client answer_written [] p
unfolding for_client
client_query p a = pick_true _ _ _ (eq-eqb _ _ a)

pub client_answer : (p : Packet) → (p.head.answer ≡ query → ⊥) → for_client p ≡ to_client p.head.answer p.value p
unfolding for_client
client_answer p a = pick_false _ _ _ (ne_eqb _ _ a)

-- a client's write or delete
pub reflect_write : (p : Packet) → Reflects (eqb p.head.from 0 && not (is_read p)) ((p.head.from ≡ 0) × Alters p)
reflect_write p = reflect_and (reflect_eqb _ _) (reflect_not (reflect_eqb _ _))

module _ (r : Chain) (p : Packet) where
  -- the session is put into it, and into nothing else
  pub version_put : (p.head.from ≡ 0) × Alters p → version_to r p ≡ record { session = r.session; sequence = sequence 0 }
  unfolding version_to
  version_put w = pick_true _ _ _ (reflects_yes (reflect_write p) w)

  pub version_kept : ((p.head.from ≡ 0) × Alters p → ⊥) → version_to r p ≡ p.head.version
  unfolding version_to
  version_kept n = pick_false _ _ _ (reflects_no (reflect_write p) n)

  -- what goes to a node, and what to a client
  node_packet : {j : ℕ} {q : Packet} → RelayCase r p (node j q) → q ≡ for_node r j p
  node_packet (new_read k) = let e = version_kept (λ w. w.1 k.read) in cc
  node_packet (new_write k) = let e = version_put (k.sender.from, k.alters) in cc
  node_packet (handed k) = cc
  node_packet (acknowledged k) = cc
  node_packet (passed_on k) = let e = version_kept (λ w. k.sender.from w.0) in cc

  client_packet_lem : {q : Packet} → RelayCase r p (client q) → q ≡ for_client p
  client_packet_lem (new_read k) = cc
  client_packet_lem (new_write k) = cc
  client_packet_lem (handed k) = let e = client_answer p k.answers in cc
  client_packet_lem (acknowledged k) = let e = client_query p k.asks in cc
  client_packet_lem (passed_on k) = cc

-- ---- a packet that was read, under the head that is sent

abbrev pub passage : (r : Chain) (p : Bor (List ℕ)) {h : Head} → ReadView p.now h → Passage
passage r p {h} v = record { chain = r; packet = p; head = h; formed = reflects_yes (reflect_formed p.now) v.formed; fields = v.head }

module _ (g : Passage) where
  read_fit : Fit (packet_of g.packet.now)
  read_fit = fit_packet g.packet.now ((reflect_formed g.packet.now).0 g.formed)

  pub length_read : g.head.length ≡ length (value_of g.packet.now)
  unfolding packet_of
  length_read = ap (λ (h : Head). h.length) g.fields ∙ sym read_fit.value

  read_small : g.head.length ≤ value_size
  unfolding packet_of
  read_small = omega (arith, read_fit.small, ap (λ (h : Head). h.length) g.fields)

  client_under : under_head (for_client (passing g)).head g.packet.now ≡ for_client (passing g)
  unfolding for_client to_client
  client_under =
      pick_case (λ (q : Packet). under_head q.head g.packet.now ≡ q) _ _ _ (λ _. refl)
      (λ _. ap (packet (to_client g.head.answer (value_of g.packet.now) (passing g)).head (key_of g.packet.now)) (take_all (length (value_of g.packet.now)) (value_of g.packet.now) (omega arith)))

  client_length : (for_client (passing g)).head.length ≤ g.head.length
  unfolding for_client to_client
  client_length = pick_case (λ (q : Packet). q.head.length ≤ g.head.length) _ _ _ (λ _. omega arith) (λ _. omega (arith, length_read))

  node_under : (j : ℕ) → under_head (for_node g.chain j (passing g)).head g.packet.now ≡ for_node g.chain j (passing g)
  unfolding to_node
  node_under j = ap (packet (for_node g.chain j (passing g)).head (key_of g.packet.now)) (take_all g.head.length (value_of g.packet.now) (omega (arith, length_read)))

  -- no head asks for more than there is
  fits_to : (d : Destination) → (head_to g.chain (passing g) d).length ≤ g.head.length
  unfolding to_node
  fits_to (ToNode j) = omega arith
  fits_to ToClient = client_length

  pub length_to : (d : Destination) → (head_to g.chain (passing g) d).length ≡ length (take (head_to g.chain (passing g) d).length (value_of g.packet.now))
  length_to d = simp length-take (omega (arith, fits_to d, length_read))

  -- what is emitted is sent
  pub is_sent : (d : Destination) (out : List ℕ) {h : Head} {k v out' : List ℕ} → outlet_size ≤ length out → h ≡ head_to g.chain (passing g) d → k ≡ key_of g.packet.now
      → v ≡ value_of g.packet.now → out' ≡ emitted out (packet h k (take h.length v))
      → out' ≡ sent_in out (under_head (head_to g.chain (passing g) d) g.packet.now)
  unfolding packet_of
  is_sent d out room eh ek ev e =
      e
      ∙ ((λ j. emitted out (packet (eh j) (ek j) (take (eh j).length (ev j))))
      ∙ emit_done out (under_head (head_to g.chain (passing g) d) g.packet.now) room read_fit.key (simp length-take (omega (arith, length_read, read_small))))

  -- the head for where the step sends it is that of the packet that is sent
  sent_under : (w : Way) {d : Destination} → relay_step g.chain (passing g) ≡ ok w → ok d ≡ outcome_of (ok w) → under_head (head_to g.chain (passing g) d) g.packet.now ≡ packet_sent w
  sent_under (node j q) e f =
      ap (λ (d : Destination). under_head (head_to g.chain (passing g) d) g.packet.now) (ok_inj f)
      ∙ (node_under j ∙ sym (node_packet g.chain (passing g) (relay_view g.chain (passing g) (node j q) e).case))
  sent_under (client q) e f =
      ap (λ (d : Destination). under_head (head_to g.chain (passing g) d) g.packet.now) (ok_inj f)
      ∙ (client_under ∙ sym (client_packet_lem g.chain (passing g) (relay_view g.chain (passing g) (client q) e).case))

  module _ (out : List ℕ) (whole : chain_ok g.chain ≡ true) (room : outlet_size ≤ length out) where
    comes : relay_call g.chain g.packet.now out ≡ relay_step g.chain (passing g)
    comes = call_read g.chain g.packet.now out whole room (record { formed = (reflect_formed g.packet.now).0 g.formed; head = g.fields })

    -- what the call promises, by where the packet goes
    pub gives_refused : {n : ℕ} → refuse n ≡ outcome_of (relay_step g.chain (passing g)) → RelayGives g.chain g.packet.now out (refuse n) out
    gives_refused {n} e = go (relay_step g.chain (passing g)) refl e
      where
        go : (a : Out Way) → relay_step g.chain (passing g) ≡ a → refuse n ≡ outcome_of a → RelayGives g.chain g.packet.now out (refuse n) out
        go (refuse m) s e = drops (comes ∙ (s ∙ ap refuse (sym (refuse_inj e))))
        go (ok (node j q)) s e = absurd (refuse_ok e)
        go (ok (client q)) s e = absurd (refuse_ok e)

    pub gives_sent : {d : Destination} {out' : List ℕ} → ok d ≡ outcome_of (relay_step g.chain (passing g))
        → out' ≡ sent_in out (under_head (head_to g.chain (passing g) d) g.packet.now) → RelayGives g.chain g.packet.now out (ok d) out'
    gives_sent {d} {out'} e k = go (relay_step g.chain (passing g)) refl e
      where
        go : (a : Out Way) → relay_step g.chain (passing g) ≡ a → ok d ≡ outcome_of a → RelayGives g.chain g.packet.now out (ok d) out'
        go (refuse m) s e = absurd (refuse_ok (sym e))
        go (ok w) s e = gives (ok w) (comes ∙ s) e (k ∙ ap (sent_in out) (sent_under w s e))
