-- A client's write is acknowledged, this write and no other, after as many node steps as the chain has nodes, and one relay step more: of the system over bytes.
use Prim.Native.Nat.{ℕ, suc, ◌+◌, ◌≤◌}
use mathlib.Core.Path.{◌≡◌, refl, sym, ap, ap₂, ◌∙◌, subst}
use mathlib.Core.Bool.{false}
use mathlib.Core.List.Memᴰ.{append_left}
use mathlib.Core.List.Memᴰ.{head as here}
use mathlib.Core.List.Memᴰ.{map as mem_map}
use mathlib.Core.List.Memᴰ.{tail as there}
use mathlib.Core.List.{List, [], ◌∷◌, ◌++◌, map, append_cancel_right, Memᴰ as Mem}
use mathlib.Core.Logic.{◌⊎◌, inl, inr, ◌↔◌}
use native.Mathlib.Omega.{arith}
use lib.ListN.{length}
use Rattle.be.specs.Be.{Bytes}
use Rattle.wire.specs.Numbers.{Out, refuse, ok}
use Rattle.wire.specs.Packet.{Packet, packet_of, bytes_of, head_of, key_of, Formed, outlet_size}
use Rattle.wire.proofs.RoundTrip.{ranges, fit_packet, write_read}
use Rattle.store.specs.Table.{Table, table_of}
use Rattle.store.specs.Held.{held}
use Rattle.steps.specs.declared.Chain.{Chain}
use Rattle.steps.specs.Chain.{members, first_of}
use Rattle.steps.specs.Node.{Sent, node_step}
use Rattle.steps.specs.Relay.{relay_step, relay_call, outcome_of}
use Rattle.steps.proofs.Relay.{call_step}
use Rattle.steps.proofs.ChainIds.{first_mem}
use Rattle.steps.proofs.Control.{some_members}
use Rattle.steps.proofs.NodeView.{Accepted, node_view}
use Rattle.protocol.specs.System.{State, from_client, at_relay, at_node, Ghost, numbered, acked, all_ghosts, ghosts, exec, made_by}
use Rattle.protocol.specs.Demand.{way_along, Arrives, there as arrived, hop, ClientWrite as ClientWriteD, Ready as ReadyD, holds_version, wanted, ack_of, HoldsWrite, Acknowledged}
use Rattle.protocol.specs.Inv.{Inv}
use Rattle.protocol.proofs.Main.{invariant}
use Rattle.protocol.proofs.Live.{acknowledged}
use Rattle.claims.specs.Bytes.{IsNode, EventB, asking, relaying, stepping, EntryB, StateB, exec_b, EnabledB, ReachB, step_b}
use Rattle.claims.specs.Headline.{ClientWrite, Ready, outcome_along, Hop, Hops, Answered, AcknowledgedB}
use Rattle.claims.proofs.Decode.{trace_of, decode}
use Rattle.claims.proofs.Images.{SoundB, asking_becomes, relaying_becomes, stepping_becomes}
use Rattle.claims.proofs.Bridge.{bridge}
use Rattle.claims.proofs.Entries.{EntryGood, added, entries_good, made_single}
use Rattle.claims.proofs.Said.{history, numbered_back, acked_back}
use Rattle.claims.proofs.Headline.{trace_append, ghosts_append, node_table}

-- ---- the packet made, as bytes

-- one packet more than before, of a list of packets made that has one at most
one_more : (m l : List (List ℕ)) {q : Packet} → (m ≡ []) ⊎ ((b : List ℕ) × (m ≡ b ∷ [])) → map packet_of (m ++ l) ≡ q ∷ map packet_of l
    → (b : List ℕ) × (m ++ l ≡ b ∷ l) × (packet_of b ≡ q)
one_more m l {q} (inl e) h = absurd (omega (arith, ap length (sym (ap (λ (m : List (List ℕ)). map packet_of (m ++ l)) e) ∙ h)))
one_more m l {q} (inr (b, e)) h =
    let f : packet_of b ∷ map packet_of l ≡ q ∷ map packet_of l = sym (ap (λ (m : List (List ℕ)). map packet_of (m ++ l)) e) ∙ h in
    (b, ap (λ (m : List (List ℕ)). m ++ l) e, cc)

-- of the three events that make packets
module _ (s : StateB) {q : Packet} where
  asked_one : (p out : List ℕ) → (decode (exec_b (asking p out) s)).packets ≡ q ∷ (decode s).packets → (b : List ℕ) × ((exec_b (asking p out) s).packets ≡ b ∷ s.packets) × (packet_of b ≡ q)
  unfolding exec_b
  asked_one p out h = one_more _ s.packets (made_single _ _) h

  relayed_one : (p out : List ℕ) → (decode (exec_b (relaying p out) s)).packets ≡ q ∷ (decode s).packets → (b : List ℕ) × ((exec_b (relaying p out) s).packets ≡ b ∷ s.packets) × (packet_of b ≡ q)
  unfolding exec_b
  relayed_one p out h = one_more _ s.packets (made_single _ _) h

  stepped_one : (j : ℕ) (p out : List ℕ) → (decode (exec_b (stepping j p out) s)).packets ≡ q ∷ (decode s).packets → (b : List ℕ) × ((exec_b (stepping j p out) s).packets ≡ b ∷ s.packets) × (packet_of b ≡ q)
  unfolding exec_b
  stepped_one j p out h = one_more _ s.packets (made_single _ _) h

-- bytes that are packets are the same if they are read the same
same_packet_lem : {a b : List ℕ} → Formed a × Bytes a → Formed b × Bytes b → packet_of a ≡ packet_of b → a ≡ b
same_packet_lem {a} {b} (fa, ba) (fb, bb) e = sym (write_read a ba fa) ∙ (ap bytes_of e ∙ write_read b bb fb)

-- ---- a node that makes a packet of what was made is a node

makes_node : {s : StateB} → ReachB s → (j : ℕ) (p : List ℕ) → Mem p s.packets → {q : Packet} → (exec (at_node j (packet_of p)) (decode s)).packets ≡ q ∷ (decode s).packets → IsNode j
unfolding exec packet_of
makes_node {s} r j p m {q} h = go (node_step ((decode s).table j) (packet_of p)) refl h
  where
    v : Inv [] (decode s)
    v = invariant [] (decode s) (bridge r).1

    is : Accepted ((decode s).table j) (packet_of p) → IsNode j
    is a =
        let to : (head_of p).to ≡ j = a.mine ∙ (v.sound.tables j).id in
        let (f, b) = (bridge r).0.packets p m in
        let size = f.size in
        let fits = (ranges p b (omega arith)).to in
        let some = (v.packets (packet_of p) (mem_map packet_of m)).asked a.relayed a.asks in
        (omega arith, omega arith)

    go : (o : Out Sent) → node_step ((decode s).table j) (packet_of p) ≡ o → made_by (λ x. x.packet) o ++ (decode s).packets ≡ q ∷ (decode s).packets → IsNode j
    go (refuse n) e h = absurd (omega (arith, ap length h))
    go (ok x) e h = is (node_view ((decode s).table j) (packet_of p) x e).accepted

-- ---- the way of a packet

-- what happened from state b to state s: n events
record Since (b s : StateB) (n : ℕ) : Type 0 where
  entries : List EntryB
  later : s.trace ≡ entries ++ b.trace
  count : length entries ≡ n

-- n events after state b: state s with packet p is, decoded, state d with packet x
record At (b : StateB) (n : ℕ) (d : State) (x : Packet) (s : StateB) (p : List ℕ) : Type 0 where
  reached : ReachB s
  image : decode s ≡ d
  is : packet_of p ≡ x
  there : Mem p s.packets
  since : Since b s n

-- the event after
then_since : {b s : StateB} {n : ℕ} → ReachB s → (e : EventB) → EnabledB e s → Since b s n → Since b (exec_b e s) (suc n)
then_since {s = s} r e en h =
    let (x, is, _) = added s (bridge r).0 e en in
    record { entries = x ∷ h.entries; later = is ∙ ap (λ (l : List EntryB). x ∷ l) h.later; count = ap suc h.count }

-- the relay's outcome, of a packet that is sent along these nodes
outcome_along_lem : (l : List ℕ) (q : Packet) → outcome_of (ok (way_along l q)) ≡ outcome_along l
outcome_along_lem [] q = refl
outcome_along_lem (j ∷ l) q = refl

sent_along : {s : StateB} (l : List ℕ) (q : Packet) → SoundB s → (p out : List ℕ) → Formed p → outlet_size ≤ length out → relay_step s.chain (packet_of p) ≡ ok (way_along l q)
    → outcome_of (relay_call s.chain p out) ≡ outcome_along l
sent_along {s} l q g p out f h is = ap outcome_of (call_step s.chain p out g.chain.rules h f ∙ is) ∙ outcome_along_lem l q

-- one hop: what the decoded system does, the system over bytes does, whatever outlets are lent
one_hop : {b : StateB} {n : ℕ} {d d' d'' : State} {x y z : Packet} (P : StateB → List ℕ → Type 0) (s : StateB) (p : List ℕ) → At b n d x s p
    → (j : ℕ) (l : List ℕ) → d.halted j ≡ false → d' ≡ exec (at_node j x) d → d'.packets ≡ y ∷ d.packets
    → relay_step d'.chain y ≡ ok (way_along l z) → d'' ≡ exec (at_relay y) d' → d''.packets ≡ z ∷ d'.packets
    → (out out' : List ℕ) → outlet_size ≤ length out → outlet_size ≤ length out'
    → ((t : StateB) (q : List ℕ) → At b (suc (suc n)) d'' z t q → P t q) → Hop P s j l p out out'
one_hop {b} {n} {d} {d'} {d''} {x} {y} {z} P s p a j l awake is mk sent is' mk' out out' h h' f = record {
  taken = taken;
  between = q.0;
  stepped = q.1;
  handed = handed;
  sent =
      sent_along l z (bridge r₁).0 q.0 out' ((bridge r₁).0.packets q.0 handed).0 h'
      (ap₂ (λ (d : State) (y : Packet). relay_step d.chain y) image q.2 ∙ sent);
  next = c.0;
  relayed = c.1;
  then =
      f u c.0
      (record {
        reached = step_b r₁ (relaying q.0 out') handed;
        image = image';
        is = c.2;
        there = subst (Mem c.0) (sym c.1) (here refl);
        since = then_since r₁ (relaying q.0 out') handed (then_since a.reached (stepping j p out) taken a.since);
      });
}
  where
    -- the node
    sees : exec (at_node j (packet_of p)) (decode s) ≡ d'
    sees = ap₂ (λ (z : Packet) (s : State). exec (at_node j z) s) a.is a.image ∙ sym is

    makes : (exec (at_node j (packet_of p)) (decode s)).packets ≡ y ∷ (decode s).packets
    makes = ap (λ (s : State). s.packets) sees ∙ (mk ∙ ap (λ (s : State). y ∷ s.packets) (sym a.image))

    node : IsNode j
    node = makes_node a.reached j p a.there makes

    taken : EnabledB (stepping j p out) s
    taken = (node, a.there, ap (λ (s : State). s.halted j) a.image ∙ awake)

    t : StateB
    t = exec_b (stepping j p out) s

    image : decode t ≡ d'
    image = (stepping_becomes s (bridge a.reached).0 j p out node a.there h).image ∙ sees

    q : (q : List ℕ) × (t.packets ≡ q ∷ s.packets) × (packet_of q ≡ y)
    q = stepped_one s j p out (ap (λ (s : State). s.packets) (image ∙ sym sees) ∙ makes)

    r₁ : ReachB t
    r₁ = step_b a.reached (stepping j p out) taken

    -- the relay
    handed : Mem q.0 t.packets
    handed = subst (Mem q.0) (sym q.1) (here refl)

    u : StateB
    u = exec_b (relaying q.0 out') t

    image' : decode u ≡ d''
    image' = (relaying_becomes t (bridge r₁).0 q.0 out' handed h').image ∙ (ap₂ (λ (z : Packet) (s : State). exec (at_relay z) s) q.2 image ∙ sym is')

    c : (q : List ℕ) × (u.packets ≡ q ∷ t.packets) × (packet_of q ≡ z)
    c = relayed_one t q.0 out' (ap (λ (s : State). s.packets) image' ∙ (mk' ∙ ap (λ (s : State). z ∷ s.packets) (sym image)))

-- all of them
all_hops : {b : StateB} {m n : ℕ} {l : List ℕ} {d w : State} {x y : Packet} (P : StateB → List ℕ → Type 0) → ((t : StateB) (q : List ℕ) → At b m w y t q → P t q)
    → Arrives l d x w y → m ≡ length l + (length l + n) → (s : StateB) (p : List ℕ) → At b n d x s p → Hops l P s p
all_hops {b} {m} {n} P f (arrived {s = d} {p = x}) e s p a = let z : n ≡ m = omega arith in f s p (subst (λ (n : ℕ). At b n d x s p) z a)
all_hops P f (hop {l = l} j en is mk en' sent is' mk' rest) e s p a =
    λ out out' h h'. one_hop (Hops l P) s p a j l en.1 is mk sent is' mk' out out' h h' (λ t q a. all_hops P f rest (omega arith) t q a)

-- ---- the premises, decoded

pub write_decoded : {p : List ℕ} → ClientWrite p → ClientWriteD (packet_of p)
unfolding packet_of
write_decoded {p} c = record { fit = fit_packet p c.formed; query = c.query; alters = c.alters; from = c.from; to = c.to; stamp = c.stamp; version = c.version }

-- a chain node holds the same as its bytes
pub ready_both : {s : StateB} → ReachB s → (k : List ℕ) → Ready s k ↔ ReadyD (decode s) k
ready_both {s} r k = (to, from)
  where
    same : (j : ℕ) → Mem j (members s.chain) → held k ((decode s).table j).slots ≡ held k (table_of (s.table j)).slots
    same j m = ap (λ (t : Table). held k t.slots) (node_table (bridge r).0 j m)

    first_in : Mem (first_of (members s.chain)) (members s.chain)
    first_in = first_mem (members s.chain) (some_members s.chain (bridge r).0.chain.rules)

    to : Ready s k → ReadyD (decode s) k
    to y = record { awake = y.awake; still = y.still; known = λ j m. let (x, h) = y.known j m in (x, same j m ∙ h); left = λ x h. y.left x (sym (same _ first_in) ∙ h) }

    from : ReadyD (decode s) k → Ready s k
    from y = record { awake = y.awake; still = y.still; known = λ j m. let (x, h) = y.known j m in (x, sym (same j m) ∙ h); left = λ x h. y.left x (same _ first_in ∙ h) }

-- ---- the theorem

module _ {s : StateB} {p : List ℕ} (r : ReachB s) (c : ClientWrite p) (ready : Ready s (key_of p)) where
  sound : SoundB s
  sound = (bridge r).0

  write : ClientWriteD (packet_of p)
  write = write_decoded c

  prepared : ReadyD (decode s) (packet_of p).key
  unfolding packet_of
  prepared = (ready_both r (key_of p)).0 ready

  walks : Acknowledged (decode s) (packet_of p)
  walks = acknowledged (decode s) (packet_of p) (bridge r).1 write prepared

  -- the end of the way, of a packet that the relay made
  module _ (first : List ℕ) (whole : Formed first × Bytes first) (relayed : packet_of first ≡ walks.first) where
    ends : (t : StateB) (q : List ℕ) → At s (length (members s.chain) + (length (members s.chain) + 1)) walks.final (ack_of (packet_of p) walks.version) t q → Answered s p first t q
    unfolding packet_of
    ends t q a = record {
      version = walks.version;
      answer = a.is;
      since = since;
      later = a.since.later;
      steps = a.since.count;
      given =
          let (x, m, (n, e)) = numbered_back since good _ _ _ _ _ _ (subst (Mem _) (sym gained) (there (here refl))) in
          (x, m, n, same_packet_lem ((good x m).handed _ n.delivered n.outlet n.packet n.event n.made) whole (e ∙ sym relayed));
      acked =
          let (x, m, (n, e)) = acked_back since good _ _ _ (subst (Mem _) (sym gained) (here refl)) in
          (x, m, n, same_packet_lem ((good x m).whole n.packet n.made) ((bridge a.reached).0.packets q a.there) (e ∙ sym a.is));
      chain = chain;
      held = λ j m. subst (HoldsWrite (packet_of p) walks.version) (holding j m) (walks.held j m);
    }
      where
        since : List EntryB
        since = a.since.entries

        good : (x : EntryB) → Mem x a.since.entries → EntryGood x
        good x m = entries_good a.reached x (subst (Mem x) (sym a.since.later) (append_left s.trace m))

        -- all that the history has gained
        new : List Ghost
        new =
            acked (key_of p) walks.version (ack_of (packet_of p) walks.version)
            ∷ (numbered (key_of p) walks.version (wanted (packet_of p)) (first_of (members s.chain)) (holds_version (decode s) (first_of (members s.chain)) (key_of p)) walks.first
            ∷ [])

        gained : all_ghosts (trace_of a.since.entries) ≡ new
        gained =
            append_cancel_right (all_ghosts (trace_of since)) new (ghosts (decode s))
            (ap (λ (l : List Ghost). all_ghosts (trace_of since) ++ l) (history r)
            ∙ (sym (ghosts_append (trace_of since) (trace_of s.trace))
            ∙ (ap all_ghosts (sym (trace_append since s.trace) ∙ ap trace_of (sym a.since.later))
            ∙ (sym (history a.reached) ∙ (ap (λ (d : State). ghosts d) a.image ∙ walks.history)))))

        chain : t.chain ≡ s.chain
        chain = ap (λ (d : State). d.chain) a.image ∙ walks.chain

        holding : (j : ℕ) → Mem j (members s.chain) → walks.final.table j ≡ table_of (t.table j)
        holding j m = ap (λ (d : State). d.table j) (sym a.image) ∙ node_table (bridge a.reached).0 j (subst (λ (r : Chain). Mem j (members r)) (sym chain) m)

  -- the relay sends it to a node, and from there it goes its way
  goes : (out : List ℕ) → outlet_size ≤ length out → AcknowledgedB s p out
  goes out h = record {
    enabled = enabled;
    sent = sent_along (members s.chain) walks.first sound p out c.formed h walks.sent;
    first = b.0;
    relayed = b.1;
    arrives =
        all_hops (Answered s p b.0) (ends b.0 ((bridge r₁).0.packets b.0 there) b.2) walks.arrives refl (exec_b (asking p out) s) b.0
        (record { reached = r₁; image = image; is = b.2; there = there; since = then_since r (asking p out) enabled (record { entries = []; later = refl; count = refl }) });
  }
    where
      enabled : EnabledB (asking p out) s
      enabled = (c.bytes, λ f. c.from)

      r₁ : ReachB (exec_b (asking p out) s)
      r₁ = step_b r (asking p out) enabled

      image : decode (exec_b (asking p out) s) ≡ exec (from_client (packet_of p)) (decode s)
      image = (asking_becomes s sound p out c.bytes c.formed h).image

      b : (b : List ℕ) × ((exec_b (asking p out) s).packets ≡ b ∷ s.packets) × (packet_of b ≡ walks.first)
      b = asked_one s p out (ap (λ (d : State). d.packets) image ∙ walks.relayed)

      there : Mem b.0 (exec_b (asking p out) s).packets
      there = subst (Mem b.0) (sym b.1) (here refl)

pub acknowledged_b : (s : StateB) (p : List ℕ) → ReachB s → ClientWrite p → Ready s (key_of p) → (out : List ℕ) → outlet_size ≤ length out → AcknowledgedB s p out
acknowledged_b s p r c ready out h = goes r c ready out h
