-- A client's write is acknowledged, this write and no other, after as many node steps as the chain has nodes, and one relay step more.
use Prim.Native.Nat.{ℕ, ◌+◌, ◌≤◌}
use mathlib.Core.Path.{◌≡◌, refl, sym, ap, ◌∙◌, subst, subst₂}
use mathlib.Core.Bool.{false}
use mathlib.Core.List.Memᴰ.{cast}
use mathlib.Core.List.Memᴰ.{head as here}
use mathlib.Core.List.Memᴰ.{tail as there}
use mathlib.Core.List.{List, [], ◌∷◌, ◌++◌, append_assoc, Memᴰ as Mem}
use mathlib.Core.Logic.{◌⊎◌, inl, inr}
use native.Mathlib.Omega.{arith}
use lib.ListN.{length}
use borrow.Author.Tests.{eq-eqb, ne_eqb}
use Rattle.wire.specs.Numbers.{Out, ok, left}
use Rattle.wire.specs.Version.{stamp, zero_version, AtMost, Below}
use Rattle.wire.specs.Packet.{Packet, packet, query, op_write, op_delete, answer_written}
use Rattle.wire.specs.declared.Session.{Session}
use Rattle.wire.specs.declared.Stamp.{Stamp}
use Rattle.wire.specs.declared.Version.{Version}
use Rattle.wire.proofs.Numbers.{pick_true, pick_false}
use Rattle.wire.proofs.Versions.{atmost_below_trans}
use Rattle.store.specs.Table.{Slot, Table, write_table}
use Rattle.store.specs.Held.{holds, held, wrote, content_of, held_version, held_content, version_at, content_at}
use Rattle.steps.specs.declared.Change.TheVariants.{Still}
use Rattle.steps.specs.declared.Chain.{Chain}
use Rattle.steps.specs.Chain.{members, last_of, next_of, Distinct, ChainRules, Last, Follows}
use Rattle.steps.specs.Node.{is_read, Sent, reply, stored, node_step, Alters, Numbered}
use Rattle.steps.specs.Relay.{Way, node, client, to_node, to_client, relay_step, packet_sent}
use Rattle.steps.proofs.ChainIds.{first_here, last_is, last_mem, follows_next}
use Rattle.steps.proofs.ChainOrder.{Ahead, first}
use Rattle.steps.proofs.NodeView.{Accepted, Stores, Took, Gave, content_written, content_deleted}
use Rattle.steps.proofs.NodeReads.{held_stored, version_stored}
use Rattle.steps.proofs.NodeDone.{takes_number, gives_number}
use Rattle.steps.proofs.RelayView.{FromNode, still_unstopped, acknowledges, sends_on}
use Rattle.steps.proofs.Control.{some_members}
use Rattle.protocol.specs.System.{State, Event, from_client, at_relay, at_node, Ghost, numbered, acked, carried, node_ghosts, relay_ghosts, ghosts_of, all_ghosts, ghosts, relayed, made_by, exec, Reach}
use Rattle.protocol.specs.Demand.{way_along, Arrives, there as arrived, hop, ClientWrite, Ready, wanted, ack_of, HoldsWrite, Acknowledged}
use Rattle.protocol.specs.Inv.{Inv}
use Rattle.protocol.proofs.Upd.{upd_same, upd_other}
use Rattle.protocol.proofs.Ghosts.{ghosts_given, ghosts_taken, ghosts_acked, ghosts_sent}
use Rattle.protocol.proofs.Packets.{alteration, carried_stored}
use Rattle.protocol.proofs.Main.{invariant}
use Rattle.protocol.proofs.Head.{head, to_head, write_alters, sends_first, head_in, head_accepts, held_low}

-- ---- what a step leaves

-- the relay, whatever brought it the packet
relay_packets : (e : Event) (s : State) (y : Packet) (w : Way) → relay_step s.chain y ≡ ok w → (relayed e s (relay_step s.chain y)).packets ≡ packet_sent w ∷ s.packets
relay_packets e s y w is = ap (λ (o : Out Way). made_by packet_sent o ++ s.packets) is

relay_ghosts_lem : (e : Event) (s : State) (y : Packet) (w : Way) {l : List Ghost} → ((m : List Packet) → ghosts_of e m zero_version ≡ relay_ghosts y m) → relay_step s.chain y ≡ ok w
    → relay_ghosts y (packet_sent w ∷ []) ≡ l → ghosts (relayed e s (relay_step s.chain y)) ≡ (l ++ all_ghosts s.trace) ++ s.origin
relay_ghosts_lem e s y w by is new =
    ap (λ (l : List Ghost). (l ++ all_ghosts s.trace) ++ s.origin) (ap (λ (o : Out Way). ghosts_of e (made_by packet_sent o) zero_version) is ∙ (by (packet_sent w ∷ []) ∙ new))

node_packets : (s : State) (j : ℕ) (q : Packet) (x : Sent) → node_step (s.table j) q ≡ ok x → (exec (at_node j q) s).packets ≡ x.packet ∷ s.packets
unfolding exec
node_packets s j q x e = ap (λ (o : Out Sent). made_by (λ x. x.packet) o ++ s.packets) e

node_ghosts_lem : (s : State) (j : ℕ) (q : Packet) (x : Sent) {l : List Ghost} → node_step (s.table j) q ≡ ok x
    → node_ghosts j q (version_at q.key (s.table j).slots) (x.packet ∷ []) ≡ l → ghosts (exec (at_node j q) s) ≡ (l ++ all_ghosts s.trace) ++ s.origin
unfolding exec
node_ghosts_lem s j q x e new =
    ap (λ (l : List Ghost). (l ++ all_ghosts s.trace) ++ s.origin) (ap (λ (o : Out Sent). node_ghosts j q (version_at q.key (s.table j).slots) (made_by (λ x. x.packet) o)) e ∙ new)

node_table : (s : State) (j : ℕ) (q : Packet) (x : Sent) → node_step (s.table j) q ≡ ok x → (exec (at_node j q) s).table j ≡ write_table x.write (s.table j)
unfolding exec
node_table s j q x e = upd_same s.table j _ ∙ ap (λ (o : Out Sent). left (s.table j) (λ x. write_table x.write (s.table j)) o) e

-- what the last step made is there
made : {l m : List Packet} {q : Packet} → l ≡ q ∷ m → Mem q l
made {l} {m} {q} e = subst (Mem q) (sym e) (here refl)

-- ---- the write on its way

-- op, client, request, key and value of p
record Same (p q : Packet) : Type 0 where
  op : q.head.op ≡ p.head.op
  client : q.head.client ≡ p.head.client
  request : q.head.request ≡ p.head.request
  key : q.key ≡ p.key
  value : q.value ≡ p.value

-- a query under version v
record Carries (p : Packet) (v : Version) (q : Packet) : Type 0 where
  same : Same p q
  asks : q.head.answer ≡ query
  version : q.head.version ≡ v

-- to node j, under the record's wiring number; from node j
record ToNode (r : Chain) (j : ℕ) (q : Packet) : Type 0 where
  from : q.head.from ≡ 0
  to : q.head.to ≡ j
  stamp : q.head.stamp ≡ r.wiring

record OfNode (j : ℕ) (q : Packet) : Type 0 where
  from : q.head.from ≡ j
  to : q.head.to ≡ 0

-- what a node sends on, what the relay sends on, and what it answers at the end
replied : {p q : Packet} {v : Version} (j : ℕ) (u : Version) → Same p q → u ≡ v → Carries p v (reply j q query u q.value) × OfNode j (reply j q query u q.value)
unfolding reply
replied j u c e = (record { same = record { op = c.op; client = c.client; request = c.request; key = c.key; value = c.value }; asks = refl; version = e }, record { from = refl; to = refl })

sent_on : {p q : Packet} {v : Version} (r : Chain) (j : ℕ) (u : Version) → Same p q → u ≡ v → Carries p v (to_node r j u q) × ToNode r j (to_node r j u q)
unfolding to_node
sent_on r j u c e = (record { same = record { op = c.op; client = c.client; request = c.request; key = c.key; value = c.value }; asks = refl; version = e }, record { from = refl; to = refl; stamp = refl })

acknowledgement : {p q : Packet} {v : Version} → Carries p v q → to_client answer_written [] q ≡ ack_of p v
unfolding to_client ack_of
acknowledgement c = λ i. packet
    (record {
      op = c.same.op i;
      answer = answer_written;
      from = 0;
      to = 0;
      client = c.same.client i;
      request = c.same.request i;
      stamp = stamp 0;
      version = c.version i;
      length = 0;
    })
    (c.same.key i)
    []

-- what a packet of the write's op and value leaves in its slot
stored_wanted : (p q : Packet) (v : Version) → (p.head.op ≡ op_write) ⊎ (p.head.op ≡ op_delete) → Same p q → content_of (stored q v) ≡ wanted p
unfolding wanted
stored_wanted p q v (inl w) c = content_written q v (c.op ∙ w) ∙ (ap wrote c.value ∙ sym (pick_true _ _ _ (eq-eqb _ _ w)))
stored_wanted p q v (inr d) c = content_deleted q v (c.op ∙ d) ∙ sym (pick_false _ _ _ (ne_eqb p.head.op op_write (omega arith)))

-- a node that will take version v of key k
record Waits (r : Chain) (k : List ℕ) (v : Version) (s : State) (i : ℕ) : Type 0 where
  awake : s.halted i ≡ false
  id : (s.table i).id ≡ i
  fence : (s.table i).fence.0 ≤ r.wiring.0
  slot : Slot
  holding : held k (s.table i).slots ≡ holds slot
  below : Below slot.version v

-- it waits as long as its table and its halt stay
waits_still : {r : Chain} {k : List ℕ} {v : Version} {s s' : State} {i : ℕ} → s'.halted i ≡ s.halted i → s'.table i ≡ s.table i → Waits r k v s i → Waits r k v s' i
waits_still h t w = record { awake = h ∙ w.awake; id = rw t w.id; fence = rw t w.fence; slot = w.slot; holding = rw t w.holding; below = w.below }

-- an accepted packet
accepted : (r : Chain) (s : State) (i : ℕ) (q : Packet) → (s.table i).id ≡ i → (s.table i).fence.0 ≤ r.wiring.0 → q.head.answer ≡ query → ToNode r i q → Accepted (s.table i) q
accepted r s i q id fence asks t =
    let st = ap (λ (z : Stamp). z.0) t.stamp in
    record { mine = t.to ∙ sym id; relayed = t.from; asks = asks; live = omega arith }

-- from a relay step with packet y on: node steps at the nodes l, each followed by a relay step; at the end the write is acknowledged, these nodes hold it, and the others are as before
record Goes (p : Packet) (v : Version) (l : List ℕ) (s : State) (y : Packet) : Type 0 where
  next : Packet
  sends : relay_step s.chain y ≡ ok (way_along l next)
  relayed : (exec (at_relay y) s).packets ≡ next ∷ s.packets
  final : State
  arrives : Arrives l (exec (at_relay y) s) next final (ack_of p v)
  steps : length final.trace ≡ length l + (length l + 1) + length s.trace
  history : ghosts final ≡ acked p.key v (ack_of p v) ∷ ghosts s
  chain : final.chain ≡ s.chain
  holding : (i : ℕ) → Mem i l → HoldsWrite p v (final.table i)
  others : (i : ℕ) → (Mem i l → ⊥) → final.table i ≡ s.table i

hold_more : {p : Packet} {v : Version} (z : State) {i : ℕ} {m : List ℕ} → HoldsWrite p v (z.table i) → ((j : ℕ) → Mem j m → HoldsWrite p v (z.table j)) → (j : ℕ) → Mem j (i ∷ m) → HoldsWrite p v (z.table j)
hold_more {p} {v} z g f j (here e) = subst (λ (n : ℕ). HoldsWrite p v (z.table n)) (sym e) g
hold_more z g f j (there n) = f j n

-- ---- the walk along the chain

module _ {p : Packet} (w : ClientWrite p) where
  alters : Alters p
  alters = write_alters w

  -- what is stored of a packet that carries the write under v
  holds_write : {t : Table} {q : Packet} {x : Sent} {b : Slot} {u v : Version} → Stores t q x b u → Same p q → u ≡ v → HoldsWrite p v (write_table x.write t)
  holds_write {t} {q} {x} {u = u} st c e = record {
    version = ap (λ (k : List ℕ). version_at k (write_table x.write t).slots) (sym c.key) ∙ (version_stored st ∙ e);
    content = ap (λ (k : List ℕ). content_at k (write_table x.write t).slots) (sym c.key) ∙ (ap held_content (held_stored st) ∙ stored_wanted p q u w.alters c);
  }

  -- under its number it carries what the client wanted
  carries_wanted : {q : Packet} {v : Version} → (v.sequence.0 ≡ 0 → ⊥) → Carries p v q → carried q ≡ wanted p
  carries_wanted {q} {v} n c =
      carried_stored p q v (alteration p w.fit w.query alters).kind c.same.op c.same.value c.asks (λ e. n (ap (λ (z : Version). z.sequence.0) (sym c.version) ∙ e))
      ∙ stored_wanted p p v w.alters (record { op = refl; client = refl; request = refl; key = refl; value = refl })

  module _ (r : Chain) (rules : ChainRules r) (still : r.change ≡ Still) (v : Version) (hs : v.session.0 ≡ 0 → ⊥) (hq : v.sequence.0 ≡ 0 → ⊥) where
    -- a packet that carries the write under v is numbered
    is_numbered_lem : {q : Packet} → Carries p v q → Numbered q
    is_numbered_lem c = (λ e. alters (sym c.same.op ∙ e), λ e. hq (ap (λ (z : Version). z.sequence.0) (sym c.version) ∙ e))

    -- a node takes it and sends it on
    takes : (s : State) (i : ℕ) (q : Packet) → Waits r p.key v s i → Carries p v q → ToNode r i q
        → (x : Sent) × (node_step (s.table i) q ≡ ok x) × Carries p v x.packet × OfNode i x.packet × HoldsWrite p v (write_table x.write (s.table i))
    takes s i q h c t = (d.0, d.1, subst (Carries p v) (sym is) z.0, subst (OfNode i) (sym is) z.1, holds_write d.2.stores c.same c.version)
      where
        d : (x : Sent) × (node_step (s.table i) q ≡ ok x) × Took (s.table i) q x
        d =
            takes_number (s.table i) q (accepted r s i q h.id h.fence c.asks t) (λ e. hs (ap (λ (z : Version). z.session.0) (sym c.version) ∙ e)) h.slot
            (ap (λ (k : List ℕ). held k (s.table i).slots) c.same.key ∙ h.holding) (is_numbered_lem c) (subst (Below h.slot.version) (sym c.version) h.below)

        is : d.0.packet ≡ reply i q query q.head.version q.value
        is = d.2.stores.sends ∙ ap (λ (j : ℕ). reply j q query q.head.version q.value) h.id

        z : Carries p v (reply i q query q.head.version q.value) × OfNode i (reply i q query q.head.version q.value)
        z = replied i q.head.version c.same c.version

    -- what chain node j sent
    of_chain : (j : ℕ) (y : Packet) → Mem j (members r) → OfNode j y → FromNode r y
    of_chain j y m o = record { from = λ e. rules.nonzero (cast (sym e ∙ o.from) m); member = cast o.from m; to = o.to }

    -- the relay step on what the last node sent, and on what another one sent
    acks : (s : State) (j : ℕ) (y : Packet) → s.chain ≡ r → Last j (members r) → Carries p v y → OfNode j y → Goes p v [] s y
    unfolding ack_of exec
    acks s j y e l c o = record {
      next = ack_of p v;
      sends = is;
      relayed = relay_packets (at_relay y) s y (client (ack_of p v)) is;
      final = exec (at_relay y) s;
      arrives = arrived;
      steps = omega arith;
      history = relay_ghosts_lem (at_relay y) s y (client (ack_of p v)) (λ m. refl) is (ghosts_acked y (ack_of p v) [] c.asks refl);
      chain = refl;
      holding = λ i m. elim m [ ];
      others = λ i n. refl;
    }
      where
        at : j ≡ last_of (members r)
        at = last_is (members r) l

        is : relay_step s.chain y ≡ ok (client (ack_of p v))
        is =
            ap (λ (z : Chain). relay_step z y) e
            ∙ (acknowledges r y (of_chain j y (cast at (last_mem (members r) (some_members _ rules))) o) c.asks (is_numbered_lem c) (o.from ∙ at)
            ∙ ap (λ (z : Packet). ok (client z)) (acknowledgement c))

    passes : (s : State) (j i : ℕ) (y : Packet) → s.chain ≡ r → Follows j i (members r) → Carries p v y → OfNode j y → (q : Packet) × (relay_step s.chain y ≡ ok (node i q)) × Carries p v q × ToNode r i q
    passes s j i y e f c o = (to_node r i y.head.version y, is, z.0, z.1)
      where
        n : Mem j (members r) × (j ≡ last_of (members r) → ⊥) × (i ≡ next_of j (members r))
        n = follows_next (members r) rules.distinct f

        to : next_of y.head.from (members r) ≡ i
        to = ap (λ (z : ℕ). next_of z (members r)) o.from ∙ sym n.2

        z : Carries p v (to_node r i y.head.version y) × ToNode r i (to_node r i y.head.version y)
        z = sent_on r i y.head.version c.same c.version

        is : relay_step s.chain y ≡ ok (node i (to_node r i y.head.version y))
        is =
            ap (λ (z : Chain). relay_step z y) e
            ∙ (sends_on r y (of_chain j y n.0 o) c.asks (is_numbered_lem c) (λ q. n.1 (sym o.from ∙ q)) (still_unstopped r.change (is_read y) _ still)
            ∙ ap (λ (z : ℕ). ok (node z (to_node r z y.head.version y))) to)

    -- one hop to node i, which takes it, and what goes on from there
    further : (s : State) (y q : Packet) (x : Sent) (i : ℕ) (m : List ℕ) → relay_step s.chain y ≡ ok (node i q) → Carries p v q → s.halted i ≡ false → node_step (s.table i) q ≡ ok x
        → HoldsWrite p v (write_table x.write (s.table i)) → (Mem i m → ⊥) → Goes p v m (exec (at_node i q) (exec (at_relay y) s)) x.packet → Goes p v (i ∷ m) s y
    unfolding exec
    further s y q x i m is c awake takes-it holds-it apart rest = record {
      next = q;
      sends = is;
      relayed = sent;
      final = rest.final;
      arrives = hop i (made sent, awake) refl step (made step) rest.sends refl rest.relayed rest.arrives;
      steps = let h = rest.steps in omega arith;
      history = rest.history ∙ ap (λ (l : List Ghost). acked p.key v (ack_of p v) ∷ l) (by_node ∙ by_relay_lem);
      chain = rest.chain;
      holding = hold_more rest.final (subst (HoldsWrite p v) (sym (rest.others i apart ∙ node_table u i q x takes-it)) holds-it) rest.holding;
      others = λ j n. rest.others j (λ m'. n (there m')) ∙ upd_other _ _ _ _ (λ e. n (here (sym e)));
    }
      where
        u : State
        u = exec (at_relay y) s

        sent : u.packets ≡ q ∷ s.packets
        sent = relay_packets (at_relay y) s y (node i q) is

        step : (exec (at_node i q) u).packets ≡ x.packet ∷ u.packets
        step = node_packets u i q x takes-it

        by_node : ghosts (exec (at_node i q) u) ≡ ghosts u
        by_node = node_ghosts_lem u i q x takes-it (ghosts_taken i q x.packet [] _ (is_numbered_lem c))

        by_relay_lem : ghosts u ≡ ghosts s
        by_relay_lem = relay_ghosts_lem (at_relay y) s y (node i q) (λ m. refl) is (ghosts_sent y q [] c.asks)

    walk : (m a : List ℕ) (j : ℕ) (s : State) (y : Packet) → s.chain ≡ r → members r ≡ a ++ (j ∷ m) → Distinct (j ∷ m) → Carries p v y → OfNode j y
        → ((i : ℕ) → Mem i m → Waits r p.key v s i) → Goes p v m s y
    unfolding exec
    walk [] a j s y e l d c o h = acks s j y e (a, l) c o
    walk (i ∷ m) a j s y e l d c o h =
        let (q, is, cq, to) = passes s j i y e (a, m, l) c o in
        let wi = h i (here refl) in
        let (x, takes-it, cx, of, holds-it) = takes s i q wi cq to in
        further s y q x i m is cq wi.awake takes-it holds-it d.1.0
        (walk m (a ++ (j ∷ [])) i _ x.packet e (l ∙ sym (append_assoc a (j ∷ []) (i ∷ m))) d.1 cx of
        (λ i' m'. waits_still refl (upd_other _ _ _ _ (λ q. d.1.0 (cast q m'))) (h i' (there m'))))

-- ---- the theorem

module _ {s : State} {p : Packet} (rch : Reach s) (c : ClientWrite p) (ready : Ready s p.key) where
  v : Inv p.key s
  v = invariant p.key s rch

  rules : ChainRules s.chain
  rules = v.sound.rules

  in_chain : Mem (head s) (members s.chain)
  in_chain = head_in rch c

  relays : relay_step s.chain p ≡ ok (node (head s) (to_head s p))
  relays = sends_first s c ready.still

  -- no node holds the key in a later session than the record's
  low : (j : ℕ) (x : Slot) → held p.key (s.table j).slots ≡ holds x → x.version.session.0 ≤ s.chain.session.0
  low j x e = (held_low rch c j x e).0

  -- the first node gives the write a number
  gives : (x : Sent) × (node_step (s.table (head s)) (to_head s p) ≡ ok x) × Gave (s.table (head s)) (to_head s p) x
  unfolding to_node
  gives =
      let x = ready.known (head s) in_chain in
      gives_number (s.table (head s)) (to_head s p) (head_accepts rch c) rules.session x.0 x.1 (alters c, refl) (low (head s) x.0 x.1)
      (λ e. let h = ready.left x.0 x.1 (λ i. record { 0 = e i }) in omega arith)

  same : Same p (to_head s p)
  unfolding to_node
  same = record { op = refl; client = refl; request = refl; key = refl; value = refl }

  -- with a version, the nodes behind it wait
  module _ (x : Sent) (is : node_step (s.table (head s)) (to_head s p) ≡ ok x) (g : Gave (s.table (head s)) (to_head s p) x) where
    waits : (m : List ℕ) → members s.chain ≡ head s ∷ m → (i : ℕ) → Mem i m → Waits s.chain p.key g.version s i
    unfolding to_node
    waits m e i h = record {
      awake = ready.awake i in_i;
      id = (v.sound.tables i).id;
      fence = (v.sound.tables i).fence;
      slot = y.0;
      holding = y.1;
      below = atmost_below_trans y.0.version g.before.version g.version
          (subst₂ AtMost (ap held_version y.1) (ap held_version g.stores.holding) (v.keyed.order (head s) i (subst (Ahead (head s) i) (sym e) (first refl h)))) g.stores.rises;
    }
      where
        in_i : Mem i (members s.chain)
        in_i = subst (Mem i) (sym e) (there h)

        y : (y : Slot) × (held p.key (s.table i).slots ≡ holds y)
        y = ready.known i in_i

    -- what the head sent
    head_sent : Carries p g.version x.packet × OfNode (head s) x.packet
    head_sent = (subst (Carries p g.version) (sym sends) z.0, subst (OfNode (head s)) (sym sends) z.1)
      where
        sends : x.packet ≡ reply (head s) (to_head s p) query g.version (to_head s p).value
        sends = g.stores.sends ∙ ap (λ (j : ℕ). reply j (to_head s p) query g.version (to_head s p).value) (v.sound.tables (head s)).id

        z : Carries p g.version (reply (head s) (to_head s p) query g.version (to_head s p).value) × OfNode (head s) (reply (head s) (to_head s p) query g.version (to_head s p).value)
        z = replied (head s) g.version same refl

    some : g.version.sequence.0 ≡ 0 → ⊥
    some q = let h = g.some in omega arith

    goes : (m : List ℕ) → members s.chain ≡ head s ∷ m → Goes p g.version m (exec (at_node (head s) (to_head s p)) (exec (from_client p) s)) x.packet
    unfolding to_node exec
    goes m e =
        let d = subst Distinct e rules.distinct in
        walk c s.chain rules ready.still g.version (λ q. rules.session (ap (λ (z : Session). z.0) (sym g.session) ∙ q)) some
        m [] (head s) _ x.packet refl e d head_sent.0 head_sent.1
        (λ i h. waits_still refl (upd_other _ _ _ _ (λ q. d.0 (cast q h))) (waits m e i h))

    -- the number that the head gave: the history has it, and nothing else that is new
    given_noted : ghosts (exec (at_node (head s) (to_head s p)) (exec (from_client p) s))
        ≡ numbered p.key g.version (wanted p) (head s) (version_at p.key (s.table (head s)).slots) (to_head s p) ∷ ghosts s
    unfolding to_node exec
    given_noted =
        node_ghosts_lem (exec (from_client p) s) (head s) (to_head s p) x is
        (ghosts_given (head s) (to_head s p) x.packet [] (version_at p.key (s.table (head s)).slots) g.unnumbered head_sent.0.asks
        ∙ (λ i. numbered (head_sent.0.same.key i) (head_sent.0.version i) (carries_wanted c some head_sent.0 i) (head s) (version_at p.key (s.table (head s)).slots) (to_head s p) ∷ []))
        ∙ ap (λ (l : List Ghost). numbered p.key g.version (wanted p) (head s) (version_at p.key (s.table (head s)).slots) (to_head s p) ∷ l)
        (relay_ghosts_lem (from_client p) s p (node (head s) (to_head s p)) (λ m. refl) relays (ghosts_sent p (to_head s p) [] refl))

    done : (m : List ℕ) → members s.chain ≡ head s ∷ m → Acknowledged s p
    unfolding exec
    done m e =
        let h = goes m e in
        let sent = relay_packets (from_client p) s p (node (head s) (to_head s p)) relays in
        let step = node_packets (exec (from_client p) s) (head s) (to_head s p) x is in
        let apart = (subst Distinct e rules.distinct).0 in
        let table = h.others (head s) apart ∙ node_table (exec (from_client p) s) (head s) (to_head s p) x is in
        record {
          enabled = (c.from, c.fit);
          first = to_head s p;
          sent = subst (λ (l : List ℕ). relay_step s.chain p ≡ ok (way_along l (to_head s p))) (sym e) relays;
          relayed = sent;
          version = g.version;
          final = h.final;
          arrives = subst (λ (l : List ℕ). Arrives l (exec (from_client p) s) (to_head s p) h.final (ack_of p g.version)) (sym e) (hop (head s) (made sent, ready.awake (head s) in_chain) refl step (made step) h.sends refl h.relayed h.arrives);
          steps = let n = h.steps in omega (arith, ap length e);
          history = h.history ∙ ap (λ (l : List Ghost). acked p.key g.version (ack_of p g.version) ∷ l) given_noted;
          chain = h.chain;
          held = λ j n. hold_more h.final (subst (HoldsWrite p g.version) (sym table) (holds_write c g.stores same refl)) h.holding j (subst (Mem j) e n);
        }

pub acknowledged : (s : State) (p : Packet) → Reach s → ClientWrite p → Ready s p.key → Acknowledged s p
acknowledged s p r c ready =
    let g = gives r c ready in
    let f = first_here (members s.chain) (some_members _ (rules r c ready)) in
    done r c ready g.0 g.1 g.2 f.0 f.1
