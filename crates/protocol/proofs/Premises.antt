-- The premises of the acknowledged write, from the plain side: none of them asks for more than document 01 does.
use Prim.Native.Nat.{ℕ, ◌<◌, ◌≤◌}
use mathlib.Core.Path.{◌≡◌, refl, sym, ◌∙◌, subst, subst₂}
use mathlib.Core.Bool.{false}
use mathlib.Core.List.{List, [], Memᴰ as Mem}
use mathlib.Core.Logic.{◌⊎◌, inl, inr, ◌↔◌}
use native.Mathlib.Omega.{arith}
use lib.ListN.{length, get_or}
use Rattle.wire.specs.Numbers.{refuse, ok}
use Rattle.wire.specs.Version.{stamp, version}
use Rattle.wire.specs.Packet.{Packet, packet, Fit, write, delete}
use Rattle.wire.proofs.Numbers.{ok_inj}
use Rattle.store.specs.Table.{Slot, find, free_slot}
use Rattle.store.specs.Held.{holds, held}
use Rattle.std.specs.Prelude.{Option, Some, None}
use Rattle.steps.specs.declared.Change.TheVariants.{Still}
use Rattle.steps.specs.declared.Chain.{Chain}
use Rattle.steps.specs.Chain.{members, First}
use Rattle.steps.specs.Node.{Sent, node_step}
use Rattle.steps.specs.Relay.{Way, node, relay_step}
use Rattle.steps.proofs.ChainIds.{first_here}
use Rattle.steps.proofs.Control.{some_members}
use Rattle.steps.proofs.Node.{found_stands, found_missing}
use Rattle.steps.proofs.NodeDone.{stands_held}
use Rattle.steps.proofs.NodeSends.{Altering, writes, deletes, altering}
use Rattle.steps.proofs.RelayView.{RelayCase, new_read, new_write, handed, acknowledged as acknowledged_case, passed_on, FromClient, relay_view}
use Rattle.protocol.specs.System.{State, Reach}
use Rattle.protocol.specs.Demand.{ClientWrite, Ready, Acknowledged}
use Rattle.protocol.proofs.Facts.{chain_keeps}
use Rattle.protocol.proofs.Head.{head, to_head, sends_first, head_in, held_low, head_does, head_spent}
use Rattle.protocol.proofs.Live.{acknowledged}

-- ---- a client's write

-- a well-formed query, op 2 or 3, from, to and stamp 0, version 0.0
pub client_write_is : (p : Packet) → Fit p → p.head.answer ≡ 0 → (p.head.op ≡ 2) ⊎ (p.head.op ≡ 3) → p.head.from ≡ 0 → p.head.to ≡ 0 → p.head.stamp.0 ≡ 0
    → p.head.version.session.0 ≡ 0 → p.head.version.sequence.0 ≡ 0 → ClientWrite p
client_write_is p f a o fr to st vs vq = record {
  fit = f;
  query = a;
  alters = o;
  from = fr;
  to = to;
  stamp = st;
  version = λ i. record { session = record { 0 = vs i }; sequence = record { 0 = vq i } };
}

-- op, client, request, key and value; the rest is 0
abbrev pub client_packet : ℕ → ℕ → ℕ → List ℕ → List ℕ → Packet
client_packet op client request key value = packet
    (record {
      op = op;
      answer = 0;
      from = 0;
      to = 0;
      client = client;
      request = request;
      stamp = stamp 0;
      version = version 0 0;
      length = length value;
    })
    key
    value

-- of any client, with any request, any key, and any value, the empty one too
pub any_write : (client request : ℕ) (key value : List ℕ) → length key ≡ 16 → length value ≤ 128 → ClientWrite (client_packet 2 client request key value)
any_write client request key value k v =
    client_write_is (client_packet 2 client request key value) (record { shape = write refl refl (λ h. h); small = v; key = k; value = refl }) refl (inl refl) refl refl refl refl refl

pub any_delete : (client request : ℕ) (key : List ℕ) → length key ≡ 16 → ClientWrite (client_packet 3 client request key [])
any_delete client request key k =
    client_write_is (client_packet 3 client request key []) (record { shape = delete refl refl refl (λ h. h); small = omega arith; key = k; value = refl }) refl (inr refl) refl refl refl refl refl

-- whatever the relay does not drop of what a client sends, but for reads
pub taken_write : (r : Chain) (p : Packet) (w : Way) → Fit p → p.head.from ≡ 0 → (p.head.op ≡ 1 → ⊥) → relay_step r p ≡ ok w → ClientWrite p
taken_write r p w fit from other e = go (relay_view r p w e).case
  where
    kind : Altering p.head.op p.head.length → (p.head.op ≡ 2) ⊎ (p.head.op ≡ 3)
    kind (writes o) = inl o
    kind (deletes o z) = inr o

    by : FromClient p → ClientWrite p
    by c = record { fit = fit; query = c.asks; alters = kind (altering c.asks other fit.shape); from = from; to = c.to; stamp = c.stamp; version = c.version }

    go : RelayCase r p w → ClientWrite p
    go (new_read c) = absurd (other c.read)
    go (new_write c) = by c.sender
    go (handed c) = absurd (c.sender.from from)
    go (acknowledged_case c) = absurd (c.sender.from from)
    go (passed_on c) = absurd (c.sender.from from)

-- ---- a state that is ready

-- a used slot has the key, whatever its state
abbrev pub HasKey : List ℕ → List Slot → Type 0
HasKey k l = (i : ℕ) × (i < length l) × ((get_or l i free_slot).key ≡ k) × ((get_or l i free_slot).state ≡ 0 → ⊥)

has_held : (k : List ℕ) (l : List Slot) → HasKey k l → (x : Slot) × (held k l ≡ holds x)
has_held k l (i, below, key, used) = go (find k l) refl
  where
    go : (f : Option ℕ) → find k l ≡ f → (x : Slot) × (held k l ≡ holds x)
    go (Some n) e = (get_or l n free_slot, stands_held (found_stands k l n e))
    go None e = absurd (used ((found_missing k l).0 e i below key))

way_inj : {i j : ℕ} {p q : Packet} → node i p ≡ node j q → (i ≡ j) × (p ≡ q)
way_inj e = (cc, cc)

-- no chain node halted, no change open, the key at all nodes
module _ {s : State} {p : Packet} (rch : Reach s) (c : ClientWrite p)
    (awake : (j : ℕ) → Mem j (members s.chain) → s.halted j ≡ false)
    (still : s.chain.change ≡ Still)
    (known : (j : ℕ) → Mem j (members s.chain) → HasKey p.key (s.table j).slots) where
  first : First (head s) (members s.chain)
  first = first_here (members s.chain) (some_members _ (chain_keeps s rch))

  -- the relay makes a packet of the write for the first node
  pub makes_one : (j : ℕ) × (q : Packet) × First j (members s.chain) × (relay_step s.chain p ≡ ok (node j q))
  makes_one = (head s, to_head s p, first, sends_first s c still)

  at_head : (x : Slot) × (held p.key (s.table (head s)).slots ≡ holds x)
  at_head = has_held p.key (s.table (head s)).slots (known (head s) (head_in rch c))

  -- whichever packet and node these are
  module _ (j : ℕ) (q : Packet) (sent : relay_step s.chain p ≡ ok (node j q)) where
    same : (head s ≡ j) × (to_head s p ≡ q)
    same = way_inj (ok_inj (sym (sends_first s c still) ∙ sent))

    -- it is the first node
    pub goes_first : First j (members s.chain)
    goes_first = subst (λ (i : ℕ). First i (members s.chain)) same.0 first

    -- the node takes it, or refuses with 11: there is no other refusal
    pub one_or_11 : (node_step (s.table j) q ≡ refuse 11) ⊎ ((y : Sent) × (node_step (s.table j) q ≡ ok y))
    one_or_11 =
        subst₂ (λ (j : ℕ) (q : Packet). (node_step (s.table j) q ≡ refuse 11) ⊎ ((y : Sent) × (node_step (s.table j) q ≡ ok y))) same.0 same.1
        (head_does rch c at_head.0 at_head.1)

    -- and the state is ready if and only if it does not refuse with 11
    pub ready_is : Ready s p.key ↔ (node_step (s.table j) q ≡ refuse 11 → ⊥)
    ready_is = subst₂ (λ (j : ℕ) (q : Packet). Ready s p.key ↔ (node_step (s.table j) q ≡ refuse 11 → ⊥)) same.0 same.1 (to, from)
      where
        to : Ready s p.key → node_step (s.table (head s)) (to_head s p) ≡ refuse 11 → ⊥
        to r e =
            let (x, there) = at_head in
            let (session, spent) = (head_spent rch c x there).0 e in
            let left = r.left x there session in
            omega arith

        from : (node_step (s.table (head s)) (to_head s p) ≡ refuse 11 → ⊥) → Ready s p.key
        from n = record {
          awake = awake;
          still = still;
          known = λ j m. has_held p.key (s.table j).slots (known j m);
          left = λ x there session.
              let fits = (held_low rch c (head s) x there).1 in
              let last : x.version.sequence.0 ≡ 4294967295 → ⊥ = (λ e. n ((head_spent rch c x there).1 (session, e))) in
              omega arith;
        }

-- ---- so the theorem, with every premise as document 01 has it: a number is left where the first node does not refuse with 11

pub acknowledged_plainly : (s : State) (p : Packet) → Reach s → Fit p → p.head.answer ≡ 0 → (p.head.op ≡ 2) ⊎ (p.head.op ≡ 3) → p.head.from ≡ 0 → p.head.to ≡ 0 → p.head.stamp.0 ≡ 0
    → p.head.version.session.0 ≡ 0 → p.head.version.sequence.0 ≡ 0
    → ((j : ℕ) → Mem j (members s.chain) → s.halted j ≡ false) → s.chain.change ≡ Still
    → ((j : ℕ) → Mem j (members s.chain) → HasKey p.key (s.table j).slots)
    → ((j : ℕ) (q : Packet) → relay_step s.chain p ≡ ok (node j q) → node_step (s.table j) q ≡ refuse 11 → ⊥)
    → Acknowledged s p
acknowledged_plainly s p rch f a o fr to st vs vq awake still known left =
    let c = client_write_is p f a o fr to st vs vq in
    let (j, q, _, sent) = makes_one rch c awake still known in
    acknowledged s p rch c ((ready_is rch c awake still known j q sent).1 (left j q sent))
