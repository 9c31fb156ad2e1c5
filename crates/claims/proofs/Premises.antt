-- The premises of the acknowledged write over bytes, from plain bytes: none of them asks for more than document 01 does.
use Prim.Native.Nat.{ℕ, ◌+◌, ◌*◌, ◌<◌, ◌≤◌}
use mathlib.Core.Path.{◌≡◌, refl, sym, ap, ◌∙◌, subst}
use mathlib.Core.Bool.{false}
use mathlib.Core.List.Memᴰ.{head as here}
use mathlib.Core.List.{List, [], ◌∷◌, ◌++◌, Memᴰ as Mem}
use mathlib.Core.Logic.{◌⊎◌, inl, inr, ◌↔◌}
use native.Mathlib.Omega.{arith}
use lib.ListN.{length, get_or, take, drop, length-append}
use lib.Seq.{take-take, get_or-take, get_or-drop}
use Rattle.be.specs.Be.{be, Bytes}
use Rattle.wire.specs.Numbers.{Out, refuse, ok, number_of, left}
use Rattle.wire.specs.Packet.{Packet, packet_of, head_of, key_of, bytes_of, Formed, write, delete, sent_in}
use Rattle.wire.proofs.RoundTrip.{read_write, formed_bytes}
use Rattle.store.specs.Table.{Slot, Table, table_of, slot_of, row_at}
use Rattle.store.proofs.Rules.{length_table, get_or_table}
use Rattle.steps.specs.declared.Change.TheVariants.{Still}
use Rattle.steps.specs.Chain.{members, First}
use Rattle.steps.specs.Node.{Sent, node_step, node_call}
use Rattle.steps.specs.Relay.{Way, node, relay_step, relay_call, packet_sent}
use Rattle.steps.proofs.Node.{call_step as node_call_step}
use Rattle.steps.proofs.Relay.{call_step, relay_called}
use Rattle.steps.proofs.RelaySends.{relay_leaves}
use Rattle.steps.proofs.NodeSound.{Sound}
use Rattle.protocol.proofs.Premises.{HasKey as HasKeyD, makes_one as makes_one_d, goes_first as goes_first_d, one_or_11 as one_or_11_d, ready_is as ready_is_d}
use Rattle.claims.specs.Bytes.{asking, StateB, made_in, exec_b, ReachB}
use Rattle.claims.specs.Headline.{ClientWrite, Ready, AcknowledgedB}
use Rattle.claims.proofs.Decode.{decode, made_one}
use Rattle.claims.proofs.Images.{SoundB}
use Rattle.claims.proofs.Bridge.{bridge}
use Rattle.claims.proofs.Headline.{member_node, node_table}
use Rattle.claims.proofs.Live.{write_decoded, ready_both, acknowledged_b}

-- ---- a client's write

-- the bytes of a packet: answer 0, op 2 or 3, from, to, stamp, session and sequence 0
pub client_write_is : (p : List ℕ) → Bytes p → Formed p → get_or p 1 0 ≡ 0 → (get_or p 0 0 ≡ 2) ⊎ (get_or p 0 0 ≡ 3) → be 2 p 2 ≡ 0 → be 2 p 4 ≡ 0 → be 4 p 12 ≡ 0 → be 2 p 16 ≡ 0 → be 4 p 20 ≡ 0 → ClientWrite p
unfolding head_of
client_write_is p b f a o fr to st vs vq = record {
  bytes = b;
  formed = f;
  query = a;
  alters = o;
  from = fr;
  to = to;
  stamp = st;
  version = λ i. record { session = record { 0 = vs i }; sequence = record { 0 = vq i } };
}

-- op, the bytes of client and request, key and value; the rest is 0
abbrev pub client_bytes : ℕ → ℕ → ℕ → ℕ → ℕ → ℕ → ℕ → List ℕ → List ℕ → List ℕ
client_bytes op c₁ c₂ r₁ r₂ r₃ r₄ key value =
    op ∷ 0 ∷ 0 ∷ 0 ∷ 0 ∷ 0 ∷ c₁ ∷ c₂ ∷ r₁ ∷ r₂ ∷ r₃ ∷ r₄ ∷ 0 ∷ 0 ∷ 0 ∷ 0 ∷ 0 ∷ 0 ∷ length value ∷ 0 ∷ 0 ∷ 0 ∷ 0 ∷ 0 ∷ (key ++ value)

-- of any client, with any request, any key, and any value, the empty one too
pub any_write : (c₁ c₂ r₁ r₂ r₃ r₄ : ℕ) (key value : List ℕ) → Bytes (client_bytes 2 c₁ c₂ r₁ r₂ r₃ r₄ key value) → length key ≡ 16 → length value ≤ 128
    → ClientWrite (client_bytes 2 c₁ c₂ r₁ r₂ r₃ r₄ key value)
unfolding head_of
any_write c₁ c₂ r₁ r₂ r₃ r₄ key value b k v =
    client_write_is (client_bytes 2 c₁ c₂ r₁ r₂ r₃ r₄ key value) b
    (record { size = let e = length-append key value in omega arith; small = v; zero = refl; shape = write refl refl (λ h. h) }) refl (inl refl) refl refl refl refl refl

pub any_delete : (c₁ c₂ r₁ r₂ r₃ r₄ : ℕ) (key : List ℕ) → Bytes (client_bytes 3 c₁ c₂ r₁ r₂ r₃ r₄ key []) → length key ≡ 16
    → ClientWrite (client_bytes 3 c₁ c₂ r₁ r₂ r₃ r₄ key [])
unfolding head_of
any_delete c₁ c₂ r₁ r₂ r₃ r₄ key b k =
    client_write_is (client_bytes 3 c₁ c₂ r₁ r₂ r₃ r₄ key []) b
    (record { size = let e = length-append key [] in omega arith; small = omega arith; zero = refl; shape = delete refl refl refl (λ h. h) }) refl (inr refl) refl refl refl refl refl

-- ---- a state that is ready

-- a slot of the table, 152 bytes from 8 + 152 * i on, has the key and is not free, whatever its state
abbrev pub HasKey : List ℕ → List ℕ → Type 0
HasKey k t = (i : ℕ) × (i < be 2 t 6) × (take 16 (drop (8 + 152 * i) t) ≡ k) × (get_or t (8 + 152 * i + 16) 0 ≡ 0 → ⊥)

has_decoded : (k t : List ℕ) → HasKey k t → HasKeyD k (table_of t).slots
unfolding slot_of
has_decoded k t (i, below, key, used) =
    let is = get_or_table t i below in (
      i,
      subst (λ (n : ℕ). i < n) (sym (length_table t)) below,
      ap (λ (x : Slot). x.key) is ∙ (take-take 16 152 (drop (row_at i) t) (omega arith) ∙ key),
      λ e. used (sym (get_or-take 152 (drop (row_at i) t) 16 0 (omega arith) ∙ get_or-drop (row_at i) t 16 0) ∙ (ap (λ (x : Slot). x.state) (sym is) ∙ e)),
    )

-- no chain node halted, no change open, the key at all nodes
module _ {s : StateB} {p : List ℕ} (r : ReachB s) (c : ClientWrite p)
    (awake : (j : ℕ) → Mem j (members s.chain) → s.halted j ≡ false)
    (still : s.chain.change ≡ Still)
    (known : (j : ℕ) → Mem j (members s.chain) → HasKey (key_of p) (s.table j)) where
  g : SoundB s
  g = (bridge r).0

  known_d : (j : ℕ) → Mem j (members s.chain) → HasKeyD (packet_of p).key ((decode s).table j).slots
  unfolding packet_of
  known_d j m = subst (λ (t : Table). HasKeyD (key_of p) t.slots) (sym (node_table g j m)) (has_decoded (key_of p) (s.table j) (known j m))

  -- the relay makes a packet of the write for the first node
  pub makes_one : (out : List ℕ) → 168 ≤ length out → (j : ℕ) × (q : Packet) × First j (members s.chain) × (relay_call s.chain p out ≡ ok (node j q))
  makes_one out room =
      let (j, q, first, sent) = makes_one_d (bridge r).1 (write_decoded c) awake still known_d in
      (j, q, first, call_step s.chain p out g.chain.rules room c.formed ∙ sent)

  -- whichever packet and node these are
  module _ (out : List ℕ) (j : ℕ) (q : Packet) (sent : relay_call s.chain p out ≡ ok (node j q)) where
    step : relay_step s.chain (packet_of p) ≡ ok (node j q)
    step = (relay_called s.chain p out (node j q) sent).step

    whole : Sound q
    whole = relay_leaves s.chain p out (node j q) c.bytes g.chain.wiring g.chain.session g.chain.highest sent

    -- it is the first node
    pub goes_first : First j (members s.chain)
    goes_first = goes_first_d (bridge r).1 (write_decoded c) awake still known_d j q step

    -- its bytes are what is made
    pub made_bytes : (exec_b (asking p out) s).packets ≡ bytes_of q ∷ s.packets
    unfolding exec_b
    made_bytes =
        ap (λ (o : Out Way). made_in (number_of o) (left out (λ w. sent_in out (packet_sent w)) o) ++ s.packets) sent
        ∙ ap (λ (l : List (List ℕ)). l ++ s.packets) (made_one out q whole.fit)

    -- with any outlet that is large enough
    module _ (out' : List ℕ) (room : 168 ≤ length out') where
      called : node_call (s.table j) (bytes_of q) out' ≡ node_step ((decode s).table j) q
      called =
          let (m, e) = goes_first in
          let in_chain : Mem j (members s.chain) = subst (Mem j) (sym e) (here refl) in
          node_call_step (s.table j) (bytes_of q) out' (g.tables j (member_node g j in_chain)).0 room (formed_bytes q whole.fit whole.ranges)
          ∙ (ap (λ (t : Table). node_step t (packet_of (bytes_of q))) (sym (node_table g j in_chain)) ∙ ap (node_step ((decode s).table j)) (read_write q whole.fit whole.ranges))

      -- the node takes it, or refuses with 11: there is no other refusal
      pub one_or_11 : (node_call (s.table j) (bytes_of q) out' ≡ refuse 11) ⊎ ((y : Sent) × (node_call (s.table j) (bytes_of q) out' ≡ ok y))
      one_or_11 = subst (λ (o : Out Sent). (o ≡ refuse 11) ⊎ ((y : Sent) × (o ≡ ok y))) (sym called) (one_or_11_d (bridge r).1 (write_decoded c) awake still known_d j q step)

      -- and the state is ready if and only if it does not refuse with 11
      pub ready_is : Ready s (key_of p) ↔ (node_call (s.table j) (bytes_of q) out' ≡ refuse 11 → ⊥)
      unfolding packet_of
      ready_is =
          let (to, from) = ready_is_d (bridge r).1 (write_decoded c) awake still known_d j q step in
          let (toD, fromD) = ready_both r (key_of p) in
          (λ y e. to (toD y) (sym called ∙ e), λ n. fromD (from (λ e. n (called ∙ e))))

-- ---- so the theorem, with every premise as document 01 has it: a number is left where the first node does not refuse with 11

pub acknowledged_plainly : (s : StateB) (p : List ℕ) → ReachB s → Bytes p → Formed p → get_or p 1 0 ≡ 0 → (get_or p 0 0 ≡ 2) ⊎ (get_or p 0 0 ≡ 3) → be 2 p 2 ≡ 0 → be 2 p 4 ≡ 0 → be 4 p 12 ≡ 0
    → be 2 p 16 ≡ 0 → be 4 p 20 ≡ 0
    → ((j : ℕ) → Mem j (members s.chain) → s.halted j ≡ false) → s.chain.change ≡ Still
    → ((j : ℕ) → Mem j (members s.chain) → HasKey (key_of p) (s.table j))
    → (out out' : List ℕ) → 168 ≤ length out → 168 ≤ length out'
    → ((j : ℕ) (q : Packet) → relay_call s.chain p out ≡ ok (node j q) → node_call (s.table j) (bytes_of q) out' ≡ refuse 11 → ⊥)
    → AcknowledgedB s p out
acknowledged_plainly s p r b f a o fr to st vs vq awake still known out out' room room' left =
    let c = client_write_is p b f a o fr to st vs vq in
    let (j, q, _, sent) = makes_one r c awake still known out room in
    acknowledged_b s p r c ((ready_is r c awake still known out j q sent out' room').1 (left j q sent)) out room
