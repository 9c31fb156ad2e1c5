-- Document 01's demand 3, for each key, and the acknowledged write: what is proved of every reachable state and every run.
use Rattle.std.specs.Prelude.{ℕ, ◌+◌, ◌<◌, ◌≡◌, false, ◌⊎◌, length, get_or, eqb}
use mathlib.Core.List.{List, [], ◌∷◌, Memᴰ as Mem}
use Rattle.wire.specs.Numbers.{ok, pick}
use Rattle.wire.specs.Version.{stamp, zero_version, AtMost, Below, top_sequence}
use Rattle.wire.specs.Packet.{Packet, packet, Fit, query, op_write, op_delete, answer_written}
use Rattle.wire.specs.declared.Version.{Version}
use Rattle.store.specs.Table.{Slot, Table, free_slot}
use Rattle.store.specs.Held.{holds, held, Content, nothing, wrote, gone, content_of, version_at, content_at}
use Rattle.steps.specs.declared.Change.TheVariants.{Still}
use Rattle.steps.specs.Chain.{members, first_of}
use Rattle.steps.specs.Relay.{Way, node, client, relay_step}
use Rattle.protocol.specs.System.{State, from_client, at_relay, at_node, Ghost, numbered, acked, shown, carried, ghosts, exec, Enabled, Run}

-- the version that node j holds of key k; a missing key counts as 0.0
abbrev pub holds_version : State → ℕ → List ℕ → Version
holds_version s j k = version_at k (s.table j).slots

-- ---- 1: no chain node holds a lower version than a node behind it

abbrev pub ChainOrder : State → List ℕ → Type 0
ChainOrder s k =
    (m n : ℕ) → m < n → n < length (members s.chain)
    → AtMost (holds_version s (get_or (members s.chain) n 0) k) (holds_version s (get_or (members s.chain) m 0) k)

-- ---- 2: one numbered version never stands for two contents

-- where a version of a key can stand for a content: in the history, in a slot of any node, in a packet or an answer
pub data StandsFor (s : State) (k : List ℕ) (v : Version) (c : Content) : Type 0 where
  in_history : (j : ℕ) (before : Version) (origin : Packet) → Mem (numbered k v c j before origin) (ghosts s) → StandsFor s k v c
  in_slot : (j i : ℕ) (x : Slot) → i < length (s.table j).slots → get_or (s.table j).slots i free_slot ≡ x → x.key ≡ k → x.version ≡ v
      → content_of x ≡ c → (c ≡ nothing → ⊥) → StandsFor s k v c
  in_packet : (p : Packet) → Mem p s.packets → p.key ≡ k → p.head.version ≡ v → carried p ≡ c → (c ≡ nothing → ⊥) → StandsFor s k v c

abbrev pub OneContent : State → List ℕ → Type 0
OneContent s k = (v : Version) (c d : Content) → StandsFor s k v c → StandsFor s k v d → c ≡ d

-- and nothing stands anywhere but what a node gave a number
abbrev pub AllNumbered : State → List ℕ → Type 0
AllNumbered s k =
    (v : Version) (c : Content) → StandsFor s k v c → (j : ℕ) × (before : Version) × (origin : Packet) × Mem (numbered k v c j before origin) (ghosts s)

-- the stronger form: each numbering of a key is higher than every earlier one (the list has the newest first)
abbrev pub Growing : List ℕ → List Ghost → Type 0
Growing k [] = Unit {0}
Growing k (numbered k' v c j b p ∷ l) =
    (k' ≡ k → (u : Version) (d : Content) (i : ℕ) (b' : Version) (p' : Packet) → Mem (numbered k u d i b' p') l → Below u v) × Growing k l
Growing k (acked k' v p ∷ l) = Growing k l
Growing k (shown k' v p ∷ l) = Growing k l

-- ---- 3: an acknowledged write is held by every chain node from then on

-- a table holds version v of key k with content c, or a later version
abbrev pub HoldsOrLater : List ℕ → Version → Content → Table → Type 0
HoldsOrLater k v c t = ((version_at k t.slots ≡ v) × (content_at k t.slots ≡ c)) ⊎ Below v (version_at k t.slots)

-- version v of key k was given to a content, and from then on every chain node holds it with that content, or a later version
pub record Kept (s : State) (k : List ℕ) (v : Version) : Type 0 where
  pub content : Content
  pub given : (j : ℕ) × (before : Version) × (origin : Packet) × Mem (numbered k v content j before origin) (ghosts s)
  pub held : (t : State) → Run s t → (j : ℕ) → Mem j (members t.chain) → HoldsOrLater k v content (t.table j)

abbrev pub AckedHeld : State → List ℕ → Type 0
AckedHeld s k = (v : Version) (p : Packet) → Mem (acked k v p) (ghosts s) → Kept s k v

-- ---- 4: answered reads never go back behind earlier reads or acknowledgements

-- a read or an acknowledgement of the key, with its version
pub data Seen (k : List ℕ) (v : Version) (l : List Ghost) : Type 0 where
  by_read : (p : Packet) → Mem (shown k v p) l → Seen k v l
  by_ack : (p : Packet) → Mem (acked k v p) l → Seen k v l

abbrev pub ReadsRise : List ℕ → List Ghost → Type 0
ReadsRise k [] = Unit {0}
ReadsRise k (shown k' v p ∷ l) = (k' ≡ k → (u : Version) → Seen k u l → AtMost u v) × ReadsRise k l
ReadsRise k (numbered k' v c j b p ∷ l) = ReadsRise k l
ReadsRise k (acked k' v p ∷ l) = ReadsRise k l

-- ---- demand 3

pub record Demand3 (s : State) (k : List ℕ) : Type 0 where
  pub order : ChainOrder s k
  pub one_content : OneContent s k
  pub all_numbered : AllNumbered s k
  pub growing : Growing k (ghosts s)
  pub acked_held : AckedHeld s k
  pub reads_rise : ReadsRise k (ghosts s)

-- ---- the acknowledged write

-- where the relay sends a packet that has these nodes still before it: to the first of them, or to the client
abbrev pub way_along : List ℕ → Packet → Way
way_along [] q = client q
way_along (j ∷ l) q = node j q

-- from a state in which packet p was just made: a node step at each of these nodes, in this order, each followed by a relay step, all enabled, no other event;
-- nothing is lost, for each node gets what the relay sent it; x is the last packet made, and sent to the client
pub data Arrives : List ℕ → State → Packet → State → Packet → Type 0 where
  there : {s : State} {p : Packet} → Arrives [] s p s p
  hop : {l : List ℕ} {s t u w : State} {p q r x : Packet} (j : ℕ)
      → Enabled (at_node j p) s → t ≡ exec (at_node j p) s → t.packets ≡ q ∷ s.packets
      → Enabled (at_relay q) t → relay_step t.chain q ≡ ok (way_along l r) → u ≡ exec (at_relay q) t → u.packets ≡ r ∷ t.packets
      → Arrives l u r w x → Arrives (j ∷ l) s p w x

-- a client's write or delete
pub record ClientWrite (p : Packet) : Type 0 where
  pub fit : Fit p
  pub query : p.head.answer ≡ query
  pub alters : (p.head.op ≡ op_write) ⊎ (p.head.op ≡ op_delete)
  pub from : p.head.from ≡ 0
  pub to : p.head.to ≡ 0
  pub stamp : p.head.stamp.0 ≡ 0
  pub version : p.head.version ≡ zero_version

-- no chain node halted, no change open, the key at all nodes, and a number left at the head
pub record Ready (s : State) (k : List ℕ) : Type 0 where
  pub awake : (j : ℕ) → Mem j (members s.chain) → s.halted j ≡ false
  pub still : s.chain.change ≡ Still
  pub known : (j : ℕ) → Mem j (members s.chain) → (x : Slot) × (held k (s.table j).slots ≡ holds x)
  pub left : (x : Slot) → held k (s.table (first_of (members s.chain))).slots ≡ holds x
      → x.version.session ≡ s.chain.session → x.version.sequence.0 < top_sequence

-- what a write or delete leaves under its version: the client's value, or a deletion
unfoldable pub wanted : Packet → Content
wanted p = pick (eqb p.head.op op_write) (wrote p.value) gone

-- answer 4 to a client's write or delete, under a version: the client's op, client, request and key; from, to, stamp and length are 0
unfoldable pub ack_of : Packet → Version → Packet
ack_of p v = packet
    (record {
      op = p.head.op;
      answer = answer_written;
      from = 0;
      to = 0;
      client = p.head.client;
      request = p.head.request;
      stamp = stamp 0;
      version = v;
      length = 0;
    })
    p.key
    []

-- a table holds this write: under its key, this version with the client's content
pub record HoldsWrite (p : Packet) (v : Version) (t : Table) : Type 0 where
  pub version : version_at p.key t.slots ≡ v
  pub content : content_at p.key t.slots ≡ wanted p

-- this write is acknowledged after k node steps and k + 1 relay steps
pub record Acknowledged (s : State) (p : Packet) : Type 0 where
  -- the relay makes a packet of it and sends it to the first node
  pub enabled : Enabled (from_client p) s
  pub first : Packet
  pub sent : relay_step s.chain p ≡ ok (way_along (members s.chain) first)
  pub relayed : (exec (from_client p) s).packets ≡ first ∷ s.packets
  -- a node step at each of the k chain nodes, each followed by one more relay step; the last packet made is answer 4 to this client, for this request and key
  pub version : Version
  pub final : State
  pub arrives : Arrives (members s.chain) (exec (from_client p) s) first final (ack_of p version)
  pub steps : length final.trace ≡ length (members s.chain) + (length (members s.chain) + 1) + length s.trace
  -- all that the history has gained: the head gave that version to the packet that the relay made, for the client's content; and it was acknowledged
  pub history : ghosts final
      ≡ acked p.key version (ack_of p version)
      ∷ (numbered p.key version (wanted p) (first_of (members s.chain)) (holds_version s (first_of (members s.chain)) p.key) first
      ∷ ghosts s)
  -- every chain node holds it
  pub chain : final.chain ≡ s.chain
  pub held : (j : ℕ) → Mem j (members s.chain) → HoldsWrite p version (final.table j)
