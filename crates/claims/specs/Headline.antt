-- Demand 3 and the acknowledged write, of the system over bytes: what is proved of every reachable state and every run.
use Rattle.std.specs.Prelude.{ℕ, ◌+◌, ◌<◌, ◌≤◌, ◌≡◌, false, ◌⊎◌, length, get_or}
use mathlib.Core.List.{List, [], ◌∷◌, ◌++◌, Memᴰ as Mem}
use Rattle.be.specs.Be.{Bytes}
use Rattle.wire.specs.Numbers.{ok}
use Rattle.wire.specs.Version.{zero_version, AtMost, Below, top_sequence}
use Rattle.wire.specs.Packet.{packet_of, head_of, key_of, Formed, outlet_size, query, op_read, op_write, op_delete, answer_written}
use Rattle.wire.specs.declared.Version.{Version}
use Rattle.store.specs.Table.{Slot, table_of, slot_of, row, count_of}
use Rattle.store.specs.Held.{holds, held, Content, nothing, content_of}
use Rattle.steps.specs.declared.Change.TheVariants.{Still}
use Rattle.steps.specs.Chain.{members, first_of}
use Rattle.steps.specs.declared.Destination.TheVariants.{ToNode, ToClient}
use Rattle.steps.specs.Node.{Unnumbered}
use Rattle.steps.specs.Relay.{Outcome, outcome_of, relay_call}
use Rattle.protocol.specs.System.{carried}
use Rattle.protocol.specs.Demand.{HoldsOrLater, wanted, ack_of, HoldsWrite}
use Rattle.claims.specs.Bytes.{IsNode, asking, relaying, stepping, EntryB, StateB, holds_version, exec_b, EnabledB, RunB}

-- ---- what the trace says

-- an acknowledgement: a query delivered to the relay, which made answer 4 with that key and version
pub record Acks (x : EntryB) (k : List ℕ) (v : Version) : Type 0 where
  pub delivered : List ℕ
  pub outlet : List ℕ
  pub event : (x.event ≡ asking delivered outlet) ⊎ (x.event ≡ relaying delivered outlet)
  pub asks : (head_of delivered).answer ≡ query
  pub packet : List ℕ
  pub made : x.made ≡ packet ∷ []
  pub answer : (head_of packet).answer ≡ answer_written
  pub key : key_of packet ≡ k
  pub version : (head_of packet).version ≡ v

-- an answered read: an op 1 answer that a node made, with that key and version
pub record Shows (x : EntryB) (k : List ℕ) (v : Version) : Type 0 where
  pub node : ℕ
  pub delivered : List ℕ
  pub outlet : List ℕ
  pub event : x.event ≡ stepping node delivered outlet
  pub packet : List ℕ
  pub made : x.made ≡ packet ∷ []
  pub op : (head_of packet).op ≡ op_read
  pub answers : (head_of packet).answer ≡ query → ⊥
  pub key : key_of packet ≡ k
  pub version : (head_of packet).version ≡ v

-- a numbering: a write or delete without a number delivered to node j, which made of it a query with that key, version and content
pub record Numbers (x : EntryB) (j : ℕ) (k : List ℕ) (v : Version) (c : Content) : Type 0 where
  pub delivered : List ℕ
  pub outlet : List ℕ
  pub event : x.event ≡ stepping j delivered outlet
  pub unnumbered : Unnumbered (packet_of delivered)
  pub packet : List ℕ
  pub made : x.made ≡ packet ∷ []
  pub asks : (head_of packet).answer ≡ query
  pub key : key_of packet ≡ k
  pub version : (head_of packet).version ≡ v
  pub content : carried (packet_of packet) ≡ c

-- ---- 1: no chain node holds a lower version than a node behind it

abbrev pub ChainOrder : StateB → List ℕ → Type 0
ChainOrder s k =
    (m n : ℕ) → m < n → n < length (members s.chain)
    → AtMost (holds_version s (get_or (members s.chain) n 0) k) (holds_version s (get_or (members s.chain) m 0) k)

-- ---- 2: one numbered version never stands for two contents

-- where a version of a key can stand for a content: in the history, in a slot of any node, in a packet or an answer
pub data StandsFor (s : StateB) (k : List ℕ) (v : Version) (c : Content) : Type 0 where
  in_history : (x : EntryB) (j : ℕ) → Mem x s.trace → Numbers x j k v c → StandsFor s k v c
  in_slot : (j i : ℕ) (x : Slot) → IsNode j → i < count_of (s.table j) → slot_of (row (s.table j) i) ≡ x → x.key ≡ k → x.version ≡ v
      → content_of x ≡ c → (c ≡ nothing → ⊥) → StandsFor s k v c
  in_packet : (p : List ℕ) → Mem p s.packets → key_of p ≡ k → (head_of p).version ≡ v → carried (packet_of p) ≡ c → (c ≡ nothing → ⊥) → StandsFor s k v c

abbrev pub OneContent : StateB → List ℕ → Type 0
OneContent s k = (v : Version) (c d : Content) → StandsFor s k v c → StandsFor s k v d → c ≡ d

-- and nothing stands anywhere but what a node gave a number
abbrev pub AllNumbered : StateB → List ℕ → Type 0
AllNumbered s k = (v : Version) (c : Content) → StandsFor s k v c → (x : EntryB) × (j : ℕ) × Mem x s.trace × Numbers x j k v c

-- the stronger form: each numbering of a key is higher than every earlier one (the trace has the newest first)
abbrev pub NumbersRise : StateB → List ℕ → Type 0
NumbersRise s k =
    (later earlier : List EntryB) (x y : EntryB) → s.trace ≡ later ++ (x ∷ earlier) → Mem y earlier
    → (i j : ℕ) (u v : Version) (c d : Content) → Numbers x i k v c → Numbers y j k u d → Below u v

-- ---- 3: once a write or delete has been acknowledged, every chain node holds it or a later one from then on

-- version v of key k was given to a content, and from then on every chain node holds it with that content, or a later version
pub record Kept (s : StateB) (k : List ℕ) (v : Version) : Type 0 where
  pub content : Content
  pub given : (x : EntryB) × (j : ℕ) × Mem x s.trace × Numbers x j k v content
  pub held : (t : StateB) → RunB s t → (j : ℕ) → Mem j (members t.chain) → HoldsOrLater k v content (table_of (t.table j))

abbrev pub AckedHeld : StateB → List ℕ → Type 0
AckedHeld s k = (x : EntryB) (v : Version) → Mem x s.trace → Acks x k v → Kept s k v

-- ---- 4: a read answered by a node shows a version no lower than any earlier answered read showed and any earlier acknowledgement carried

abbrev pub ReadsRise : StateB → List ℕ → Type 0
ReadsRise s k =
    (later earlier : List EntryB) (x y : EntryB) → s.trace ≡ later ++ (x ∷ earlier) → Mem y earlier
    → (u v : Version) → Shows x k v → Shows y k u ⊎ Acks y k u → AtMost u v

-- ---- demand 3

pub record Demand3B (s : StateB) (k : List ℕ) : Type 0 where
  pub order : ChainOrder s k
  pub one_content : OneContent s k
  pub all_numbered : AllNumbered s k
  pub numbers_rise : NumbersRise s k
  pub acked_held : AckedHeld s k
  pub reads_rise : ReadsRise s k

-- ---- the acknowledged write

-- a client's write or delete
pub record ClientWrite (p : List ℕ) : Type 0 where
  pub bytes : Bytes p
  pub formed : Formed p
  pub query : (head_of p).answer ≡ query
  pub alters : ((head_of p).op ≡ op_write) ⊎ ((head_of p).op ≡ op_delete)
  pub from : (head_of p).from ≡ 0
  pub to : (head_of p).to ≡ 0
  pub stamp : (head_of p).stamp.0 ≡ 0
  pub version : (head_of p).version ≡ zero_version

-- no chain node halted, no change open, the key at all nodes, and a number left at the head
pub record Ready (s : StateB) (k : List ℕ) : Type 0 where
  pub awake : (j : ℕ) → Mem j (members s.chain) → s.halted j ≡ false
  pub still : s.chain.change ≡ Still
  pub known : (j : ℕ) → Mem j (members s.chain) → (x : Slot) × (held k (table_of (s.table j)).slots ≡ holds x)
  pub left : (x : Slot) → held k (table_of (s.table (first_of (members s.chain)))).slots ≡ holds x
      → x.version.session ≡ s.chain.session → x.version.sequence.0 < top_sequence

-- where the relay sends a packet that has these nodes still before it: to the first of them, or to the client
abbrev pub outcome_along : List ℕ → Outcome
outcome_along [] = ok ToClient
outcome_along (j ∷ l) = ok (ToNode j)

-- packet p goes to node j, and what the node makes of it to the relay; both may happen, each makes one packet, the relay sends its own on along the nodes l, and then P holds
pub record Hop (P : StateB → List ℕ → Type 0) (s : StateB) (j : ℕ) (l p out out' : List ℕ) : Type 0 where
  pub taken : EnabledB (stepping j p out) s
  pub between : List ℕ
  pub stepped : (exec_b (stepping j p out) s).packets ≡ between ∷ s.packets
  pub handed : EnabledB (relaying between out') (exec_b (stepping j p out) s)
  pub sent : outcome_of (relay_call (exec_b (stepping j p out) s).chain between out') ≡ outcome_along l
  pub next : List ℕ
  pub relayed : (exec_b (relaying between out') (exec_b (stepping j p out) s)).packets ≡ next ∷ (exec_b (stepping j p out) s).packets
  pub then : P (exec_b (relaying between out') (exec_b (stepping j p out) s)) next

-- a node step at each of these nodes, in this order, each followed by a relay step, and no other event, whatever outlets of 168 bytes or more are lent;
-- nothing is lost, for each node gets what the relay sent it, and the client the last packet; then P holds
abbrev pub Hops : List ℕ → (StateB → List ℕ → Type 0) → StateB → List ℕ → Type 0
Hops [] P s p = P s p
Hops (j ∷ l) P s p = (out out' : List ℕ) → outlet_size ≤ length out → outlet_size ≤ length out' → Hop (Hops l P) s j l p out out'

-- from state s, client's packet p was acknowledged, of which the relay made packet `first`
pub record Answered (s : StateB) (p first : List ℕ) (final : StateB) (last : List ℕ) : Type 0 where
  -- the last packet made is answer 4 to this client, for this request and key, under a version
  pub version : Version
  pub answer : packet_of last ≡ ack_of (packet_of p) version
  -- k node steps and k + 1 relay steps since s: in them the head gave that version to the packet that the relay made, for the client's content, and that answer acknowledged it
  pub since : List EntryB
  pub later : final.trace ≡ since ++ s.trace
  pub steps : length since ≡ length (members s.chain) + (length (members s.chain) + 1)
  pub given : (x : EntryB) × Mem x since × (n : Numbers x (first_of (members s.chain)) (key_of p) version (wanted (packet_of p))) × (n.delivered ≡ first)
  pub acked : (x : EntryB) × Mem x since × (a : Acks x (key_of p) version) × (a.packet ≡ last)
  -- every chain node holds it
  pub chain : final.chain ≡ s.chain
  pub held : (j : ℕ) → Mem j (members s.chain) → HoldsWrite (packet_of p) version (table_of (final.table j))

-- this write is acknowledged after k node steps and k + 1 relay steps
pub record AcknowledgedB (s : StateB) (p out : List ℕ) : Type 0 where
  -- the relay makes a packet of it and sends it to the first node
  pub enabled : EnabledB (asking p out) s
  pub sent : outcome_of (relay_call s.chain p out) ≡ outcome_along (members s.chain)
  pub first : List ℕ
  pub relayed : (exec_b (asking p out) s).packets ≡ first ∷ s.packets
  -- a node step at each of the k chain nodes, each followed by one more relay step
  pub arrives : Hops (members s.chain) (Answered s p first) (exec_b (asking p out) s) first
