-- The invariant behind demand 3: what is true of every reachable state, whatever the key, and for one key.
use Rattle.std.specs.Prelude.{ℕ, ◌<◌, ◌≤◌, ◌≡◌, Bool, true, ◌⊎◌, length, get_or}
use mathlib.Core.List.{List, Memᴰ as Mem}
use Rattle.wire.specs.Version.{AtMost}
use Rattle.wire.specs.Packet.{Packet, Fit, query, op_read}
use Rattle.wire.specs.declared.Version.{Version}
use Rattle.wire.specs.declared.Stamp.{Stamp}
use Rattle.store.specs.Table.{Slot, Table, free_slot}
use Rattle.store.specs.Held.{Content, nothing, content_of, version_at}
use Rattle.store.proofs.Rules.{SlotRules}
use Rattle.steps.specs.declared.Joining.{Joining}
use Rattle.steps.specs.declared.Change.{Change}
use Rattle.steps.specs.declared.Chain.{Chain}
use Rattle.steps.specs.Chain.{members, first_of, ChainRules, Opened}
use Rattle.steps.specs.Node.{is_read, Numbered, Unnumbered}
use Rattle.steps.specs.Relay.{stops}
use Rattle.steps.proofs.ChainOrder.{Ahead}
use Rattle.protocol.specs.System.{State, Ghost, numbered, acked, carried, ghosts}
use Rattle.protocol.specs.Demand.{Growing, Seen, ReadsRise}

-- what the invariant sees of a state but for its packets
pub record World : Type 0 where
  pub chain : Chain
  pub table : ℕ → Table
  pub halted : ℕ → Bool
  pub history : List Ghost

abbrev pub world_of : State → World
world_of s = record { chain = s.chain; table = s.table; halted = s.halted; history = ghosts s }

-- the version that node j holds of key k
abbrev pub node_version : World → List ℕ → ℕ → Version
node_version w k j = version_at k (w.table j).slots

-- the history has that version v of key k was given to content c
pub data Logged (l : List Ghost) (k : List ℕ) (v : Version) (c : Content) : Type 0 where
  logged : (node : ℕ) (before : Version) (origin : Packet) → Mem (numbered k v c node before origin) l → Logged l k v c

-- version v of key k, which is not 0.0, was given to a content
pub record Given (l : List Ghost) (k : List ℕ) (v : Version) : Type 0 where
  pub some : 0 < v.sequence.0
  pub content : Content
  pub log : Logged l k v content

-- node j holds every version of key k that was given in session n or later
abbrev pub HoldsSince : World → List ℕ → ℕ → ℕ → Type 0
HoldsSince w k j n = (v : Version) (c : Content) → Logged w.history k v c → n ≤ v.session.0 → AtMost v (node_version w k j)

-- ---- packets that still matter

-- the fence of a table lets a packet pass
abbrev pub Passes : Table → Packet → Type 0
Passes t p = t.fence.0 ≤ p.head.stamp.0

-- the node addressed is in the chain, and its fence lets the packet pass
abbrev pub LiveTo : World → Packet → Type 0
LiveTo w p = Mem p.head.to (members w.chain) × Passes (w.table p.head.to) p

-- the sender is in the chain
abbrev pub LiveFrom : World → Packet → Type 0
LiveFrom w p = Mem p.head.from (members w.chain)

-- what the relay would stop now was stamped before
abbrev pub StampedBefore : Stamp → Change → Packet → Type 0
StampedBefore wiring change p = stops change (is_read p) p.head.to ≡ true → p.head.stamp.0 < wiring.0

-- ---- one packet

pub record Good (k : List ℕ) (w : World) (p : Packet) : Type 0 where
  pub fit : Fit p
  -- its ids were used, and none is the new node's
  pub to_used : p.head.to ≤ w.chain.highest
  pub from_used : p.head.from ≤ w.chain.highest
  pub to_old : (c : Joining) → Opened w.chain.change c → p.head.to ≡ c.fresh → ⊥
  pub from_old : (c : Joining) → Opened w.chain.change c → p.head.from ≡ c.fresh → ⊥
  -- a query from 0 is addressed to a node; the node addressed is in the chain or halted
  pub asked : p.head.from ≡ 0 → p.head.answer ≡ query → p.head.to ≡ 0 → ⊥
  pub lands : (p.head.to ≡ 0 → ⊥) → Mem p.head.to (members w.chain) ⊎ (w.halted p.head.to ≡ true)
  -- no stamp is above the wiring number; what the relay would stop now was stamped before
  pub stamped : p.head.stamp.0 ≤ w.chain.wiring.0
  pub stopped : StampedBefore w.chain.wiring w.chain.change p
  -- a content goes with the version that it was given
  pub content : (carried p ≡ nothing → ⊥) → Logged w.history p.key p.head.version (carried p)
  -- a live read is addressed to the last node, a live unnumbered write or delete to the first
  pub reads_last : LiveTo w p → p.head.op ≡ op_read → (j : ℕ) → Ahead p.head.to j (members w.chain) → ⊥
  pub writes_first : LiveTo w p → Unnumbered p → (i : ℕ) → Ahead i p.head.to (members w.chain) → ⊥
  -- its session is no higher than the record's, and the node holds all that was numbered in that session or later
  pub session : LiveTo w p → Unnumbered p → p.head.version.session.0 ≤ w.chain.session.0
  pub top : LiveTo w p → Unnumbered p → HoldsSince w k p.head.to p.head.version.session.0
  -- as long as a session only grows with a new first node, it is the record's
  pub current : LiveTo w p → Unnumbered p → p.head.version.session ≡ w.chain.session
  -- a live numbered one is held by all nodes ahead of the node addressed, and by its sender
  pub ahead_hold : LiveTo w p → Numbered p → p.key ≡ k → (i : ℕ) → Ahead i p.head.to (members w.chain)
      → AtMost p.head.version (node_version w k i)
  pub sender_holds : LiveFrom w p → p.head.answer ≡ query → Numbered p → p.key ≡ k
      → AtMost p.head.version (node_version w k p.head.from)

-- ---- the record and the tables, of nodes in the chain or not

pub record SlotGood (l : List Ghost) (x : Slot) : Type 0 where
  pub rules : SlotRules x
  pub content : (content_of x ≡ nothing → ⊥) → Logged l x.key x.version (content_of x)

pub record TableGood (r : Chain) (l : List Ghost) (j : ℕ) (t : Table) : Type 0 where
  pub id : t.id ≡ j
  pub count : length t.slots ≡ r.count
  pub fence : t.fence.0 ≤ r.wiring.0
  pub slots : (i : ℕ) → SlotGood l (get_or t.slots i free_slot)

pub record Sound (w : World) : Type 0 where
  pub rules : ChainRules w.chain
  pub tables : (j : ℕ) → TableGood w.chain w.history j (w.table j)
  -- a marked change: the named node's fence is the wiring number
  pub fenced : (c : Joining) → Opened w.chain.change c → c.fenced ≡ true → (w.table c.named).fence.0 ≡ w.chain.wiring.0
  -- the slots below the next one are copied
  pub copied : (c : Joining) → Opened w.chain.change c → (i : ℕ) → i < c.next
      → get_or (w.table c.fresh).slots i free_slot ≡ get_or (w.table c.named).slots i free_slot

-- ---- one key

pub record Keyed (k : List ℕ) (w : World) : Type 0 where
  -- no node holds a lower version than a node behind it
  pub order : (i j : ℕ) → Ahead i j (members w.chain) → AtMost (node_version w k j) (node_version w k i)
  -- no version was given in a later session than the record's, and the first node holds all that were given in this one
  pub sessions : (v : Version) (c : Content) → Logged w.history k v c → v.session.0 ≤ w.chain.session.0
  pub first_holds : (v : Version) (c : Content) → Logged w.history k v c → v.session.0 ≡ w.chain.session.0
      → AtMost v (node_version w k (first_of (members w.chain)))
  -- each version given is above all earlier ones
  pub growing : Growing k w.history
  -- what was acknowledged had been given
  pub acked_given : (v : Version) (p : Packet) → Mem (acked k v p) w.history → Given w.history k v
  -- every chain node holds what was acknowledged or read
  pub seen_held : (v : Version) → Seen k v w.history → (j : ℕ) → Mem j (members w.chain) → AtMost v (node_version w k j)
  pub reads_rise : ReadsRise k w.history

-- ---- the whole

pub record Inv (k : List ℕ) (s : State) : Type 0 where
  pub sound : Sound (world_of s)
  pub keyed : Keyed k (world_of s)
  pub packets : (p : Packet) → Mem p s.packets → Good k (world_of s) p
