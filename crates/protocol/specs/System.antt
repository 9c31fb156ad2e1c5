-- The system that demand 3 speaks of: its state, its events, what each event does, which may happen, and what is reachable.
use Rattle.std.specs.Prelude.{ℕ, ◌≡◌, Bool, true, false, ◌&&◌, not, length, eqb}
use mathlib.Core.List.{List, [], ◌∷◌, ◌++◌, Memᴰ as Mem}
use Rattle.wire.specs.Numbers.{Out, number_of, left, pick, malformed}
use Rattle.wire.specs.Version.{zero_version, is_zero}
use Rattle.wire.specs.Packet.{Packet, Fit, key_size, query, op_read, op_write, answer_value, answer_no_value, answer_written}
use Rattle.wire.specs.declared.Version.{Version}
use Rattle.store.specs.Table.{Table, blank_table, write_table, fence_table}
use Rattle.store.specs.Held.{Content, nothing, wrote, gone, version_at}
use Rattle.steps.specs.declared.Chain.{Chain}
use Rattle.steps.specs.Chain.{start_chain, ChainRules}
use Rattle.steps.specs.Node.{Sent, node_step}
use Rattle.steps.specs.Relay.{Way, relay_step, packet_sent}
use Rattle.steps.specs.Control.{open_step, fence_step, copy_step, copy_slot, activate_step, cancel_step, remove_step, enter_step}

-- ---- events

pub data Event : Type 0 where
  -- a client hands the relay a packet, or bytes that are none
  from_client : Packet → Event
  no_packet : Event
  -- a packet that was made is delivered to the relay, or to any node, right or wrong
  at_relay : Packet → Event
  at_node : ℕ → Packet → Event
  -- controller steps; fence, copy and enter name the nodes whose tables are handed over
  opens : Bool → ℕ → ℕ → Event
  fences : ℕ → Event
  copies : ℕ → ℕ → ℕ → Event
  activates : Event
  cancels : Event
  removes : ℕ → Event
  enters : ℕ → ℕ → List ℕ → Event
  -- a node halts
  halts : ℕ → Event

-- what happened: the event, the number given, the packet made, and the version that the node held of the packet's key before
pub record Entry : Type 0 where
  pub event : Event
  pub number : ℕ
  pub made : List Packet
  pub before : Version

-- ---- what the entries mean

-- what a packet carries under its version
unfoldable pub carried : Packet → Content
carried p =
    pick (eqb p.head.answer query && not (eqb p.head.version.sequence.0 0))
    (pick (eqb p.head.op op_write) (wrote p.value) (pick (eqb p.head.op op_read) nothing gone))
    (pick (eqb p.head.answer answer_value) (wrote p.value)
    (pick (eqb p.head.answer answer_no_value && not (is_zero p.head.version)) gone nothing))

pub data Ghost : Type 0 where
  -- a node gave a write or delete its number: key, version, content, node, version held before, and the packet that came
  numbered : (key : List ℕ) (v : Version) (c : Content) (node : ℕ) (before : Version) (origin : Packet) → Ghost
  -- the relay made answer 4 from a query
  acked : (key : List ℕ) (v : Version) (made : Packet) → Ghost
  -- a node answered a read
  shown : (key : List ℕ) (v : Version) (made : Packet) → Ghost

-- of a node step: an answer to a read is shown; an unnumbered query that went on was numbered
abbrev pub node_ghosts : ℕ → Packet → Version → List Packet → List Ghost
node_ghosts j p v [] = []
node_ghosts j p v (q ∷ l) =
    pick (eqb p.head.op op_read) (shown q.key q.head.version q ∷ [])
    (pick (eqb q.head.answer query && eqb p.head.version.sequence.0 0)
    (numbered q.key q.head.version (carried q) j v p ∷ [])
    [])

-- of a relay step: answer 4 made from a query is an acknowledgement
abbrev pub relay_ghosts : Packet → List Packet → List Ghost
relay_ghosts p [] = []
relay_ghosts p (q ∷ l) =
    pick (eqb p.head.answer query && eqb q.head.answer answer_written) (acked q.key q.head.version q ∷ []) []

abbrev pub ghosts_of : Event → List Packet → Version → List Ghost
ghosts_of (from_client p) made v = relay_ghosts p made
ghosts_of no_packet made v = []
ghosts_of (at_relay p) made v = relay_ghosts p made
ghosts_of (at_node j p) made v = node_ghosts j p v made
ghosts_of (opens after named fresh) made v = []
ghosts_of (fences j) made v = []
ghosts_of (copies i a b) made v = []
ghosts_of activates made v = []
ghosts_of cancels made v = []
ghosts_of (removes j) made v = []
ghosts_of (enters j id key) made v = []
ghosts_of (halts j) made v = []

-- newest first
abbrev pub all_ghosts : List Entry → List Ghost
all_ghosts [] = []
all_ghosts (e ∷ l) = ghosts_of e.event e.made e.before ++ all_ghosts l

-- ---- the state

pub record State : Type 0 where
  pub chain : Chain
  pub table : ℕ → Table
  pub halted : ℕ → Bool
  -- every packet ever made: none vanishes, so lost, repeated and reordered are all there
  pub packets : List Packet
  -- everything that happened, newest first
  pub trace : List Entry
  -- what had been numbered before the start
  pub origin : List Ghost

abbrev pub ghosts : State → List Ghost
ghosts s = all_ghosts s.trace ++ s.origin

-- ---- what an event does: it stores what the step function returns

-- a function changed at one place
unfoldable pub upd : {A : Type 0} → (ℕ → A) → ℕ → A → ℕ → A
upd f i a j = pick (eqb i j) a (f j)

abbrev pub entry : Event → ℕ → List Packet → Version → Entry
entry e n q v = record { event = e; number = n; made = q; before = v }

abbrev pub made_by : {A : Type 0} → (A → Packet) → Out A → List Packet
made_by f o = left [] (λ a. f a ∷ []) o

abbrev pub becomes : State → Chain → (ℕ → Table) → (ℕ → Bool) → List Packet → Entry → State
becomes s r t h q e = record {
  chain = r;
  table = t;
  halted = h;
  packets = q ++ s.packets;
  trace = e ∷ s.trace;
  origin = s.origin;
}

-- the relay
abbrev pub relayed : Event → State → Out Way → State
relayed e s o =
    becomes s s.chain s.table s.halted (made_by packet_sent o) (entry e (number_of o) (made_by packet_sent o) zero_version)

-- a node
abbrev pub stepped : ℕ → Packet → State → Out Sent → State
stepped j p s o =
    becomes s s.chain
    (upd s.table j (left (s.table j) (λ x. write_table x.write (s.table j)) o))
    s.halted
    (made_by (λ x. x.packet) o)
    (entry (at_node j p) (number_of o) (made_by (λ x. x.packet) o) (version_at p.key (s.table j).slots))

-- the controller: on the record alone, or with one table
abbrev pub ruled : Event → State → Out Chain → State
ruled e s o = becomes s (left s.chain (λ r. r) o) s.table s.halted [] (entry e (number_of o) [] zero_version)

abbrev pub ruled_table : {A : Type 0} → Event → State → (A → Chain) → ℕ → (A → Table) → Out A → State
ruled_table e s f j g o =
    becomes s (left s.chain f o) (upd s.table j (left (s.table j) g o)) s.halted [] (entry e (number_of o) [] zero_version)

unfoldable pub exec : Event → State → State
exec (from_client p) s = relayed (from_client p) s (relay_step s.chain p)
exec no_packet s = becomes s s.chain s.table s.halted [] (entry no_packet malformed [] zero_version)
exec (at_relay p) s = relayed (at_relay p) s (relay_step s.chain p)
exec (at_node j p) s = stepped j p s (node_step (s.table j) p)
exec (opens after named fresh) s =
    ruled_table (opens after named fresh) s (λ r. r) fresh (λ _. blank_table fresh s.chain.count) (open_step s.chain after named fresh)
exec (fences j) s = ruled_table (fences j) s (λ r. r) j (λ _. fence_table s.chain.wiring (s.table j)) (fence_step s.chain (s.table j))
exec (copies i a b) s =
    ruled_table (copies i a b) s (λ r. r) b (λ _. write_table (copy_slot i (s.table a)) (s.table b)) (copy_step s.chain i (s.table a) (s.table b))
exec activates s = ruled activates s (activate_step s.chain)
exec cancels s = ruled cancels s (cancel_step s.chain)
exec (removes j) s = ruled (removes j) s (remove_step s.chain j)
exec (enters j id key) s =
    ruled_table (enters j id key) s (λ _. s.chain) j (λ w. write_table w (s.table j)) (enter_step s.chain (s.table j) id key)
exec (halts j) s = becomes s s.chain s.table (upd s.halted j true) [] (entry (halts j) 0 [] zero_version)

-- ---- which events may happen

-- clients send from 0; what is delivered was made; a halted node takes no node step; only a halted node is removed
abbrev pub Enabled : Event → State → Type 0
Enabled (from_client p) s = (p.head.from ≡ 0) × Fit p
Enabled no_packet s = Unit {0}
Enabled (at_relay p) s = Mem p s.packets
Enabled (at_node j p) s = Mem p s.packets × (s.halted j ≡ false)
Enabled (opens after named fresh) s = Unit {0}
Enabled (fences j) s = Unit {0}
Enabled (copies i a b) s = Unit {0}
Enabled activates s = Unit {0}
Enabled cancels s = Unit {0}
Enabled (removes j) s = s.halted j ≡ true
Enabled (enters j id key) s = length key ≡ key_size
Enabled (halts j) s = Unit {0}

-- ---- the start, as document 01 has it: a record at its start, every table blank, nothing sent

pub record Start (s : State) : Type 0 where
  pub length : ℕ
  pub places : List ℕ
  pub count : ℕ
  pub chain : s.chain ≡ start_chain length places count
  pub rules : ChainRules s.chain
  pub blank : (j : ℕ) → s.table j ≡ blank_table j count
  pub awake : (j : ℕ) → s.halted j ≡ false
  pub quiet : s.packets ≡ []
  pub fresh : s.trace ≡ []
  pub unwritten : s.origin ≡ []

-- ---- runs

pub data Reach : State → Type 0 where
  start : {s : State} → Start s → Reach s
  step : {s : State} → Reach s → (e : Event) → Enabled e s → Reach (exec e s)

-- from then on
pub data Run (s : State) : State → Type 0 where
  stay : Run s s
  more : {t : State} → Run s t → (e : Event) → Enabled e t → Run s (exec e t)
