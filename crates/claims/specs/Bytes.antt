-- The system over bytes, of which the promises of the code speak: its state, its events, what each event does, which may happen, what is reachable.
use Rattle.std.specs.Prelude.{ℕ, ◌+◌, ◌^◌, ◌<◌, ◌≡◌, Bool, true, false, length, get_or, take, eqb}
use mathlib.Core.List.{List, [], ◌∷◌, ◌++◌, Memᴰ as Mem}
use Rattle.be.specs.Be.{Bytes}
use Rattle.wire.specs.Numbers.{ok, number_of, left, pick}
use Rattle.wire.specs.Version.{zero_version}
use Rattle.wire.specs.Packet.{head_of, key_of, Formed, sent_in, front_size, key_size, length_at}
use Rattle.wire.specs.declared.Version.{Version}
use Rattle.store.specs.Table.{table_of, blank_bytes, write_bytes, fence_bytes}
use Rattle.store.specs.Held.{version_at}
use Rattle.steps.specs.declared.Chain.{Chain}
use Rattle.steps.specs.Chain.{members, start_call}
use Rattle.steps.specs.Node.{node_call}
use Rattle.steps.specs.Relay.{relay_call, packet_sent}
use Rattle.steps.specs.Control.{open_call, fence_call, copy_call, copy_bytes, activate_call, cancel_call, remove_call, enter_call}
use Rattle.protocol.specs.System.{Ghost, upd}

-- node ids are 1 to 65,535
abbrev pub IsNode : ℕ → Type 0
IsNode j = (0 < j) × (j < 256 ^ 2)

-- ---- events

pub data EventB : Type 0 where
  -- a client hands the relay bytes
  asking : (packet outlet : List ℕ) → EventB
  -- a packet that was made is delivered to the relay, or to any node, right or wrong; the caller lends the outlet
  relaying : (packet outlet : List ℕ) → EventB
  stepping : (node : ℕ) (packet outlet : List ℕ) → EventB
  -- controller steps; fence, copy and enter name the nodes whose tables are handed over
  opening : (after : Bool) (named fresh : ℕ) → EventB
  fencing : (node : ℕ) → EventB
  copying : (slot from to : ℕ) → EventB
  activating : EventB
  cancelling : EventB
  removing : (id : ℕ) → EventB
  entering : (node id : ℕ) (key : List ℕ) → EventB
  -- a node halts
  halting : (node : ℕ) → EventB

-- what happened: the event, the number given, the packet made, and the version that the node held of the packet's key before
pub record EntryB : Type 0 where
  pub event : EventB
  pub number : ℕ
  pub made : List (List ℕ)
  pub before : Version

-- ---- the state

pub record StateB : Type 0 where
  pub chain : Chain
  pub table : ℕ → List ℕ
  pub halted : ℕ → Bool
  -- the bytes of every packet ever made: none vanishes, so lost, repeated and reordered are all there
  pub packets : List (List ℕ)
  -- everything that happened, newest first
  pub trace : List EntryB
  -- what had been numbered before the start
  pub origin : List Ghost

-- the version that node j holds of key k, read off its bytes; a missing key counts as 0.0
abbrev pub holds_version : StateB → ℕ → List ℕ → Version
holds_version s j k = version_at k (table_of (s.table j)).slots

-- ---- what a call leaves

-- the packet at the start of an outlet
unfoldable pub first_packet : List ℕ → List ℕ
first_packet out = take (front_size + get_or out length_at 0) out

-- the packet made: the first of the outlet after number 0, none after a refusal
unfoldable pub made_in : ℕ → List ℕ → List (List ℕ)
made_in n out = pick (eqb n 0) (first_packet out ∷ []) []

abbrev pub becomes : StateB → Chain → (ℕ → List ℕ) → (ℕ → Bool) → List (List ℕ) → EventB → ℕ → Version → StateB
becomes s r t h q e n v = record {
  chain = r;
  table = t;
  halted = h;
  packets = q ++ s.packets;
  trace = record { event = e; number = n; made = q; before = v } ∷ s.trace;
  origin = s.origin;
}

-- the relay gave number n and left an outlet
abbrev pub after_relay : EventB → StateB → ℕ → List ℕ → StateB
after_relay e s n out = becomes s s.chain s.table s.halted (made_in n out) e n zero_version

-- node j, given packet p and an outlet, gave number n and left a table and the outlet
abbrev pub after_node : ℕ → List ℕ → List ℕ → StateB → ℕ → List ℕ → List ℕ → StateB
after_node j p out s n t out' =
    becomes s s.chain (upd s.table j t) s.halted (made_in n out') (stepping j p out) n (holds_version s j (key_of p))

-- the controller gave number n and left a record, and the table of node j
abbrev pub after_control : EventB → StateB → ℕ → Chain → StateB
after_control e s n r = becomes s r s.table s.halted [] e n zero_version

abbrev pub after_control_at : EventB → StateB → ℕ → Chain → ℕ → List ℕ → StateB
after_control_at e s n r j t = becomes s r (upd s.table j t) s.halted [] e n zero_version

-- ---- what an event does: it stores what the call returns

unfoldable pub exec_b : EventB → StateB → StateB
exec_b (asking p out) s =
    let o = relay_call s.chain p out in
    after_relay (asking p out) s (number_of o) (left out (λ w. sent_in out (packet_sent w)) o)
exec_b (relaying p out) s =
    let o = relay_call s.chain p out in
    after_relay (relaying p out) s (number_of o) (left out (λ w. sent_in out (packet_sent w)) o)
exec_b (stepping j p out) s =
    let t = s.table j in
    let o = node_call t p out in
    after_node j p out s (number_of o) (left t (λ x. write_bytes x.write t) o) (left out (λ x. sent_in out x.packet) o)
exec_b (opening after named fresh) s =
    let o = open_call s.chain after named fresh in
    after_control_at (opening after named fresh) s (number_of o) (left s.chain (λ r. r) o) fresh (left (s.table fresh) (λ r. blank_bytes fresh s.chain.count) o)
exec_b (fencing j) s =
    let t = s.table j in
    let o = fence_call s.chain t in
    after_control_at (fencing j) s (number_of o) (left s.chain (λ r. r) o) j (left t (λ r. fence_bytes s.chain.wiring t) o)
exec_b (copying i a b) s =
    let o = copy_call s.chain i (s.table a) (s.table b) in
    after_control_at (copying i a b) s (number_of o) (left s.chain (λ r. r) o) b (left (s.table b) (λ r. copy_bytes i (s.table a) (s.table b)) o)
exec_b activating s =
    let o = activate_call s.chain in
    after_control activating s (number_of o) (left s.chain (λ r. r) o)
exec_b cancelling s =
    let o = cancel_call s.chain in
    after_control cancelling s (number_of o) (left s.chain (λ r. r) o)
exec_b (removing id) s =
    let o = remove_call s.chain id in
    after_control (removing id) s (number_of o) (left s.chain (λ r. r) o)
exec_b (entering j id key) s =
    let t = s.table j in
    let o = enter_call s.chain t id key in
    after_control_at (entering j id key) s (number_of o) s.chain j (left t (λ w. write_bytes w t) o)
exec_b (halting j) s = becomes s s.chain s.table (upd s.halted j true) [] (halting j) 0 zero_version

-- ---- which events may happen

-- a client's bytes are no well-formed packet of another sender than 0; what is delivered was made; a halted node takes no node step; only a halted node is removed;
-- the tables are those of nodes; ids and keys fit their types
abbrev pub EnabledB : EventB → StateB → Type 0
EnabledB (asking p out) s = Bytes p × (Formed p → (head_of p).from ≡ 0)
EnabledB (relaying p out) s = Mem p s.packets
EnabledB (stepping j p out) s = IsNode j × Mem p s.packets × (s.halted j ≡ false)
EnabledB (opening after named fresh) s = fresh < 256 ^ 2
EnabledB (fencing j) s = IsNode j
EnabledB (copying i a b) s = IsNode a × IsNode b
EnabledB activating s = Unit {0}
EnabledB cancelling s = Unit {0}
EnabledB (removing id) s = s.halted id ≡ true
EnabledB (entering j id key) s = IsNode j × Bytes key × (length key ≡ key_size)
EnabledB (halting j) s = Unit {0}

-- ---- the start: a starting record, every node's table blank, nothing sent

pub record StartB (s : StateB) : Type 0 where
  pub length : ℕ
  pub places : List ℕ
  pub count : ℕ
  pub chain : start_call length places count ≡ ok s.chain
  pub nodes : (j : ℕ) → Mem j (members s.chain) → IsNode j
  pub blank : (j : ℕ) → IsNode j → s.table j ≡ blank_bytes j count
  pub awake : (j : ℕ) → s.halted j ≡ false
  pub quiet : s.packets ≡ []
  pub fresh : s.trace ≡ []
  pub unwritten : s.origin ≡ []

-- ---- runs

pub data ReachB : StateB → Type 0 where
  start_b : {s : StateB} → StartB s → ReachB s
  step_b : {s : StateB} → ReachB s → (e : EventB) → EnabledB e s → ReachB (exec_b e s)

-- from then on
pub data RunB (s : StateB) : StateB → Type 0 where
  stay_b : RunB s s
  more_b : {t : StateB} → RunB s t → (e : EventB) → EnabledB e t → RunB s (exec_b e t)
