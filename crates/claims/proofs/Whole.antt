-- The whole chain from the code to demand 3, in the order in which it is to be read.
-- Nothing is proved here: each declaration repeats a statement and names the law that proves it.
use Prim.Native.Nat.{ℕ, ◌≤◌}
use mathlib.Core.Path.{◌≡◌}
use mathlib.Core.Bool.{Bool, true}
use mathlib.Core.List.{List, Memᴰ as Mem}
use mathlib.Core.Logic.{◌↔◌}
use lib.ListN.{length}
use Rattle.wire.specs.Numbers.{Judged, Out, ok}
use Rattle.wire.specs.Version.{zero_version}
use Rattle.wire.specs.Packet.{Packet, bytes_of, key_of, outlet_size}
use Rattle.wire.specs.declared.Version.{Version}
use Rattle.store.specs.Table.{blank_call, blank_rows, BlankGives}
use Rattle.store.specs.Held.{Content}
use Rattle.store.proofs.Blank.{blank_judged, blank_once}
use Rattle.steps.specs.declared.Chain.{Chain}
use Rattle.steps.specs.Chain.{start_call, start_rows}
use Rattle.steps.specs.Node.{node_call, node_rows, NodeGives}
use Rattle.steps.specs.Relay.{Outcome, relay_call, relay_rows, RelayGives}
use Rattle.steps.specs.Control.{open_call, open_rows, fence_call, fence_rows, copy_call, copy_rows, activate_call, activate_rows, cancel_call, cancel_rows, remove_call, remove_rows, enter_call, enter_rows, ChainGives, FenceGives, CopyGives, EnterGives}
use Rattle.steps.specs.Marked.{examples, all_hold}
use Rattle.steps.proofs.Marked.{marked}
use Rattle.steps.proofs.ChainRules.{start_judged}
use Rattle.steps.proofs.Node.{node_judged}
use Rattle.steps.proofs.NodeGives.{node_once}
use Rattle.steps.proofs.Relay.{relay_judged}
use Rattle.steps.proofs.RelaySends.{relay_once}
use Rattle.steps.proofs.Control.{open_judged, fence_judged, copy_judged, activate_judged, cancel_judged, remove_judged, enter_judged}
use Rattle.steps.proofs.ControlLaws.{chain_once, fence_once, copy_once, enter_once}
use Rattle.node.proofs.step.Statement.{statement as node_promise}
use Rattle.node.proofs.step.Met.{met as node_met}
use Rattle.relay.proofs.step.Statement.{statement as relay_promise}
use Rattle.relay.proofs.step.Met.{met as relay_met}
use Rattle.record.proofs.open.Statement.{statement as open_promise}
use Rattle.record.proofs.open.Met.{met as open_met}
use Rattle.control.proofs.fence.Statement.{statement as fence_promise}
use Rattle.control.proofs.fence.Met.{met as fence_met}
use Rattle.control.proofs.copy.Statement.{statement as copy_promise}
use Rattle.control.proofs.copy.Met.{met as copy_met}
use Rattle.record.proofs.activate.Statement.{statement as activate_promise}
use Rattle.record.proofs.activate.Met.{met as activate_met}
use Rattle.record.proofs.cancel.Statement.{statement as cancel_promise}
use Rattle.record.proofs.cancel.Met.{met as cancel_met}
use Rattle.record.proofs.remove.Statement.{statement as remove_promise}
use Rattle.record.proofs.remove.Met.{met as remove_met}
use Rattle.control.proofs.enter.Statement.{statement as enter_promise}
use Rattle.control.proofs.enter.Met.{met as enter_met}
use Rattle.chain.proofs.start.Statement.{statement as start_promise}
use Rattle.chain.proofs.start.Met.{met as start_met}
use Rattle.table.proofs.blank.Statement.{statement as blank_promise}
use Rattle.table.proofs.blank.Met.{met as blank_met}
use Rattle.register.specs.Boundary.{Leaves}
use Rattle.register.proofs.Once.{once}
use Rattle.register.proofs.register_node_step.Statement.{statement as register_node_step_promise}
use Rattle.register.proofs.register_node_step.Met.{met as register_node_step_met}
use Rattle.register.proofs.register_relay_step.Statement.{statement as register_relay_step_promise}
use Rattle.register.proofs.register_relay_step.Met.{met as register_relay_step_met}
use Rattle.register.proofs.register_open.Statement.{statement as register_open_promise}
use Rattle.register.proofs.register_open.Met.{met as register_open_met}
use Rattle.register.proofs.register_fence.Statement.{statement as register_fence_promise}
use Rattle.register.proofs.register_fence.Met.{met as register_fence_met}
use Rattle.register.proofs.register_copy.Statement.{statement as register_copy_promise}
use Rattle.register.proofs.register_copy.Met.{met as register_copy_met}
use Rattle.register.proofs.register_activate.Statement.{statement as register_activate_promise}
use Rattle.register.proofs.register_activate.Met.{met as register_activate_met}
use Rattle.register.proofs.register_cancel.Statement.{statement as register_cancel_promise}
use Rattle.register.proofs.register_cancel.Met.{met as register_cancel_met}
use Rattle.register.proofs.register_remove.Statement.{statement as register_remove_promise}
use Rattle.register.proofs.register_remove.Met.{met as register_remove_met}
use Rattle.register.proofs.register_enter.Statement.{statement as register_enter_promise}
use Rattle.register.proofs.register_enter.Met.{met as register_enter_met}
use Rattle.register.proofs.register_start.Statement.{statement as register_start_promise}
use Rattle.register.proofs.register_start.Met.{met as register_start_met}
use Rattle.register.proofs.register_blank.Statement.{statement as register_blank_promise}
use Rattle.register.proofs.register_blank.Met.{met as register_blank_met}
use Rattle.numbers.specs.Record.{record_of}
use Rattle.protocol.specs.System.{numbered, acked, shown, ghosts, Reach, Run}
use Rattle.protocol.specs.Runs.{write_a, bench_start, bench_events, bench_outcomes, incident_start, incident_events, incident_outcomes, two_start, head_events, head_outcomes, tail_events, tail_outcomes, delete_events, delete_outcomes, every_events, every_outcomes}
use Rattle.claims.specs.Bytes.{activating as activates, cancelling as cancels, removing as removes, EntryB, StateB, ReachB, RunB}
use Rattle.claims.specs.Events.{BlankEvent, NodeEvent, RelayEvent, ControlEvent, OpenEvent, FenceEvent, CopyEvent, EnterEvent}
use Rattle.claims.specs.Caller.{Caller}
use Rattle.claims.specs.Exports.{ExportCaller}
use Rattle.claims.specs.Headline.{Acks, Shows, Numbers, ChainOrder, OneContent, AllNumbered, NumbersRise, AckedHeld, ReadsRise, Demand3B, ClientWrite, Ready, AcknowledgedB}
use Rattle.claims.proofs.Decode.{decode}
use Rattle.claims.proofs.Images.{SoundB}
use Rattle.claims.proofs.Bridge.{bridge, bridge_run}
use Rattle.claims.proofs.Said.{numbered_both, acked_both, shown_both}
use Rattle.claims.proofs.Events.{node_event, relay_event, open_event, fence_event, copy_event, activate_event, cancel_event, remove_event, enter_event, blank_event, caller_reaches, reaches_caller}
use Rattle.claims.proofs.Back.{Happens, bench_bytes, incident_bytes, head_bytes, tail_bytes, delete_bytes, every_bytes, Acknowledges, bench_acknowledges}
use Rattle.claims.proofs.Headline.{demand_b}
use Rattle.claims.proofs.Live.{acknowledged_b}
use Rattle.claims.proofs.Facts.{Rules, rules_kept}
use Rattle.claims.proofs.Exports.{export_caller_is}
use Rattle.claims.proofs.ExportRuns.{reaches_exports, runs_exports}
use Rattle.claims.proofs.stepping.Statement.{statement as stepping_promise}
use Rattle.claims.proofs.stepping.Met.{met as stepping_met}
use Rattle.claims.proofs.relaying.Statement.{statement as relaying_promise}
use Rattle.claims.proofs.relaying.Met.{met as relaying_met}
use Rattle.claims.proofs.opening.Statement.{statement as opening_promise}
use Rattle.claims.proofs.opening.Met.{met as opening_met}
use Rattle.claims.proofs.fencing.Statement.{statement as fencing_promise}
use Rattle.claims.proofs.fencing.Met.{met as fencing_met}
use Rattle.claims.proofs.copying.Statement.{statement as copying_promise}
use Rattle.claims.proofs.copying.Met.{met as copying_met}
use Rattle.claims.proofs.activating.Statement.{statement as activating_promise}
use Rattle.claims.proofs.activating.Met.{met as activating_met}
use Rattle.claims.proofs.cancelling.Statement.{statement as cancelling_promise}
use Rattle.claims.proofs.cancelling.Met.{met as cancelling_met}
use Rattle.claims.proofs.removing.Statement.{statement as removing_promise}
use Rattle.claims.proofs.removing.Met.{met as removing_met}
use Rattle.claims.proofs.entering.Statement.{statement as entering_promise}
use Rattle.claims.proofs.entering.Met.{met as entering_met}
use Rattle.claims.proofs.starting.Statement.{statement as starting_promise}
use Rattle.claims.proofs.starting.Met.{met as starting_met}
use Rattle.claims.proofs.blanking.Statement.{statement as blanking_promise}
use Rattle.claims.proofs.blanking.Met.{met as blanking_met}

-- ---- 1. The definitions are document 01

-- its marked examples, one list under one statement
pub examples_hold : all_hold examples ≡ true
examples_hold = marked

-- a call gives the number of the first row that applies, of its rows of document 01's table; it is done where none applies
pub node_rows_lem : (t p out : List ℕ) → Judged (node_rows t p out) (node_call t p out)
node_rows_lem = node_judged

pub relay_rows_lem : (r : Chain) (p out : List ℕ) → Judged (relay_rows r p out) (relay_call r p out)
relay_rows_lem = relay_judged

pub open_rows_lem : (r : Chain) (after : Bool) (named fresh : ℕ) → Judged (open_rows r after named fresh) (open_call r after named fresh)
open_rows_lem = open_judged

pub fence_rows_lem : (r : Chain) (t : List ℕ) → Judged (fence_rows r t) (fence_call r t)
fence_rows_lem = fence_judged

pub copy_rows_lem : (r : Chain) (i : ℕ) (named fresh : List ℕ) → Judged (copy_rows r i named fresh) (copy_call r i named fresh)
copy_rows_lem = copy_judged

pub activate_rows_lem : (r : Chain) → Judged (activate_rows r) (activate_call r)
activate_rows_lem = activate_judged

pub cancel_rows_lem : (r : Chain) → Judged (cancel_rows r) (cancel_call r)
cancel_rows_lem = cancel_judged

pub remove_rows_lem : (r : Chain) (id : ℕ) → Judged (remove_rows r id) (remove_call r id)
remove_rows_lem = remove_judged

pub enter_rows_lem : (r : Chain) (t : List ℕ) (id : ℕ) (key : List ℕ) → Judged (enter_rows r t id key) (enter_call r t id key)
enter_rows_lem = enter_judged

pub start_rows_lem : (n : ℕ) (places : List ℕ) (count : ℕ) → Judged (start_rows n places count) (start_call n places count)
start_rows_lem = start_judged

pub blank_rows_lem : (t : List ℕ) (id n : ℕ) → Judged (blank_rows t id n) (blank_call t id n)
blank_rows_lem = blank_judged

-- ---- 2. A promise determines the outcome: no second one fits

pub node_determined : {t p out : List ℕ} {m n : ℕ} {t₁ t₂ out₁ out₂ : List ℕ} → NodeGives t p out m t₁ out₁ → NodeGives t p out n t₂ out₂ → (m ≡ n) × (t₁ ≡ t₂) × (out₁ ≡ out₂)
node_determined = node_once

pub relay_determined : {r : Chain} {p out : List ℕ} {o₁ o₂ : Outcome} {out₁ out₂ : List ℕ} → RelayGives r p out o₁ out₁ → RelayGives r p out o₂ out₂ → (o₁ ≡ o₂) × (out₁ ≡ out₂)
relay_determined = relay_once

-- open, activate, cancel, remove
pub record_determined : {r : Chain} {o : Out Chain} {m n : ℕ} {r₁ r₂ : Chain} → ChainGives r o m r₁ → ChainGives r o n r₂ → (m ≡ n) × (r₁ ≡ r₂)
record_determined = chain_once

pub fence_determined : {r : Chain} {t : List ℕ} {m n : ℕ} {r₁ r₂ : Chain} {t₁ t₂ : List ℕ} → FenceGives r t m r₁ t₁ → FenceGives r t n r₂ t₂ → (m ≡ n) × (r₁ ≡ r₂) × (t₁ ≡ t₂)
fence_determined = fence_once

pub copy_determined : {r : Chain} {i : ℕ} {named fresh : List ℕ} {m n : ℕ} {r₁ r₂ : Chain} {t₁ t₂ : List ℕ} → CopyGives r i named fresh m r₁ t₁ → CopyGives r i named fresh n r₂ t₂ → (m ≡ n) × (r₁ ≡ r₂) × (t₁ ≡ t₂)
copy_determined = copy_once

pub enter_determined : {r : Chain} {t : List ℕ} {id : ℕ} {key : List ℕ} {m n : ℕ} {t₁ t₂ : List ℕ} → EnterGives r t id key m t₁ → EnterGives r t id key n t₂ → (m ≡ n) × (t₁ ≡ t₂)
enter_determined = enter_once

pub blank_determined : (t : List ℕ) (id count n m : ℕ) (u v : List ℕ) → BlankGives t id count n u → BlankGives t id count m v → (n ≡ m) × (u ≡ v)
blank_determined = blank_once

-- ---- 3. The code keeps its promises: the theorem of each function; the promise stands over its body

-- node::step
pub node_code : {M : Type 1} → node_promise M
node_code = node_met

-- relay::step
pub relay_code_lem : {M : Type 1} → relay_promise M
relay_code_lem = relay_met

-- record::open
pub open_code : {M : Type 1} → open_promise M
open_code = open_met

-- control::fence
pub fence_code : {M : Type 1} → fence_promise M
fence_code = fence_met

-- control::copy
pub copy_code : {M : Type 1} → copy_promise M
copy_code = copy_met

-- record::activate
pub activate_code : {M : Type 1} → activate_promise M
activate_code = activate_met

-- record::cancel
pub cancel_code : {M : Type 1} → cancel_promise M
cancel_code = cancel_met

-- record::remove
pub remove_code : {M : Type 1} → remove_promise M
remove_code = remove_met

-- control::enter
pub enter_code : {M : Type 1} → enter_promise M
enter_code = enter_met

-- chain::start
pub start_code : {M : Type 1} → start_promise M
start_code = start_met

-- table::blank
pub blank_code : {M : Type 1} → blank_promise M
blank_code = blank_met

-- ---- 4. A call is an event of the system over bytes: the theorem of the function of this crate that makes the call, and the law from promise to event

pub node_call_lem : {M : Type 1} → stepping_promise M
node_call_lem = stepping_met

pub node_is : {t p out : List ℕ} {n : ℕ} {t' out' : List ℕ} → NodeGives t p out n t' out' → NodeEvent t p out n t' out'
node_is = node_event

pub relay_call_lem : {M : Type 1} → relaying_promise M
relay_call_lem = relaying_met

pub relay_is : {r : Chain} {p out : List ℕ} {o : Outcome} {out' : List ℕ} → RelayGives r p out o out' → RelayEvent r p out o out'
relay_is = relay_event

pub open_call_lem : {M : Type 1} → opening_promise M
open_call_lem = opening_met

pub open_is : {r : Chain} {after : Bool} {named fresh n : ℕ} {r' : Chain} → ChainGives r (open_call r after named fresh) n r' → OpenEvent r after named fresh n r'
open_is = open_event

pub fence_call_lem : {M : Type 1} → fencing_promise M
fence_call_lem = fencing_met

pub fence_is : {r : Chain} {t : List ℕ} {n : ℕ} {r' : Chain} {t' : List ℕ} → FenceGives r t n r' t' → FenceEvent r t n r' t'
fence_is = fence_event

pub copy_call_lem : {M : Type 1} → copying_promise M
copy_call_lem = copying_met

pub copy_is : {r : Chain} {i : ℕ} {named fresh : List ℕ} {n : ℕ} {r' : Chain} {fresh' : List ℕ} → CopyGives r i named fresh n r' fresh' → CopyEvent r i named fresh n r' fresh'
copy_is = copy_event

pub activate_call_lem : {M : Type 1} → activating_promise M
activate_call_lem = activating_met

pub activate_is : {r : Chain} {n : ℕ} {r' : Chain} → ChainGives r (activate_call r) n r' → ControlEvent activates r n r'
activate_is = activate_event

pub cancel_call_lem : {M : Type 1} → cancelling_promise M
cancel_call_lem = cancelling_met

pub cancel_is : {r : Chain} {n : ℕ} {r' : Chain} → ChainGives r (cancel_call r) n r' → ControlEvent cancels r n r'
cancel_is = cancel_event

pub remove_call_lem : {M : Type 1} → removing_promise M
remove_call_lem = removing_met

pub remove_is : {r : Chain} {id n : ℕ} {r' : Chain} → ChainGives r (remove_call r id) n r' → ControlEvent (removes id) r n r'
remove_is = remove_event

pub enter_call_lem : {M : Type 1} → entering_promise M
enter_call_lem = entering_met

pub enter_is : {r : Chain} {t : List ℕ} {id : ℕ} {key : List ℕ} {n : ℕ} {t' : List ℕ} → EnterGives r t id key n t' → EnterEvent r t id key n t'
enter_is = enter_event

pub start_call_lem : {M : Type 1} → starting_promise M
start_call_lem = starting_met

pub blank_call_lem : {M : Type 1} → blanking_promise M
blank_call_lem = blanking_met

pub blank_is : {t : List ℕ} {id count n : ℕ} {t' : List ℕ} → BlankGives t id count n t' → BlankEvent id count n t'
blank_is = blank_event

-- ---- 5. A caller that starts as document 01 says and stores what each call leaves is in the system over bytes, and every run of that system is such a caller's

pub caller_is : {s : StateB} → Caller s ↔ ReachB s
caller_is = (caller_reaches, reaches_caller)

-- ---- 6. The bridge: a reachable state is sound, the decoded system reaches its image, and runs are runs; trace and ghosts say the same

pub reached : {s : StateB} → ReachB s → SoundB s × Reach (decode s)
reached = bridge

pub run : {s t : StateB} → SoundB s → RunB s t → SoundB t × Run (decode s) (decode t)
run = bridge_run

pub numbered_is : {s : StateB} → ReachB s → (k : List ℕ) (v : Version) (c : Content) (j : ℕ)
    → ((b : Version) × (p : Packet) × Mem (numbered k v c j b p) (ghosts (decode s))) ↔ ((x : EntryB) × Mem x s.trace × Numbers x j k v c)
numbered_is = numbered_both

pub acked_is : {s : StateB} → ReachB s → (k : List ℕ) (v : Version) → ((q : Packet) × Mem (acked k v q) (ghosts (decode s))) ↔ ((x : EntryB) × Mem x s.trace × Acks x k v)
acked_is = acked_both

pub shown_is : {s : StateB} → ReachB s → (k : List ℕ) (v : Version) → ((q : Packet) × Mem (shown k v q) (ghosts (decode s))) ↔ ((x : EntryB) × Mem x s.trace × Shows x k v)
shown_is = shown_both

-- ---- 7. Demand 3, for each key, of every state that such a caller comes to

-- no chain node holds a lower version than a node behind it
pub chain_order : (k : List ℕ) (s : StateB) → Caller s → ChainOrder s k
chain_order k s c = (demand_b k s (caller_reaches c)).order

-- one numbered version never stands for two contents
pub one_content_lem : (k : List ℕ) (s : StateB) → Caller s → OneContent s k
one_content_lem k s c = (demand_b k s (caller_reaches c)).one_content

-- and nothing stands anywhere but what a node gave a number
pub all_numbered_lem : (k : List ℕ) (s : StateB) → Caller s → AllNumbered s k
all_numbered_lem k s c = (demand_b k s (caller_reaches c)).all_numbered

-- each numbering of a key is higher than every earlier one
pub numbers_rise_lem : (k : List ℕ) (s : StateB) → Caller s → NumbersRise s k
numbers_rise_lem k s c = (demand_b k s (caller_reaches c)).numbers_rise

-- once a write or delete has been acknowledged, every chain node holds it or a later one from then on
pub acked_held_lem : (k : List ℕ) (s : StateB) → Caller s → AckedHeld s k
acked_held_lem k s c = (demand_b k s (caller_reaches c)).acked_held

-- a read answered by a node shows a version no lower than any earlier answered read showed and any earlier acknowledgement carried
pub reads_rise_lem : (k : List ℕ) (s : StateB) → Caller s → ReadsRise s k
reads_rise_lem k s c = (demand_b k s (caller_reaches c)).reads_rise

-- ---- 8. The acknowledged write, from any such state

pub write_acknowledged : (s : StateB) (p : List ℕ) → Caller s → ClientWrite p → Ready s (key_of p) → (out : List ℕ) → outlet_size ≤ length out → AcknowledgedB s p out
write_acknowledged s p c = acknowledged_b s p (caller_reaches c)

-- ---- 9. Record, tables and packets of any such state keep the rules

pub rules : (s : StateB) → Caller s → Rules s
rules s c = rules_kept s (caller_reaches c)

-- ---- 10. Runs that exist: such callers there are, and states from which a write is acknowledged

-- document 01's bench example
pub bench : Happens bench_start bench_events bench_outcomes
bench = bench_bytes

-- a node is replaced while a packet to its neighbour is on the wire
pub incident : Happens incident_start incident_events incident_outcomes
incident = incident_bytes

-- a first node replaced, and a last node
pub head_replaced : Happens two_start head_events head_outcomes
head_replaced = head_bytes

pub tail_replaced : Happens two_start tail_events tail_outcomes
tail_replaced = tail_bytes

-- a key never written, a key not there, a write, a delete and another write, each with a read
pub deleted : Happens two_start delete_events delete_outcomes
deleted = delete_bytes

-- every kind of event, done and refused; bytes that are no packet among them
pub every_event : Happens two_start every_events every_outcomes
every_event = every_bytes

-- the bench example's write, when its keys are entered: the premises of 8 are met
pub bench_written : Acknowledges (bytes_of (write_a 0 0 0 zero_version))
bench_written = bench_acknowledges

-- ---- 11. The C exports: each keeps its promise, and a caller that stores what they leave is a caller of 5

-- register_node_step
pub register_node_step_code : {M : Type 1} → register_node_step_promise M
register_node_step_code = register_node_step_met

-- register_relay_step
pub register_relay_step_code : {M : Type 1} → register_relay_step_promise M
register_relay_step_code = register_relay_step_met

-- register_open
pub register_open_code : {M : Type 1} → register_open_promise M
register_open_code = register_open_met

-- register_fence
pub register_fence_code : {M : Type 1} → register_fence_promise M
register_fence_code = register_fence_met

-- register_copy
pub register_copy_code : {M : Type 1} → register_copy_promise M
register_copy_code = register_copy_met

-- register_activate
pub register_activate_code : {M : Type 1} → register_activate_promise M
register_activate_code = register_activate_met

-- register_cancel
pub register_cancel_code : {M : Type 1} → register_cancel_promise M
register_cancel_code = register_cancel_met

-- register_remove
pub register_remove_code : {M : Type 1} → register_remove_promise M
register_remove_code = register_remove_met

-- register_enter
pub register_enter_code : {M : Type 1} → register_enter_promise M
register_enter_code = register_enter_met

-- register_start
pub register_start_code : {M : Type 1} → register_start_promise M
register_start_code = register_start_met

-- register_blank
pub register_blank_code : {M : Type 1} → register_blank_promise M
register_blank_code = register_blank_met

-- its promise determines what it leaves
pub exports_determined : {A S : Type 0} {code : Out A → ℕ} {make : A → S} {o : Out A} {m n : ℕ} {s s₁ s₂ : S} → Leaves code make o m s s₁ → Leaves code make o n s s₂ → (m ≡ n) × (s₁ ≡ s₂)
exports_determined = once

-- such a caller's numbers stand for the record
pub exports_are : {l : List ℕ} {s : StateB} → ExportCaller l s → Caller s × (record_of l ≡ ok s.chain)
exports_are = export_caller_is

-- such callers there are: every run of 5 is one of the exports, document 01's bench example among them
pub exports_run : {s : StateB} → Caller s → (l : List ℕ) × ExportCaller l s
exports_run c = reaches_exports (caller_reaches c)

pub exports_bench : (l : List ℕ) × ExportCaller l bench.state
exports_bench = exports_run bench.called

pub exports_go_on : {l : List ℕ} {s t : StateB} → ExportCaller l s → RunB s t → (l' : List ℕ) × ExportCaller l' t
exports_go_on = runs_exports

-- demand 3
pub exports_demand : (k l : List ℕ) (s : StateB) → ExportCaller l s → Demand3B s k
exports_demand k l s x = demand_b k s (caller_reaches (exports_are x).0)

-- the acknowledged write
pub exports_acknowledge : (l : List ℕ) (s : StateB) (p : List ℕ) → ExportCaller l s → ClientWrite p → Ready s (key_of p) → (out : List ℕ) → outlet_size ≤ length out → AcknowledgedB s p out
exports_acknowledge l s p x = write_acknowledged s p (exports_are x).0
