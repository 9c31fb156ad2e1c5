-- What a public call does in the system over bytes: for every state that holds what the call was given, the event stores what the call left.
use Rattle.std.specs.Prelude.{ℕ, ◌≡◌, List, Bool, eqb}
use Rattle.wire.specs.Numbers.{Out, ok, pick}
use Rattle.store.specs.Table.{blank_bytes}
use Rattle.steps.specs.declared.Chain.{Chain}
use Rattle.steps.specs.Chain.{start_call}
use Rattle.steps.specs.Relay.{Outcome, outcome_number}
use Rattle.claims.specs.Bytes.{EventB, asking, relaying, stepping, opening, fencing, copying, entering, StateB, after_relay, after_node, after_control, after_control_at, exec_b}

-- ---- the start: a record that is given is one to start with, and after number 0 the table one that a node starts with

pub record StartEvent (length : ℕ) (places : List ℕ) (count : ℕ) (o : Out Chain) : Type 0 where
  pub start : (r : Chain) → o ≡ ok r → start_call length places count ≡ ok r

pub record BlankEvent (id count n : ℕ) (t : List ℕ) : Type 0 where
  pub blank : n ≡ 0 → t ≡ blank_bytes id count

-- ---- steps

-- a node step on table t: the table is stored, the number recorded, and the packet in the outlet added, or none
pub record NodeEvent (t p out : List ℕ) (n : ℕ) (t' out' : List ℕ) : Type 0 where
  pub event : (s : StateB) (j : ℕ) → s.table j ≡ t → exec_b (stepping j p out) s ≡ after_node j p out s n t' out'

-- a relay step, of a client's bytes and of a packet that was made
pub record RelayEvent (r : Chain) (p out : List ℕ) (o : Outcome) (out' : List ℕ) : Type 0 where
  pub asks : (s : StateB) → s.chain ≡ r → exec_b (asking p out) s ≡ after_relay (asking p out) s (outcome_number o) out'
  pub relays : (s : StateB) → s.chain ≡ r → exec_b (relaying p out) s ≡ after_relay (relaying p out) s (outcome_number o) out'

-- a controller step on the record alone
pub record ControlEvent (e : EventB) (r : Chain) (n : ℕ) (r' : Chain) : Type 0 where
  pub event : (s : StateB) → s.chain ≡ r → exec_b e s ≡ after_control e s n r'

-- open; after number 0 the new node's table is blank
pub record OpenEvent (r : Chain) (after : Bool) (named fresh : ℕ) (n : ℕ) (r' : Chain) : Type 0 where
  pub event : (s : StateB) → s.chain ≡ r
      → exec_b (opening after named fresh) s ≡ after_control_at (opening after named fresh) s n r' fresh (pick (eqb n 0) (blank_bytes fresh r.count) (s.table fresh))

-- fence and enter, on the table of any node; copy, on the tables of any two
pub record FenceEvent (r : Chain) (t : List ℕ) (n : ℕ) (r' : Chain) (t' : List ℕ) : Type 0 where
  pub event : (s : StateB) (j : ℕ) → s.chain ≡ r → s.table j ≡ t → exec_b (fencing j) s ≡ after_control_at (fencing j) s n r' j t'

pub record EnterEvent (r : Chain) (t : List ℕ) (id : ℕ) (key : List ℕ) (n : ℕ) (t' : List ℕ) : Type 0 where
  pub event : (s : StateB) (j : ℕ) → s.chain ≡ r → s.table j ≡ t → exec_b (entering j id key) s ≡ after_control_at (entering j id key) s n r j t'

pub record CopyEvent (r : Chain) (i : ℕ) (named fresh : List ℕ) (n : ℕ) (r' : Chain) (fresh' : List ℕ) : Type 0 where
  pub event : (s : StateB) (a b : ℕ) → s.chain ≡ r → s.table a ≡ named → s.table b ≡ fresh → exec_b (copying i a b) s ≡ after_control_at (copying i a b) s n r' b fresh'
