-- A caller of the public calls: it holds record, tables and packets, makes the calls that may be made, and stores what each of them leaves.
-- Of a call it knows the promise alone.
use Rattle.std.specs.Prelude.{ℕ, ◌≡◌, List, Bool}
use Rattle.store.specs.Table.{BlankGives}
use Rattle.steps.specs.declared.Chain.{Chain}
use Rattle.steps.specs.Node.{NodeGives}
use Rattle.steps.specs.Relay.{Outcome, RelayGives, outcome_number}
use Rattle.steps.specs.Control.{ChainGives, FenceGives, CopyGives, EnterGives, open_call, activate_call, cancel_call, remove_call}
use Rattle.claims.specs.Bytes.{asking, relaying, stepping, opening, fencing, copying, activating, cancelling, removing, entering, halting, StateB, after_relay, after_node, after_control, after_control_at, exec_b, EnabledB, StartB}

pub data Caller : StateB → Type 0 where
  begins : {s : StateB} → StartB s → Caller s
  asks : {s : StateB} → Caller s → (p out : List ℕ) → EnabledB (asking p out) s
      → (o : Outcome) (out' : List ℕ) → RelayGives s.chain p out o out' → Caller (after_relay (asking p out) s (outcome_number o) out')
  relays : {s : StateB} → Caller s → (p out : List ℕ) → EnabledB (relaying p out) s
      → (o : Outcome) (out' : List ℕ) → RelayGives s.chain p out o out' → Caller (after_relay (relaying p out) s (outcome_number o) out')
  steps : {s : StateB} → Caller s → (j : ℕ) (p out : List ℕ) → EnabledB (stepping j p out) s
      → (n : ℕ) (t' out' : List ℕ) → NodeGives (s.table j) p out n t' out' → Caller (after_node j p out s n t' out')
  -- after number 0 it makes the new node's table blank
  opens : {s : StateB} → Caller s → (after : Bool) (named fresh : ℕ) → EnabledB (opening after named fresh) s
      → (n : ℕ) (r' : Chain) → ChainGives s.chain (open_call s.chain after named fresh) n r'
      → (t t' : List ℕ) → (n ≡ 0 → BlankGives t fresh s.chain.count 0 t') → ((n ≡ 0 → ⊥) → t' ≡ s.table fresh)
      → Caller (after_control_at (opening after named fresh) s n r' fresh t')
  fences : {s : StateB} → Caller s → (j : ℕ) → EnabledB (fencing j) s
      → (n : ℕ) (r' : Chain) (t' : List ℕ) → FenceGives s.chain (s.table j) n r' t' → Caller (after_control_at (fencing j) s n r' j t')
  copies : {s : StateB} → Caller s → (i a b : ℕ) → EnabledB (copying i a b) s
      → (n : ℕ) (r' : Chain) (t' : List ℕ) → CopyGives s.chain i (s.table a) (s.table b) n r' t' → Caller (after_control_at (copying i a b) s n r' b t')
  activates : {s : StateB} → Caller s → (n : ℕ) (r' : Chain) → ChainGives s.chain (activate_call s.chain) n r' → Caller (after_control activating s n r')
  cancels : {s : StateB} → Caller s → (n : ℕ) (r' : Chain) → ChainGives s.chain (cancel_call s.chain) n r' → Caller (after_control cancelling s n r')
  removes : {s : StateB} → Caller s → (id : ℕ) → EnabledB (removing id) s
      → (n : ℕ) (r' : Chain) → ChainGives s.chain (remove_call s.chain id) n r' → Caller (after_control (removing id) s n r')
  enters : {s : StateB} → Caller s → (j id : ℕ) (key : List ℕ) → EnabledB (entering j id key) s
      → (n : ℕ) (t' : List ℕ) → EnterGives s.chain (s.table j) id key n t' → Caller (after_control_at (entering j id key) s n s.chain j t')
  halts : {s : StateB} → Caller s → (j : ℕ) → Caller (exec_b (halting j) s)
