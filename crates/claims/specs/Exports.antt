-- A caller of the C exports: it holds the record as its numbers, tables and packets, makes the calls that may be made, and stores what each of them leaves.
-- Of an export it knows the promise alone. The record of the state is the one that the numbers stand for.
use Rattle.std.specs.Prelude.{ℕ, ◌^◌, ◌<◌, ◌≡◌, Bool, true, false, ltb}
use mathlib.Core.List.{List, [], Memᴰ as Mem}
use Rattle.wire.specs.Numbers.{pick}
use Rattle.store.specs.Table.{BlankGives}
use Rattle.steps.specs.Node.{NodeGives}
use Rattle.numbers.specs.Record.{kind_before, kind_after, chain_of}
use Rattle.numbers.specs.Answers.{client_code}
use Rattle.register.specs.Boundary.{RelayLeaves, OpenLeaves, Kind, FenceLeaves, CopyLeaves, ActivateLeaves, CancelLeaves, RemoveLeaves, EnterLeaves, StartLeaves}
use Rattle.claims.specs.Bytes.{IsNode, asking, relaying, stepping, opening, fencing, copying, activating, cancelling, removing, entering, halting, StateB, after_relay, after_node, after_control, after_control_at, exec_b, EnabledB}

-- document 01's number in what the relay step returns: a refusal as it is, and 0 where it was sent
abbrev pub relay_number : ℕ → ℕ
relay_number n = pick (ltb n client_code) n 0

-- the kind of change that open takes
abbrev pub side_kind : Bool → ℕ
side_kind false = kind_before
side_kind true = kind_after

-- the start: the numbers that register_start leaves in some room, of ids of 16 bits, and every node's table made blank
pub record ExportStart (l : List ℕ) (s : StateB) : Type 0 where
  pub room : List ℕ
  pub ids : List ℕ
  pub count : ℕ
  pub numbers : StartLeaves room ids count 0 l
  pub fit : (j : ℕ) → Mem j ids → j < 256 ^ 2
  pub chain : chain_of l ≡ s.chain
  pub blank : (j : ℕ) → IsNode j → (t : List ℕ) × BlankGives t j count 0 (s.table j)
  pub awake : (j : ℕ) → s.halted j ≡ false
  pub quiet : s.packets ≡ []
  pub fresh : s.trace ≡ []
  pub unwritten : s.origin ≡ []

pub data ExportCaller : List ℕ → StateB → Type 0 where
  begins : {l : List ℕ} {s : StateB} → ExportStart l s → ExportCaller l s
  asks : {l : List ℕ} {s : StateB} → ExportCaller l s → (p out : List ℕ) → EnabledB (asking p out) s
      → (n : ℕ) (out' : List ℕ) → RelayLeaves l p out n out' → ExportCaller l (after_relay (asking p out) s (relay_number n) out')
  relays : {l : List ℕ} {s : StateB} → ExportCaller l s → (p out : List ℕ) → EnabledB (relaying p out) s
      → (n : ℕ) (out' : List ℕ) → RelayLeaves l p out n out' → ExportCaller l (after_relay (relaying p out) s (relay_number n) out')
  steps : {l : List ℕ} {s : StateB} → ExportCaller l s → (j : ℕ) (p out : List ℕ) → EnabledB (stepping j p out) s
      → (n : ℕ) (t' out' : List ℕ) → NodeGives (s.table j) p out n t' out' → ExportCaller l (after_node j p out s n t' out')
  -- after number 0 it makes the new node's table blank
  opens : {l : List ℕ} {s : StateB} → ExportCaller l s → (after : Bool) (named fresh : ℕ) → EnabledB (opening after named fresh) s
      → (n : ℕ) (l' : List ℕ) → OpenLeaves l (side_kind after) named fresh n l'
      → (t t' : List ℕ) → (n ≡ 0 → BlankGives t fresh (chain_of l).count 0 t') → ((n ≡ 0 → ⊥) → t' ≡ s.table fresh)
      → ExportCaller l' (after_control_at (opening after named fresh) s n (chain_of l') fresh t')
  -- a kind of change that is none is refused, and everything stays
  misopens : {l : List ℕ} {s : StateB} → ExportCaller l s → (kind named fresh : ℕ) → (Kind kind → ⊥) → (n : ℕ) (l' : List ℕ) → OpenLeaves l kind named fresh n l' → ExportCaller l' s
  fences : {l : List ℕ} {s : StateB} → ExportCaller l s → (j : ℕ) → EnabledB (fencing j) s
      → (n : ℕ) (l' t' : List ℕ) → FenceLeaves l (s.table j) n l' t' → ExportCaller l' (after_control_at (fencing j) s n (chain_of l') j t')
  copies : {l : List ℕ} {s : StateB} → ExportCaller l s → (i a b : ℕ) → EnabledB (copying i a b) s
      → (n : ℕ) (l' t' : List ℕ) → CopyLeaves l i (s.table a) (s.table b) n l' t' → ExportCaller l' (after_control_at (copying i a b) s n (chain_of l') b t')
  activates : {l : List ℕ} {s : StateB} → ExportCaller l s → (n : ℕ) (l' : List ℕ) → ActivateLeaves l n l' → ExportCaller l' (after_control activating s n (chain_of l'))
  cancels : {l : List ℕ} {s : StateB} → ExportCaller l s → (n : ℕ) (l' : List ℕ) → CancelLeaves l n l' → ExportCaller l' (after_control cancelling s n (chain_of l'))
  removes : {l : List ℕ} {s : StateB} → ExportCaller l s → (id : ℕ) → EnabledB (removing id) s
      → (n : ℕ) (l' : List ℕ) → RemoveLeaves l id n l' → ExportCaller l' (after_control (removing id) s n (chain_of l'))
  enters : {l : List ℕ} {s : StateB} → ExportCaller l s → (j id : ℕ) (key : List ℕ) → EnabledB (entering j id key) s
      → (n : ℕ) (t' : List ℕ) → EnterLeaves l (s.table j) id key n t' → ExportCaller l (after_control_at (entering j id key) s n s.chain j t')
  halts : {l : List ℕ} {s : StateB} → ExportCaller l s → (j : ℕ) → ExportCaller l (exec_b (halting j) s)
