-- No second outcome fits the promises of the first parcels, of keeping one and of a line that sends: two that do, for one input, are equal.
use Prim.Native.Nat.{ℕ}
use mathlib.Core.Path.{◌≡◌, sym, ◌∙◌}
use mathlib.Core.List.{List}
use Rattle.std.specs.Prelude.{Result}
use Rattle.be.specs.Promise.{Exact}
use Rattle.be.proofs.Promise.{equation}
use Rattle.lines.specs.declared.output.Place.{Place}
use Rattle.parcels.specs.declared.Fault.{Fault}
use Rattle.parcels.specs.declared.Parcels.{Parcels}
use Rattle.parcels.specs.Parcels.{KeepGives}
use Rattle.parcels.specs.Query.{SendGives}
use Rattle.parcels.proofs.Parcels.new.Reads as new

pub new_exact : Exact new.Asked new.Learnt (λ r e. r)
new_exact = equation

pub keep_once : (ps : Parcels) (to : Place) (outlet : List ℕ) (m n : Result (Unit {0}) Fault) (a b : Parcels) → KeepGives ps to outlet m a → KeepGives ps to outlet n b → (m ≡ n) × (a ≡ b)
keep_once ps to outlet m n a b g h = (g.answer ∙ sym h.answer, g.after ∙ sym h.after)

pub send_once : (ps : Parcels) (op : ℕ) (line : List ℕ) (m n : Result (Unit {0}) Fault) (a b : Parcels) → SendGives ps op line m a → SendGives ps op line n b → (m ≡ n) × (a ≡ b)
send_once ps op line m n a b g h = keep_once ps _ _ m n a b g h
