-- Settling a step's number and the number of an outcome ask nothing of their caller, whatever number they are given, and leave one outcome.
use mathlib.Core.Path.{sym, ◌∙◌}
use mathlib.Core.List.{List}
use Prim.Native.Nat.{ℕ}
use Rattle.std.proofs.Common.{rules}
use Rattle.be.specs.Promise.{Exact}
use Rattle.be.proofs.Promise.{equation_once, pair}
use Rattle.numbers.proofs.settle.Reads as settle
use Rattle.numbers.proofs.outcome.Reads as outcome

pub settle_exact : Exact {O = ℕ × List ℕ} settle.Asked settle.Learnt (λ r e. (r, e.0.now))
settle_exact = record { asks = λ κs a. search rules; once = record { one = λ κs a r s e f p q. pair (p.number ∙ sym q.number, p.numbers ∙ sym q.numbers) } }

pub outcome_exact : Exact outcome.Asked outcome.Learnt (λ r e. r)
outcome_exact = record { asks = λ κs a. search rules; once = equation_once }
