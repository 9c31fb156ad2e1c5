-- A step on the record alone, made on the record that numbers stand for.
use Rattle.std.specs.Prelude.{ℕ, List, Result}
use Rattle.wire.specs.Numbers.{code}
use Rattle.wire.specs.declared.Refusal.{Refusal}
use Rattle.steps.specs.declared.Chain.{Chain}
use Rattle.numbers.specs.Record.{record_or, Settles}

-- what it answers and the record that it leaves, and the numbers that are made of them
pub record Ruled (leaves : Chain → Result (Unit {0}) Refusal → Chain → Type 0) (l : List ℕ) (n : ℕ) (l' : List ℕ) : Type 0 where
  pub answer : Result (Unit {0}) Refusal
  pub chain : Chain
  pub left : leaves (record_or l) answer chain
  pub settles : Settles l (code answer) chain n l'
