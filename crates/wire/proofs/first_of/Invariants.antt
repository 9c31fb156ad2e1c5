-- The loop's invariant: the number of all rows is that of the rows from the next one on.
use Rattle.std.proofs.Common.{◌≡◌, ℕ, drop}
use Rattle.wire.specs.Numbers.{first_number, tests_of}
use Rattle.wire.proofs.first_of.Given as goal

abbrev pub invariant-loop-applies : goal.invariant-loop-applies
invariant-loop-applies g l = ◌≡◌ {A = ℕ} (first_number (tests_of l.fn.rows)) (first_number (tests_of (drop l.applies-index l.fn.rows)))
