-- The loop has read the digits before the index.
use Rattle.std.proofs.Common.{◌≡◌, ◌≤◌, drop}
use Rattle.script.specs.Sizes.{most_number}
use Rattle.script.specs.Words.{number_from}
use Rattle.script.proofs.number.Given as goal

abbrev pub invariant-loop-b : goal.invariant-loop-b
invariant-loop-b l = (l.n ≤ most_number) × (number_from 0 l.w ≡ number_from l.n (drop l.b-index l.w))
