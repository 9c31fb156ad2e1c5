-- The loop's invariant: s is as it was but for the first i of src, copied.
use Rattle.std.proofs.Common.{◌≡◌}
use Rattle.std.proofs.Math.Seq.{paste}
use Rattle.be.proofs.put_short.Given as goal

abbrev pub invariant-loop-i : goal.invariant-loop-i
invariant-loop-i l = l.s ≡ paste l.fn.s l.at l.src l.i
