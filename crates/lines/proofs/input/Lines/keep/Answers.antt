-- `lines::input::Lines::keep`: a line has no more bytes than it may have.
use Rattle.std.proofs.Common.{arith, rules}
use Rattle.lines.proofs.input.Lines.keep.Goals as goal

pub invariant_of-self : goal.invariant_of-self
invariant_of-self g c = record { in_order = search rules; in_read = search rules; in_line = omega arith }
