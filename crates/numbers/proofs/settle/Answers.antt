-- `numbers::settle`: a step that is done gives the numbers of its record, and any other leaves them.
use Rattle.std.proofs.Common.{refl, ◌∙◌, rules}
use Rattle.numbers.proofs.Record.{settled, unsettled}
use Rattle.numbers.proofs.settle.Goals as goal

pub returns-then-number-l : goal.returns-then-number-l
returns-then-number-l c = settled refl (search rules) (c.copy_from_slice.ensures.after ∙ c.numbers_of.ensures)

pub returns-else-number-l : goal.returns-else-number-l
returns-else-number-l c = unsettled refl (search rules)
