-- `register::register_fence`: the step on the record that the numbers stand for, and on the table.
use Rattle.register.proofs.Laws.{settles_as}
use Rattle.register.proofs.Steps.{fence_leaves_lem}
use Rattle.register.proofs.register_fence.Goals as goal

pub returns : goal.returns
returns c = fence_leaves_lem c.record_of-c.ensures (settles_as c.number.ensures c.settle.ensures) c.fence-done.ensures
