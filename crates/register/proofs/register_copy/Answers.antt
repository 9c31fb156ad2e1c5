-- `register::register_copy`: the step on the record that the numbers stand for, and on the tables.
use Rattle.register.proofs.Laws.{settles_as}
use Rattle.register.proofs.Steps.{copy_leaves_lem}
use Rattle.register.proofs.register_copy.Goals as goal

pub returns : goal.returns
returns c = copy_leaves_lem c.record_of-c.ensures (settles_as c.number.ensures c.settle.ensures) c.copy-done.ensures
