-- `register::register_enter`: the step on the record that the numbers stand for, and on the table.
use Rattle.register.proofs.Steps.{enter_leaves_lem}
use Rattle.register.proofs.register_enter.Goals as goal

pub returns : goal.returns
returns c = enter_leaves_lem _ c.record_of.ensures c.number.ensures c.enter.ensures
