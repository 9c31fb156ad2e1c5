-- `numbers::change_of`: the state of change by its kind.
use Rattle.std.proofs.Common.{sym, rules}
use Rattle.numbers.proofs.Record.{still, before, after}
use Rattle.numbers.proofs.change_of.Goals as goal

pub returns-in-0 : goal.returns-in-0
returns-in-0 c = sym (still _ c.in-0.is)

pub returns-in-1 : goal.returns-in-1
returns-in-1 c = sym (before _ c.in-1.is)

pub returns-in_default : goal.returns-in_default
returns-in_default c = sym (after _ (search rules) (search rules))
