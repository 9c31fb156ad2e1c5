-- `register::register_open`: the step on the record that the numbers stand for, for a kind of change.
use Rattle.std.proofs.Common.{refl, rules}
use Rattle.register.proofs.Steps.{open_leaves, open_refused}
use Rattle.register.proofs.register_open.Goals as goal

pub returns-then-kind : goal.returns-then-kind
returns-then-kind c = let r = c.ruled.ensures in open_leaves refl r.settles c.args.kind c.args.named c.args.fresh c.if-kind.true (search rules)

pub returns : goal.returns
returns c = open_refused _ _ _ _ c.if-kind.false c.from.ensures
