-- `register::register_remove`: the step on the record that the numbers stand for.
use Rattle.std.proofs.Common.{refl, rules}
use Rattle.register.proofs.Steps.{remove_leaves}
use Rattle.register.proofs.register_remove.Goals as goal

pub returns : goal.returns
returns c = let r = c.ruled.ensures in remove_leaves refl r.settles c.args.id (search rules)
