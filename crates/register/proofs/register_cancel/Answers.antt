-- `register::register_cancel`: the step on the record that the numbers stand for.
use Rattle.std.proofs.Common.{refl, rules}
use Rattle.register.proofs.Steps.{cancel_leaves}
use Rattle.register.proofs.register_cancel.Goals as goal

pub returns : goal.returns
returns c = let r = c.ruled.ensures in cancel_leaves refl r.settles (search rules)
