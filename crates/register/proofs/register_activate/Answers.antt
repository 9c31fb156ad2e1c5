-- `register::register_activate`: the step on the record that the numbers stand for.
use Rattle.std.proofs.Common.{refl, rules}
use Rattle.register.proofs.Steps.{activate_leaves}
use Rattle.register.proofs.register_activate.Goals as goal

pub returns : goal.returns
returns c = let r = c.ruled.ensures in activate_leaves refl r.settles (search rules)
