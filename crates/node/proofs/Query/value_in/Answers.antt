-- `node::value_in`: the part that a reply carries.
use mathlib.Core.Path.{◌∙◌}
use Rattle.std.proofs.Common.{ap}
use Rattle.table.specs.Parts.{value_part}
use Rattle.node.proofs.Laws.{rules_of, any_value}
use Rattle.node.proofs.Query.value_in.Goals as goal

pub returns-in-Value : goal.returns-in-Value
returns-in-Value c = rw c.in-Value.is (c.value.ensures ∙ (ap value_part c.row.ensures ∙ any_value (rules_of c.args.self.now.rules) _))
