-- `node::look`: what the search of the bytes found is where the key stands in the table.
use mathlib.Core.Path.{◌∙◌}
use Rattle.std.proofs.Common.{ap}
use Rattle.node.specs.Ways.{behind}
use Rattle.node.specs.Queries.{table_asked, asked_by}
use Rattle.node.proofs.Laws.{rules_of, is_found}
use Rattle.node.proofs.Query.look.Goals as goal

pub returns-in-Some : goal.returns-in-Some
returns-in-Some c =
    let q = c.args.self.now in
    ap (behind (table_asked q) (asked_by q)) (is_found (rules_of q.rules) q.packet.now c.key_of.ensures c.find.ensures c.in-Some.is) ∙ c.at_slot.ensures

pub returns-in-None : goal.returns-in-None
returns-in-None c =
    let q = c.args.self.now in
    ap (behind (table_asked q) (asked_by q)) (is_found (rules_of q.rules) q.packet.now c.key_of.ensures c.find.ensures c.in-None.is) ∙ c.at_none.ensures
