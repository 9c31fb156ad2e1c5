-- `node::ask`: rows 4, 7 and 8, then what `look` settles.
use Rattle.std.proofs.Common.{rules}
use Rattle.wire.specs.Numbers.{guard}
use Rattle.steps.specs.Node.{node_step}
use Rattle.node.proofs.Laws.{id_asked, fence_asked}
use Rattle.node.proofs.Query.ask.Goals as goal

pub returns-then-h-id : goal.returns-then-h-id
unfolding node_step guard
returns-then-h-id c =
    let i = id_asked c.args.self.now c.id.ensures in
    search rules

pub returns-then-lt : goal.returns-then-lt
unfolding node_step guard
returns-then-lt c =
    let i = id_asked c.args.self.now c.id.ensures in
    let f = fence_asked c.args.self.now c.fence.ensures in
    search rules

pub returns-then-is_read-eq : goal.returns-then-is_read-eq
unfolding node_step guard
returns-then-is_read-eq c =
    let i = id_asked c.args.self.now c.id.ensures in
    let f = fence_asked c.args.self.now c.fence.ensures in
    search rules

pub returns : goal.returns
unfolding node_step guard
returns c =
    let i = id_asked c.args.self.now c.id.ensures in
    let f = fence_asked c.args.self.now c.fence.ensures in
    search rules
