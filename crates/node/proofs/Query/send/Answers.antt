-- `node::send`: what the step comes to is a packet, so it fits and is emitted.
use Rattle.std.proofs.Common.{arith}
use Rattle.steps.specs.Node.{reply}
use Rattle.node.proofs.Laws.{carried_fits, is_sent}
use Rattle.node.proofs.Query.send.Goals as goal

pub overflow_cast-head : goal.overflow_cast-head
overflow_cast-head c = rw c.value_in-value.ensures (let n = carried_fits c.args.self.now c.args.reply in omega arith)

pub returns : goal.returns
unfolding reply
returns c =
    is_sent c.args.self.now c.args.reply c.requires.0 c.args.out.now c.requires.1 c.answer.ensures c.version.ensures c.key_of.ensures c.value_in-value.ensures c.emit.ensures
