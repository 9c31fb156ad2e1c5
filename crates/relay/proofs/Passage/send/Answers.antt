-- `relay::send`: what is emitted under the head stands in the outlet.
use Rattle.relay.proofs.Laws.{length_to, is_sent}
use Rattle.relay.proofs.Passage.send.Goals as goal

pub slice_bounds-emit-end : goal.slice_bounds-emit-end
slice_bounds-emit-end c = rw (c.head_to-head.ensures, c.value_of-value.ensures) (length_to c.args.self.now c.args.to)

pub returns : goal.returns
returns c = is_sent c.args.self.now c.args.to c.args.out.now c.requires c.head_to-head.ensures c.key_of.ensures c.value_of-value.ensures c.emit.ensures
