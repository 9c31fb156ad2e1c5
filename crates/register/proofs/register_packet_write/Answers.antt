-- `register::register_packet_write`: the packet of these fields, written or refused.
use Rattle.register.proofs.Steps.{write_leaves}
use Rattle.register.proofs.register_packet_write.Goals as goal

pub returns : goal.returns
returns c = write_leaves _ _ _ _ c.write.result c.head_of.ensures c.write.ensures c.number.ensures
