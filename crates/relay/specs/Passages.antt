-- A packet that passes the relay: as it was read.
use Rattle.wire.specs.Packet.{Packet}
use Rattle.relay.specs.Ways.{read_as}
use Rattle.relay.specs.declared.Passage.{Passage}

abbrev pub passing : Passage → Packet
passing g = read_as g.head g.packet.now
