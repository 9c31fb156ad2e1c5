-- `packet::write`: a packet has the lengths that its bytes take.
use mathlib.Core.Path.{◌∙◌}
use Rattle.std.proofs.Common.{sym, arith}
use Rattle.wire.specs.Packet.{Fit, packet}
use Rattle.wire.proofs.Packet.{reflect_fit}
use Rattle.packet.proofs.write.Goals as goal

pub put_packet-requires : goal.put_packet-requires
put_packet-requires c =
    let s = c.args in
    let p = packet s.h s.key.now s.value.now in
    let f : Fit p = (reflect_fit p).0 (sym c.packet_ok.ensures ∙ c.if-packet_ok.true) in
    (omega arith, f.key, omega arith)
