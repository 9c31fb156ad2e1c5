-- `packet::put_packet`: thirteen puts, one behind the other, are the packet.
use Rattle.std.proofs.Common.{◌+◌, [], ◌∷◌, length, refl, arith}
use Rattle.be.specs.Be.{digits}
use Rattle.be.proofs.Laws.{one, more}
use Rattle.wire.specs.Packet.{front_size, key_at, front_of, back_of, bytes_of}
use Rattle.packet.proofs.put_packet.Goals as goal

pub returns : goal.returns
unfolding bytes_of front_of back_of
returns c =
    let s = c.args in
    let h = s.h in
    let g1 = one (h.op ∷ []) 1 (omega arith) c.put.ensures refl in
    let g2 = more (h.answer ∷ []) 2 g1 c.put-2.ensures refl in
    let g3 = more (digits 2 h.from) 4 g2 c.put-3.ensures refl in
    let g4 = more (digits 2 h.to) 6 g3 c.put-4.ensures refl in
    let g5 = more (digits 2 h.client) 8 g4 c.put-5.ensures refl in
    let g6 = more (digits 4 h.request) 12 g5 c.put-6.ensures refl in
    let g7 = more (digits 4 h.stamp.0) 16 g6 c.put-7.ensures refl in
    let g8 = more (digits 2 h.version.session.0) 18 g7 c.put-8.ensures refl in
    let g9 = more (h.length ∷ []) 19 g8 c.put-9.ensures refl in
    let g10 = more (0 ∷ []) 20 g9 c.put-10.ensures refl in
    let g11 = more (digits 4 h.version.sequence.0) key_at g10 c.put-11.ensures refl in
    let g12 = more s.key.now front_size g11 c.put_bytes.ensures (omega arith) in
    (more s.value.now (front_size + length s.value.now) g12 c.put_bytes-2.ensures refl).is
