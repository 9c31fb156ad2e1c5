-- An outlet after a call that puts the bytes of a packet into it and judges nothing but that they fit.
use Rattle.std.specs.Prelude.{ℕ, Bool, ◌&&◌, List, leb, eqb, length}
use Rattle.wire.specs.Numbers.{pick}
use Rattle.wire.specs.Packet.{Packet, key_size, value_size, outlet_size, sent_in}

-- the outlet is large enough, and key and value have lengths that a packet can have
unfoldable pub room : List ℕ → Packet → Bool
room out p = leb outlet_size (length out) && (eqb (length p.key) key_size && leb (length p.value) value_size)

-- the packet at its start and the others as they were; or all as they were
unfoldable pub emitted : List ℕ → Packet → List ℕ
emitted out p = pick (room out p) (sent_in out p) out
