-- What the functions over a table's bytes give on any slice, a table or not.
use Rattle.std.specs.Prelude.{ℕ, List, [], Bool, ◌&&◌, not, length, ltb, leb, eqb}
use Rattle.be.specs.Be.{be, put}
use Rattle.wire.specs.Numbers.{pick}
use Rattle.wire.specs.Version.{stamp, zero_version}
use Rattle.wire.specs.Packet.{key_size, value_size}
use Rattle.wire.specs.declared.Version.{Version}
use Rattle.wire.specs.declared.Stamp.{Stamp}
use Rattle.store.specs.Table.{Slot, slot_of, row_of, head_size, row_size, free, row_at, row, tab, fence_of, id_of, count_of, whole_slots, fence_bytes}

-- ---- the head: of a slice with no whole head each is 0

unfoldable pub fence_part : List ℕ → Stamp
fence_part t = pick (leb head_size (length t)) (fence_of t) (stamp 0)

unfoldable pub id_part : List ℕ → ℕ
id_part t = pick (leb head_size (length t)) (id_of t) 0

unfoldable pub count_part : List ℕ → ℕ
count_part t = pick (leb head_size (length t)) (count_of t) 0

-- ---- a row

-- that of a whole slot; none where the slice has no whole slot i
unfoldable pub row_part : List ℕ → ℕ → List ℕ
row_part t i = pick (ltb i (whole_slots t)) (row t i) []

-- all of them, one after the other
unfoldable pub rows_of : List ℕ → List (List ℕ)
rows_of t = tab (whole_slots t) (row t)

-- the fields of a row; of a part that is no row the state is 0, the version 0.0 and the value empty
unfoldable pub state_part : List ℕ → ℕ
state_part r = pick (eqb (length r) row_size) (slot_of r).state free

unfoldable pub version_part : List ℕ → Version
version_part r = pick (eqb (length r) row_size) (slot_of r).version zero_version

unfoldable pub value_part : List ℕ → List ℕ
value_part r = pick (eqb (length r) row_size) (slot_of r).value []

-- a slot that is used and whose key has the same two halves, as numbers of eight bytes
unfoldable pub has_halves : List ℕ → Slot → Bool
has_halves key s = eqb (be 8 s.key 0) (be 8 key 0) && (eqb (be 8 s.key 8) (be 8 key 8) && not (eqb s.state free))

-- a row, used or not, whose key has the same first half
unfoldable pub same_half : List ℕ → List ℕ → Bool
same_half key r = eqb (be 8 r 0) (be 8 key 0)

-- ---- what is written

-- a slot whose key and value have the lengths that a row has room for
unfoldable pub sized : Slot → Bool
sized s = eqb (length s.key) key_size && leb (length s.value) value_size

-- to a part: only where it is a row
unfoldable pub slot_written : List ℕ → Slot → List ℕ
slot_written part s = pick (eqb (length part) row_size && sized s) (row_of s) part

-- to a table: only where it has that slot
unfoldable pub slot_stored : List ℕ → ℕ → Slot → List ℕ
slot_stored t i s = pick (ltb i (whole_slots t) && sized s) (put t (row_at i) (row_of s)) t

-- only where there is a head
unfoldable pub fence_set : List ℕ → Stamp → List ℕ
fence_set t n = pick (leb head_size (length t)) (fence_bytes n t) t

-- only where both have that slot
unfoldable pub slot_copied : List ℕ → List ℕ → ℕ → List ℕ
slot_copied from to i = pick (ltb i (whole_slots from) && ltb i (whole_slots to)) (put to (row_at i) (row from i)) to
