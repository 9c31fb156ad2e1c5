-- Every marked example of document 01 holds, by computation, and there are thirteen.
use mathlib.Core.Path.{◌≡◌, refl}
use mathlib.Core.Bool.{true}
use lib.ListN.{length}
use Rattle.be.specs.Be.{put}
use Rattle.wire.specs.Numbers.{pick, guard}
use Rattle.wire.specs.Version.{next_session, next_sequence, next_stamp, newer}
use Rattle.wire.specs.Packet.{head_of, key_of, value_of, packet_of, front_of, back_of, bytes_of, head_ok, well_formed}
use Rattle.store.specs.Table.{slot_of, row_of, slots, table_of, row_ok, frame_ok, table_ok, has, find}
use Rattle.steps.specs.Chain.{memb, first_of, last_of, place_of, insert_at, remove_at, apart, none_above, joining_ok, chain_ok}
use Rattle.steps.specs.Node.{reply, absent, answered, given, version_for, stored, taken, at_slot, node_step, node_call}
use Rattle.steps.specs.Control.{opened, open_step, open_call, activated, activate_step, activate_call, removed, remove_step, remove_call}
use Rattle.steps.specs.Marked.{holds, all_hold, examples}

pub marked : all_hold examples ≡ true
unfolding put pick guard next_session next_sequence next_stamp newer head_of key_of value_of packet_of front_of back_of bytes_of head_ok well_formed slot_of row_of slots table_of row_ok frame_ok table_ok has find memb first_of last_of place_of insert_at remove_at apart none_above joining_ok chain_ok reply absent answered given version_for stored taken at_slot node_step node_call opened open_step open_call activated activate_step activate_call removed remove_step remove_call holds all_hold
marked = refl

pub thirteen : length examples ≡ 13
thirteen = refl
