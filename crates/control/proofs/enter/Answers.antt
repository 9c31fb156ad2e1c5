-- `control::enter` meets its contract.
use Rattle.std.proofs.Common.{◌≡◌, length, rules}
use Rattle.wire.specs.Packet.{key_size}
use Rattle.control.proofs.Tables.{enter_refused, enter_full, enter_done}
use Rattle.control.proofs.enter.Goals as goal

pub returns-in_err-enter_rows : goal.returns-in_err-enter_rows
returns-in_err-enter_rows c =
    let s = c.args in
    enter_refused s.c s.table.now s.id s.key.now _ c.in_err-enter_rows.ensures (search rules)

pub returns-in_err-i : goal.returns-in_err-i
returns-in_err-i c =
    let s = c.args in
    enter_full s.c s.table.now s.id s.key.now c.in_ok-enter_rows.ensures (search rules) (search rules)

pub returns : goal.returns
returns c =
    let s = c.args in
    let full : length s.key.now ≡ key_size = search rules in
    enter_done s.c s.table.now s.id s.key.now c.in_ok-enter_rows.ensures _ (search rules) full c.new.ensures c.store.ensures
