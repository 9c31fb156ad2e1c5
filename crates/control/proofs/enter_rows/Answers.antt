-- `control::enter_rows` meets its contract.
use Rattle.std.proofs.Common.{◌≡◌, ◌∙◌, rules}
use Rattle.wire.specs.Numbers.{code, first_number}
use Rattle.control.proofs.Tables.{enter_read, enter_read_is}
use Rattle.control.proofs.enter_rows.Goals as goal

pub returns : goal.returns
returns c =
    let s = c.args in
    let read : code c.first_of.result ≡ first_number (enter_read s.c s.table.now s.id s.key.now) = search rules in
    read ∙ enter_read_is s.c s.table.now s.id s.key.now
