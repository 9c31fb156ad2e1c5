-- `control::fence_rows` meets its contract.
use Rattle.std.proofs.Common.{◌≡◌, ◌∙◌, rules}
use Rattle.wire.specs.Numbers.{code, first_number}
use Rattle.control.proofs.Tables.{fence_read, fence_read_is}
use Rattle.control.proofs.fence_rows.Goals as goal

pub returns : goal.returns
returns c =
    let s = c.args in
    let read : code c.first_of.result ≡ first_number (fence_read s.c s.table.now) = search rules in
    read ∙ fence_read_is s.c s.table.now
