-- `control::copy_rows` meets its contract.
use Rattle.std.proofs.Common.{◌∙◌, rules}
use Rattle.control.proofs.Tables.{copy_rows_are}
use Rattle.control.proofs.copy_rows.Goals as goal

pub returns : goal.returns
returns c =
    let s = c.args in
    c.first_of.ensures ∙ copy_rows_are s.c s.i s.named.now s.fresh.now (search rules) (search rules) (search rules) (search rules)
