-- `control::copy` meets its contract.
use Rattle.std.proofs.Common.{ap, rules, arith}
use Rattle.steps.specs.Chain.{with_change}
use Rattle.control.proofs.Tables.{mapped_advanced, copies, copy_done, copy_refused}
use Rattle.control.proofs.copy.Goals as goal

pub returns-in_err-copy_rows : goal.returns-in_err-copy_rows
returns-in_err-copy_rows c =
    let s = c.args in
    copy_refused _ s.c.now s.i s.named.now s.fresh.now c.in_err-copy_rows.ensures (search rules)

pub map_joining-c-requires : goal.map_joining-c-requires
map_joining-c-requires c =
    let s = c.args in
    let low = (copies s.c.now s.i s.named.now s.fresh.now c.in_ok-copy_rows.ensures).low in
    λ j e. let below = low j e in omega arith

pub returns : goal.returns
returns c =
    let s = c.args in
    copy_done s.c.now s.i s.named.now s.fresh.now (copies s.c.now s.i s.named.now s.fresh.now c.in_ok-copy_rows.ensures)
    (ap (with_change s.c.now) (mapped_advanced s.c.now.change (λ j k p. search rules) c.map_joining-c.ensures))
    c.copy_slot.ensures
