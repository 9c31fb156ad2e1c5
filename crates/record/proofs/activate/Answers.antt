-- `record::activate` meets its contract.
use Rattle.std.proofs.Common.{refl, arith, rules}
use Rattle.steps.specs.Control.{activated, activate_tests, activate_call, activate_step}
use Rattle.record.proofs.Laws.{done, refused, activates, activate_room}
use Rattle.record.proofs.activate.Goals as goal

pub returns-in_err-activate_rows : goal.returns-in_err-activate_rows
unfolding activate_call activate_step
returns-in_err-activate_rows c =
    let r = c.args.c.now in
    refused _ r (activated r) (activate_tests r) c.in_err-activate_rows.ensures (search rules)

pub overflow_add-c : goal.overflow_add-c
overflow_add-c c = omega (arith, activate_room c.args.c.now c.in_ok-activate_rows.ensures)

pub returns : goal.returns
unfolding activate_call activate_step
returns c =
    let r = c.args.c.now in
    done r (activated r) (activate_tests r) refl c.in_ok-activate_rows.ensures
    (activates r c.join_place.ensures c.join_id.ensures c.insert.ensures c.becomes_first.ensures c.session_after.ensures)
