-- `record::remove` meets its contract.
use Rattle.std.proofs.Common.{refl, rules}
use Rattle.steps.specs.Control.{removed, remove_tests, remove_call, remove_step}
use Rattle.record.proofs.Laws.{done, refused, removes, remove_some}
use Rattle.record.proofs.remove.Goals as goal

pub returns-in_err-remove_rows : goal.returns-in_err-remove_rows
unfolding remove_call remove_step
returns-in_err-remove_rows c =
    let s = c.args in
    refused _ s.c.now (removed s.c.now s.id) (remove_tests s.c.now s.id) c.in_err-remove_rows.ensures (search rules)

pub overflow_sub-c : goal.overflow_sub-c
overflow_sub-c c = (remove_some c.args.c.now c.args.id c.in_ok-remove_rows.ensures).0

pub returns : goal.returns
unfolding remove_call remove_step
returns c =
    let s = c.args in
    let still = (remove_some s.c.now s.id c.in_ok-remove_rows.ensures).1 in
    done s.c.now (removed s.c.now s.id) (remove_tests s.c.now s.id) refl c.in_ok-remove_rows.ensures
    (removes s.c.now s.id c.place.ensures c.remove.ensures c.first.ensures c.session_after.ensures still)
