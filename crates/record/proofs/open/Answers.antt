-- `record::open` meets its contract.
use Rattle.std.proofs.Common.{Bool, false, refl, sym, ap, ◌∙◌, rules}
use Rattle.steps.specs.Chain.{joining}
use Rattle.steps.specs.Control.{change_for, opened, open_tests, open_call, open_step}
use Rattle.record.proofs.Laws.{done, refused, opens}
use Rattle.record.proofs.open.Goals as goal
use Rattle.record.proofs.open.Goals.{then-after, else-after}

pub returns-in_err-open_rows : goal.returns-in_err-open_rows
unfolding open_call open_step
returns-in_err-open_rows c =
    let s = c.args in
    refused _ s.c.now (opened s.c.now s.after s.named s.fresh) (open_tests s.c.now s.after s.named s.fresh) c.in_err-open_rows.ensures (search rules)

pub returns : goal.returns
unfolding open_call open_step
returns c =
    let s = c.args in
    let change = λ (b : Bool). change_for b (joining s.named s.fresh false 0) in
    done s.c.now (opened s.c.now s.after s.named s.fresh) (open_tests s.c.now s.after s.named s.fresh) refl c.in_ok-open_rows.ensures
    (opens s.c.now s.after s.named s.fresh c.next-c.ensures
    (elim c.if-after.branch [
      | then-after w ↦ w.c-is ∙ sym (ap change w.if-after.true)
      | else-after w ↦ w.c-is ∙ sym (ap change w.if-after.false)
    ]))
