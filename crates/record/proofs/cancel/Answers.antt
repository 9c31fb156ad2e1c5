-- `record::cancel` meets its contract.
use Rattle.std.proofs.Common.{[], ◌∷◌, not, refl, rules}
use Rattle.wire.specs.Numbers.{test, out_of_turn}
use Rattle.steps.specs.Chain.{is_open, with_change}
use Rattle.steps.specs.declared.Change.TheVariants.{Still}
use Rattle.steps.specs.Control.{cancel_call, cancel_step}
use Rattle.record.proofs.Laws.{done, refused}
use Rattle.record.proofs.cancel.Goals as goal

pub returns-in_err-cancel_rows : goal.returns-in_err-cancel_rows
unfolding cancel_call cancel_step
returns-in_err-cancel_rows c =
    let r = c.args.c.now in
    refused _ r (with_change r Still) (test out_of_turn (not (is_open r.change)) ∷ []) c.in_err-cancel_rows.ensures (search rules)

pub returns : goal.returns
unfolding cancel_call cancel_step
returns c =
    let r = c.args.c.now in
    done r (with_change r Still) (test out_of_turn (not (is_open r.change)) ∷ []) refl c.in_ok-cancel_rows.ensures refl
