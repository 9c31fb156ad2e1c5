-- One row further: it refuses, or the number is that of the rows behind it.
use Rattle.std.proofs.Common.{rules, sym, ap, ◌∙◌, false}
use Rattle.std.proofs.lemmas.List.{at_drop_more}
use Rattle.std.proofs.Math.ListN.{drop_of_length-le}
use Rattle.wire.specs.declared.Refusal.TheVariants.{Broken}
use Rattle.wire.specs.Numbers.{first_number, tests_of}
use Rattle.wire.proofs.Numbers.{pick_true, pick_false}
use Rattle.wire.proofs.first_of.Goals as goal

pub returns-then-applies : goal.returns-then-applies
returns-then-applies g c =
    let i = c.loop-applies.applies-index in
    sym (c.loop-applies.invariant ∙ at_drop_more (λ l. first_number (tests_of l)) c.args.rows i (false, Broken) (search rules) ∙ pick_true _ _ _ c.if-applies.true)

pub loop-applies-preserved : goal.loop-applies-preserved
loop-applies-preserved g c =
    let i = c.loop-applies.applies-index in
    c.loop-applies.invariant ∙ at_drop_more (λ l. first_number (tests_of l)) c.args.rows i (false, Broken) (search rules) ∙ pick_false _ _ _ c.if-applies.false

pub returns : goal.returns
returns g c =
    sym (c.loop-applies.invariant ∙ ap (λ l. first_number (tests_of l)) (drop_of_length-le c.args.rows (search rules)))
