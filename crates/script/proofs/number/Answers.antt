-- A digit more is read.
use Rattle.std.proofs.Common.{◌≡◌, ◌+◌, ◌∙◌, ap, rules, arith, drop, get_or, ℕ}
use Rattle.std.specs.Prelude.{Option, Some}
use Rattle.script.specs.Words.{longer}
use Rattle.script.proofs.Laws.{longer_fits, number_on, number_turn}
use Rattle.script.proofs.number.Goals as goal

pub loop-b-preserved : goal.loop-b-preserved
loop-b-preserved c =
    let l = c.loop-b in
    let e : longer l.n (get_or c.args.w.now l.b-index 0) ≡ Some c.in_ok-n.n = search rules in
    (longer_fits _ _ _ e, l.invariant.1 ∙ number_turn c.args.w.now l.b-index l.n (omega arith) ∙ ap (λ (o : Option ℕ). number_on o (drop (l.b-index + 1) c.args.w.now)) e)
