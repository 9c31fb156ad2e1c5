-- `table::rules::zeros` meets its contract.
use Rattle.std.proofs.Common.{rules, ◌&&◌, true, eqb, ◌∙◌, Bool}
use Rattle.std.proofs.lemmas.Iterator.{YieldsList-from_slice}
use Rattle.std.proofs.lemmas.Iterator.Consumers.{fold_from_yields_List}
use Rattle.table.proofs.Laws.{zeros_fold}
use Rattle.table.proofs.rules.zeros.Goals as goal

pub returns : goal.returns
returns c =
    fold_from_yields_List _ (λ (all : Bool) x. all && eqb x 0) true _ c.fold.ensures.ran (YieldsList-from_slice c.args.part.now cc) (λ a x b q k. search rules)
    ∙ zeros_fold true c.args.part.now
