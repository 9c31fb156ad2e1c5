-- `chain::zeros` meets its contract.
use Rattle.std.proofs.Common.{eqb, sym, ◌∙◌, rules}
use borrow.Author.Tests.{tests}
use Rattle.std.proofs.lemmas.Iterator.{YieldsList-from_slice}
use Rattle.std.proofs.lemmas.Iterator.Search.{all_from_yields_List}
use Rattle.chain.proofs.Ids.{zero_all}
use Rattle.chain.proofs.zeros.Goals as goal

pub returns : goal.returns
returns c =
    let ids = c.args.ids.now in
    all_from_yields_List (λ x. eqb x 0) _ _ c.all.result c.all.ensures.ran (YieldsList-from_slice ids cc) (λ x b q k. search (rules, tests))
    ∙ sym (zero_all ids)
