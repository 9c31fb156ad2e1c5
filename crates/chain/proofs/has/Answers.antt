-- `chain::has` meets its contract.
use Rattle.std.proofs.Common.{eqb, sym, ◌∙◌, rules}
use borrow.Author.Tests.{tests}
use Rattle.std.proofs.lemmas.Iterator.{YieldsList-from_slice}
use Rattle.std.proofs.lemmas.Iterator.Search.{any_from_yields_List}
use Rattle.chain.proofs.Ids.{memb_any}
use Rattle.chain.proofs.has.Goals as goal

pub returns : goal.returns
returns c =
    let s = c.args in
    any_from_yields_List (λ x. eqb x s.id) _ _ c.any.result c.any.ensures.ran (YieldsList-from_slice s.ids.now cc) (λ x b q k. search (rules, tests))
    ∙ sym (memb_any s.id s.ids.now)
