-- `chain::seek` meets its contract.
use Rattle.std.proofs.Common.{ℕ, Option, length, eqb, sym, ap, ◌∙◌, rules}
use borrow.Author.Tests.{tests}
use Rattle.std.specs.Option.{unwrap_or}
use Rattle.std.proofs.lemmas.Iterator.{YieldsList-from_slice}
use Rattle.std.proofs.lemmas.Iterator.Search.{position_from_yields_List}
use Rattle.chain.proofs.Ids.{place_found}
use Rattle.chain.proofs.seek.Goals as goal

pub returns : goal.returns
returns c =
    let s = c.args in
    c.unwrap_or.ensures
    ∙ ap (λ (o : Option ℕ). unwrap_or o (length s.ids.now))
    (position_from_yields_List (λ x. eqb x s.id) _ _ c.position.result c.position.ensures.ran (YieldsList-from_slice s.ids.now cc) (λ x b q k. search (rules, tests)))
    ∙ sym (place_found s.id s.ids.now)
