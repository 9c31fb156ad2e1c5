-- `chain::most` meets its contract.
use Rattle.std.proofs.Common.{ℕ, Option, sym, ap, ◌∙◌}
use Rattle.std.specs.Option.{unwrap_or}
use Rattle.std.proofs.lemmas.Iterator.Adapters.{option_map_id}
use Rattle.std.proofs.lemmas.Iterator.{YieldsList-from_slice}
use Rattle.std.proofs.lemmas.Iterator.Consumers.{YieldsList-from_copied, max_from_yields_List}
use Rattle.chain.proofs.Ids.{largest_got}
use Rattle.chain.proofs.most.Goals as goal

pub returns : goal.returns
returns c =
    let ids = c.args.ids.now in
    c.unwrap_or.ensures
    ∙ ap (λ (o : Option ℕ). unwrap_or o 0)
    (sym (option_map_id _) ∙ max_from_yields_List c.copied.result _ c.max.ensures.ran (YieldsList-from_copied (YieldsList-from_slice ids cc)))
    ∙ sym (largest_got ids)
