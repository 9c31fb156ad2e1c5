-- Each byte is tested as the definition tests it.
use Rattle.std.proofs.Common.{◌∙◌, rules}
use borrow.Author.Tests.{tests}
use Rattle.std.specs.Char.{is_ascii_alphanumeric}
use Rattle.std.proofs.lemmas.Iterator.{YieldsList-from_slice}
use Rattle.std.proofs.lemmas.Iterator.Search.{all_from_yields_List}
use Rattle.script.proofs.Laws.{plain_is}
use Rattle.script.proofs.is_plain.Goals as goal

pub returns : goal.returns
returns c =
    all_from_yields_List is_ascii_alphanumeric _ _ _ c.all.ensures.ran (YieldsList-from_slice c.args.w.now (cc)) (λ x b q k. search (rules, tests))
    ∙ plain_is c.args.w.now
