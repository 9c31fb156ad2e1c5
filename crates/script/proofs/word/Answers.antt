-- A word is a part between spaces; where there are fewer it is empty.
use Rattle.std.proofs.Common.{◌∙◌, ap, rules, eqb, List, [], ℕ, Bor}
use borrow.Author.Tests.{tests}
use Rattle.std.specs.Prelude.{Option}
use Rattle.std.specs.Option.{unwrap_or}
use Rattle.std.proofs.lemmas.Iterator.Consumers.{nth_from_yields_List}
use Rattle.std.proofs.lemmas.Iterator.Splits.{YieldsList-from_slice_split}
use Rattle.script.proofs.Laws.{part_is, part_or, now_or}
use Rattle.script.proofs.word.Goals as goal

pub returns : goal.returns
returns c =
    let l = c.args.line.now in
    let got = nth_from_yields_List _ _ c.args.n c.nth.ensures.ran (YieldsList-from_slice_split _ (λ b. eqb b 32) l c.split.ensures.rest c.split.ensures.done c.split.ensures.closure (λ x b q k. search (rules, tests))) in
    ap (λ (w : Bor (List ℕ)). w.now) c.unwrap_or.ensures
    ∙ now_or c.nth.result _
    ∙ ap (λ (w : Option (List ℕ)). unwrap_or w []) got
    ∙ part_or _ c.args.n
    ∙ part_is l c.args.n
