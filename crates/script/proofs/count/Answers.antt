-- There is one word more than there are spaces.
use Rattle.std.proofs.Common.{rules, arith, eqb}
use borrow.Author.Tests.{tests}
use Rattle.std.proofs.lemmas.Iterator.Consumers.{count_from_yields_List}
use Rattle.std.proofs.lemmas.Iterator.Splits.{YieldsList-from_slice_split}
use Rattle.std.proofs.lemmas.List.Splits.{length-slice_split}
use Rattle.script.specs.Words.{word_count}
use Rattle.script.proofs.Laws.{spaces_are}
use Rattle.script.proofs.count.Goals as goal

pub returns : goal.returns
unfolding word_count
returns c =
    let all = count_from_yields_List _ _ c.count.ensures.ran (YieldsList-from_slice_split _ (λ b. eqb b 32) c.args.line.now c.split.ensures.rest c.split.ensures.done c.split.ensures.closure (λ x b q k. search (rules, tests))) in
    omega (arith, all, spaces_are c.args.line.now, length-slice_split (λ b. eqb b 32) c.args.line.now)
