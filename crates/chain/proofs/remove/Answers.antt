-- `chain::remove` meets its contract.
use lib.ListN.{get_or-eq_default}
use Rattle.std.proofs.Common.{◌≡◌, length, get_or, ltb, sym, ap, ◌∙◌, arith, rules}
use Rattle.wire.specs.Numbers.{pick}
use Rattle.steps.specs.Chain.{most_nodes}
use Rattle.chain.proofs.Places.{eight_are, removed_at, removed}
use Rattle.chain.proofs.remove.Goals as goal

pub returns : goal.returns
returns c =
    let s = c.args in
    let eight : length s.places ≡ most_nodes = search rules in
    eight_are (removed_at s.places s.at)
    c.closed.ensures
    c.closed-2.ensures
    c.closed-3.ensures
    c.closed-4.ensures
    c.closed-5.ensures
    c.closed-6.ensures
    c.closed-7.ensures
    (c.closed-8.ensures ∙ ap (pick (ltb 7 s.at) (get_or s.places 7 0)) (sym (get_or-eq_default s.places 0 {n = most_nodes} (omega arith))))
    ∙ removed s.places s.at eight
