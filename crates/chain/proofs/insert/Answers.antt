-- `chain::insert` meets its contract.
use Rattle.std.proofs.Common.{◌≡◌, length, ◌∙◌, rules}
use Rattle.steps.specs.Chain.{most_nodes}
use Rattle.chain.proofs.Places.{eight_are, inserted_at, inserted}
use Rattle.chain.proofs.insert.Goals as goal

pub returns : goal.returns
returns c =
    let s = c.args in
    let eight : length s.places ≡ most_nodes = search rules in
    eight_are (inserted_at s.places s.at s.id)
    c.shifted.ensures
    c.shifted-2.ensures
    c.shifted-3.ensures
    c.shifted-4.ensures
    c.shifted-5.ensures
    c.shifted-6.ensures
    c.shifted-7.ensures
    c.shifted-8.ensures
    ∙ inserted s.places s.at eight s.id
