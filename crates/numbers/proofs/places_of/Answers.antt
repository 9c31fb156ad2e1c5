-- `numbers::places_of`: the eight places, one by one.
use Rattle.std.proofs.Common.{◌∙◌, get_or}
use Rattle.chain.proofs.Places.{eight_are}
use Rattle.numbers.proofs.Record.{places_of_lem}
use Rattle.numbers.proofs.places_of.Goals as goal

pub returns : goal.returns
returns c =
    let ids = c.args.ids.now in
    eight_are (λ i. get_or ids i 0) c.id_or.ensures c.id_or-2.ensures c.id_or-3.ensures c.id_or-4.ensures c.id_or-5.ensures c.id_or-6.ensures c.id_or-7.ensures c.id_or-8.ensures
    ∙ places_of_lem ids
