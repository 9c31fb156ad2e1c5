-- `numbers::chain_at`: numbers that stand for a record give it.
use Rattle.numbers.proofs.Record.{chain_is}
use Rattle.numbers.proofs.chain_at.Goals as goal

pub returns : goal.returns
returns c =
    chain_is c.args.l.now c.requires c.byte.ensures c.places_at.ensures c.id.ensures c.id-2.ensures c.id-3.ensures c.change_of.ensures c.joining_at.ensures
