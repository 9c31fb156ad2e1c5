-- `numbers::head_at`: numbers that stand for fields give them.
use Rattle.numbers.proofs.Fields.{head_is}
use Rattle.numbers.proofs.head_at.Goals as goal

pub returns : goal.returns
returns c =
    head_is c.args.f.now c.requires c.byte.ensures c.byte-2.ensures c.id.ensures c.id-2.ensures c.id-3.ensures
    c.id-4.ensures c.new.ensures c.byte-3.ensures
