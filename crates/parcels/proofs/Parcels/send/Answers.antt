-- What is written and kept is the query of the line.
use Rattle.parcels.proofs.Laws.{sends}
use Rattle.parcels.proofs.Parcels.send.Goals as goal

pub returns : goal.returns
returns c =
    sends c.args.self.now _ c.args.line.now _ _ _ c.args.op _ _ _ _ c.key-key.ensures c.value-value.ensures.value c.count.ensures.value c.query-h.ensures c.write.ensures c.keep.ensures
