-- `table::clear` meets its contract: zeros, and two numbers over them, are the blank table.
use Rattle.table.proofs.Laws.{blanked}
use Rattle.table.proofs.clear.Goals as goal

pub returns : goal.returns
returns c = blanked c.args.t.now c.args.id c.args.n c.requires c.put_zeros.ensures c.put.ensures c.put-2.ensures
