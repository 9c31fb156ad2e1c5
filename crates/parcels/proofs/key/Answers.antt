-- The key is put on zeros.
use Rattle.parcels.proofs.Laws.{key_padded}
use Rattle.parcels.proofs.key.Goals as goal

pub returns : goal.returns
returns c = key_padded c.args.line.now c.key-text.result.now c.copy_from_slice.new.self c.key-text.ensures.value c.key-text.ensures.bound c.copy_from_slice.ensures.after
