-- What `control::copy` promises is the event.
use Rattle.claims.proofs.Events.{copy_event}
use Rattle.claims.proofs.copying.Goals as goal

pub returns : goal.returns
returns c = search copy_event
