-- What `record::open` promises is the event.
use Rattle.claims.proofs.Events.{open_event}
use Rattle.claims.proofs.opening.Goals as goal

pub returns : goal.returns
returns c = search open_event
