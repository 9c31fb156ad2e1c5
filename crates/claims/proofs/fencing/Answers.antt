-- What `control::fence` promises is the event.
use Rattle.claims.proofs.Events.{fence_event}
use Rattle.claims.proofs.fencing.Goals as goal

pub returns : goal.returns
returns c = search fence_event
