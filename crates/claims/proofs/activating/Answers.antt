-- What `record::activate` promises is the event.
use Rattle.claims.proofs.Events.{activate_event}
use Rattle.claims.proofs.activating.Goals as goal

pub returns : goal.returns
returns c = search activate_event
