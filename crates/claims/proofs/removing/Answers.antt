-- What `record::remove` promises is the event.
use Rattle.claims.proofs.Events.{remove_event}
use Rattle.claims.proofs.removing.Goals as goal

pub returns : goal.returns
returns c = search remove_event
