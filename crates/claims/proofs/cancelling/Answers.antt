-- What `record::cancel` promises is the event.
use Rattle.claims.proofs.Events.{cancel_event}
use Rattle.claims.proofs.cancelling.Goals as goal

pub returns : goal.returns
returns c = search cancel_event
