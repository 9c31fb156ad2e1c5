-- What `control::enter` promises is the event.
use Rattle.claims.proofs.Events.{enter_event}
use Rattle.claims.proofs.entering.Goals as goal

pub returns : goal.returns
returns c = search enter_event
