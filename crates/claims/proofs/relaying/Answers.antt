-- What `relay::step` promises is the event.
use Rattle.claims.proofs.Events.{relay_event}
use Rattle.claims.proofs.relaying.Goals as goal

pub returns : goal.returns
returns c = search relay_event
