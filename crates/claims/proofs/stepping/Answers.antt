-- What `node::step` promises is the event.
use Rattle.claims.proofs.Events.{node_event}
use Rattle.claims.proofs.stepping.Goals as goal

pub returns : goal.returns
returns c = search node_event
