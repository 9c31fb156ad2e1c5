-- What `table::blank` promises is the event.
use Rattle.claims.proofs.Events.{blank_event}
use Rattle.claims.proofs.blanking.Goals as goal

pub returns : goal.returns
returns c = search blank_event
