-- `relay::from_client`: each way of a client's packet is the step's.
use mathlib.Core.Path.{◌∙◌}
use Rattle.std.proofs.Common.{sym, ap, rules}
use Rattle.steps.specs.Relay.{outcome_of}
use Rattle.relay.specs.Passages.{passing}
use Rattle.relay.proofs.Laws.{client_stray, client_read, client_write}
use Rattle.relay.proofs.Passage.from_client.Goals as goal

pub returns-then-stray_client : goal.returns-then-stray_client
returns-then-stray_client c =
    let g = c.args.self.now in
    ap outcome_of (sym (client_stray g.chain (passing g) c.requires (search rules)))

pub returns-then-is_read : goal.returns-then-is_read
returns-then-is_read c =
    let g = c.args.self.now in
    c.unless_stopped.ensures _ ∙ ap outcome_of (sym (client_read g.chain (passing g) c.requires (search rules) (search rules) c.last.ensures))

pub returns : goal.returns
returns c =
    let g = c.args.self.now in
    c.unless_stopped-2.ensures _ ∙ ap outcome_of (sym (client_write g.chain (passing g) c.requires (search rules) (search rules) c.first.ensures))
