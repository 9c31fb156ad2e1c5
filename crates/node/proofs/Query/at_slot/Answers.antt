-- `node::at_slot`: a read by the state, a write or delete as it is taken.
use Rattle.std.proofs.Common.{rules}
use Rattle.std.proofs.lemmas.Result.{err_from_is_err_and}
use Rattle.wire.specs.Numbers.{guard, pick}
use Rattle.steps.specs.Node.{at_slot, answered}
use Rattle.node.specs.Ways.{sent_by}
use Rattle.node.proofs.Laws.{rules_of, state_at, version_at}
use Rattle.node.proofs.Query.at_slot.Goals as goal

pub returns-in_err-version : goal.returns-in_err-version
returns-in_err-version c =
    let g = rules_of c.args.self.now.rules in
    let p = err_from_is_err_and c.from_residual.result c.from_residual.ensures.1 in
    rw (p.1, p.2) (c.in_err-version.ensures c.args.i (version_at g c.args.i c.row-row.ensures c.version-stored.ensures))

pub returns-then-not-is_read : goal.returns-then-not-is_read
returns-then-not-is_read c =
    let g = rules_of c.args.self.now.rules in
    c.in_ok-version.ensures c.args.i (version_at g c.args.i c.row-row.ensures c.version-stored.ensures)

pub returns-then-state : goal.returns-then-state
unfolding guard pick at_slot answered sent_by
returns-then-state c =
    let g = rules_of c.args.self.now.rules in
    let v = version_at g c.args.i c.row-row.ensures c.version-stored.ensures in
    let n = state_at g c.args.i c.row-row.ensures c.state.ensures in
    search rules

pub returns : goal.returns
unfolding guard pick at_slot answered sent_by
returns c =
    let g = rules_of c.args.self.now.rules in
    let v = version_at g c.args.i c.row-row.ensures c.version-stored.ensures in
    let n = state_at g c.args.i c.row-row.ensures c.state.ensures in
    search rules
