-- `relay::step`: each refusal is the call's, and a packet that was read goes where the step sends it.
use Rattle.std.proofs.Common.{rules}
use Rattle.std.proofs.lemmas.Result.{err_from_is_err_and}
use Rattle.packet.proofs.Laws.{read_fields, read_unread}
use Rattle.relay.proofs.Laws.{drops, call_broken, call_small, call_malformed, passage, gives_refused, gives_sent}
use Rattle.relay.proofs.step.Goals as goal

pub returns-then-not-good : goal.returns-then-not-good
returns-then-not-good c =
    let a = c.args in
    drops (call_broken a.c a.packet.now a.out.now (search rules))

pub returns-then-out-lt-OUTLET_SIZE : goal.returns-then-out-lt-OUTLET_SIZE
returns-then-out-lt-OUTLET_SIZE c =
    let a = c.args in
    drops (call_small a.c a.packet.now a.out.now (search rules) c.if-out-lt-OUTLET_SIZE.true)

pub returns-in_err-head : goal.returns-in_err-head
returns-in_err-head c =
    let a = c.args in
    let p = err_from_is_err_and c.from_residual.result c.from_residual.ensures.1 in
    let u = read_unread a.packet.now _ c.in_err-head.ensures in
    rw (p.1, p.2) (drops (call_malformed a.c a.packet.now a.out.now (search rules) c.if-out-lt-OUTLET_SIZE.false u.0 u.1))

pub invariant_of-passage : goal.invariant_of-passage
invariant_of-passage c =
    let g = passage c.args.c c.args.packet (read_fields c.args.packet.now _ c.in_ok-head.ensures) in
    record { formed = g.formed; fields = g.fields }

pub returns-in_err-to : goal.returns-in_err-to
returns-in_err-to c =
    let p = err_from_is_err_and c.from_residual-in_err-to.result c.from_residual-in_err-to.ensures.1 in
    let g = passage c.args.c c.args.packet (read_fields c.args.packet.now _ c.in_ok-head.ensures) in
    rw (p.1, p.2) (gives_refused g c.args.out.now (search rules) c.if-out-lt-OUTLET_SIZE.false c.in_err-to.ensures)

pub returns : goal.returns
returns c =
    let g = passage c.args.c c.args.packet (read_fields c.args.packet.now _ c.in_ok-head.ensures) in
    gives_sent g c.args.out.now (search rules) c.if-out-lt-OUTLET_SIZE.false c.in_ok-to.ensures c.send.ensures
