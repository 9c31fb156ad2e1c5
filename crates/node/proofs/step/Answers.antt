-- `node::step`: rows 1 to 3, then what `ask` settles.
use Rattle.std.proofs.lemmas.Result.{err_from_is_err_and}
use Rattle.std.proofs.Common.{rules}
use Rattle.packet.proofs.Laws.{read_fields, read_unread}
use Rattle.node.proofs.Laws.{rules_of, gives_broken, gives_small, gives_malformed, gives_refused, gives_sent, formed_read}
use Rattle.node.proofs.step.Goals as goal

pub returns-then-not-good : goal.returns-then-not-good
returns-then-not-good c = gives_broken (search rules)

pub returns-then-out-lt-OUTLET_SIZE : goal.returns-then-out-lt-OUTLET_SIZE
returns-then-out-lt-OUTLET_SIZE c = gives_small (search rules) c.if-out-lt-OUTLET_SIZE.true

pub returns-in_err-head : goal.returns-in_err-head
returns-in_err-head c =
    let p = err_from_is_err_and c.from_residual.result c.from_residual.ensures.1 in
    rw (p.1, p.2) (gives_malformed (search rules) c.if-out-lt-OUTLET_SIZE.false (read_unread c.args.packet.now _ c.in_err-head.ensures))

pub invariant_of-query : goal.invariant_of-query
invariant_of-query c =
    let v = read_fields c.args.packet.now _ c.in_ok-head.ensures in
    record { rules = search rules; formed = formed_read v; fields = v.head }

pub returns-in_err-reply : goal.returns-in_err-reply
returns-in_err-reply c =
    let p = err_from_is_err_and c.from_residual-in_err-reply.result c.from_residual-in_err-reply.ensures.1 in
    let v = read_fields c.args.packet.now _ c.in_ok-head.ensures in
    rw (p.1, p.2) (gives_refused (search rules) c.if-out-lt-OUTLET_SIZE.false v _ c.in_err-reply.ensures)

pub store_taken-requires : goal.store_taken-requires
store_taken-requires c =
    let v = read_fields c.args.packet.now _ c.in_ok-head.ensures in
    record { rules = rules_of (search rules); formed = v.formed; fields = v.head; step = c.in_ok-reply.ensures }

pub returns : goal.returns
returns c =
    let v = read_fields c.args.packet.now _ c.in_ok-head.ensures in
    gives_sent (search rules) c.if-out-lt-OUTLET_SIZE.false v _ c.in_ok-reply.ensures c.store_taken.ensures c.send.ensures
