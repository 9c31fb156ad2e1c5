-- `node::store_taken`: what the step comes to fits its slot, so it is stored.
use Rattle.std.proofs.Common.{arith, subst}
use Rattle.be.specs.Be.{Bytes}
use Rattle.node.specs.Ways.{Comes}
use Rattle.node.proofs.Laws.{is_stored, is_kept}
use Rattle.node.proofs.store_taken.Goals as goal

pub returns : goal.returns
returns c =
    let bt : Bytes c.args.table.now = λ i h. grind arith in
    let bp : Bytes c.args.packet.now = λ i h. omega (arith, c.type_inv.packet i) in
    let taken = subst (Comes c.args.table.now c.args.packet.now c.args.h) c.in-Taken.is c.requires in
    rw c.in-Taken.is (is_stored taken bt bp c.key_of.ensures c.written.ensures c.value_of.ensures c.store.ensures)

pub returns-in_default : goal.returns-in_default
returns-in_default c = is_kept c.args.table.now c.args.packet.now c.args.h c.args.reply c.in_default.not-Taken
