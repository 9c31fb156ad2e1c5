-- `table::store` meets its contract: the part that was lent is the only one that changes.
use Rattle.std.proofs.Common.{arith}
use native.Mathlib.Nat.{add-sub_cancel_left}
use Rattle.store.specs.Table.{slot, row_at, row_size}
use Rattle.table.proofs.Laws.{store_part}
use Rattle.table.proofs.store.Goals as goal

pub returns-then-i-rows : goal.returns-then-i-rows
returns-then-i-rows c =
    let s = c.args in
    let k = add-sub_cancel_left (row_at s.i) row_size in
    rw k (store_part s.t.now s.i (slot s.key.now s.state s.v s.value.now) c.write_slot.new.part (omega arith) (rw k at c.write_slot.ensures))
