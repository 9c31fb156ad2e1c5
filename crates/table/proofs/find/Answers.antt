-- `table::find` meets its contract: a key of another length stands nowhere, and a slot has a key if and only if it has its two halves.
use Rattle.std.proofs.Common.{◌≤◌, ◌-◌, ◌*◌, ◌∙◌, ap₂, arith, length}
use Rattle.std.specs.Prelude.{position}
use Rattle.be.specs.Be.{Bytes}
use Rattle.store.specs.Table.{slot_of, head_size, row_size, whole_slots}
use Rattle.table.specs.Parts.{has_halves}
use Rattle.table.proofs.Laws.{first_row, find_halves}
use Rattle.table.proofs.find.Goals as goal

pub returns : goal.returns
returns c =
    let s = c.args in
    let k = c.in_ok-as_array.ensures.cases in
    let bt : Bytes s.t.now = λ i h. omega (arith, c.type_inv.t i) in
    let bk : Bytes s.key.now = λ i h. omega (arith, c.type_inv.key i) in
    let room : row_size * whole_slots s.t.now ≤ length s.t.now - head_size = omega arith in
    c.scan.ensures
    ∙ ap₂ (λ x l. position (λ r. has_halves x (slot_of r)) l) k.same c.rows.ensures.value
    ∙ first_row (has_halves s.key.now) s.t.now
    ∙ find_halves s.key.now s.t.now (whole_slots s.t.now) k.long bk bt room
