-- `table::write_slot` meets its contract: six pieces, one behind the other, and the zeros that are left behind them are the row.
use Rattle.std.proofs.Common.{◌+◌, [], ◌∷◌, ◌≡◌, refl, sym, ap, ◌∙◌, arith, rules, length, drop, set, length-set}
use Rattle.be.proofs.Laws.{start, grow, sets_put}
use Rattle.be.specs.Be.{digits}
use Rattle.wire.proofs.Numbers.{pick_true, pick_false}
use Rattle.wire.specs.Packet.{key_size, value_size}
use Rattle.store.specs.Table.{slot, row_of, row_size, state_at, size_at, value_at}
use Rattle.table.specs.Parts.{slot_written, sized}
use Rattle.table.proofs.Laws.{drop_cleared, behind, reflect_room}
use Rattle.table.proofs.write_slot.Goals as goal

pub returns-then-part-key : goal.returns-then-part-key
unfolding row_of slot_written sized
returns-then-part-key c =
    let s = c.args in
    let p = (reflect_room s.part.now (slot s.key.now s.state s.v s.value.now)).0 c.if-part-key.true in
    let n = length s.value.now in
    let l = c.put_bytes.new.s in
    let l' = set l state_at s.state in
    let size : length l ≡ row_size = search rules in
    let size' : length l' ≡ row_size = simp length-set size in
    let g2 = grow s.key.now key_size (start c.put_zeros.new.s) c.put_bytes.ensures (omega arith) in
    let g3 = grow (s.state ∷ []) size_at g2 (sets_put (s.state ∷ []) l state_at (omega arith)) refl in
    let g4 = grow (n ∷ []) 18 g3 (sets_put (n ∷ []) l' size_at (omega arith)) refl in
    let g5 = grow (digits 2 s.v.session.0) 20 g4 c.put.ensures refl in
    let g6 = grow (digits 4 s.v.sequence.0) value_at g5 c.put-then-part-key.ensures refl in
    let g7 = grow s.value.now (value_at + n) g6 c.put_bytes-then-part-key.ensures refl in
    behind g7 (ap (drop (value_at + n)) c.put_zeros.ensures ∙ drop_cleared s.part.now value_at value_size n (omega arith) (omega arith))
    ∙ sym (pick_true _ _ _ c.if-part-key.true)

pub returns-else-part-key : goal.returns-else-part-key
unfolding slot_written sized
returns-else-part-key c = sym (pick_false _ _ _ c.if-part-key.false)
