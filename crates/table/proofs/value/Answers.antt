-- `table::value` meets its contract: a length byte over 128 gives all that stands behind it.
use Rattle.std.proofs.Common.{ℕ, ◌≡◌, sym, ap, ◌∙◌, arith, eq-eqb, length, take, drop, get_or, length-drop, min}
use Rattle.wire.specs.Packet.{value_size}
use Rattle.table.proofs.Laws.{take_min}
use native.Mathlib.Nat.{add-sub_cancel_left}
use Rattle.wire.proofs.Numbers.{pick_true}
use Rattle.store.specs.Table.{slot_of, value_at, size_at}
use Rattle.table.specs.Parts.{value_part}
use Rattle.table.proofs.value.Goals as goal

pub returns : goal.returns
unfolding value_part slot_of
returns c =
    let s = c.args in
    let k = get_or s.r.now size_at 0 in
    let rest : length (drop value_at s.r.now) ≡ value_size = simp length-drop (omega arith) in
    ap (λ (n : ℕ). take n (drop value_at s.r.now)) (add-sub_cancel_left value_at c.min-n.result ∙ c.min-n.ensures ∙ ap (λ (n : ℕ). min n value_size) c.from.ensures)
    ∙ take_min k value_size (drop value_at s.r.now) rest
    ∙ sym (pick_true _ _ _ (eq-eqb _ _ c.if-r-ne-ROW_SIZE.false))
