-- `table::rules::row_ok` meets its contract: a free slot, one that has a value, and the other states.
use Rattle.std.proofs.Common.{ℕ, Bool, ◌&&◌, ◌||◌, ◌≤◌, length, length-drop, sym, ap, ap₂, ◌∙◌, arith, eqb, drop, get_or, take_all}
use Rattle.wire.specs.Packet.{value_size}
use Rattle.wire.specs.Version.{is_zero, is_given}
use Rattle.store.specs.Table.{state_at, value_at, entered, deleted, all_zero}
use Rattle.table.proofs.Laws.{version_is, row_bare}
use Rattle.table.proofs.rules.row_ok.Goals as goal

pub returns : goal.returns
returns c =
    let r = c.args.r.now in
    let v = c.version-v.ensures ∙ version_is r c.told-r in
    let rest : length (drop value_at r) ≤ value_size = simp length-drop (omega arith) in
    ap₂ ◌&&◌
    (ap₂ (λ (x y : Bool). (eqb (get_or r state_at 0) entered && x) || (eqb (get_or r state_at 0) deleted && y)) (c.is_zero.ensures ∙ ap is_zero v) (c.is_given-2.ensures ∙ ap is_given v))
    (ap₂ (λ (n : ℕ) (z : Bool). eqb n 0 && z) c.from-n.ensures (c.zeros-2.ensures ∙ ap all_zero (take_all value_size (drop value_at r) rest)))
    ∙ sym (row_bare r c.if-state.false c.if-state-2.false)
