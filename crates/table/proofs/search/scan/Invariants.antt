-- The loop's invariant: the first slot that has the halves is the first from the next eight on.
use Rattle.std.proofs.Common.{◌*◌, ◌≡◌, drop}
use Rattle.std.specs.Prelude.{position}
use Rattle.std.specs.List.{position_from}
use Rattle.store.specs.Table.{slot_of}
use Rattle.table.specs.Parts.{has_halves}
use Rattle.table.proofs.search.scan.Given as goal

abbrev pub invariant-loop-i : goal.invariant-loop-i
invariant-loop-i l =
    position (λ r. has_halves l.key (slot_of r)) l.rows ≡ position_from (λ r. has_halves l.key (slot_of r)) (8 * l.i) (drop (8 * l.i) l.rows)
