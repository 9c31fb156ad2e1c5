-- `table::lowest_free` meets its contract.
use Rattle.std.proofs.Common.{rules, ap, ◌∙◌}
use Rattle.std.proofs.lemmas.Iterator.{YieldsList-from_slice}
use Rattle.std.proofs.lemmas.Iterator.Search.{position_from_yields_List}
use Rattle.std.specs.Prelude.{position}
use Rattle.store.specs.Table.{lowest_free, is_free_slot, slot_of}
use Rattle.table.proofs.Laws.{first_row}
use Rattle.table.proofs.lowest_free.Goals as goal

pub returns : goal.returns
unfolding lowest_free is_free_slot slot_of
returns c =
    position_from_yields_List (λ r. is_free_slot (slot_of r)) _ _ _ c.position.ensures.ran (YieldsList-from_slice c.rows.result.now cc) (λ r b q k. search rules)
    ∙ ap (position (λ r. is_free_slot (slot_of r))) c.rows.ensures.value
    ∙ first_row is_free_slot c.args.t.now
