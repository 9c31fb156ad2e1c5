-- What the functions of the crate give on a table that keeps the rules: the fields and slots that it decodes to.
use Prim.Native.Nat.{ℕ, ◌<◌, ◌≤◌}
use mathlib.Core.Path.{◌≡◌, sym, ap, ◌∙◌}
use mathlib.Core.List.{List}
use mathlib.Core.Bool.{true}
use native.Mathlib.Omega.{arith}
use borrow.Author.Tests.{le-leb, lt-ltb, eq-eqb}
use lib.ListN.{length, get_or}
use lib.Dec.{leb, ltb, eqb}
use Rattle.be.specs.Be.{put}
use Rattle.wire.specs.Packet.{key_size, value_size}
use Rattle.wire.specs.declared.Stamp.{Stamp}
use Rattle.wire.proofs.Numbers.{pick_true, reflects_yes, and_both}
use Rattle.store.specs.Table.{Slot, free_slot, head_size, row_size, row_at, row, count_of, table_of, TableRules, whole_slots, set_row, write_bytes, fence_bytes}
use Rattle.store.proofs.Rows.{length_row}
use Rattle.store.proofs.Rules.{whole_table, get_or_table}
use Rattle.table.specs.Parts.{fence_part, id_part, count_part, row_part, state_part, version_part, value_part, slot_stored, fence_set, slot_copied, sized}
use Rattle.table.proofs.Laws.{reflect_sized, copied}

module _ (t : List ℕ) (g : TableRules t) where
  -- ---- the head

  has_head : leb head_size (length t) ≡ true
  has_head = let size = g.size in le-leb head_size (length t) (omega arith)

  pub fence_table_lem : fence_part t ≡ (table_of t).fence
  unfolding fence_part table_of
  fence_table_lem = pick_true _ _ _ has_head

  pub id_table : id_part t ≡ (table_of t).id
  unfolding id_part table_of
  id_table = pick_true _ _ _ has_head

  pub count_table : count_part t ≡ count_of t
  unfolding count_part
  count_table = pick_true _ _ _ has_head

  pub fence_set_table : (n : Stamp) → fence_set t n ≡ fence_bytes n t
  unfolding fence_set
  fence_set_table n = pick_true _ _ _ has_head

  -- ---- slot i

  module _ (i : ℕ) (h : i < count_of t) where
    has_slot : i < whole_slots t
    has_slot = omega (arith, whole_table t g)

    row_whole : row_part t i ≡ row t i
    unfolding row_part
    row_whole = pick_true _ _ _ (lt-ltb i (whole_slots t) has_slot)

    is_row : eqb (length (row t i)) row_size ≡ true
    is_row = let size = g.size in eq-eqb (length (row t i)) row_size (length_row t i (omega arith))

    pub state_table : state_part (row_part t i) ≡ (get_or (table_of t).slots i free_slot).state
    unfolding state_part
    state_table = ap state_part row_whole ∙ pick_true _ _ _ is_row ∙ ap (λ (s : Slot). s.state) (sym (get_or_table t i h))

    pub version_table : version_part (row_part t i) ≡ (get_or (table_of t).slots i free_slot).version
    unfolding version_part
    version_table = ap version_part row_whole ∙ pick_true _ _ _ is_row ∙ ap (λ (s : Slot). s.version) (sym (get_or_table t i h))

    pub value_table : value_part (row_part t i) ≡ (get_or (table_of t).slots i free_slot).value
    unfolding value_part
    value_table = ap value_part row_whole ∙ pick_true _ _ _ is_row ∙ ap (λ (s : Slot). s.value) (sym (get_or_table t i h))

    pub store_table : (s : Slot) → length s.key ≡ key_size → length s.value ≤ value_size → slot_stored t i s ≡ write_bytes (set_row i s) t
    unfolding slot_stored
    store_table s hk hv =
        pick_true _ _ _ (and_both (ltb i (whole_slots t)) (sized s) (lt-ltb i (whole_slots t) has_slot) (reflects_yes (reflect_sized s) (hk, hv)))

-- a slot copied from one table to another
pub copy_table : (from to : List ℕ) (i : ℕ) → TableRules from → TableRules to → i < count_of from → i < count_of to → slot_copied from to i ≡ put to (row_at i) (row from i)
copy_table from to i g h f t = copied from to i (has_slot from g i f) (has_slot to h i t)
