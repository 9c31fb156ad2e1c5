-- The slots of a table: what a row that is written changes, and what it leaves.
use Prim.Native.Nat.{ℕ, zero, suc, ◌+◌, ◌^◌, ◌<◌, ◌≤◌}
use mathlib.Core.Path.{◌≡◌, refl, sym, ap, ◌∙◌}
use mathlib.Core.List.{List}
use native.Mathlib.Omega.{arith}
use native.Mathlib.Decide.{dec_lt, ℕ_discrete}
use lib.ListN.{length, get_or, take, drop, set, length-set, length-drop}
use lib.Seq.{ext_get_or, get_or-set_same, get_or-set_other, length-take-le}
use Rattle.be.specs.Be.{be, digits, put}
use Rattle.be.proofs.Laws.{cut_same, cut_before, cut_after, be_before, be_after, be_put, length_put, length_digits}
use Rattle.wire.specs.declared.Stamp.{Stamp}
use Rattle.store.specs.Table.{Slot, slot_of, row_of, free_slot, head_size, row_size, row_at, row, tab, slots, count_of, table_of, TableRules, Write, keep, set_row, write_bytes, write_table, fence_bytes, fence_table}
use Rattle.store.proofs.Slot.{SlotFits, slot_row, length_row_of}

-- ---- lists made by place

pub length_tab : {A : Type 0} (n : ℕ) (f : ℕ → A) → length (tab n f) ≡ n
length_tab zero f = refl
length_tab (suc n) f = ap suc (length_tab n (λ i. f (suc i)))

pub get_or_tab : {A : Type 0} (n : ℕ) (f : ℕ → A) (i : ℕ) (d : A) → i < n → get_or (tab n f) i d ≡ f i
get_or_tab zero f i d h = absurd (omega arith)
get_or_tab (suc n) f zero d h = refl
get_or_tab (suc n) f (suc i) d h = get_or_tab n (λ j. f (suc j)) i d (omega arith)

pub length_slots : (n : ℕ) (t : List ℕ) → length (slots n t) ≡ n
unfolding slots
length_slots n t = length_tab n (λ i. slot_of (row t i))

pub get_or_slots : (n : ℕ) (t : List ℕ) (i : ℕ) (d : Slot) → i < n → get_or (slots n t) i d ≡ slot_of (row t i)
unfolding slots
get_or_slots n t i d h = get_or_tab n (λ j. slot_of (row t j)) i d h

-- the slots depend on the rows alone
pub slots_rows : (n : ℕ) (t u : List ℕ) → ((i : ℕ) → i < n → row t i ≡ row u i) → slots n t ≡ slots n u
slots_rows n t u h =
    ext_get_or free_slot (slots n t) (slots n u) (rw (length_slots n t, length_slots n u))
    (λ i l.
    let b : i < n = rw length_slots at l in
    get_or_slots n t i free_slot b ∙ ap slot_of (h i b) ∙ sym (get_or_slots n u i free_slot b))

pub length_row : (t : List ℕ) (i : ℕ) → row_at (suc i) ≤ length t → length (row t i) ≡ row_size
length_row t i h = length-take-le row_size (drop (row_at i) t) (simp length-drop (omega arith))

-- ---- a row that is written

module _ (t r : List ℕ) (i : ℕ) (hr : length r ≡ row_size) (ht : row_at (suc i) ≤ length t) where
  pub length_row_put : length (put t (row_at i) r) ≡ length t
  length_row_put = length_put t (row_at i) r (omega arith)

  pub row_same : row (put t (row_at i) r) i ≡ r
  row_same = cut_same t r (row_at i) row_size hr (omega arith)

  pub row_other : (j : ℕ) → (j ≡ i → ⊥) → row (put t (row_at i) r) j ≡ row t j
  row_other j ne = go (dec_lt j i)
    where
      go : Dec (j < i) → row (put t (row_at i) r) j ≡ row t j
      go (yes l) = cut_before t r (row_at i) (row_at j) row_size (omega arith) (omega arith)
      go (no g) = ap (take row_size) (cut_after t r (row_at i) (row_at j) (omega arith) (omega arith))

  -- the numbers of the head stay
  pub head_row_put : (k at : ℕ) → at + k ≤ head_size → be k (put t (row_at i) r) at ≡ be k t at
  head_row_put k at h = be_before k t r (row_at i) at (omega arith) (omega arith)

-- that slot is set, and no other
pub slots_put : (n : ℕ) (t r : List ℕ) (i : ℕ) → i < n → row_at n ≤ length t → length r ≡ row_size → slots n (put t (row_at i) r) ≡ set (slots n t) i (slot_of r)
slots_put n t r i hi ht hr =
    ext_get_or free_slot (slots n (put t (row_at i) r)) (set (slots n t) i (slot_of r))
    (simp (length-set, length_slots))
    (λ j hj. at j (rw length_slots at hj) (ℕ_discrete j i))
  where
    at : (j : ℕ) → j < n → Dec (j ≡ i) → get_or (slots n (put t (row_at i) r)) j free_slot ≡ get_or (set (slots n t) i (slot_of r)) j free_slot
    at j hj (yes e) =
        rw (get_or_slots n (put t (row_at i) r) j free_slot hj, e, row_same t r i hr (omega arith), get_or-set_same (slots n t) i (slot_of r) free_slot (rw length_slots hi))
    at j hj (no ne) =
        rw (get_or_slots n (put t (row_at i) r) j free_slot hj, row_other t r i hr (omega arith) j ne, get_or-set_other (slots n t) i j (slot_of r) free_slot ne, get_or_slots n t j free_slot hj)

-- ---- a table that is written, in bytes and in slots

-- a row written, of any table that has the length for its slot count
pub table_row : (t r : List ℕ) (i : ℕ) → length t ≡ row_at (count_of t) → i < count_of t → length r ≡ row_size → table_of (put t (row_at i) r) ≡ write_table (set_row i (slot_of r)) (table_of t)
unfolding table_of
table_row t r i ht hi hr =
    let room : row_at (suc i) ≤ length t = omega arith in
    let fence = head_row_put t r i hr room 4 0 (omega arith) in
    let id = head_row_put t r i hr room 2 4 (omega arith) in
    let count = head_row_put t r i hr room 2 6 (omega arith) in
    let rows = ap (λ (n : ℕ). slots n (put t (row_at i) r)) count ∙ slots_put (count_of t) t r i hi (omega arith) hr in
    λ k. record { fence = record { 0 = fence k }; id = id k; slots = rows k }

-- what a write asks: the slot is one of the table's, and its row can hold what is set
abbrev pub WriteFits : Write → List ℕ → Type 0
WriteFits keep t = Unit {0}
WriteFits (set_row i s) t = (i < count_of t) × SlotFits s

pub table_write : (w : Write) (t : List ℕ) → TableRules t → WriteFits w t → table_of (write_bytes w t) ≡ write_table w (table_of t)
table_write keep t g f = refl
table_write (set_row i s) t g f =
    table_row t (row_of s) i g.size f.0 (length_row_of s f.1.key f.1.value) ∙ ap (λ (x : Slot). write_table (set_row i x) (table_of t)) (slot_row s f.1)

-- a slot that is copied from one table to another
pub table_copy : (named fresh : List ℕ) (i : ℕ) → TableRules named → TableRules fresh → i < count_of named → i < count_of fresh → table_of (put fresh (row_at i) (row named i)) ≡ write_table (set_row i (get_or (table_of named).slots i free_slot)) (table_of fresh)
unfolding table_of
table_copy named fresh i gn gf hn hf =
    let size = gn.size in
    table_row fresh (row named i) i gf.size hf (length_row named i (omega arith))
    ∙ ap (λ (x : Slot). write_table (set_row i x) (table_of fresh)) (sym (get_or_slots (count_of named) named i free_slot hn))

-- ---- a fence that is written

module _ (n : Stamp) (t : List ℕ) (room : head_size ≤ length t) where
  pub length_fence : length (fence_bytes n t) ≡ length t
  length_fence = length_put t 0 (digits 4 n.0) (omega (arith, length_digits 4 n.0))

  -- what stands behind the fence stays
  pub row_fence : (j : ℕ) → row (fence_bytes n t) j ≡ row t j
  row_fence j = ap (take row_size) (cut_after t (digits 4 n.0) 0 (row_at j) (omega arith) (omega arith))

  pub head_fence : (at : ℕ) → 4 ≤ at → be 2 (fence_bytes n t) at ≡ be 2 t at
  head_fence at h = be_after 2 t (digits 4 n.0) 0 at (omega arith) (omega arith)

pub table_fence : (n : Stamp) (t : List ℕ) → TableRules t → n.0 < 256 ^ 4 → table_of (fence_bytes n t) ≡ fence_table n (table_of t)
unfolding table_of
table_fence n t g b =
    let size = g.size in
    let room : head_size ≤ length t = omega arith in
    let fence = be_put 4 n.0 t 0 b (omega arith) in
    let id = head_fence n t room 4 (omega arith) in
    let count = head_fence n t room 6 (omega arith) in
    let rows = ap (λ (m : ℕ). slots m (fence_bytes n t)) count ∙ slots_rows (count_of t) (fence_bytes n t) t (λ j h. row_fence n t room j) in
    λ k. record { fence = record { 0 = fence k }; id = id k; slots = rows k }
