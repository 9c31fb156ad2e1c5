-- A blank table: when making one is refused, that its bytes decode to it, and that it keeps the rules.
use Prim.Native.Nat.{ℕ, suc, ◌+◌, ◌*◌, ◌^◌, ◌<◌, ◌≤◌}
use mathlib.Core.Path.{◌≡◌, refl, sym, ap, ◌∙◌}
use mathlib.Core.List.{List, [], ◌∷◌, ◌++◌, append_assoc}
use mathlib.Core.Bool.{◌||◌, not}
use mathlib.Core.Logic.{inl, inr}
use native.Mathlib.Omega.{arith}
use native.Mathlib.Nat.{add_assoc}
use lib.Dec.{ltb, eqb}
use lib.ListN.{length, get_or, drop, replicate, length-replicate, get_or-replicate}
use lib.Seq.{ext_get_or, get_or-take, get_or-drop, get_or-append-add}
use Rattle.be.specs.Be.{be, digits, Bytes}
use Rattle.be.proofs.Laws.{be_at, bytes_append, bytes_digits, bytes_zeros}
use Rattle.wire.specs.Numbers.{ok, Judged, Applies, test, broken}
use Rattle.wire.proofs.Numbers.{judged, judged_gives, past, reflect_eqb, reflect_ltb, reflect_not, reflect_or}
use Rattle.store.specs.Table.{free_slot, head_size, row_size, most_slots, row_at, row, slots, id_of, count_of, table_of, Zero, is_free, TableRules, blank_table, blank_bytes, blank_call, blank_rows, BlankGives}
use Rattle.store.proofs.Slot.{row_free, zero_at_lem, zero_replicate}
use Rattle.store.proofs.Rows.{length_row, length_slots, get_or_slots}

-- the answer is the one that the rows call for
pub blank_judged : (t : List ℕ) (id n : ℕ) → Judged (blank_rows t id n) (blank_call t id n)
unfolding blank_call
blank_judged t id n =
    judged (test broken (eqb id 0 || (eqb n 0 || (ltb most_slots n || not (eqb (length t) (row_at n))))) ∷ []) (blank_rows t id n)
    (refl, reflect_or (reflect_eqb id 0) (reflect_or (reflect_eqb n 0) (reflect_or (reflect_ltb most_slots n) (reflect_not (reflect_eqb (length t) (row_at n))))), λ _. tt)
    refl
    (blank_bytes id n)

-- done where there is an id, 1 to 256 slots, and a slice of their length
pub blank_done : (t : List ℕ) (id n : ℕ) → 0 < id → 0 < n → n ≤ most_slots → length t ≡ row_at n → blank_call t id n ≡ ok (blank_bytes id n)
unfolding blank_call
blank_done t id n there some few size = judged_gives (blank_rows t id n) (blank_call t id n) (blank_bytes id n) (blank_judged t id n) (λ b e. (past _ _ _ _ e).1) none
  where
    none : (m : ℕ) → Applies (blank_rows t id n) m → ⊥
    none m (inl (e, inl z)) = omega arith
    none m (inr x') = elim x' [ ]
    none m (inl (e, inr (inl z))) = omega arith
    none m (inl (e, inr (inr (inl h)))) = omega arith
    none m (inl (e, inr (inr (inr d)))) = d size

pub length_blank : (id n : ℕ) → length (blank_bytes id n) ≡ row_at n
unfolding blank_bytes
length_blank id n = simp length-replicate (omega arith)

pub bytes_blank : (id n : ℕ) → Bytes (blank_bytes id n)
unfolding blank_bytes
bytes_blank id n = search (bytes_append, bytes_digits, bytes_zeros)

fence_blank : (id n : ℕ) → be 4 (blank_bytes id n) 0 ≡ 0
unfolding blank_bytes
fence_blank id n = refl

id_blank : (id n : ℕ) → id < 256 ^ 2 → id_of (blank_bytes id n) ≡ id
unfolding blank_bytes
id_blank id n h =
    ap (λ (l : List ℕ). be 2 l 4) (append_assoc (digits 4 0 ++ digits 2 id) (digits 2 n) (replicate (row_size * n) 0))
    ∙ be_at 2 id (digits 4 0) (digits 2 n ++ replicate (row_size * n) 0) 4 refl h

count_blank : (id n : ℕ) → n < 256 ^ 2 → count_of (blank_bytes id n) ≡ n
unfolding blank_bytes
count_blank id n h = be_at 2 n (digits 4 0 ++ digits 2 id) (replicate (row_size * n) 0) 6 refl h

-- every row is free
row_blank : (id n i : ℕ) → i < n → Zero (row (blank_bytes id n) i)
unfolding blank_bytes
row_blank id n i h j l =
    let room : row_at (suc i) ≤ length (blank_bytes id n) = rw (length_blank id n) (omega arith) in
    let b : j < row_size = rw (length_row (blank_bytes id n) i room) at l in
    get_or-take row_size (drop (row_at i) (blank_bytes id n)) j 0 b
    ∙ get_or-drop (row_at i) (blank_bytes id n) j 0
    ∙ ap (λ (k : ℕ). get_or (blank_bytes id n) k 0) (add_assoc head_size (row_size * i) j)
    ∙ get_or-append-add (digits 4 0 ++ digits 2 id ++ digits 2 n) (replicate (row_size * n) 0) (row_size * i + j) 0
    ∙ zero_at_lem (replicate (row_size * n) 0) (zero_replicate (row_size * n)) (row_size * i + j)

slots_blank : (id n : ℕ) → slots n (blank_bytes id n) ≡ replicate n free_slot
slots_blank id n =
    ext_get_or free_slot (slots n (blank_bytes id n)) (replicate n free_slot) (rw (length_slots, length-replicate))
    (λ i l.
    let b : i < n = rw length_slots at l in
    let room : row_at (suc i) ≤ length (blank_bytes id n) = rw (length_blank id n) (omega arith) in
    get_or_slots n (blank_bytes id n) i free_slot b
    ∙ row_free (row (blank_bytes id n) i) (length_row (blank_bytes id n) i room) (row_blank id n i b)
    ∙ sym (get_or-replicate n i free_slot free_slot b))

-- what is made decodes to a blank table, and keeps the rules
pub table_blank : (id n : ℕ) → id < 256 ^ 2 → n ≤ most_slots → table_of (blank_bytes id n) ≡ blank_table id n
unfolding table_of blank_table
table_blank id n hid hn =
    let fence : be 4 (blank_bytes id n) 0 ≡ 0 = fence_blank id n in
    let id' = id_blank id n hid in
    let rows = ap (λ (m : ℕ). slots m (blank_bytes id n)) (count_blank id n (omega arith)) ∙ slots_blank id n in
    λ k. record { fence = record { 0 = fence k }; id = id' k; slots = rows k }

pub rules_blank : (id n : ℕ) → 0 < id → id < 256 ^ 2 → 0 < n → n ≤ most_slots → TableRules (blank_bytes id n)
rules_blank id n hid hid' hn hn' =
    let count = count_blank id n (omega arith) in
    let id' = id_blank id n hid' in
    record {
      size = length_blank id n ∙ ap row_at (sym count);
      id = λ e. omega arith;
      some = omega arith;
      few = omega arith;
      rows = λ i h. is_free (row_blank id n i (omega arith));
    }

-- a call's promise leaves one outcome
pub blank_once : (t : List ℕ) (id count n m : ℕ) (u v : List ℕ) → BlankGives t id count n u → BlankGives t id count m v → (n ≡ m) × (u ≡ v)
blank_once t id count n m u v a b = (a.number ∙ sym b.number, a.table ∙ sym b.table)
