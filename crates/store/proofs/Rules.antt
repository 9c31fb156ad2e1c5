-- The rules of a table: the test reflects them, what is written keeps them, and what they say of the slots.
use Prim.Native.Nat.{ℕ, zero, suc, ◌+◌, ◌-◌, ◌<◌, ◌≤◌}
use mathlib.Core.Path.{◌≡◌, refl, sym, ap, ◌∙◌}
use mathlib.Core.List.{List, [], ◌∷◌}
use mathlib.Core.Logic.{◌⊎◌, inl, inr, ⊎_elim}
use native.Mathlib.Omega.{arith}
use native.Mathlib.Decide.{dec_lt, ℕ_discrete}
use lib.ListN.{length, get_or, take, drop, replicate, length-drop, get_or-eq_default}
use lib.Seq.{drop_at, drop-drop, length-take-le}
use Rattle.be.specs.Be.{be, digits, put, Bytes}
use Rattle.be.proofs.Laws.{bytes_nil, bytes_zeros, bytes_take, bytes_drop, bytes_put, bytes_digits}
use Rattle.wire.specs.declared.Stamp.{Stamp}
use Rattle.wire.specs.Packet.{key_size, value_size}
use Rattle.wire.specs.Version.{version, zero_version}
use Rattle.wire.specs.declared.Version.{Version}
use Rattle.wire.proofs.Packet.{reflect_zero as reflect_zero_version, reflect_given}
use Rattle.wire.proofs.Numbers.{Reflects, reflect_true, reflect_eqb, reflect_ltb, reflect_leb, reflect_not, reflect_and, reflect_or, reflect_iff}
use Rattle.store.specs.Table.{Slot, slot_of, row_of, free_slot, head_size, row_size, state_at, size_at, value_at, most_slots, free, entered, valued, deleted, row_at, row, id_of, count_of, all_zero, used_ok, row_ok, rows_ok, frame_ok, table_ok, Zero, Used, never_written, has_value, was_deleted, RowRules, is_free, is_used, TableRules, Write, keep, set_row, write_bytes, fence_bytes, table_of, slots, whole_slots}
use Rattle.store.proofs.Slot.{SlotFits, SlotBytes, slot_row, slot_fits, slot_bytes, row_free, length_row_of, bytes_row_of, size_row_of, rest_row_of, row_of_free, zero_at_lem, zero_drop, zero_replicate, row_slot}
use Rattle.store.proofs.Rows.{head_row_put, length_row_put, length_row, row_same, row_other, WriteFits, head_fence, length_fence, row_fence, length_slots, get_or_slots}

-- ---- the tests reflect the rules

pub reflect_zero : (l : List ℕ) → Reflects (all_zero l) (Zero l)
reflect_zero [] = reflect_true (λ i h. absurd (omega arith))
reflect_zero (x ∷ l) = reflect_iff (reflect_and (reflect_eqb x 0) (reflect_zero l)) (λ p. all p.0 p.1, λ z. (z 0 (omega arith), λ i h. z (suc i) (omega arith)))
  where
    all : x ≡ 0 → Zero l → Zero (x ∷ l)
    all e z zero h = e
    all e z (suc i) h = z i (omega arith)

pub reflect_used : (state n : ℕ) (v : Version) → Reflects (used_ok state n v) (Used state n v)
reflect_used state n v =
    reflect_iff
    (reflect_or (reflect_and (reflect_eqb state entered) (reflect_and (reflect_eqb n 0) (reflect_zero_version v)))
    (reflect_or (reflect_and (reflect_eqb state valued) (reflect_given v)) (reflect_and (reflect_eqb state deleted) (reflect_and (reflect_eqb n 0) (reflect_given v)))))
    (⊎_elim (λ p. never_written p.0 p.1.0 p.1.1) (⊎_elim (λ p. has_value p.0 p.1.0 p.1.1) (λ p. was_deleted p.0 p.1.0 p.1.1.0 p.1.1.1)), back)
  where
    back : Used state n v → ((state ≡ entered) × ((n ≡ 0) × (v ≡ zero_version))) ⊎ (((state ≡ valued) × ((0 < v.session.0) × (0 < v.sequence.0))) ⊎ ((state ≡ deleted) × ((n ≡ 0) × ((0 < v.session.0) × (0 < v.sequence.0)))))
    back (never_written a b c) = inl (a, (b, c))
    back (has_value a b c) = inr (inl (a, (b, c)))
    back (was_deleted a b c d) = inr (inr (a, (b, (c, d))))

pub reflect_row : (r : List ℕ) → Reflects (row_ok r) (RowRules r)
unfolding row_ok slot_of
reflect_row r =
    reflect_iff
    (reflect_and (reflect_leb (get_or r size_at 0) value_size)
    (reflect_or (reflect_and (reflect_eqb (get_or r state_at 0) free) (reflect_zero r))
    (reflect_and (reflect_used (get_or r state_at 0) (get_or r size_at 0) (version (be 2 r 18) (be 4 r 20))) (reflect_zero (drop (value_at + get_or r size_at 0) r)))))
    (λ p. ⊎_elim (λ q. is_free q.1) (λ q. is_used p.0 q.0 q.1) p.1, back)
  where
    back : RowRules r → (get_or r size_at 0 ≤ value_size) × (((get_or r state_at 0 ≡ free) × Zero r) ⊎ (Used (get_or r state_at 0) (get_or r size_at 0) (version (be 2 r 18) (be 4 r 20)) × Zero (drop (value_at + get_or r size_at 0) r)))
    back (is_free z) = (omega (arith, zero_at_lem r z size_at), inl (zero_at_lem r z state_at, z))
    back (is_used a b c) = (a, inr (b, c))

-- k rows from row i on
pub reflect_rows : (k i : ℕ) (t : List ℕ) → Reflects (rows_ok k i t) ((j : ℕ) → i ≤ j → j < i + k → RowRules (row t j))
reflect_rows zero i t = reflect_true (λ j l h. absurd (omega arith))
reflect_rows (suc k) i t = reflect_iff (reflect_and (reflect_row (row t i)) (reflect_rows k (suc i) t)) (λ p. all p.0 p.1, λ f. (f i (omega arith) (omega arith), λ j l h. f j (omega arith) (omega arith)))
  where
    all : RowRules (row t i) → ((j : ℕ) → suc i ≤ j → j < suc i + k → RowRules (row t j)) → (j : ℕ) → i ≤ j → j < i + suc k → RowRules (row t j)
    all a f j l h = go (ℕ_discrete j i)
      where
        go : Dec (j ≡ i) → RowRules (row t j)
        go (yes e) = rw e a
        go (no n) = f j (omega arith) (omega arith)

-- id, slot count and length
pub record FrameRules (t : List ℕ) : Type 0 where
  pub size : length t ≡ row_at (count_of t)
  pub id : id_of t ≡ 0 → ⊥
  pub some : 0 < count_of t
  pub few : count_of t ≤ most_slots

pub reflect_frame : (t : List ℕ) → Reflects (frame_ok t) (FrameRules t)
unfolding frame_ok
reflect_frame t =
    reflect_iff
    (reflect_and (reflect_leb head_size (length t))
    (reflect_and (reflect_not (reflect_eqb (id_of t) 0))
    (reflect_and (reflect_and (reflect_ltb 0 (count_of t)) (reflect_leb (count_of t) most_slots)) (reflect_eqb (length t) (row_at (count_of t))))))
    (λ p. record { size = p.1.1.1; id = p.1.0; some = p.1.1.0.0; few = p.1.1.0.1 }, λ g. let size = g.size in (omega arith, (g.id, ((g.some, g.few), g.size))))

pub reflect_table : (t : List ℕ) → Reflects (table_ok t) (TableRules t)
unfolding table_ok
reflect_table t =
    reflect_iff (reflect_and (reflect_frame t) (reflect_rows (count_of t) 0 t)) (
      λ p. record { size = p.0.size; id = p.0.id; some = p.0.some; few = p.0.few; rows = λ i h. p.1 i (omega arith) (omega arith) },
      λ g. (record { size = g.size; id = g.id; some = g.some; few = g.few }, λ j l h. g.rows j (omega arith)),
    )

-- ---- what is written keeps the rules

-- a row that keeps them
pub rules_row : (t r : List ℕ) (i : ℕ) → TableRules t → i < count_of t → length r ≡ row_size → RowRules r → TableRules (put t (row_at i) r)
rules_row t r i g hi hr rules =
    let size = g.size in
    let room : row_at (suc i) ≤ length t = omega arith in
    let id = head_row_put t r i hr room 2 4 (omega arith) in
    let count = head_row_put t r i hr room 2 6 (omega arith) in
    record {
      size = length_row_put t r i hr room ∙ g.size ∙ ap row_at (sym count);
      id = λ e. g.id (sym id ∙ e);
      some = rw count g.some;
      few = rw count g.few;
      rows = λ j h. at j (omega arith) room (ℕ_discrete j i);
    }
  where
    at : (j : ℕ) → j < count_of t → row_at (suc i) ≤ length t → Dec (j ≡ i) → RowRules (row (put t (row_at i) r) j)
    at j h room (yes e) = rw (e, row_same t r i hr room) rules
    at j h room (no n) = rw (row_other t r i hr room j n) (g.rows j h)

-- a slot that is free, or used by the rules
pub data SlotRules (s : Slot) : Type 0 where
  slot_free : s ≡ free_slot → SlotRules s
  slot_used : length s.key ≡ key_size → length s.value ≤ value_size → Used s.state (length s.value) s.version → SlotRules s

-- the row of such a slot keeps the rules
pub rules_row_of : (s : Slot) → SlotFits s → SlotRules s → RowRules (row_of s)
rules_row_of s f (slot_free e) = is_free (rw (e, row_of_free) (zero_replicate row_size))
rules_row_of s f (slot_used hk hv u) =
    let size = size_row_of s hk in
    let same = slot_row s f in
    is_used (rw size hv) (rw (same, size) u)
    (rw (size, ← drop-drop (length s.value) value_at (row_of s), rest_row_of s hk, drop_at s.value (replicate (value_size - length s.value) 0) (length s.value) refl) (zero_replicate (value_size - length s.value)))

-- a property of what is written
abbrev pub OfWrite : (Slot → Type 0) → Write → Type 0
OfWrite P keep = Unit {0}
OfWrite P (set_row i s) = P s

pub rules_write : (w : Write) (t : List ℕ) → TableRules t → WriteFits w t → OfWrite SlotRules w → TableRules (write_bytes w t)
rules_write keep t g f r = g
rules_write (set_row i s) t g f r = rules_row t (row_of s) i g f.0 (length_row_of s f.1.key f.1.value) (rules_row_of s f.1 r)

pub rules_copy : (named fresh : List ℕ) (i : ℕ) → TableRules named → TableRules fresh → i < count_of named → i < count_of fresh → TableRules (put fresh (row_at i) (row named i))
rules_copy named fresh i gn gf hn hf =
    let size = gn.size in
    rules_row fresh (row named i) i gf hf (length_row named i (omega arith)) (gn.rows i hn)

pub rules_fence : (n : Stamp) (t : List ℕ) → TableRules t → TableRules (fence_bytes n t)
rules_fence n t g =
    let size = g.size in
    let room : head_size ≤ length t = omega arith in
    let id = head_fence n t room 4 (omega arith) in
    let count = head_fence n t room 6 (omega arith) in
    record {
      size = length_fence n t room ∙ g.size ∙ ap row_at (sym count);
      id = λ e. g.id (sym id ∙ e);
      some = rw count g.some;
      few = rw count g.few;
      rows = λ j h. rw (row_fence n t room j) (g.rows j (omega arith));
    }

-- ---- what is written keeps a table of bytes

pub bytes_write : (w : Write) (t : List ℕ) → Bytes t → WriteFits w t → OfWrite SlotBytes w → Bytes (write_bytes w t)
bytes_write keep t b f r = b
bytes_write (set_row i s) t b f r = bytes_put t (row_at i) (row_of s) b (bytes_row_of s f.1.value r)

pub bytes_row : (t : List ℕ) (i : ℕ) → Bytes t → Bytes (row t i)
bytes_row t i b = bytes_take row_size (drop (row_at i) t) (bytes_drop (row_at i) t b)

pub bytes_copy : (named fresh : List ℕ) (i : ℕ) → Bytes named → Bytes fresh → Bytes (put fresh (row_at i) (row named i))
bytes_copy named fresh i bn bf = bytes_put fresh (row_at i) (row named i) bf (bytes_row named i bn)

pub bytes_fence : (n : Stamp) (t : List ℕ) → Bytes t → Bytes (fence_bytes n t)
bytes_fence n t b = bytes_put t 0 (digits 4 n.0) b (bytes_digits 4 n.0)

-- ---- what the rules say of the slots

pub length_table : (t : List ℕ) → length (table_of t).slots ≡ count_of t
unfolding table_of
length_table t = length_slots (count_of t) t

-- a row that keeps the rules has a length in range
pub row_small : (r : List ℕ) → RowRules r → get_or r size_at 0 ≤ value_size
row_small r (is_free z) = omega (arith, zero_at_lem r z size_at)
row_small r (is_used a b c) = a

pub slot_rules : (r : List ℕ) → length r ≡ row_size → RowRules r → SlotRules (slot_of r)
unfolding slot_of
slot_rules r h (is_free z) = slot_free (row_free r h z)
slot_rules r h (is_used a b c) =
    let size : length (take (get_or r size_at 0) (drop value_at r)) ≡ get_or r size_at 0 = length-take-le (get_or r size_at 0) (drop value_at r) (simp length-drop (omega arith)) in
    slot_used (length-take-le key_size r (omega arith)) (rw size a) (rw size b)

-- what holds of a free slot and of each row's slot holds of every slot
all_slots : (P : Slot → Type 0) (t : List ℕ) → TableRules t → P free_slot → ((i : ℕ) → i < count_of t → length (row t i) ≡ row_size → P (slot_of (row t i))) → (i : ℕ) → P (get_or (table_of t).slots i free_slot)
unfolding table_of
all_slots P t g none one i = go (dec_lt i (count_of t))
  where
    go : Dec (i < count_of t) → P (get_or (slots (count_of t) t) i free_slot)
    go (yes h) = let size = g.size in rw (get_or_slots (count_of t) t i free_slot h) (one i h (length_row t i (omega arith)))
    go (no n) = let out : length (slots (count_of t) t) ≤ i = rw length_slots (omega arith) in rw (get_or-eq_default (slots (count_of t) t) free_slot out) none

pub table_rules : (t : List ℕ) → TableRules t → (i : ℕ) → SlotRules (get_or (table_of t).slots i free_slot)
table_rules t g = all_slots SlotRules t g (slot_free refl) (λ i h l. slot_rules (row t i) l (g.rows i h))

pub table_fits : (t : List ℕ) → TableRules t → Bytes t → (i : ℕ) → SlotFits (get_or (table_of t).slots i free_slot)
table_fits t g b =
    all_slots SlotFits t g (record { key = refl; value = omega arith; session = omega arith; sequence = omega arith })
    (λ i h l. slot_fits (row t i) l (bytes_row t i b) (row_small (row t i) (g.rows i h)))

pub table_bytes_lem : (t : List ℕ) → TableRules t → Bytes t → (i : ℕ) → SlotBytes (get_or (table_of t).slots i free_slot)
table_bytes_lem t g b =
    all_slots SlotBytes t g (record { key = bytes_zeros key_size; state = omega arith; value = bytes_nil })
    (λ i h l. slot_bytes (row t i) l (bytes_row t i b))

-- a row that keeps the rules comes back from its slot
pub row_back : (r : List ℕ) → length r ≡ row_size → Bytes r → RowRules r → row_of (slot_of r) ≡ r
row_back r h b rules = row_slot r h b (row_small r rules) (rest r rules)
  where
    rest : (r : List ℕ) → RowRules r → Zero (drop (value_at + get_or r size_at 0) r)
    rest r (is_free z) = zero_drop (value_at + get_or r size_at 0) r z
    rest r (is_used a b c) = c

-- a table has as many whole slots as its head says
pub whole_table : (t : List ℕ) → TableRules t → whole_slots t ≡ count_of t
whole_table t g = let size = g.size in omega arith

pub slots_table : (t : List ℕ) → TableRules t → slots (whole_slots t) t ≡ (table_of t).slots
unfolding table_of
slots_table t g = ap (λ (n : ℕ). slots n t) (whole_table t g)

pub get_or_table : (t : List ℕ) (i : ℕ) → i < count_of t → get_or (table_of t).slots i free_slot ≡ slot_of (row t i)
unfolding table_of
get_or_table t i h = get_or_slots (count_of t) t i free_slot h
