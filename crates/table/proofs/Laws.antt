-- Laws for the loops over a table's slots and bytes: one turn, and the end.
use Prim.Native.Nat.{ℕ, zero, suc, ◌+◌, ◌*◌, ◌-◌, ◌/◌, ◌<◌, ◌≤◌, min}
use mathlib.Core.Path.{◌≡◌, refl, sym, ap, ap₂, ◌∙◌}
use mathlib.Core.List.{List, [], ◌∷◌, ◌++◌, map, append_assoc, append-nil}
use mathlib.Core.Bool.{Bool, true, false, ◌&&◌, ◌||◌, not, cond, or-false, and-true, and-false, and_assoc}
use mathlib.Core.Logic.{◌↔◌}
use native.Mathlib.Nat.{zero-add, add-zero, add_comm, mul-zero, mul-suc, add-sub_cancel_left}
use native.Mathlib.Omega.{arith}
use native.Mathlib.Decide.{dec_lt, ℕ_discrete}
use native.Mathlib.Numerals.{add-one}
use lib.ListN.{length, get_or, take, drop, replicate, drop_of_length-le, length-drop, length-take, length-append, length-replicate, replicate-append-replicate}
use Rattle.std.proofs.lemmas.List.{drop-take, take-append-drop}
use lib.Seq.{drop_at, drop-drop, get_or-drop, get_or-take, length-take-le, take_all, slice, take-add}
use lib.Dec.{eqb, ltb, leb}
use borrow.Author.Tests.{lt-ltb, le-ltb, eq-eqb, ne_eqb}
use Rattle.be.specs.Be.{be, put, digits, Bytes}
use Rattle.be.proofs.Laws.{Front, start, grow, finish, be_take, be_injective, part_put, put_back}
use Rattle.wire.specs.Numbers.{pick}
use Rattle.wire.specs.Packet.{key_size, value_size}
use Rattle.wire.specs.Version.{version, is_zero, is_given}
use Rattle.wire.proofs.Numbers.{Reflects, reflects_yes, reflects_no, reflect_eqb, reflect_ltb, reflect_leb, reflect_not, reflect_and, pick_true, pick_false}
use Rattle.std.specs.Prelude.{Option, Some, None, position, fold}
use Rattle.std.specs.List.{slice_range, position_from, position_or_len, list_all}
use Rattle.std.specs.Option.{option_map}
use Rattle.std.specs.Simd.{first_chunks}
use Rattle.std.proofs.lemmas.Iterator.Adapters.{position_from-zero}
use Rattle.store.specs.Table.{Slot, slot_of, row_of, free_slot, most_slots, whole_slots, free, head_size, row_size, state_at, size_at, value_at, entered, valued, deleted, row_at, row, tab, slots, all_zero, Zero, row_ok, rows_ok, has, first_from, find, id_of, count_of, frame_ok, blank_bytes}
use Rattle.store.proofs.Slot.{length_row_of, slot_bytes, zero_at_lem}
use Rattle.store.proofs.Rows.{length_tab, get_or_tab, length_slots, get_or_slots, length_row}
use Rattle.store.proofs.Rules.{reflect_zero, bytes_row}
use Rattle.store.proofs.Find.{reflect_has, has_other, none_find}
use Rattle.table.specs.Parts.{id_part, count_part, rows_of, row_part, version_part, has_halves, same_half, sized, slot_written, slot_stored, slot_copied}

-- two tests of one fact are equal
same_test : {a b : Bool} {P Q : Type 0} → Reflects a P → Reflects b Q → P ↔ Q → a ≡ b
same_test {a} {b} r s i = go a b refl refl
  where
    go : (x y : Bool) → a ≡ x → b ≡ y → a ≡ b
    go true true p q = p ∙ sym q
    go true false p q = absurd (s.1 q (i.0 (r.0 p)))
    go false true p q = absurd (r.1 p (i.1 (s.0 q)))
    go false false p q = p ∙ sym q

-- ---- the rows of a table, and lists by the place of the first item that passes a test

next : (i j : ℕ) → i + suc j ≡ suc i + j
next i j = omega arith

-- the whole rows, as the chunks of what stands behind the head
chunks_tab : (t : List ℕ) (k j : ℕ) → first_chunks row_size k (drop (row_at j) t) ≡ tab k (λ i. row t (j + i))
chunks_tab t zero j = refl
chunks_tab t (suc k) j =
    let e : drop row_size (drop (row_at j) t) ≡ drop (row_at (suc j)) t = drop-drop row_size (row_at j) t ∙ ap (λ (n : ℕ). drop n t) (omega arith) in
    ap₂ ◌∷◌ (ap (row t) (sym (add-zero j)))
    (ap (first_chunks row_size k) e ∙ chunks_tab t k (suc j) ∙ ap (tab k) (λ i m. row t (sym (next j m) i)))

from_zero : (t : List ℕ) (n : ℕ) → tab n (λ i. row t (0 + i)) ≡ tab n (row t)
from_zero t n = ap (tab n) (λ k i. row t (zero-add i k))

pub chunks_rows : (t : List ℕ) {l : List ℕ} → l ≡ slice_range t head_size (length t) → first_chunks row_size (length l / row_size) l ≡ rows_of t
unfolding rows_of
chunks_rows t e =
    let all : slice_range t head_size (length t) ≡ drop head_size t = take_all (length t - head_size) (drop head_size t) (simp length-drop (omega arith)) in
    rw (e ∙ all, length-drop) (chunks_tab t (whole_slots t) 0 ∙ from_zero t (whole_slots t))

pub no_rows : (t : List ℕ) → (head_size ≤ length t → ⊥) → rows_of t ≡ []
unfolding rows_of
no_rows t h = let e : whole_slots t ≡ 0 = omega arith in rw e

pub length_rows : (t : List ℕ) → length (rows_of t) ≡ whole_slots t
unfolding rows_of
length_rows t = length_tab (whole_slots t) (row t)

pub get_or_rows : (t : List ℕ) (i : ℕ) (d : List ℕ) → i < whole_slots t → get_or (rows_of t) i d ≡ row t i
unfolding rows_of
get_or_rows t i d h = get_or_tab (whole_slots t) (row t) i d h

-- row i, of the rows that a call gave, or none
module _ (t : List ℕ) (i : ℕ) {l : List (List ℕ)} (e : l ≡ rows_of t) where
  pub row_got : {r : List ℕ} → i < length l → r ≡ get_or l i [] → r ≡ row t i
  row_got h f = f ∙ ap (λ (x : List (List ℕ)). get_or x i []) e ∙ get_or_rows t i [] (rw (e, length_rows) at h)

  pub row_there : {r : List ℕ} → i < length l → r ≡ get_or l i [] → r ≡ row_part t i
  unfolding row_part
  row_there h f = let k : i < whole_slots t = rw (e, length_rows) at h in row_got h f ∙ sym (pick_true _ _ _ (lt-ltb _ _ k))

  pub row_nowhere : length l ≤ i → [] ≡ row_part t i
  unfolding row_part
  row_nowhere h = let k : whole_slots t ≤ i = rw (e, length_rows) at h in sym (pick_false _ _ _ (le-ltb _ _ k))

-- as many bytes as there are, or fewer
pub take_min : {A : Type 0} (k n : ℕ) (l : List A) → length l ≡ n → take (min k n) l ≡ take k l
take_min k n l h = go (dec_lt k n)
  where
    go : Dec (k < n) → take (min k n) l ≡ take k l
    go (yes b) = let m : min k n ≡ k = omega arith in rw m
    go (no b) = let m : min k n ≡ n = omega arith in rw m (take_all n l (omega arith) ∙ sym (take_all k l (omega arith)))

map_tab : {A B : Type 0} (g : A → B) (f : ℕ → A) (n : ℕ) → map g (tab n f) ≡ tab n (λ i. g (f i))
map_tab g f zero = refl
map_tab g f (suc n) = ap (λ l. g (f 0) ∷ l) (map_tab g (λ i. f (suc i)) n)

pub slots_of_rows : (t : List ℕ) → map slot_of (rows_of t) ≡ slots (whole_slots t) t
unfolding rows_of slots
slots_of_rows t = map_tab slot_of (row t) (whole_slots t)

-- the first slot that passes is the first row whose slot does
from_first : (f : Slot → Bool) (m : ℕ) (l : List (List ℕ)) → first_from f m (map slot_of l) ≡ position_from (λ r. f (slot_of r)) m l
from_first f m [] = refl
from_first f m (r ∷ l) = pick_cond (f (slot_of r)) (Some m) (first_from f (suc m) (map slot_of l)) ∙ ap (cond (f (slot_of r)) (Some m)) (from_first f (suc m) l ∙ ap (λ (i : ℕ). position_from (λ x. f (slot_of x)) i l) (sym (add-one m)))
  where
    pick_cond : {A : Type 0} (b : Bool) (x y : A) → pick b x y ≡ cond b x y
    pick_cond true x y = pick_true true x y refl
    pick_cond false x y = pick_false false x y refl

-- the first in two lists one behind the other: one of the first list, or of the second
pub first_front : {A : Type 0} (p : A → Bool) (m : ℕ) (a b : List A) {j : ℕ} → position_from p m a ≡ Some j → position_from p m (a ++ b) ≡ Some j
first_front p m [] b e = absurd (let z : ◌≡◌ {A = ℕ} 0 1 = cc in omega arith)
first_front p m (x ∷ a) b {j} e = go (p x) e (first_front p (m + 1) a b)
  where
    go : (c : Bool) → cond c (Some m) (position_from p (m + 1) a) ≡ Some j → (position_from p (m + 1) a ≡ Some j → position_from p (m + 1) (a ++ b) ≡ Some j) → cond c (Some m) (position_from p (m + 1) (a ++ b)) ≡ Some j
    go true q h = q
    go false q h = h q

pub first_back : {A : Type 0} (p : A → Bool) (m : ℕ) (a b : List A) → position_from p m a ≡ None → position_from p m (a ++ b) ≡ position_from p (m + length a) b
first_back p m [] b e = ap (λ (i : ℕ). position_from p i b) (sym (add-zero m))
first_back p m (x ∷ a) b e = go (p x) e (first_back p (m + 1) a b)
  where
    go : (c : Bool) → cond c (Some m) (position_from p (m + 1) a) ≡ None → (position_from p (m + 1) a ≡ None → position_from p (m + 1) (a ++ b) ≡ position_from p (m + 1 + length a) b) → cond c (Some m) (position_from p (m + 1) (a ++ b)) ≡ position_from p (m + suc (length a)) b
    go true q h = absurd (let z : ◌≡◌ {A = ℕ} 0 1 = cc in omega arith)
    go false q h = h q ∙ ap (λ (i : ℕ). position_from p i b) (omega arith)

-- those in front that fail a second test are left out, where one that fails it fails the first
pub first_skip : {A : Type 0} (p g : A → Bool) → ((x : A) → g x ≡ false → p x ≡ false) → (m : ℕ) (l : List A) → position_from p m l ≡ position_from p (m + position_or_len g l) (drop (position_or_len g l) l)
first_skip p g imp m [] = ap (λ (i : ℕ). position_from p i []) (sym (add-zero m))
first_skip {A} p g imp m (x ∷ l) = go (g x) refl (first_skip p g imp (m + 1) l)
  where
    go : (c : Bool) → g x ≡ c → position_from p (m + 1) l ≡ position_from p (m + 1 + position_or_len g l) (drop (position_or_len g l) l) → position_from p m (x ∷ l) ≡ position_from p (m + cond (not c) (1 + position_or_len g l) 0) (drop (cond (not c) (1 + position_or_len g l) 0) (x ∷ l))
    go true e h = ap (λ (i : ℕ). position_from p i (x ∷ l)) (sym (add-zero m))
    go false e h =
        let k = position_or_len g l in
        rw (imp x e) (h ∙ ap (λ (i : ℕ). position_from p i (drop k l)) (omega arith) ∙ ap (λ (i : ℕ). position_from p (m + i) (drop i (x ∷ l))) (let q : suc k ≡ 1 + k = omega arith in q))

-- counted from a place, or from the start
first_moved : {A : Type 0} (p : A → Bool) (m n : ℕ) (l : List A) → position_from p (m + n) l ≡ option_map (λ j. m + j) (position_from p n l)
first_moved p m n [] = refl
first_moved p m n (x ∷ l) = go (p x) (first_moved p m (n + 1) l)
  where
    go : (c : Bool) → position_from p (m + (n + 1)) l ≡ option_map (λ j. m + j) (position_from p (n + 1) l) → cond c (Some (m + n)) (position_from p (m + n + 1) l) ≡ option_map (λ j. m + j) (cond c (Some n) (position_from p (n + 1) l))
    go true h = refl
    go false h = ap (λ (i : ℕ). position_from p i l) (omega arith) ∙ h

pub first_from_place : {A : Type 0} (p : A → Bool) (m : ℕ) (l : List A) → position_from p m l ≡ option_map (λ j. m + j) (position p l)
first_from_place p m l = ap (λ (i : ℕ). position_from p i l) (sym (add-zero m)) ∙ first_moved p m 0 l ∙ ap (option_map (λ j. m + j)) (sym (position_from-zero p l))

pub first_row : (f : Slot → Bool) (t : List ℕ) → position (λ r. f (slot_of r)) (rows_of t) ≡ first_from f 0 (slots (whole_slots t) t)
first_row f t = position_from-zero (λ r. f (slot_of r)) (rows_of t) ∙ sym (from_first f 0 (rows_of t)) ∙ ap (first_from f 0) (slots_of_rows t)

-- ---- the search, eight rows at a time

-- chunk i of a list
pub get_or_chunks : {A : Type 0} (n k i : ℕ) (l : List A) → i < k → get_or (first_chunks n k l) i [] ≡ take n (drop (n * i) l)
get_or_chunks n zero i l h = absurd (omega arith)
get_or_chunks n (suc k) zero l h = ap (λ (m : ℕ). take n (drop m l)) (sym (mul-zero n))
get_or_chunks n (suc k) (suc i) l h = get_or_chunks n k i (drop n l) (omega arith) ∙ ap (take n) (drop-drop (n * i) n l ∙ ap (λ (m : ℕ). drop m l) (let e : n + n * i ≡ n * suc i = sym (mul-suc n i ∙ add_comm (n * i) n) in e))

module _ {A : Type 0} (p g : A → Bool) (imp : (x : A) → g x ≡ false → p x ≡ false) (l : List A) {eights : List (List A)} (front : eights ≡ first_chunks 8 (length l / 8) l) (i : ℕ) (h : i < length l / 8) {k : ℕ} (ke : k ≡ position_or_len g (get_or eights i [])) where
  abbrev e : List A
  e = get_or eights i []

  ee : e ≡ take 8 (drop (8 * i) l)
  ee = ap (λ (x : List (List A)). get_or x i []) front ∙ get_or_chunks 8 (length l / 8) i l h

  eight_long : length e ≡ 8
  eight_long = rw ee (length-take-le 8 (drop (8 * i) l) (simp length-drop (omega arith)))

  eight_part : take (8 - k) (drop k e) ≡ drop k e
  eight_part = let n = eight_long in take_all (8 - k) (drop k e) (simp length-drop (omega arith))

  split : drop (8 * i) l ≡ e ++ drop (8 * (i + 1)) l
  split =
      sym (take-append-drop 8 (drop (8 * i) l)) ∙ ap₂ ◌++◌ (sym ee) (drop-drop 8 (8 * i) l ∙ ap (λ (m : ℕ). drop m l) (omega arith))

  near_first : (r : Option ℕ) → r ≡ position p (take (8 - k) (drop k e)) → position_from p (8 * i) e ≡ option_map (λ j. 8 * i + k + j) r
  near_first r q =
      first_skip p g imp (8 * i) e ∙ ap (λ (m : ℕ). position_from p (8 * i + m) (drop m e)) (sym ke) ∙ first_from_place p (8 * i + k) (drop k e)
      ∙ ap (option_map (λ j. 8 * i + k + j)) (sym (q ∙ ap (position p) eight_part))

  pub eight_found : {r a : Option ℕ} {j : ℕ} → a ≡ position_from p (8 * i) (drop (8 * i) l) → r ≡ position p (take (8 - k) (drop k (get_or eights i []))) → r ≡ Some j → Some (8 * i + k + j) ≡ a
  eight_found {r} {a} {j} b q f =
      sym (b ∙ ap (position_from p (8 * i)) split ∙ first_front p (8 * i) e (drop (8 * (i + 1)) l) (near_first r q ∙ ap (option_map (λ n. 8 * i + k + n)) f))

  pub eight_none : {r a : Option ℕ} → a ≡ position_from p (8 * i) (drop (8 * i) l) → r ≡ position p (take (8 - k) (drop k (get_or eights i []))) → r ≡ None → a ≡ position_from p (8 * (i + 1)) (drop (8 * (i + 1)) l)
  eight_none {r} {a} b q f =
      b ∙ ap (position_from p (8 * i)) split ∙ first_back p (8 * i) e (drop (8 * (i + 1)) l) (near_first r q ∙ ap (option_map (λ n. 8 * i + k + n)) f)
      ∙ ap (λ (m : ℕ). position_from p m (drop (8 * (i + 1)) l)) (let n = eight_long in omega arith)

-- the rows behind the last eight
pub rest_first : {A : Type 0} (p : A → Bool) (l : List A) {i : ℕ} {a r s : Option ℕ} → i ≡ length l / 8 → a ≡ position_from p (8 * i) (drop (8 * i) l) → r ≡ position p (drop (length l / 8 * 8) l) → r ≡ s → a ≡ option_map (λ j. 8 * (length l / 8) + j) s
rest_first p l h b q f =
    b ∙ ap (λ (m : ℕ). position_from p (8 * m) (drop (8 * m) l)) h ∙ first_from_place p (8 * (length l / 8)) (drop (8 * (length l / 8)) l)
    ∙ ap (option_map (λ j. 8 * (length l / 8) + j)) (ap (λ (m : ℕ). position p (drop m l)) (omega arith) ∙ sym q ∙ f)

-- the place of the first that passes, counted from the end on: `done` are the items behind the rest
pub record Counted {A : Type 0} (g : A → Bool) (all rest : List A) (k : ℕ) : Type 0 where
  pub done : List A
  pub parts : all ≡ rest ++ done
  pub place : k ≡ position_or_len g done
  pub fits : k ≤ length done

turned : {A : Type 0} {all rest : List A} (less done : List A) (x : A) → all ≡ rest ++ done → rest ≡ less ++ (x ∷ []) → all ≡ less ++ (x ∷ done)
turned less done x p e = p ∙ ap (λ l. l ++ done) e ∙ append_assoc less (x ∷ []) done

module _ {A : Type 0} {g : A → Bool} {all rest : List A} {k : ℕ} (less : List A) (x : A) (c : Counted g all rest k) (e : rest ≡ less ++ (x ∷ [])) where
  pub counted_fits : k < length all
  counted_fits = let n = ap length (turned less c.done x c.parts e) ∙ length-append less (x ∷ c.done) in let f = c.fits in omega arith

  pub counted_here : g x ≡ true → Counted g all less 0
  counted_here t = record { done = x ∷ c.done; parts = turned less c.done x c.parts e; place = rw t refl; fits = omega arith }

  pub counted_later : g x ≡ false → Counted g all less (k + 1)
  counted_later t = let p = c.place in let f = c.fits in record { done = x ∷ c.done; parts = turned less c.done x c.parts e; place = rw t (omega arith); fits = omega arith }

pub counted_none : {A : Type 0} (g : A → Bool) (all : List A) → Counted g all all 0
counted_none g all = record { done = []; parts = sym (append-nil all); place = refl; fits = omega arith }

pub counted_all : {A : Type 0} {g : A → Bool} {all : List A} (rest : List A) {k : ℕ} → Counted g all rest k → length rest ≡ 0 → (k ≡ position_or_len g all) × (k ≤ length all)
counted_all {g = g} [] c e = let n = ap length c.parts in let f = c.fits in (c.place ∙ ap (position_or_len g) (sym c.parts), omega arith)
counted_all (x ∷ rest) c e = absurd (omega arith)

-- ---- a key as two numbers

key_size_lem : (r : List ℕ) → length r ≡ row_size → length (slot_of r).key ≡ key_size
unfolding slot_of
key_size_lem r h = length-take-le key_size r (omega arith)

both_halves : (a b : List ℕ) → length a ≡ key_size → length b ≡ key_size → take 8 (drop 0 a) ≡ take 8 (drop 0 b) → take 8 (drop 8 a) ≡ take 8 (drop 8 b) → a ≡ b
both_halves a b ha hb p q =
    sym (take_all key_size a (omega arith)) ∙ take-add 8 8 a ∙ ap₂ ◌++◌ p q ∙ sym (take-add 8 8 b) ∙ take_all key_size b (omega arith)

-- the halves and the state in a row
pub halves_row : (key r : List ℕ) → has_halves key (slot_of r) ≡ same_half key r && (eqb (be 8 r 8) (be 8 key 8) && not (eqb (get_or r state_at 0) free))
unfolding has_halves same_half slot_of
halves_row key r = rw (be_take 8 key_size r 0 (omega arith), be_take 8 key_size r 8 (omega arith))

pub no_half : (key r : List ℕ) → same_half key r ≡ false → has_halves key (slot_of r) ≡ false
no_half key r e = halves_row key r ∙ ap (λ (b : Bool). b && (eqb (be 8 r 8) (be 8 key 8) && not (eqb (get_or r state_at 0) free))) e

-- a slot has a key if and only if it has its two halves
pub has_halves_lem : (key : List ℕ) (s : Slot) → length key ≡ key_size → Bytes key → length s.key ≡ key_size → Bytes s.key → has_halves key s ≡ has key s
unfolding has_halves
has_halves_lem key s hk bk hs bs =
    same_test
    (reflect_and (reflect_eqb (be 8 s.key 0) (be 8 key 0)) (reflect_and (reflect_eqb (be 8 s.key 8) (be 8 key 8)) (reflect_not (reflect_eqb s.state free))))
    (reflect_has key s) (
      λ p. (p.1.1, both_halves s.key key hs hk (be_injective 8 s.key key 0 0 bs bk (omega arith) (omega arith) p.0) (be_injective 8 s.key key 8 8 bs bk (omega arith) (omega arith) p.1.0)),
      λ p. (ap (λ (k : List ℕ). be 8 k 0) p.1, (ap (λ (k : List ℕ). be 8 k 8) p.1, p.0)),
    )

-- tests that agree on every slot have one first
first_agree : (f g : Slot → Bool) (m : ℕ) (l : List Slot) → ((j : ℕ) → j < length l → f (get_or l j free_slot) ≡ g (get_or l j free_slot)) → first_from f m l ≡ first_from g m l
first_agree f g m [] h = refl
first_agree f g m (s ∷ l) h = ap₂ (λ (b : Bool) (r : Option ℕ). pick b (Some m) r) (h 0 (omega arith)) (first_agree f g (suc m) l (λ j b. h (suc j) (omega arith)))

-- what the search for the halves gives
pub find_halves : (key t : List ℕ) (n : ℕ) → length key ≡ key_size → Bytes key → Bytes t → row_size * n ≤ length t - head_size → first_from (has_halves key) 0 (slots n t) ≡ find key (slots n t)
unfolding find
find_halves key t n hk bk bt ht =
    first_agree (has_halves key) (has key) 0 (slots n t)
    (λ j l.
    let h : j < n = rw length_slots at l in
    let e = get_or_slots n t j free_slot h in
    let len = length_row t j (omega arith) in
    rw e (has_halves_lem key (slot_of (row t j)) hk bk (key_size_lem (row t j) len) (slot_bytes (row t j) len (bytes_row t j bt)).key))

-- a key of another length stands nowhere
pub find_no_key : (key t : List ℕ) (n : ℕ) → (length key ≡ key_size → ⊥) → row_size * n ≤ length t - head_size → find key (slots n t) ≡ None
find_no_key key t n hk ht =
    none_find key (slots n t)
    (λ j l.
    let h : j < n = rw length_slots at l in
    rw (get_or_slots n t j free_slot h) (has_other key (slot_of (row t j)) (λ e. hk (sym (ap length e) ∙ key_size_lem (row t j) (length_row t j (omega arith))))))

-- ---- zeros

-- each byte in turn
pub zeros_fold : (b : Bool) (l : List ℕ) → fold (λ all x. all && eqb x 0) b l ≡ b && all_zero l
zeros_fold b [] = sym (and-true b)
zeros_fold b (x ∷ l) = zeros_fold (b && eqb x 0) l ∙ and_assoc b (eqb x 0) (all_zero l)

-- a stretch, and the rest from a place in it on
pub zero_from : (s : List ℕ) (at end from : ℕ) → at ≤ from → from ≤ end → all_zero (drop at s) ≡ all_zero (slice at end s) && all_zero (drop from s)
zero_from s at end from h k =
    same_test (reflect_zero (drop at s)) (reflect_and (reflect_zero (slice at end s)) (reflect_zero (drop from s)))
    (λ z. (front z, back z), λ z j _. get_or-drop at s j 0 ∙ all z.0 z.1 j (dec_lt (at + j) end))
  where
    front : Zero (drop at s) → Zero (slice at end s)
    front z j b =
        let g = simp (length-drop, length-take) at b in
        let l : at + j < end = omega arith in
        get_or-drop at (take end s) j 0 ∙ get_or-take end s (at + j) 0 l ∙ sym (get_or-drop at s j 0) ∙ zero_at_lem (drop at s) z j

    back : Zero (drop at s) → Zero (drop from s)
    back z j b =
        let e : from + j ≡ at + (from - at + j) = omega arith in
        get_or-drop from s j 0 ∙ ap (λ (i : ℕ). get_or s i 0) e ∙ sym (get_or-drop at s (from - at + j) 0) ∙ zero_at_lem (drop at s) z (from - at + j)

    all : Zero (slice at end s) → Zero (drop from s) → (j : ℕ) → Dec (at + j < end) → get_or s (at + j) 0 ≡ 0
    all y z j (yes l) = sym (get_or-take end s (at + j) 0 l) ∙ sym (get_or-drop at (take end s) j 0) ∙ zero_at_lem (slice at end s) y j
    all y z j (no g) =
        let e : at + j ≡ from + (at + j - from) = omega arith in
        ap (λ (i : ℕ). get_or s i 0) e ∙ sym (get_or-drop from s (at + j - from) 0) ∙ zero_at_lem (drop from s) z (at + j - from)

-- a stretch of k bytes, and the rest from a place in it or right behind it on
pub zero_ends : (s : List ℕ) (at k from size : ℕ) → length s ≡ size → at ≤ from → from ≤ at + k → at + k ≤ size → all_zero (take (at + k - at) (drop at s)) && all_zero (take (size - from) (drop from s)) ≡ all_zero (drop at s)
zero_ends s at k from size e h j m =
    let end : take (size - from) (drop from s) ≡ drop from s = take_all (size - from) (drop from s) (simp length-drop (omega arith)) in
    let start : take (at + k - at) (drop at s) ≡ slice at (at + k) s = ap (λ (n : ℕ). take n (drop at s)) (add-sub_cancel_left at k) ∙ sym (drop-take at k s) in
    rw (end, start) (sym (zero_from s at (at + k) from h j))

-- ---- the rows

-- two states with no value: the length is zero in both
bare : (a b x y : Bool) (n : ℕ) (f : ℕ → Bool) → leb n value_size && (((a && (eqb n 0 && x)) || (b && (eqb n 0 && y))) && f n) ≡ ((a && x) || (b && y)) && (eqb n 0 && f 0)
bare a b x y n f = go (ℕ_discrete n 0)
  where
    go : Dec (n ≡ 0) → leb n value_size && (((a && (eqb n 0 && x)) || (b && (eqb n 0 && y))) && f n) ≡ ((a && x) || (b && y)) && (eqb n 0 && f 0)
    go (yes e) = rw e
    go (no e) = rw (ne_eqb n 0 e, and-false a, and-false b, and-false (leb n value_size), and-false ((a && x) || (b && y)))

-- the version that a whole row has
pub version_is : (r : List ℕ) → length r ≡ row_size → version_part r ≡ version (be 2 r 18) (be 4 r 20)
unfolding version_part slot_of
version_is r h = pick_true _ _ _ (eq-eqb (length r) row_size h)

-- a row by its state
module _ (r : List ℕ) where
  pub row_unused : get_or r state_at 0 ≡ free → row_ok r ≡ all_zero r
  unfolding row_ok
  row_unused e = rw (e, or-false (all_zero r)) (go (all_zero r) refl)
    where
      go : (b : Bool) → all_zero r ≡ b → leb (get_or r size_at 0) value_size && b ≡ b
      go true z = rw (zero_at_lem r ((reflect_zero r).0 z) size_at)
      go false z = and-false (leb (get_or r size_at 0) value_size)

  pub row_valued : get_or r state_at 0 ≡ valued → row_ok r ≡ (leb (get_or r size_at 0) value_size && is_given (version (be 2 r 18) (be 4 r 20))) && all_zero (drop (value_at + get_or r size_at 0) r)
  unfolding row_ok
  row_valued e =
      rw (e, or-false (is_given (version (be 2 r 18) (be 4 r 20))))
      (sym (and_assoc (leb (get_or r size_at 0) value_size) (is_given (version (be 2 r 18) (be 4 r 20))) (all_zero (drop (value_at + get_or r size_at 0) r))))

  pub row_bare : (get_or r state_at 0 ≡ free → ⊥) → (get_or r state_at 0 ≡ valued → ⊥) → row_ok r ≡ ((eqb (get_or r state_at 0) entered && is_zero (version (be 2 r 18) (be 4 r 20))) || (eqb (get_or r state_at 0) deleted && is_given (version (be 2 r 18) (be 4 r 20)))) && (eqb (get_or r size_at 0) 0 && all_zero (drop value_at r))
  unfolding row_ok
  row_bare f v =
      rw (ne_eqb (get_or r state_at 0) free f, ne_eqb (get_or r state_at 0) valued v)
      (bare (eqb (get_or r state_at 0) entered) (eqb (get_or r state_at 0) deleted) (is_zero (version (be 2 r 18) (be 4 r 20))) (is_given (version (be 2 r 18) (be 4 r 20))) (get_or r size_at 0) (λ (n : ℕ). all_zero (drop (value_at + n) r)))

-- all rows, one after the other
rows_from : (t : List ℕ) (n i : ℕ) → list_all row_ok (tab n (λ j. row t (i + j))) ≡ rows_ok n i t
rows_from t zero i = refl
rows_from t (suc n) i =
    ap₂ ◌&&◌ (ap (λ (j : ℕ). row_ok (row t j)) (add-zero i)) (ap (λ f. list_all row_ok (tab n f)) (λ k j. row t (next i j k)) ∙ rows_from t n (suc i))

pub rows_all : (t : List ℕ) → list_all row_ok (rows_of t) ≡ rows_ok (whole_slots t) 0 t
unfolding rows_of
rows_all t = ap (list_all row_ok) (sym (from_zero t (whole_slots t))) ∙ rows_from t (whole_slots t) 0

-- the frame, by the parts of the head
pub frame_parts : (t : List ℕ) → not (eqb (id_part t) 0) && ((ltb 0 (count_part t) && leb (count_part t) most_slots) && eqb (length t) (row_at (count_part t))) ≡ frame_ok t
unfolding id_part count_part frame_ok
frame_parts t = go (leb head_size (length t)) refl
  where
    go : (b : Bool) → leb head_size (length t) ≡ b → not (eqb (pick (leb head_size (length t)) (id_of t) 0) 0) && ((ltb 0 (pick (leb head_size (length t)) (count_of t) 0) && leb (pick (leb head_size (length t)) (count_of t) 0) most_slots) && eqb (length t) (row_at (pick (leb head_size (length t)) (count_of t) 0))) ≡ leb head_size (length t) && (not (eqb (id_of t) 0) && ((ltb 0 (count_of t) && leb (count_of t) most_slots) && eqb (length t) (row_at (count_of t))))
    go true e = rw (pick_true (leb head_size (length t)) (id_of t) 0 e, pick_true (leb head_size (length t)) (count_of t) 0 e, e)
    go false e = rw (pick_false (leb head_size (length t)) (id_of t) 0 e, e)

-- ---- what is written

-- the end of a list that was cleared
pub drop_cleared : (l : List ℕ) (at m k : ℕ) → at + m ≡ length l → k ≤ m → drop (at + k) (put l at (replicate m 0)) ≡ replicate (m - k) 0
unfolding put
drop_cleared l at m k h g =
    let size : length (take at l) ≡ at = length-take-le at l (omega arith) in
    let past : length l ≤ at + length (replicate {A = ℕ} m 0) = rw length-replicate (omega arith) in
    let none = drop_of_length-le l past in
    let n : k + (m - k) ≡ m = omega arith in
    let parts : replicate {A = ℕ} m 0 ≡ replicate k 0 ++ replicate (m - k) 0 = sym (replicate-append-replicate k (m - k) 0 ∙ ap (λ (j : ℕ). replicate {A = ℕ} j 0) n) in
    let front : length (take at l ++ replicate {A = ℕ} k 0) ≡ at + k = rw (length-append, length-replicate, size) in
    ap (drop (at + k))
    (ap (λ (x : List ℕ). take at l ++ replicate m 0 ++ x) none ∙ append-nil (take at l ++ replicate m 0) ∙ ap (λ (x : List ℕ). take at l ++ x) parts ∙ sym (append_assoc (take at l) (replicate k 0) (replicate (m - k) 0)))
    ∙ drop_at (take at l ++ replicate {A = ℕ} k 0) (replicate (m - k) 0) (at + k) front

-- pieces one behind the other, and what is left behind them
pub behind : {x f l z : List ℕ} {at : ℕ} → Front x f at l → drop at x ≡ z → l ≡ f ++ z
behind {x} {f} p e = p.is ∙ ap (λ (y : List ℕ). f ++ y) e

pub reflect_sized : (s : Slot) → Reflects (sized s) ((length s.key ≡ key_size) × (length s.value ≤ value_size))
unfolding sized
reflect_sized s = reflect_and (reflect_eqb (length s.key) key_size) (reflect_leb (length s.value) value_size)

-- a row, and a slot that it has room for
pub reflect_room : (part : List ℕ) (s : Slot) → Reflects (eqb (length part) row_size && sized s) ((length part ≡ row_size) × ((length s.key ≡ key_size) × (length s.value ≤ value_size)))
reflect_room part s = reflect_and (reflect_eqb (length part) row_size) (reflect_sized s)

-- a slot's part that was lent to the slot writer
pub store_part : (t : List ℕ) (i : ℕ) (s : Slot) (v : List ℕ) → i < whole_slots t → v ≡ slot_written (row t i) s → take (row_at i) t ++ (v ++ drop row_size (drop (row_at i) t)) ≡ slot_stored t i s
unfolding slot_written slot_stored
store_part t i s v h e =
    rw (e, eq-eqb (length (row t i)) row_size len, lt-ltb i (whole_slots t) h) (go (sized s) refl)
  where
    len : length (row t i) ≡ row_size
    len = length_row t i (omega arith)

    go : (b : Bool) → sized s ≡ b → take (row_at i) t ++ (pick (sized s) (row_of s) (row t i) ++ drop row_size (drop (row_at i) t)) ≡ pick (sized s) (put t (row_at i) (row_of s)) t
    go true q =
        let f = (reflect_sized s).0 q in
        rw (pick_true (sized s) (row_of s) (row t i) q, pick_true (sized s) (put t (row_at i) (row_of s)) t q) (part_put (row_at i) row_size t (row_of s) (length_row_of s f.0 f.1))
    go false q =
        rw (pick_false (sized s) (row_of s) (row t i) q, pick_false (sized s) (put t (row_at i) (row_of s)) t q) (part_put (row_at i) row_size t (row t i) len ∙ put_back t (row_at i) row_size (omega arith))

-- a slot that is copied: both have it, or one of them has not
module _ (from to : List ℕ) (i : ℕ) where
  both : Reflects (ltb i (whole_slots from) && ltb i (whole_slots to)) ((i < whole_slots from) × (i < whole_slots to))
  both = reflect_and (reflect_ltb i (whole_slots from)) (reflect_ltb i (whole_slots to))

  pub copied : i < whole_slots from → i < whole_slots to → slot_copied from to i ≡ put to (row_at i) (row from i)
  unfolding slot_copied
  copied f g = pick_true _ _ _ (reflects_yes both (f, g))

  pub not_copied : ((i < whole_slots from) × (i < whole_slots to) → ⊥) → slot_copied from to i ≡ to
  unfolding slot_copied
  not_copied n = pick_false _ _ _ (reflects_no both n)

-- zeros, and then the id and the count behind the fence
pub blanked : (t : List ℕ) (id n : ℕ) {z b c : List ℕ} → length t ≡ row_at n → z ≡ put t 0 (replicate (length t) 0) → b ≡ put z 4 (digits 2 id) → c ≡ put b 6 (digits 2 n) → c ≡ blank_bytes id n
unfolding blank_bytes
blanked t id n {z} h e f g =
    let m : length t ≡ 4 + (length t - 4) = omega arith in
    let k : length t - head_size ≡ row_size * n = omega arith in
    let zeros : z ≡ replicate (length t) 0 = finish (grow (replicate (length t) 0) (length t) (start t) e (rw length-replicate (omega arith))) (omega arith) in
    let parts : z ≡ replicate 4 0 ++ replicate (length t - 4) 0 = zeros ∙ ap (λ (j : ℕ). replicate {A = ℕ} j 0) m ∙ sym (replicate-append-replicate 4 (length t - 4) 0) in
    let fence : Front z (digits 4 0) 4 z = record { size = refl; is = parts ∙ ap (λ (y : List ℕ). digits 4 0 ++ y) (sym (ap (drop 4) parts)) } in
    behind (grow (digits 2 n) head_size (grow (digits 2 id) 6 fence f refl) g refl)
    (ap (drop head_size) e ∙ drop_cleared t 0 (length t) head_size (omega arith) (omega arith) ∙ ap (λ (j : ℕ). replicate {A = ℕ} j 0) k)
