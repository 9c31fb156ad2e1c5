-- A slot and its bytes: each comes back from the other.
use Prim.Native.Nat.{ℕ, ◌+◌, ◌-◌, ◌^◌, ◌<◌, ◌≤◌}
use mathlib.Core.Path.{◌≡◌, refl, sym, ap, ap₂, ◌∙◌}
use mathlib.Core.List.{List, [], ◌∷◌, ◌++◌, append_assoc}
use native.Mathlib.Omega.{arith}
use lib.ListN.{length, get_or, take, drop, replicate, length-append, length-drop, length-replicate, get_or-replicate, get_or-eq_default, take-append-drop}
use native.Mathlib.Decide.{dec_lt}
use lib.Seq.{take_at, drop_at, get_or_at, take-add, drop-cons, length-take-le, get_or-drop, ext_get_or}
use Rattle.be.specs.Be.{be, digits, Bytes}
use Rattle.be.proofs.Laws.{be_at, digits_be, bytes_nil, bytes_cons, bytes_append, bytes_digits, bytes_zeros, bytes_take, bytes_drop, bound}
use Rattle.wire.specs.Packet.{key_size, value_size}
use Rattle.store.specs.Table.{Slot, slot_of, row_of, free_slot, row_size, state_at, size_at, value_at, Zero}

-- a slot that a row can hold
pub record SlotFits (s : Slot) : Type 0 where
  pub key : length s.key ≡ key_size
  pub value : length s.value ≤ value_size
  pub session : s.version.session.0 < 256 ^ 2
  pub sequence : s.version.sequence.0 < 256 ^ 4

-- a slot of bytes
pub record SlotBytes (s : Slot) : Type 0 where
  pub key : Bytes s.key
  pub state : s.state < 256
  pub value : Bytes s.value

-- ---- the row of a slot

pub length_row_of : (s : Slot) → length s.key ≡ key_size → length s.value ≤ value_size → length (row_of s) ≡ row_size
unfolding row_of
length_row_of s hk hv = simp (length-append, length-replicate) (omega arith)

pub bytes_row_of : (s : Slot) → length s.value ≤ value_size → SlotBytes s → Bytes (row_of s)
unfolding row_of
bytes_row_of s hv b =
    let small : length s.value < 256 = omega arith in
    search (bytes_append, bytes_cons, bytes_nil, bytes_digits, bytes_zeros) depth 9

-- the length byte, and the bytes from the value on
pub size_row_of : (s : Slot) → length s.key ≡ key_size → get_or (row_of s) size_at 0 ≡ length s.value
unfolding row_of
size_row_of s h =
    let p = s.key ++ (s.state ∷ []) in
    let rest : List ℕ = digits 2 s.version.session.0 ++ (digits 4 s.version.sequence.0 ++ (s.value ++ replicate (value_size - length s.value) 0)) in
    let e : row_of s ≡ p ++ (length s.value ∷ rest) = simp append_assoc in
    ap (λ (l : List ℕ). get_or l size_at 0) e ∙ get_or_at p (length s.value) rest 0 size_at (simp length-append (omega arith))

pub rest_row_of : (s : Slot) → length s.key ≡ key_size → drop value_at (row_of s) ≡ s.value ++ replicate (value_size - length s.value) 0
unfolding row_of
rest_row_of s h =
    let p = s.key ++ (s.state ∷ []) ++ (length s.value ∷ []) ++ digits 2 s.version.session.0 ++ digits 4 s.version.sequence.0 in
    let z : List ℕ = replicate (value_size - length s.value) 0 in
    ap (drop value_at) (append_assoc p s.value z) ∙ drop_at p (s.value ++ z) value_at (simp length-append (omega arith))

-- a slot comes back from its row
pub slot_row : (s : Slot) → SlotFits s → slot_of (row_of s) ≡ s
unfolding slot_of row_of
slot_row s f =
    let k = s.key in
    let v = s.value in
    let z : List ℕ = replicate (value_size - length v) 0 in
    let ses = digits 2 s.version.session.0 in
    let seq = digits 4 s.version.sequence.0 in
    let p2 = k ++ (s.state ∷ []) ++ (length v ∷ []) in
    let l2 : length p2 ≡ 18 = simp length-append (let h = f.key in omega arith) in
    let l3 : length (p2 ++ ses) ≡ 20 = length-append p2 ses ∙ rw l2 in
    let behind = length v ∷ (ses ++ (seq ++ (v ++ z))) in
    let e1 : row_of s ≡ k ++ (s.state ∷ behind) = simp append_assoc in
    let e4 : row_of s ≡ p2 ++ ses ++ seq ++ (v ++ z) = append_assoc (p2 ++ ses ++ seq) v z in
    let e3 : row_of s ≡ p2 ++ ses ++ (seq ++ (v ++ z)) = e4 ∙ append_assoc (p2 ++ ses) seq (v ++ z) in
    let key : take key_size (row_of s) ≡ k = ap (take key_size) e1 ∙ take_at k (s.state ∷ behind) key_size f.key in
    let state : get_or (row_of s) state_at 0 ≡ s.state = ap (λ (l : List ℕ). get_or l state_at 0) e1 ∙ get_or_at k s.state behind 0 state_at f.key in
    let session : be 2 (row_of s) 18 ≡ s.version.session.0 = ap (λ (l : List ℕ). be 2 l 18) e3 ∙ be_at 2 s.version.session.0 p2 (seq ++ (v ++ z)) 18 l2 f.session in
    let sequence : be 4 (row_of s) 20 ≡ s.version.sequence.0 = ap (λ (l : List ℕ). be 4 l 20) e4 ∙ be_at 4 s.version.sequence.0 (p2 ++ ses) (v ++ z) 20 l3 f.sequence in
    let value : take (get_or (row_of s) size_at 0) (drop value_at (row_of s)) ≡ v =
    ap₂ (λ (n : ℕ) (l : List ℕ). take n l) (size_row_of s f.key) (rest_row_of s f.key) ∙ take_at v z (length v) refl in
    λ i. record {
      key = key i;
      state = state i;
      version = record { session = record { 0 = session i }; sequence = record { 0 = sequence i } };
      value = value i;
    }

-- ---- zeros

-- a list that is all zeros, by its length
pub zeros_list : (l : List ℕ) → Zero l → l ≡ replicate (length l) 0
zeros_list l z =
    ext_get_or 0 l (replicate (length l) 0) (sym (length-replicate {A = ℕ} (length l) 0)) (λ i h. z i h ∙ sym (get_or-replicate {A = ℕ} (length l) i 0 0 h))

pub zero_replicate : (n : ℕ) → Zero (replicate n 0)
zero_replicate n i h = get_or-replicate {A = ℕ} n i 0 0 (rw length-replicate at h)

-- an element of zeros, or beyond them
pub zero_at_lem : (l : List ℕ) → Zero l → (i : ℕ) → get_or l i 0 ≡ 0
zero_at_lem l z i = go (dec_lt i (length l))
  where
    go : Dec (i < length l) → get_or l i 0 ≡ 0
    go (yes h) = z i h
    go (no h) = get_or-eq_default l 0 (omega arith)

pub zero_drop : (n : ℕ) (l : List ℕ) → Zero l → Zero (drop n l)
zero_drop n l z i h = get_or-drop n l i 0 ∙ zero_at_lem l z (n + i)

-- ---- the slot of a row

-- two parts, one behind the other, are one part
join : (r a b : List ℕ) (n m : ℕ) → a ≡ take n r → b ≡ take m (drop n r) → a ++ b ≡ take (n + m) r
join r a b n m p q = ap₂ ◌++◌ p q ∙ sym (take-add n m r)

-- a front, and zeros for the rest
join_zeros : (r a : List ℕ) (n m : ℕ) → a ≡ take n r → m ≡ length (drop n r) → Zero (drop n r) → a ++ replicate m 0 ≡ r
join_zeros r a n m p len z = rw (p, len, ← zeros_list (drop n r) z) (take-append-drop n r)

-- one element is a part
one_part : (r : List ℕ) (n : ℕ) → n < length r → get_or r n 0 ∷ [] ≡ take 1 (drop n r)
one_part r n h = rw (drop-cons r n 0)

-- what a row of bytes decodes to
pub slot_bytes : (r : List ℕ) → length r ≡ row_size → Bytes r → SlotBytes (slot_of r)
unfolding slot_of
slot_bytes r h b = record {
  key = bytes_take key_size r b;
  state = b state_at (omega arith);
  value = bytes_take (get_or r size_at 0) (drop value_at r) (bytes_drop value_at r b);
}

pub slot_fits : (r : List ℕ) → length r ≡ row_size → Bytes r → get_or r size_at 0 ≤ value_size → SlotFits (slot_of r)
unfolding slot_of
slot_fits r h b small = record {
  key = length-take-le key_size r (omega arith);
  value = rw (length-take-le (get_or r size_at 0) (drop value_at r) (simp length-drop (omega arith))) small;
  session = bound 2 r 18 b (omega arith);
  sequence = bound 4 r 20 b (omega arith);
}

-- a row comes back from its slot where its bytes beyond the value are zero
pub row_slot : (r : List ℕ) → length r ≡ row_size → Bytes r → get_or r size_at 0 ≤ value_size → Zero (drop (value_at + get_or r size_at 0) r) → row_of (slot_of r) ≡ r
unfolding slot_of row_of
row_slot r h b small z =
    let n = get_or r size_at 0 in
    let lv : length (take n (drop value_at r)) ≡ n = length-take-le n (drop value_at r) (simp length-drop (omega arith)) in
    let a1 = join r (take key_size r) (get_or r state_at 0 ∷ []) key_size 1 refl (one_part r state_at (omega arith)) in
    let a2 = join r _ (length (take n (drop value_at r)) ∷ []) 17 1 a1 (ap (λ (x : ℕ). x ∷ []) lv ∙ one_part r size_at (omega arith)) in
    let a3 = join r _ (digits 2 (be 2 r 18)) 18 2 a2 (digits_be 2 r 18 b (omega arith)) in
    let a4 = join r _ (digits 4 (be 4 r 20)) 20 4 a3 (digits_be 4 r 20 b (omega arith)) in
    let a5 = join r _ (take n (drop value_at r)) value_at n a4 refl in
    let len : value_size - length (take n (drop value_at r)) ≡ length (drop (value_at + n) r) = simp length-drop (omega arith) in
    join_zeros r _ (value_at + n) (value_size - length (take n (drop value_at r))) a5 len z

-- a row of zeros is that of a free slot
pub row_free : (r : List ℕ) → length r ≡ row_size → Zero r → slot_of r ≡ free_slot
unfolding slot_of
row_free r h z =
    let e : r ≡ replicate row_size 0 = zeros_list r z ∙ ap (λ (n : ℕ). replicate n 0) h in
    rw e

pub row_of_free : row_of free_slot ≡ replicate row_size 0
unfolding row_of
row_of_free = refl
