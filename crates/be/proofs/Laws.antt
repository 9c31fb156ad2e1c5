-- The laws of the definitions of specs/Be: numbers and their bytes, lists of bytes, and lists that were put to.
use Prim.Native.Nat.{ℕ, zero, suc, ◌+◌, ◌*◌, ◌/◌, ◌%◌, ◌^◌, ◌-◌, ◌<◌, ◌≤◌, suc-le-suc}
use mathlib.Core.Path.{◌≡◌, refl, sym, ap, ap₂, ◌∙◌}
use mathlib.Core.List.{List, [], ◌∷◌, ◌++◌, append_assoc, append-nil}
use native.Mathlib.Nat.{mod-one, div-one, mod-eq_of_lt, pow-suc, pow-succ', div-div-eq-div-mul, add-zero, add-suc, add_assoc, mul_assoc, le_of_suc-le-suc, zero-add, zero-lt-suc, suc-add}
use native.Mathlib.Omega.{arith}
use native.Mathlib.Numerals.{add-one}
use native.Mathlib.Decide.{ℕ_discrete}
use borrow.Author.Tests.{eq-eqb, ne_eqb}
use lib.ListN.{length, get_or, take, drop, set, replicate, length-append, length-drop, drop_of_length-le, take-append-drop, get_or-append}
use lib.Arith.{digits_div, digits_mod, digits_lt, mod-mul}
use lib.Dec.{lit<, eqb}
use lib.Pow.{pow-add}
use lib.Seq.{get_or-append-add, take-suc, take-add, get_or-take, get_or-drop, get_or_at, sets, sets-eq, length-sets, paste, paste-zero, paste-suc, take-length, take_at, drop-append-add, drop-drop, drop_at, drop-append-le, take-append-le, length-take-le, take_all}
use borrow.Rule.Slice.PartMut.{put_mid}
use Rattle.std.proofs.lemmas.Slice.{put_mid-paste}
use Rattle.be.specs.Be.{be, digits, low_first, swapped, Bytes, put}

-- ---- a number and its bytes

pub length_digits : (k n : ℕ) → length (digits k n) ≡ k
length_digits zero n = refl
length_digits (suc k) n = length-append (digits k (n / 256)) (n % 256 ∷ []) ∙ (rw (length_digits k (n / 256)) (omega arith))

pow_positive : (k : ℕ) → 0 < 256 ^ k
pow_positive zero = lit< tt
pow_positive (suc k) = rw (pow-suc 256 k) (let h : 0 < 256 ^ k = pow_positive k in omega arith)

-- the bytes of a number, wherever they stand, stand for the number, up to what k bytes hold
pub be_digits : (k n : ℕ) (p q : List ℕ) → be k (p ++ digits k n ++ q) (length p) ≡ n % 256 ^ k
be_digits zero n p q = sym (mod-one n)
be_digits (suc k) n p q =
    let e : p ++ (digits k (n / 256) ++ (n % 256 ∷ [])) ++ q ≡ p ++ digits k (n / 256) ++ (n % 256 ∷ q) = simp append_assoc in
    let g : get_or (p ++ digits k (n / 256) ++ (n % 256 ∷ q)) (length p + k) 0 ≡ n % 256 =
    simp append_assoc (get_or-append-add p (digits k (n / 256) ++ (n % 256 ∷ q)) k 0 ∙ get_or_at (digits k (n / 256)) (n % 256) q 0 k (length_digits k (n / 256))) in
    ap (λ (l : List ℕ). be k l (length p) * 256 + get_or l (length p + k) 0) e
    ∙ ap₂ (λ (a b : ℕ). a * 256 + b) (be_digits k (n / 256) p (n % 256 ∷ q)) g
    ∙ rw (pow-suc 256 k) (sym (mod-mul n (pow_positive k) (lit< tt)))

-- a number where its bytes stand
pub be_at : (k n : ℕ) (p q : List ℕ) (at : ℕ) → length p ≡ at → n < 256 ^ k → be k (p ++ digits k n ++ q) at ≡ n
be_at k n p q at h b = rw (← h) (be_digits k n p q ∙ mod-eq_of_lt b)

-- k bytes of a list are the bytes of the number that they stand for
pub digits_be : (k : ℕ) (s : List ℕ) (at : ℕ) → Bytes s → at + k ≤ length s → digits k (be k s at) ≡ take k (drop at s)
digits_be zero s at b h = refl
digits_be (suc k) s at b h =
    let d : get_or s (at + k) 0 < 256 = b (at + k) (omega arith) in
    let len : k < length (drop at s) = simp length-drop (omega arith) in
    rw (digits_div, digits_mod, digits_be k s at b (omega arith), take-suc (drop at s) k 0, get_or-drop)

-- k bytes stand for less than 256 ^ k
pub bound : (k : ℕ) (s : List ℕ) (at : ℕ) → Bytes s → at + k ≤ length s → be k s at < 256 ^ k
bound zero s at b h = omega arith
bound (suc k) s at b h = rw (pow-suc 256 k) (digits_lt (bound k s at b (omega arith)) (b (at + k) (omega arith)))

-- the number of j + k bytes by those of its two parts
pub be_join : (j k : ℕ) (s : List ℕ) (at : ℕ) → be j s at * 256 ^ k + be k s (at + j) ≡ be (j + k) s at
be_join j zero s at = rw (add-zero j) (omega arith)
be_join j (suc k) s at =
    rw (add-suc j k, pow-suc 256 k, ← be_join j k s at, ← mul_assoc (be j s at) (256 ^ k) 256, add_assoc at j k) (omega arith)

-- equal numbers have equal bytes
pub be_injective : (k : ℕ) (s t : List ℕ) (at to : ℕ) → Bytes s → Bytes t → at + k ≤ length s → to + k ≤ length t → be k s at ≡ be k t to → take k (drop at s) ≡ take k (drop to t)
be_injective k s t at to bs bt hs ht e = sym (digits_be k s at bs hs) ∙ ap (digits k) e ∙ digits_be k t to bt ht

-- ---- the bytes of a number in the other order

swapped_bound : (k n : ℕ) → swapped k n < 256 ^ k
swapped_bound zero n = lit< tt
swapped_bound (suc k) n =
    let low : n % 256 < 256 = omega arith in
    rw (pow-succ' 256 k) (digits_lt low (swapped_bound k (n / 256)))

-- only the k low bytes count
pub low_swapped : (k n : ℕ) → swapped k (n % 256 ^ k) ≡ swapped k n
low_swapped zero n = refl
low_swapped (suc k) n =
    let low : n % 256 < 256 = omega arith in
    rw (pow-suc 256 k, mod-mul n (pow_positive k) (lit< tt), digits_div, digits_mod, low_swapped k (n / 256))

pub low_low_first : (k n : ℕ) → low_first k (n % 256 ^ k) ≡ low_first k n
low_low_first zero n = refl
low_low_first (suc k) n =
    let low : n % 256 < 256 = omega arith in
    rw (pow-suc 256 k, mod-mul n (pow_positive k) (lit< tt), digits_div, digits_mod, low_low_first k (n / 256))

-- by two parts, j low bytes and k high ones
pub swapped_join : (j k n : ℕ) → swapped j n * 256 ^ k + swapped k (n / 256 ^ j) ≡ swapped (j + k) n
swapped_join zero k n = rw (div-one, zero-add) (omega arith)
swapped_join (suc j) k n =
    rw (suc-add j k, pow-succ' 256 j, ← div-div-eq-div-mul n 256 (256 ^ j), pow-add 256 j k, ← swapped_join j k (n / 256), ← mul_assoc (n % 256) (256 ^ j) (256 ^ k)) (omega arith)

pub low_first_join : (j k n : ℕ) → low_first j n ++ low_first k (n / 256 ^ j) ≡ low_first (j + k) n
low_first_join zero k n = rw (div-one, zero-add)
low_first_join (suc j) k n =
    rw (suc-add j k, pow-succ' 256 j, ← div-div-eq-div-mul n 256 (256 ^ j), ← low_first_join j k (n / 256))

-- two parts of a list, read the lowest byte first, and the number of both
pub be_halves : (k high low : ℕ) (s : List ℕ) (at : ℕ) → low < 256 ^ k → swapped k low ≡ be k s at → swapped k high ≡ be k s (at + k) → swapped (k + k) (high * 256 ^ k + low) ≡ be (k + k) s at
be_halves k high low s at h l u =
    let n = high * 256 ^ k + low in
    sym (swapped_join k k n)
    ∙ ap₂ (λ (a b : ℕ). a * 256 ^ k + b) (sym (low_swapped k n) ∙ ap (swapped k) (digits_mod high h) ∙ l) (ap (swapped k) (digits_div high h) ∙ u)
    ∙ be_join k k s at

-- a number in the other order, the lowest byte first, is the number, the highest byte first
pub swapped_back : (k n : ℕ) → low_first k (swapped k n) ≡ digits k n
swapped_back zero n = refl
swapped_back (suc k) n =
    let b = swapped_bound k (n / 256) in
    let m = n % 256 * 256 ^ k + swapped k (n / 256) in
    let front : low_first k m ≡ digits k (n / 256) =
    sym (low_low_first k m) ∙ rw (digits_mod (n % 256) b) (swapped_back k (n / 256)) in
    let last : low_first 1 (m / 256 ^ k) ≡ n % 256 ∷ [] = rw (digits_div (n % 256) b) (ap (λ (x : ℕ). x ∷ []) (omega arith)) in
    ap (λ (j : ℕ). low_first j m) (sym (add-one k)) ∙ sym (low_first_join k 1 m) ∙ ap₂ ◌++◌ front last

-- numbers are the same if their bytes turned are
pub swapped_same : (k a b : ℕ) → a < 256 ^ k → b < 256 ^ k → eqb a b ≡ eqb (swapped k a) (swapped k b)
swapped_same k a b ha hb = go (ℕ_discrete a b)
  where
    whole : (n : ℕ) → n < 256 ^ k → be k (low_first k (swapped k n) ++ []) 0 ≡ n
    whole n h = rw (swapped_back k n) (be_digits k n [] [] ∙ mod-eq_of_lt h)

    go : Dec (a ≡ b) → eqb a b ≡ eqb (swapped k a) (swapped k b)
    go (yes e) = eq-eqb a b e ∙ sym (eq-eqb _ _ (ap (swapped k) e))
    go (no n) = ne_eqb a b n ∙ sym (ne_eqb _ _ (λ e. n (sym (whole a ha) ∙ ap (λ (m : ℕ). be k (low_first k m ++ []) 0) e ∙ whole b hb)))

-- ---- k bytes alone say what they stand for

-- equal bytes stand for equal numbers
pub be_same : (k : ℕ) (s t : List ℕ) (at to : ℕ) → ((i : ℕ) → i < k → get_or s (at + i) 0 ≡ get_or t (to + i) 0) → be k s at ≡ be k t to
be_same zero s t at to h = refl
be_same (suc k) s t at to h =
    ap₂ (λ (a b : ℕ). a * 256 + b) (be_same k s t at to (λ i l. h i (omega arith))) (h k (omega arith))

-- in a front
pub be_take : (k m : ℕ) (l : List ℕ) (at : ℕ) → at + k ≤ m → be k (take m l) at ≡ be k l at
be_take k m l at h = be_same k (take m l) l at at (λ i b. get_or-take m l (at + i) 0 (omega arith))

-- in the rest
pub be_drop : (k m : ℕ) (l : List ℕ) (at : ℕ) → be k (drop m l) at ≡ be k l (m + at)
be_drop k m l at = be_same k (drop m l) l at (m + at) (λ i h. rw (add_assoc m at i) (get_or-drop m l (at + i) 0))

-- in a part
pub be_part : (k n : ℕ) (l : List ℕ) (at : ℕ) → k ≤ n → be k (take n (drop at l)) 0 ≡ be k l at
be_part k n l at h = be_take k n (drop at l) 0 (omega arith) ∙ be_drop k at l 0 ∙ ap (be k l) (add-zero at)

-- ---- lists of bytes

pub bytes_nil : Bytes []
bytes_nil i h = lit< tt

pub bytes_cons : (x : ℕ) (s : List ℕ) → x < 256 → Bytes s → Bytes (x ∷ s)
bytes_cons x s h b zero l = h
bytes_cons x s h b (suc i) l = b i (le_of_suc-le-suc l)

pub bytes_append : (s t : List ℕ) → Bytes s → Bytes t → Bytes (s ++ t)
bytes_append [] t bs bt = bt
bytes_append (x ∷ s) t bs bt = bytes_cons x (s ++ t) (bs 0 (zero-lt-suc (length s))) (bytes_append s t (λ i h. bs (suc i) (suc-le-suc h)) bt)

pub bytes_left : (s t : List ℕ) → Bytes (s ++ t) → Bytes s
bytes_left s t b i h = rw get_or-append at (b i (simp length-append (omega arith)))

pub bytes_right : (s t : List ℕ) → Bytes (s ++ t) → Bytes t
bytes_right s t b i h = rw get_or-append-add at (b (length s + i) (simp length-append (omega arith)))

pub bytes_take : (n : ℕ) (s : List ℕ) → Bytes s → Bytes (take n s)
bytes_take n s b = bytes_left (take n s) (drop n s) (rw take-append-drop b)

pub bytes_drop : (n : ℕ) (s : List ℕ) → Bytes s → Bytes (drop n s)
bytes_drop n s b = bytes_right (take n s) (drop n s) (rw take-append-drop b)

pub bytes_put : (l : List ℕ) (at : ℕ) (vs : List ℕ) → Bytes l → Bytes vs → Bytes (put l at vs)
unfolding put
bytes_put l at vs bl bv = bytes_append (take at l ++ vs) (drop (at + length vs) l) (bytes_append (take at l) vs (bytes_take at l bl) bv) (bytes_drop (at + length vs) l bl)

pub bytes_zeros : (n : ℕ) → Bytes (replicate n 0)
bytes_zeros zero = bytes_nil
bytes_zeros (suc n) = bytes_cons 0 (replicate n 0) (lit< tt) (bytes_zeros n)

pub bytes_digits : (k n : ℕ) → Bytes (digits k n)
bytes_digits zero n = bytes_nil
bytes_digits (suc k) n = bytes_append (digits k (n / 256)) (n % 256 ∷ []) (bytes_digits k (n / 256)) (bytes_cons (n % 256) [] (omega arith) bytes_nil)

-- ---- `put`

-- a run of stores
pub sets_put : (vs l : List ℕ) (at : ℕ) → at + length vs ≤ length l → sets l at vs ≡ put l at vs
unfolding put
sets_put vs l at h = sets-eq vs l at h

-- a whole copy
pub paste_put : (l : List ℕ) (at : ℕ) (s : List ℕ) → paste l at s (length s) ≡ put l at s
unfolding put
paste_put l at s = rw take-length

-- a part that was lent, when it holds what is put
pub mid_put : (l vs ys : List ℕ) (at k : ℕ) → ys ≡ vs → length ys ≡ k → put_mid at k l ys ≡ put l at vs
mid_put l vs ys at k e h = put_mid-paste at k l ys vs (length vs) e (sym (ap length e) ∙ h) refl ∙ paste_put l at vs

pub length_put : (l : List ℕ) (at : ℕ) (vs : List ℕ) → at + length vs ≤ length l → length (put l at vs) ≡ length l
unfolding put
length_put l at vs h = rw (← sets-eq vs l at h) (length-sets l at vs)

-- nothing put
pub put_nil : (l : List ℕ) (at : ℕ) → put l at [] ≡ l
unfolding put
put_nil l at = sym (paste-zero l at [])

-- what is there put again
pub put_back : (l : List ℕ) (at k : ℕ) → at + k ≤ length l → put l at (take k (drop at l)) ≡ l
unfolding put
put_back l at k h =
    let len : length (take k (drop at l)) ≡ k = length-take-le k (drop at l) (simp length-drop (omega arith)) in
    rw (len, ← take-add at k l) (take-append-drop (at + k) l)

-- the front f is written, what follows is as it was: the next piece makes the front longer
pub put_front : (f x vs : List ℕ) (at : ℕ) → length f ≡ at → put (f ++ drop at x) at vs ≡ (f ++ vs) ++ drop (at + length vs) x
unfolding put
put_front f x vs at h =
    rw (take_at f (drop at x) at h)
    (ap (λ (r : List ℕ). f ++ vs ++ r) (rw (← h) (drop-append-add f (drop (length f) x) (length vs) ∙ drop-drop (length vs) (length f) x)))

-- a put right behind a put is one put
pub put_put : (l a b : List ℕ) (at k : ℕ) → at ≤ length l → at + length a ≡ k → put (put l at a) k b ≡ put l at (a ++ b)
unfolding put
put_put l a b at k h e =
    let f : length (take at l ++ a) ≡ k = simp (length-append, length-take-le at l h) e in
    let s : (take at l ++ a) ++ drop (at + length a) l ≡ (take at l ++ a) ++ drop k l = rw e in
    let z : k + length b ≡ at + length (a ++ b) = simp length-append (omega arith) in
    ap (λ (x : List ℕ). take k x ++ b ++ drop (k + length b) x) s
    ∙ put_front (take at l ++ a) l b k f
    ∙ rw (z, append_assoc (take at l) a b)

-- a part from a on that was lent and came back as vs
pub part_put : (a k : ℕ) (l vs : List ℕ) → length vs ≡ k → take a l ++ (vs ++ drop k (drop a l)) ≡ put l a vs
unfolding put
part_put a k l vs h = rw (← h, drop-drop) (sym (append_assoc (take a l) vs (drop (a + length vs) l)))

-- ---- a part of a list that was put to

-- a part of a front p
pub cut_front : (p q : List ℕ) (b k : ℕ) → b + k ≤ length p → take k (drop b (p ++ q)) ≡ take k (drop b p)
cut_front p q b k h =
    let hb : b ≤ length p = omega arith in
    let hk : k ≤ length (drop b p) = simp length-drop (omega arith) in
    rw (drop-append-le b p q hb, take-append-le k (drop b p) q hk)

-- a part before what was put
pub cut_before : (l vs : List ℕ) (a b k : ℕ) → b + k ≤ a → a ≤ length l → take k (drop b (put l a vs)) ≡ take k (drop b l)
unfolding put
cut_before l vs a b k h ha =
    let e : length (take a l) ≡ a = length-take-le a l ha in
    let h' : b + k ≤ length (take a l) = rw e h in
    rw (append_assoc (take a l) vs (drop (a + length vs) l), cut_front (take a l) (vs ++ drop (a + length vs) l) b k h')
    (sym (cut_front (take a l) (drop a l) b k h') ∙ rw take-append-drop)

-- the part that was put
pub cut_same : (l vs : List ℕ) (a k : ℕ) → length vs ≡ k → a ≤ length l → take k (drop a (put l a vs)) ≡ vs
unfolding put
cut_same l vs a k h ha =
    let e : length (take a l) ≡ a = length-take-le a l ha in
    rw (append_assoc (take a l) vs (drop (a + length vs) l), drop_at (take a l) (vs ++ drop (a + length vs) l) a e) (take_at vs (drop (a + length vs) l) k h)

-- all from b on, b behind what was put
pub cut_after : (l vs : List ℕ) (a b : ℕ) → a + length vs ≤ b → a + length vs ≤ length l → drop b (put l a vs) ≡ drop b l
unfolding put
cut_after l vs a b h hl =
    let e : length (take a l ++ vs) ≡ a + length vs = simp (length-append, length-take-le a l (omega arith)) in
    let m : a + length vs + (b - (a + length vs)) ≡ b = omega arith in
    let m' : length (take a l ++ vs) + (b - (a + length vs)) ≡ b = rw e m in
    sym (ap (λ (x : ℕ). drop x (take a l ++ vs ++ drop (a + length vs) l)) m')
    ∙ drop-append-add (take a l ++ vs) (drop (a + length vs) l) (b - (a + length vs))
    ∙ drop-drop (b - (a + length vs)) (a + length vs) l
    ∙ ap (λ (x : ℕ). drop x l) m

-- the first n, none of which was put
pub take_before : (l vs : List ℕ) (a n : ℕ) → n ≤ a → a ≤ length l → take n (put l a vs) ≡ take n l
take_before l vs a n h ha = cut_before l vs a 0 n (omega arith) ha

-- what was put at the start
pub take_start : (l vs : List ℕ) → take (length vs) (put l 0 vs) ≡ vs
take_start l vs = cut_same l vs 0 (length vs) refl (omega arith)

-- what follows what was put at the start
pub drop_start : (l vs : List ℕ) → drop (length vs) (put l 0 vs) ≡ drop (length vs) l
unfolding put
drop_start l vs = rw zero-add (drop_at vs (drop (length vs) l) (length vs) refl)

-- ---- an element of a list that was put to

-- an index before what was put
pub get_or_before : (l vs : List ℕ) (a i : ℕ) → i < a → a ≤ length l → get_or (put l a vs) i 0 ≡ get_or l i 0
get_or_before l vs a i h ha =
    sym (get_or-take a (put l a vs) i 0 h) ∙ ap (λ (s : List ℕ). get_or s i 0) (take_before l vs a a (omega arith) ha) ∙ get_or-take a l i 0 h

-- an index behind what was put
pub get_or_after : (l vs : List ℕ) (a i : ℕ) → a + length vs ≤ i → a + length vs ≤ length l → get_or (put l a vs) i 0 ≡ get_or l i 0
get_or_after l vs a i h hl =
    let e : i + 0 ≡ i = add-zero i in
    sym (ap (λ (n : ℕ). get_or (put l a vs) n 0) e)
    ∙ sym (get_or-drop i (put l a vs) 0 0)
    ∙ ap (λ (s : List ℕ). get_or s 0 0) (cut_after l vs a i h hl)
    ∙ get_or-drop i l 0 0
    ∙ ap (λ (n : ℕ). get_or l n 0) e

-- ---- a number of a list that was put to

-- k bytes before what was put
pub be_before : (k : ℕ) (l vs : List ℕ) (a at : ℕ) → at + k ≤ a → a ≤ length l → be k (put l a vs) at ≡ be k l at
be_before k l vs a at h ha = be_same k (put l a vs) l at at (λ i b. get_or_before l vs a (at + i) (omega arith) ha)

-- the number that was put
pub be_put : (k n : ℕ) (l : List ℕ) (a : ℕ) → n < 256 ^ k → a ≤ length l → be k (put l a (digits k n)) a ≡ n
unfolding put
be_put k n l a b ha = be_at k n (take a l) (drop (a + length (digits k n)) l) a (length-take-le a l ha) b

-- k bytes behind what was put
pub be_after : (k : ℕ) (l vs : List ℕ) (a at : ℕ) → a + length vs ≤ at → a + length vs ≤ length l → be k (put l a vs) at ≡ be k l at
be_after k l vs a at h hl = be_same k (put l a vs) l at at (λ i b. get_or_after l vs a (at + i) (omega arith) hl)

-- ---- a list that is put in pieces

-- what was put, put over by at least as much
put_over : (l x y : List ℕ) (a : ℕ) → length x ≤ length y → a + length y ≤ length l → put (put l a x) a y ≡ put l a y
unfolding put
put_over l x y a h b = ap₂ (λ (p q : List ℕ). p ++ y ++ q) (take_before l x a a (omega arith) (omega arith)) (cut_after l x a (a + length y) (omega arith) (omega arith))

-- i elements of s are put; k more from j on, some of which may be among them, make j + k
pub put_piece : (d : List ℕ) (at : ℕ) (s l : List ℕ) {m : List ℕ} (i j k : ℕ) → j ≤ i → i ≤ j + k → j + k ≤ length s → at + length s ≤ length d → l ≡ put d at (take i s) → m ≡ put l (at + j) (take k (drop j s)) → m ≡ put d at (take (j + k) s)
put_piece d at s l i j k hj hi hs hd e f =
    let x = take (i - j) (drop j s) in
    let y = take k (drop j s) in
    let front : length (take j s) ≡ j = length-take-le j s (omega arith) in
    let few : length x ≡ i - j = length-take-le (i - j) (drop j s) (simp length-drop (omega arith)) in
    let all : length y ≡ k = length-take-le k (drop j s) (simp length-drop (omega arith)) in
    let start : at + length (take j s) ≡ at + j = rw front refl in
    let size : length (put d at (take j s)) ≡ length d = length_put d at (take j s) (omega arith) in
    let split : take i s ≡ take j s ++ x = ap (λ (n : ℕ). take n s) (let z : i ≡ j + (i - j) = omega arith in z) ∙ take-add j (i - j) s in
    f
    ∙ ap (λ (z : List ℕ). put z (at + j) y) (e ∙ ap (put d at) split ∙ sym (put_put d (take j s) x at (at + j) (omega arith) start))
    ∙ put_over (put d at (take j s)) x y (at + j) (omega arith) (omega arith)
    ∙ put_put d (take j s) y at (at + j) (omega arith) start
    ∙ ap (put d at) (sym (take-add j k s))

-- the last piece
pub put_last : (d : List ℕ) (at : ℕ) (s l : List ℕ) {m : List ℕ} (i j k : ℕ) → j ≤ i → i ≤ j + k → j + k ≡ length s → at + length s ≤ length d → l ≡ put d at (take i s) → m ≡ put l (at + j) (take k (drop j s)) → m ≡ put d at s
put_last d at s l i j k hj hi hs hd e f = put_piece d at s l i j k hj hi (omega arith) hd e f ∙ ap (put d at) (take_all (j + k) s (omega arith))

-- ---- a loop that writes s from `at` on

-- a turn
pub turn : (d : List ℕ) (at : ℕ) (s l : List ℕ) (j : ℕ) → at + j < length d → j < length s → l ≡ paste d at s j → set l (at + j) (get_or s j 0) ≡ paste d at s (j + 1)
turn d at s l j hd hs e = ap (λ (x : List ℕ). set x (at + j) (get_or s j 0)) e ∙ rw (add-one j) (paste-suc d at s j 0 hd hs)

-- the end
pub done : (d : List ℕ) (at : ℕ) (s l : List ℕ) (j : ℕ) → j ≡ length s → l ≡ paste d at s j → l ≡ put d at s
done d at s l j h e = e ∙ rw h (paste_put d at s)

-- ---- a buffer that is written from the front

-- x before, l now, f what is written, `at` long
pub record Front (x f : List ℕ) (at : ℕ) (l : List ℕ) : Type 0 where
  pub size : length f ≡ at
  pub is : l ≡ f ++ drop at x

-- nothing is written yet
pub start : (x : List ℕ) → Front x [] 0 x
start x = record { size = refl; is = refl }

-- one more put
pub grow : {x f l m : List ℕ} {at : ℕ} (vs : List ℕ) (to : ℕ) → Front x f at l → m ≡ put l at vs → at + length vs ≡ to → Front x (f ++ vs) to m
grow {x} {f} {l} {m} {at} vs to p e h = record {
  size = length-append f vs ∙ rw p.size h;
  is = e ∙ ap (λ (y : List ℕ). put y at vs) p.is ∙ rw (put_front f x vs at p.size, h);
}

-- all is written
pub finish : {x f l : List ℕ} {at : ℕ} → Front x f at l → length x ≤ at → l ≡ f
finish {x} {f} p h = p.is ∙ rw (drop_of_length-le x h) (append-nil f)

-- ---- a run of puts, each right behind the one before

-- l before, m now, a what is written from `at` up to k
pub record Wrote (l : List ℕ) (at : ℕ) (a : List ℕ) (k : ℕ) (m : List ℕ) : Type 0 where
  pub room : at ≤ length l
  pub size : at + length a ≡ k
  pub is : m ≡ put l at a

-- the first put
pub one : {l m : List ℕ} {at : ℕ} (a : List ℕ) (k : ℕ) → at ≤ length l → m ≡ put l at a → at + length a ≡ k → Wrote l at a k m
one a k r e h = record { room = r; size = h; is = e }

-- one more
pub more : {l a m n : List ℕ} {at k : ℕ} (b : List ℕ) (to : ℕ) → Wrote l at a k m → n ≡ put m k b → k + length b ≡ to → Wrote l at (a ++ b) to n
more {l} {a} {m} {n} {at} {k} b to w e h = record {
  room = w.room;
  size = simp length-append (let p = w.size in omega arith);
  is = e ∙ ap (λ (x : List ℕ). put x k b) w.is ∙ put_put l a b at k w.room w.size;
}
