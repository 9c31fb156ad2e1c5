-- A line's words, byte by byte: the parts that are split off, the bytes of a word, and what is left at the end of the loop.
use Prim.Native.Nat.{ℕ, zero, suc, ◌+◌, ◌-◌, ◌*◌, ◌<◌, ◌≤◌}
use mathlib.Core.Path.{◌≡◌, refl, sym, ap, ap₂, ◌∙◌}
use mathlib.Core.Bool.{Bool, true, false, ◌&&◌, ◌||◌, cond}
use mathlib.Core.List.{List, [], ◌∷◌}
use native.Mathlib.Omega.{arith}
use native.Mathlib.Nat.{zero-add}
use native.Mathlib.Numerals.{add-one}
use Rattle.std.proofs.lemmas.List.Recursion.{is_count_by}
use lib.ListN.{length, get_or, take, drop, length-drop, drop_of_length-le}
use lib.Seq.{drop-cons, take_all}
use denote.Ref.{Bor}
use lib.Dec.{eqb, leb}
use borrow.Author.Tests.{eqb-true, eqb-false, leb-true, leb-false, le-leb, lt-leb, eq-eqb}
use Rattle.std.specs.Prelude.{Option, Some, None}
use Rattle.std.specs.Option.{unwrap_or, option_map}
use Rattle.std.specs.List.{slice_get, slice_split, onto_first, count_by, list_all}
use Rattle.std.specs.Char.{is_ascii_alphanumeric}
use Rattle.wire.specs.Numbers.{pick}
use Rattle.wire.proofs.Numbers.{pick_true, pick_false, pick_case, and_left}
use Rattle.script.specs.Sizes.{most_text, most_number}
use Rattle.script.specs.Words.{index_of, index_after, first_word, behind, is_digit, spaces, plain, text_of, digits, decimal, capped, longer, number_from, word}

-- ---- what is left of a list

pub left_at : (l : List ℕ) (i : ℕ) → i < length l → drop i l ≡ get_or l i 0 ∷ drop (i + 1) l
left_at l i h = drop-cons l i 0 h ∙ ap (λ (k : ℕ). get_or l i 0 ∷ drop k l) (sym (add-one i))

pub none_left : (l : List ℕ) (i : ℕ) → length l ≤ i → drop i l ≡ []
none_left l i h = drop_of_length-le l {i = i} h

-- ---- the first space

pub index_fits : (b : ℕ) (l : List ℕ) → index_of b l ≤ length l
unfolding index_of
index_fits b [] = omega arith
index_fits b (x ∷ l) = go (eqb x b) (index_fits b l)
  where
    go : (t : Bool) → index_of b l ≤ length l → index_after t (index_of b l) ≤ suc (length l)
    go true h = omega arith
    go false h = omega arith

-- at it stands the byte, and nowhere before it
pub index_is : (b : ℕ) (l : List ℕ) → index_of b l < length l → get_or l (index_of b l) 0 ≡ b
unfolding index_of
index_is b [] h = absurd (omega arith)
index_is b (x ∷ l) h = go (index_is b l) (eqb x b) refl h
  where
    go : (index_of b l < length l → get_or l (index_of b l) 0 ≡ b) → (t : Bool) → eqb x b ≡ t → index_after t (index_of b l) < suc (length l) → get_or (x ∷ l) (index_after t (index_of b l)) 0 ≡ b
    go more true e h = eqb-true x b e
    go more false e h = more (omega arith)

pub index_first : (b : ℕ) (l : List ℕ) (i : ℕ) → i < index_of b l → get_or l i 0 ≡ b → ⊥
unfolding index_of
index_first b [] i h q = absurd (omega arith)
index_first b (x ∷ l) i h q = go (index_first b l) (eqb x b) refl i h q
  where
    go : ((i : ℕ) → i < index_of b l → get_or l i 0 ≡ b → ⊥) → (t : Bool) → eqb x b ≡ t → (i : ℕ) → i < index_after t (index_of b l) → get_or (x ∷ l) i 0 ≡ b → ⊥
    go more true e i h q = absurd (omega arith)
    go more false e zero h q = eqb-false x b e q
    go more false e (suc i) h q = more i (omega arith) q

-- at the first space, and behind a line that has none
pub index_found : (l : List ℕ) (i : ℕ) → i < length l → get_or l i 0 ≡ 32 → i + index_of 32 (drop i l) ≡ i
unfolding index_of
index_found l i h e = ap (λ (m : List ℕ). i + index_of 32 m) (left_at l i h) ∙ ap (λ (t : Bool). i + index_after t (index_of 32 (drop (i + 1) l))) (eq-eqb _ _ e) ∙ omega arith

rest_of : (l : List ℕ) (k : ℕ) → take (length l - k) (drop k l) ≡ drop k l
rest_of l k = take_all (length l - k) (drop k l) (omega (arith, length-drop k l))

pub behind_end : (l : List ℕ) (e : ℕ) → e ≡ index_of 32 l → e ≡ length l → take (length l - e) (drop e l) ≡ behind l
unfolding behind
behind_end l e i h = rest_of l e ∙ none_left l e (omega arith) ∙ sym (none_left l (suc (index_of 32 l)) (omega arith))

-- a word is the part that a split at spaces gives; empty where there are fewer
word_none : (n : ℕ) → word n [] ≡ []
unfolding first_word behind index_of
word_none zero = refl
word_none (suc n) = word_none n

abbrev parts : List ℕ → List (List ℕ)
parts = slice_split (λ b. eqb b 32)

onto_head : (x : ℕ) (ps : List (List ℕ)) → get_or (onto_first x ps) 0 [] ≡ x ∷ get_or ps 0 []
onto_head x [] = refl
onto_head x (p ∷ ps) = refl

onto_tail : (x n : ℕ) (ps : List (List ℕ)) → get_or (onto_first x ps) (suc n) [] ≡ get_or ps (suc n) []
onto_tail x n [] = refl
onto_tail x n (p ∷ ps) = refl

-- word n of a line whose first word has i bytes
abbrev word_from : ℕ → ℕ → List ℕ → List ℕ
word_from zero i l = take i l
word_from (suc n) i l = word n (drop (suc i) l)

word_is : (n : ℕ) (l : List ℕ) → word_from n (index_of 32 l) l ≡ word n l
unfolding first_word behind
word_is zero l = refl
word_is (suc n) l = refl

pub part_is : (l : List ℕ) (n : ℕ) → get_or (parts l) n [] ≡ word n l
unfolding first_word behind index_of
part_is [] zero = refl
part_is [] (suc n) = sym (word_none n)
part_is (x ∷ l) n = go (part_is l) (eqb x 32) n ∙ word_is n (x ∷ l)
  where
    go : ((n : ℕ) → get_or (parts l) n [] ≡ word n l) → (t : Bool) (n : ℕ) → get_or (cond t ([] ∷ parts l) (onto_first x (parts l))) n [] ≡ word_from n (index_after t (index_of 32 l)) (x ∷ l)
    go more true zero = refl
    go more true (suc n) = more n
    go more false zero = onto_head x (parts l) ∙ ap (λ (w : List ℕ). x ∷ w) (more zero)
    go more false (suc n) = onto_tail x n (parts l) ∙ more (suc n)

-- what `nth` gives of the parts, with the empty word for none
pub part_or : (ps : List (List ℕ)) (n : ℕ) → unwrap_or (slice_get ps n) [] ≡ get_or ps n []
part_or [] n = refl
part_or (p ∷ ps) zero = refl
part_or (p ∷ ps) (suc n) = part_or ps n

pub now_or : (r : Option (Bor (List ℕ))) (d : Bor (List ℕ)) → (unwrap_or r d).now ≡ unwrap_or (option_map (λ w. w.now) r) d.now
now_or None d = refl
now_or (Some w) d = refl

-- ---- spaces

one_more : (t : Bool) (n : ℕ) → pick t 1 0 + n ≡ cond t (1 + n) n
unfolding pick
one_more true n = refl
one_more false n = zero-add n

pub spaces_are : (l : List ℕ) → spaces l ≡ count_by (λ b. eqb b 32) l
unfolding spaces
spaces_are = is_count_by spaces (λ b. eqb b 32) refl (λ x l. one_more (eqb x 32) (spaces l))

-- ---- words that are letters and digits

alnum : (d u l : Bool) → ((d || u) || l) ≡ (d || (l || u))
alnum true u l = refl
alnum false true true = refl
alnum false true false = refl
alnum false false true = refl
alnum false false false = refl

pub plain_is : (w : List ℕ) → list_all is_ascii_alphanumeric w ≡ plain w
unfolding plain
plain_is [] = refl
plain_is (x ∷ w) = ap₂ ◌&&◌ (alnum (leb 48 x && leb x 57) _ _) (plain_is w)

-- ---- keys and values

pub text_fits : (w : List ℕ) → length (text_of w) ≤ most_text
unfolding text_of
text_fits w =
    pick_case (λ (l : List ℕ). length l ≤ most_text) (leb (length w) most_text && plain w) w []
    (λ e. leb-true (length w) most_text (and_left (leb (length w) most_text) (plain w) e))
    (λ e. omega arith)

-- ---- numbers: a digit more, and no number that is over comes back

decimal_grows : (l : List ℕ) (n : ℕ) → n ≤ decimal n l
unfolding decimal
decimal_grows [] n = omega arith
decimal_grows (x ∷ l) n = let h = decimal_grows l (n * 10 + (x - 48)) in omega arith

pub capped_under : (n : ℕ) → n ≤ most_number → capped n ≡ Some n
unfolding capped
capped_under n h = pick_true _ _ _ (le-leb _ _ h)

pub capped_over : (n : ℕ) → most_number < n → capped n ≡ None
unfolding capped
capped_over n h = pick_false _ _ _ (lt-leb _ _ h)

-- what the digits of a list make of a number
abbrev pub number_on : Option ℕ → List ℕ → Option ℕ
number_on None l = None
number_on (Some n) l = number_from n l

from_capped : (n : ℕ) (l : List ℕ) → pick (digits l) (capped (decimal n l)) None ≡ number_on (capped n) l
unfolding number_from capped
from_capped n l =
    pick_case (λ (k : Option ℕ). pick (digits l) (capped (decimal n l)) None ≡ number_on k l) (leb n most_number) (Some n) None
    (λ e. refl)
    (λ e.
    let h : most_number < n = leb-false _ _ e in
    let g = decimal_grows l n in
    let over : most_number < decimal n l = omega arith in
    pick_case (λ (k : Option ℕ). k ≡ None) (digits l) (capped (decimal n l)) None (λ d. capped_over _ over) (λ d. refl))

from_digit : (n x : ℕ) (l : List ℕ) (b : Bool)
    → pick (b && digits l) (capped (decimal (n * 10 + (x - 48)) l)) None ≡ number_on (pick b (capped (n * 10 + (x - 48))) None) l
unfolding pick
from_digit n x l true = from_capped (n * 10 + (x - 48)) l
from_digit n x l false = refl

pub number_turn : (l : List ℕ) (i n : ℕ) → i < length l → number_from n (drop i l) ≡ number_on (longer n (get_or l i 0)) (drop (i + 1) l)
unfolding number_from digits decimal longer
number_turn l i n h = ap (number_from n) (left_at l i h) ∙ from_digit n (get_or l i 0) (drop (i + 1) l) (is_digit (get_or l i 0))

pub longer_fits : (n b m : ℕ) → longer n b ≡ Some m → m ≤ most_number
unfolding longer capped
longer_fits n b m =
    pick_case (λ (k : Option ℕ). k ≡ Some m → m ≤ most_number) (is_digit b) (pick (leb (n * 10 + (b - 48)) most_number) (Some (n * 10 + (b - 48))) None) None
    (λ d.
    pick_case (λ (k : Option ℕ). k ≡ Some m → m ≤ most_number) (leb (n * 10 + (b - 48)) most_number) (Some (n * 10 + (b - 48))) None
    (λ e s. let h : n * 10 + (b - 48) ≤ most_number = leb-true _ _ e in let k : n * 10 + (b - 48) ≡ m = cc in omega arith)
    (λ e s. cc))
    (λ d s. cc)

pub number_end : (l : List ℕ) (i n : ℕ) → n ≤ most_number → length l ≤ i → number_from n (drop i l) ≡ Some n
unfolding number_from digits decimal pick
number_end l i n g h = ap (number_from n) (none_left l i h) ∙ capped_under n g
