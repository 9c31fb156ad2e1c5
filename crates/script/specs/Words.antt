-- Document 01, "Bench": the words of a line, and what a word can be: a key or a value, or a number.
use Rattle.std.specs.Prelude.{ℕ, zero, suc, ◌+◌, ◌-◌, ◌*◌, Bool, true, false, ◌&&◌, ◌||◌, List, [], ◌∷◌, length, take, drop, eqb, leb, Option, Some, None}
use Rattle.wire.specs.Numbers.{pick}
use Rattle.script.specs.Sizes.{most_text, most_number}

-- ---- words: what stands between single spaces, so a word may be empty

abbrev pub space : ℕ
space = 32

-- where the byte is, by whether the first is it, and by where it is behind the first
abbrev pub index_after : Bool → ℕ → ℕ
index_after true n = 0
index_after false n = suc n

-- how far on the byte b is first, or the length of a list that has none
unfoldable pub index_of : ℕ → List ℕ → ℕ
index_of b [] = 0
index_of b (x ∷ l) = index_after (eqb x b) (index_of b l)

-- the first word, and the line behind it and its space
unfoldable pub first_word : List ℕ → List ℕ
first_word l = take (index_of space l) l

unfoldable pub behind : List ℕ → List ℕ
behind l = drop (suc (index_of space l)) l

-- word n, from 0 on; empty where there are fewer words
abbrev pub word : ℕ → List ℕ → List ℕ
word zero l = first_word l
word (suc n) l = word n (behind l)

-- how many words there are: one more than spaces
unfoldable pub spaces : List ℕ → ℕ
spaces [] = 0
spaces (x ∷ l) = pick (eqb x space) 1 0 + spaces l

unfoldable pub word_count : List ℕ → ℕ
word_count l = 1 + spaces l

-- ---- keys and values: 1 to 16 letters or digits

abbrev pub is_digit : ℕ → Bool
is_digit b = leb 48 b && leb b 57

abbrev pub is_letter : ℕ → Bool
is_letter b = (leb 97 b && leb b 122) || (leb 65 b && leb b 90)

unfoldable pub plain : List ℕ → Bool
plain [] = true
plain (x ∷ l) = (is_digit x || is_letter x) && plain l

-- the word where it can be a key or a value; else nothing
unfoldable pub text_of : List ℕ → List ℕ
text_of w = pick (leb (length w) most_text && plain w) w []

abbrev pub key_of : List ℕ → List ℕ
key_of line = text_of (word 2 line)

abbrev pub value_of : List ℕ → List ℕ
value_of line = text_of (word 3 line)

-- ---- numbers: decimal digits

unfoldable pub digits : List ℕ → Bool
digits [] = true
digits (x ∷ l) = is_digit x && digits l

-- the number that has n in front of the digits
unfoldable pub decimal : ℕ → List ℕ → ℕ
decimal n [] = n
decimal n (x ∷ l) = decimal (n * 10 + (x - 48)) l

-- a number too large for anything names nothing
unfoldable pub capped : ℕ → Option ℕ
capped n = pick (leb n most_number) (Some n) None

-- the number with one more digit behind it
unfoldable pub longer : ℕ → ℕ → Option ℕ
longer n b = pick (is_digit b) (capped (n * 10 + (b - 48))) None

unfoldable pub number_from : ℕ → List ℕ → Option ℕ
number_from n l = pick (digits l) (capped (decimal n l)) None

-- the number that a word shows
unfoldable pub number_of : List ℕ → Option ℕ
number_of w = pick (eqb (length w) 0) None (number_from 0 w)
