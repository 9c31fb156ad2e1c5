-- Big-endian numbers: what k bytes from a place stand for, the k bytes of a number, and bytes put into a list.
use Rattle.std.specs.Prelude.{ℕ, zero, suc, ◌+◌, ◌*◌, ◌/◌, ◌%◌, ◌^◌, ◌<◌, List, [], ◌∷◌, ◌++◌, length, get_or, take, drop}

-- the number that the k bytes from `at` on stand for
abbrev pub be : ℕ → List ℕ → ℕ → ℕ
be zero s at = 0
be (suc k) s at = be k s at * 256 + get_or s (at + k) 0

-- the k low bytes of n, the highest first
abbrev pub digits : ℕ → ℕ → List ℕ
digits zero n = []
digits (suc k) n = digits k (n / 256) ++ (n % 256 ∷ [])

-- the k low bytes of n, the lowest first
abbrev pub low_first : ℕ → ℕ → List ℕ
low_first zero n = []
low_first (suc k) n = n % 256 ∷ low_first k (n / 256)

-- the number that those bytes stand for
abbrev pub swapped : ℕ → ℕ → ℕ
swapped zero n = 0
swapped (suc k) n = n % 256 * 256 ^ k + swapped k (n / 256)

-- every element is a byte
abbrev pub Bytes : List ℕ → Type 0
Bytes s = (i : ℕ) → i < length s → get_or s i 0 < 256

-- l with the elements from index `at` on replaced by those of vs
unfoldable pub put : List ℕ → ℕ → List ℕ → List ℕ
put l at vs = take at l ++ vs ++ drop (at + length vs) l
