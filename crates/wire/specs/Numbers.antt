-- Document 01, "Numbers returned": the refusals and their order, what a step answers, and what it is to give the first refusal that applies; whether two lists are the same.
use Rattle.std.specs.Prelude.{ℕ, ◌≡◌, List, [], ◌∷◌, Bool, true, false, ◌&&◌, ◌⊎◌, eqb, Result, Ok, Err}
use Rattle.wire.specs.declared.Refusal.{Refusal}
use Rattle.wire.specs.declared.Refusal.TheVariants.{Broken, SmallOutlet, Malformed, Misaddressed, Stranger, Stopped, BelowFence, Sessionless, KeyMissing, SessionOver, NoNumberLeft, NotNewer, ChangeOpen, OutOfTurn, NotMeant, IdUsed, ChainFull, OnlyNode, OtherCount, KeyThere, NoFreeSlot, FenceAbove}

-- ---- the rows of the table, by name

abbrev pub broken : ℕ
broken = 1

abbrev pub small_outlet : ℕ
small_outlet = 2

abbrev pub malformed : ℕ
malformed = 3

abbrev pub misaddressed : ℕ
misaddressed = 4

abbrev pub stranger : ℕ
stranger = 5

abbrev pub stopped : ℕ
stopped = 6

abbrev pub below_fence : ℕ
below_fence = 7

abbrev pub sessionless : ℕ
sessionless = 8

abbrev pub key_missing : ℕ
key_missing = 9

abbrev pub session_over : ℕ
session_over = 10

abbrev pub no_number_left : ℕ
no_number_left = 11

abbrev pub not_newer : ℕ
not_newer = 12

abbrev pub change_open : ℕ
change_open = 13

abbrev pub out_of_turn : ℕ
out_of_turn = 14

abbrev pub not_meant : ℕ
not_meant = 15

abbrev pub id_used : ℕ
id_used = 16

abbrev pub chain_full : ℕ
chain_full = 17

abbrev pub only_node : ℕ
only_node = 18

abbrev pub other_count : ℕ
other_count = 19

abbrev pub key_there : ℕ
key_there = 20

abbrev pub no_free_slot : ℕ
no_free_slot = 21

abbrev pub fence_above : ℕ
fence_above = 22

-- the order in which they are tried: the number given is the first that applies
abbrev pub priority : List ℕ
priority =
    broken
    ∷ small_outlet
    ∷ malformed
    ∷ misaddressed
    ∷ stranger
    ∷ stopped
    ∷ below_fence
    ∷ sessionless
    ∷ key_missing
    ∷ session_over
    ∷ no_number_left
    ∷ not_newer
    ∷ change_open
    ∷ out_of_turn
    ∷ not_meant
    ∷ id_used
    ∷ chain_full
    ∷ only_node
    ∷ other_count
    ∷ key_there
    ∷ no_free_slot
    ∷ fence_above
    ∷ []

-- the number of each refusal
abbrev pub refusal_number : Refusal → ℕ
refusal_number Broken = broken
refusal_number SmallOutlet = small_outlet
refusal_number Malformed = malformed
refusal_number Misaddressed = misaddressed
refusal_number Stranger = stranger
refusal_number Stopped = stopped
refusal_number BelowFence = below_fence
refusal_number Sessionless = sessionless
refusal_number KeyMissing = key_missing
refusal_number SessionOver = session_over
refusal_number NoNumberLeft = no_number_left
refusal_number NotNewer = not_newer
refusal_number ChangeOpen = change_open
refusal_number OutOfTurn = out_of_turn
refusal_number NotMeant = not_meant
refusal_number IdUsed = id_used
refusal_number ChainFull = chain_full
refusal_number OnlyNode = only_node
refusal_number OtherCount = other_count
refusal_number KeyThere = key_there
refusal_number NoFreeSlot = no_free_slot
refusal_number FenceAbove = fence_above

-- ---- what a step answers: a refusal, or what it does

pub data Out (A : Type 0) : Type 0 where
  refuse : ℕ → Out A
  ok : A → Out A

-- the number returned: the refusal, or 0
abbrev pub number_of : {A : Type 0} → Out A → ℕ
number_of (refuse n) = n
number_of (ok a) = 0

-- what an answer of the code says, and the number that it gives
abbrev pub said : {A : Type 0} → Result A Refusal → Out A
said (Ok a) = ok a
said (Err r) = refuse (refusal_number r)

abbrev pub code : {A : Type 0} → Result A Refusal → ℕ
code (Ok a) = 0
code (Err r) = refusal_number r

-- whether it is done, whatever was made
abbrev pub done : {A : Type 0} → Out A → Out (Unit {0})
done (refuse n) = refuse n
done (ok a) = ok tt

-- what a step leaves of something: as it was after a refusal, or what the step makes of it
abbrev pub left : {A B : Type 0} → B → (A → B) → Out A → B
left b f (refuse n) = b
left b f (ok a) = f a

-- ---- how a step is written: tests one after the other

-- if-then-else, and a test that refuses; both shut, so that laws about them need not quote what they stand in
unfoldable pub pick : {A : Type 0} → Bool → A → A → A
pick true x y = x
pick false x y = y

unfoldable pub guard : {A : Type 0} → Bool → ℕ → Out A → Out A
guard true n y = refuse n
guard false n y = y

pub record Test : Type 0 where
  pub number : ℕ
  pub holds : Bool

abbrev pub test : ℕ → Bool → Test
test n b = record { number = n; holds = b }

-- the number of the first test that holds, or what follows
abbrev pub judge : {A : Type 0} → List Test → Out A → Out A
judge [] y = y
judge (t ∷ l) y = guard t.holds t.number (judge l y)

-- the number of the first test that holds; 0 where none does
abbrev pub first_number : List Test → ℕ
first_number [] = 0
first_number (t ∷ l) = pick t.holds t.number (first_number l)

-- the tests that a step makes of its rows
abbrev pub tests_of : List (Bool × Refusal) → List Test
tests_of [] = []
tests_of (r ∷ l) = test (refusal_number r.1) r.0 ∷ tests_of l

-- ---- how document 01 says it: rows, each with its condition

pub record Case : Type 1 where
  pub number : ℕ
  pub when : Type 0

abbrev pub case : ℕ → Type 0 → Case
case n w = record { number = n; when = w }

-- rows that apply only where something is there to speak of
abbrev pub under : Type 0 → List Case → List Case
under W [] = []
under W (c ∷ l) = case c.number (W × c.when) ∷ under W l

-- the row n applies
abbrev pub Applies : List Case → ℕ → Type 0
Applies [] n = ⊥
Applies (c ∷ l) n = ((n ≡ c.number) × c.when) ⊎ Applies l n

-- n is the first of a list for which P holds
abbrev pub First : (ℕ → Type 0) → List ℕ → ℕ → Type 0
First P [] n = ⊥
First P (x ∷ l) n = ((n ≡ x) × P x) ⊎ ((P x → ⊥) × First P l n)

-- an answer is the one that the rows call for: the first refusal that applies, or none applies and the step is done
abbrev pub Judged : {A : Type 0} → List Case → Out A → Type 0
Judged cs (refuse n) = First (Applies cs) priority n
Judged cs (ok a) = (n : ℕ) → Applies cs n → ⊥

-- ---- whether two lists, as of bytes, are the same

abbrev pub eqs : List ℕ → List ℕ → Bool
eqs [] [] = true
eqs [] (y ∷ ys) = false
eqs (x ∷ xs) [] = false
eqs (x ∷ xs) (y ∷ ys) = eqb x y && eqs xs ys
