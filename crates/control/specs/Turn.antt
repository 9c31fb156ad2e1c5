-- The rows of the steps over tables, all of a call's; and a change whose joining node is another.
use Rattle.std.specs.Prelude.{ℕ, ◌≡◌, List, [], ◌∷◌, ◌||◌, not, eqb, length}
use Rattle.wire.specs.Numbers.{Test, test, broken, change_open, not_meant, other_count, key_there}
use Rattle.store.specs.Table.{table_of, table_ok, find}
use Rattle.steps.specs.declared.Joining.{Joining}
use Rattle.steps.specs.declared.Change.{Change}
use Rattle.steps.specs.declared.Change.TheVariants.{Still, Before, After}
use Rattle.steps.specs.declared.Chain.{Chain}
use Rattle.steps.specs.Chain.{members, memb, chain_ok, is_open}
use Rattle.steps.specs.Node.{is_nothing}
use Rattle.steps.specs.Control.{fence_tests, copy_tests}

-- on the side where it was, a node that P relates to the one that was there
abbrev pub Mapped : (Joining → Joining → Type 0) → Change → Change → Type 0
Mapped P Still ch = ch ≡ Still
Mapped P (Before j) ch = (k : Joining) × P j k × (ch ≡ Before k)
Mapped P (After j) ch = (k : Joining) × P j k × (ch ≡ After k)

abbrev pub fence_all : Chain → List ℕ → List Test
fence_all r t = test broken (not (chain_ok r) || not (table_ok t)) ∷ fence_tests r (table_of t)

abbrev pub copy_all : Chain → ℕ → List ℕ → List ℕ → List Test
copy_all r i named fresh =
    test broken (not (chain_ok r) || (not (table_ok named) || not (table_ok fresh))) ∷ copy_tests r i (table_of named) (table_of fresh)

-- enter: all rows but the last, which asks for a free slot
abbrev pub enter_first : Chain → List ℕ → ℕ → List ℕ → List Test
enter_first r t id key =
    test broken (not (chain_ok r) || not (table_ok t))
    ∷ test change_open (is_open r.change)
    ∷ test not_meant (not (memb id (members r)) || not (eqb (table_of t).id id))
    ∷ test other_count (not (eqb (length (table_of t).slots) r.count))
    ∷ test key_there (not (is_nothing (find key (table_of t).slots)))
    ∷ []
