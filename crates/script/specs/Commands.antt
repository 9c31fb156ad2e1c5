-- Document 01, "Bench": the command that the words of a line make.
use Rattle.std.specs.Prelude.{ℕ, Option, ◌||◌, List, [], ◌∷◌, length, eqb, ltb}
use Rattle.wire.specs.Numbers.{pick, eqs}
use Rattle.wire.specs.declared.Op.TheVariants.{Read, Write, Delete}
use Rattle.script.specs.declared.Side.TheVariants.{Before, After}
use Rattle.script.specs.declared.Order.TheVariants.{Open, Fence, Copy, Activate, Cancel, Remove}
use Rattle.script.specs.declared.Command.{Command}
use Rattle.script.specs.declared.Command.TheVariants.{Enter, Send, Deliver, Halt, Rule, Unclear}
use Rattle.script.specs.Sizes.{most_line}
use Rattle.script.specs.Words.{word, word_count, key_of, value_of, number_of}

-- ---- by how many words they have

-- fence, copy, activate, cancel
unfoldable pub of_one : List ℕ → Command
of_one w =
    pick (eqs w (102 ∷ 101 ∷ 110 ∷ 99 ∷ 101 ∷ [])) (Rule Fence)
    (pick (eqs w (99 ∷ 111 ∷ 112 ∷ 121 ∷ [])) (Rule Copy)
    (pick (eqs w (97 ∷ 99 ∷ 116 ∷ 105 ∷ 118 ∷ 97 ∷ 116 ∷ 101 ∷ [])) (Rule Activate)
    (pick (eqs w (99 ∷ 97 ∷ 110 ∷ 99 ∷ 101 ∷ 108 ∷ [])) (Rule Cancel) Unclear)))

-- deliver P, halt N, remove N
unfoldable pub of_two : List ℕ → Option ℕ → Command
of_two w n =
    pick (eqs w (100 ∷ 101 ∷ 108 ∷ 105 ∷ 118 ∷ 101 ∷ 114 ∷ [])) (Deliver n)
    (pick (eqs w (104 ∷ 97 ∷ 108 ∷ 116 ∷ [])) (Halt n)
    (pick (eqs w (114 ∷ 101 ∷ 109 ∷ 111 ∷ 118 ∷ 101 ∷ [])) (Rule (Remove n)) Unclear))

-- send r K, send d K, by the second word
unfoldable pub bare_of : List ℕ → Command
bare_of x = pick (eqs x (114 ∷ [])) (Send Read) (pick (eqs x (100 ∷ [])) (Send Delete) Unclear)

-- enter N K, and those; a third word that can be no key makes no command
unfoldable pub of_three : List ℕ → List ℕ → List ℕ → Command
of_three w x k =
    pick (eqb (length k) 0) Unclear
    (pick (eqs w (101 ∷ 110 ∷ 116 ∷ 101 ∷ 114 ∷ [])) (Enter (number_of x))
    (pick (eqs w (115 ∷ 101 ∷ 110 ∷ 100 ∷ [])) (bare_of x) Unclear))

-- send w K V, by the second word, the key and the value
unfoldable pub write_of : List ℕ → List ℕ → List ℕ → Command
write_of x k v = pick (eqb (length k) 0 || eqb (length v) 0) Unclear (pick (eqs x (119 ∷ [])) (Send Write) Unclear)

-- open b N M, open a N M, by the second word and the numbers
unfoldable pub open_of : List ℕ → Option ℕ → Option ℕ → Command
open_of x n m = pick (eqs x (98 ∷ [])) (Rule (Open Before n m)) (pick (eqs x (97 ∷ [])) (Rule (Open After n m)) Unclear)

unfoldable pub of_four : List ℕ → Command
of_four l =
    pick (eqs (word 0 l) (115 ∷ 101 ∷ 110 ∷ 100 ∷ [])) (write_of (word 1 l) (key_of l) (value_of l))
    (pick (eqs (word 0 l) (111 ∷ 112 ∷ 101 ∷ 110 ∷ [])) (open_of (word 1 l) (number_of (word 2 l)) (number_of (word 3 l))) Unclear)

-- ---- the command of a line

-- of one that has n words
unfoldable pub of_count : List ℕ → ℕ → Command
of_count l n =
    pick (eqb n 1) (of_one (word 0 l))
    (pick (eqb n 2) (of_two (word 0 l) (number_of (word 1 l)))
    (pick (eqb n 3) (of_three (word 0 l) (word 1 l) (key_of l))
    (pick (eqb n 4) (of_four l) Unclear)))

unfoldable pub command_of : List ℕ → Command
command_of l = pick (ltb most_line (length l)) Unclear (of_count l (word_count l))
