-- Lines typed as a user types them, damaged twins among them, and the command that each makes.
use Prim.Native.Nat.{ℕ}
use mathlib.Core.Path.{◌≡◌, refl}
use mathlib.Core.List.{List, [], ◌∷◌, map}
use Rattle.std.specs.Prelude.{Some, None}
use Rattle.wire.specs.Numbers.{pick}
use Rattle.wire.specs.declared.Op.TheVariants.{Read, Write, Delete}
use Rattle.script.specs.declared.Side.TheVariants.{Before, After}
use Rattle.script.specs.declared.Order.TheVariants.{Open, Fence, Copy, Activate, Cancel, Remove}
use Rattle.script.specs.declared.Command.{Command}
use Rattle.script.specs.declared.Command.TheVariants.{Enter, Send, Deliver, Halt, Rule, Unclear}
use Rattle.script.specs.Words.{index_of, first_word, behind, spaces, word_count, plain, text_of, digits, decimal, capped, number_from, number_of}
use Rattle.script.specs.Commands.{of_one, of_two, bare_of, of_three, write_of, open_of, of_four, of_count, command_of}

-- a line with the command it makes
pub record Line : Type 0 where
  pub bytes : List ℕ
  pub command : Command

abbrev line : List ℕ → Command → Line
line l c = record { bytes = l; command = c }

abbrev pub examples : List Line
examples =
    -- send w k A
    line (115 ∷ 101 ∷ 110 ∷ 100 ∷ 32 ∷ 119 ∷ 32 ∷ 107 ∷ 32 ∷ 65 ∷ []) (Send Write) ∷
    -- send r k
    line (115 ∷ 101 ∷ 110 ∷ 100 ∷ 32 ∷ 114 ∷ 32 ∷ 107 ∷ []) (Send Read) ∷
    -- send d k
    line (115 ∷ 101 ∷ 110 ∷ 100 ∷ 32 ∷ 100 ∷ 32 ∷ 107 ∷ []) (Send Delete) ∷
    -- send r k A
    line (115 ∷ 101 ∷ 110 ∷ 100 ∷ 32 ∷ 114 ∷ 32 ∷ 107 ∷ 32 ∷ 65 ∷ []) Unclear ∷
    -- send w k
    line (115 ∷ 101 ∷ 110 ∷ 100 ∷ 32 ∷ 119 ∷ 32 ∷ 107 ∷ []) Unclear ∷
    -- enter 3 k
    line (101 ∷ 110 ∷ 116 ∷ 101 ∷ 114 ∷ 32 ∷ 51 ∷ 32 ∷ 107 ∷ []) (Enter (Some 3)) ∷
    -- enter 3 0123456789abcdef
    line (101 ∷ 110 ∷ 116 ∷ 101 ∷ 114 ∷ 32 ∷ 51 ∷ 32 ∷ 48 ∷ 49 ∷ 50 ∷ 51 ∷ 52 ∷ 53 ∷ 54 ∷ 55 ∷ 56 ∷ 57 ∷ 97 ∷ 98 ∷ 99 ∷ 100 ∷ 101 ∷ 102 ∷ []) (Enter (Some 3)) ∷
    -- enter 3 0123456789abcdefg
    line (101 ∷ 110 ∷ 116 ∷ 101 ∷ 114 ∷ 32 ∷ 51 ∷ 32 ∷ 48 ∷ 49 ∷ 50 ∷ 51 ∷ 52 ∷ 53 ∷ 54 ∷ 55 ∷ 56 ∷ 57 ∷ 97 ∷ 98 ∷ 99 ∷ 100 ∷ 101 ∷ 102 ∷ 103 ∷ []) Unclear ∷
    -- enter 3 k-
    line (101 ∷ 110 ∷ 116 ∷ 101 ∷ 114 ∷ 32 ∷ 51 ∷ 32 ∷ 107 ∷ 45 ∷ []) Unclear ∷
    -- deliver 064
    line (100 ∷ 101 ∷ 108 ∷ 105 ∷ 118 ∷ 101 ∷ 114 ∷ 32 ∷ 48 ∷ 54 ∷ 52 ∷ []) (Deliver (Some 64)) ∷
    -- deliver 65
    line (100 ∷ 101 ∷ 108 ∷ 105 ∷ 118 ∷ 101 ∷ 114 ∷ 32 ∷ 54 ∷ 53 ∷ []) (Deliver None) ∷
    -- halt 65536
    line (104 ∷ 97 ∷ 108 ∷ 116 ∷ 32 ∷ 54 ∷ 53 ∷ 53 ∷ 51 ∷ 54 ∷ []) (Halt None) ∷
    -- halt +1
    line (104 ∷ 97 ∷ 108 ∷ 116 ∷ 32 ∷ 43 ∷ 49 ∷ []) (Halt None) ∷
    -- "halt "
    line (104 ∷ 97 ∷ 108 ∷ 116 ∷ 32 ∷ []) (Halt None) ∷
    -- open b 2 4
    line (111 ∷ 112 ∷ 101 ∷ 110 ∷ 32 ∷ 98 ∷ 32 ∷ 50 ∷ 32 ∷ 52 ∷ []) (Rule (Open Before (Some 2) (Some 4))) ∷
    -- open a 3 4
    line (111 ∷ 112 ∷ 101 ∷ 110 ∷ 32 ∷ 97 ∷ 32 ∷ 51 ∷ 32 ∷ 52 ∷ []) (Rule (Open After (Some 3) (Some 4))) ∷
    -- open c 3 4
    line (111 ∷ 112 ∷ 101 ∷ 110 ∷ 32 ∷ 99 ∷ 32 ∷ 51 ∷ 32 ∷ 52 ∷ []) Unclear ∷
    -- remove 2
    line (114 ∷ 101 ∷ 109 ∷ 111 ∷ 118 ∷ 101 ∷ 32 ∷ 50 ∷ []) (Rule (Remove (Some 2))) ∷
    -- fence
    line (102 ∷ 101 ∷ 110 ∷ 99 ∷ 101 ∷ []) (Rule Fence) ∷
    -- copy
    line (99 ∷ 111 ∷ 112 ∷ 121 ∷ []) (Rule Copy) ∷
    -- activate
    line (97 ∷ 99 ∷ 116 ∷ 105 ∷ 118 ∷ 97 ∷ 116 ∷ 101 ∷ []) (Rule Activate) ∷
    -- cancel
    line (99 ∷ 97 ∷ 110 ∷ 99 ∷ 101 ∷ 108 ∷ []) (Rule Cancel) ∷
    -- "cancel "
    line (99 ∷ 97 ∷ 110 ∷ 99 ∷ 101 ∷ 108 ∷ 32 ∷ []) Unclear ∷
    -- fence, and a tab behind it
    line (102 ∷ 101 ∷ 110 ∷ 99 ∷ 101 ∷ 9 ∷ []) Unclear ∷
    -- " fence"
    line (32 ∷ 102 ∷ 101 ∷ 110 ∷ 99 ∷ 101 ∷ []) Unclear ∷
    -- enter  3 k
    line (101 ∷ 110 ∷ 116 ∷ 101 ∷ 114 ∷ 32 ∷ 32 ∷ 51 ∷ 32 ∷ 107 ∷ []) Unclear ∷
    -- Fence
    line (70 ∷ 101 ∷ 110 ∷ 99 ∷ 101 ∷ []) Unclear ∷
    -- ""
    line ([]) Unclear ∷
    -- halt 0000..1, 64 bytes
    line (104 ∷ 97 ∷ 108 ∷ 116 ∷ 32 ∷ 48 ∷ 48 ∷ 48 ∷ 48 ∷ 48 ∷ 48 ∷ 48 ∷ 48 ∷ 48 ∷ 48 ∷ 48 ∷ 48 ∷ 48 ∷ 48 ∷ 48 ∷ 48 ∷ 48 ∷ 48 ∷ 48 ∷ 48 ∷ 48 ∷ 48 ∷ 48 ∷ 48 ∷ 48 ∷ 48 ∷ 48 ∷ 48 ∷ 48 ∷ 48 ∷ 48 ∷ 48 ∷ 48 ∷ 48 ∷ 48 ∷ 48 ∷ 48 ∷ 48 ∷ 48 ∷ 48 ∷ 48 ∷ 48 ∷ 48 ∷ 48 ∷ 48 ∷ 48 ∷ 48 ∷ 48 ∷ 48 ∷ 48 ∷ 48 ∷ 48 ∷ 48 ∷ 48 ∷ 48 ∷ 48 ∷ 48 ∷ 48 ∷ 49 ∷ []) (Halt (Some 1)) ∷
    -- halt 0000..1, 65 bytes
    line (104 ∷ 97 ∷ 108 ∷ 116 ∷ 32 ∷ 48 ∷ 48 ∷ 48 ∷ 48 ∷ 48 ∷ 48 ∷ 48 ∷ 48 ∷ 48 ∷ 48 ∷ 48 ∷ 48 ∷ 48 ∷ 48 ∷ 48 ∷ 48 ∷ 48 ∷ 48 ∷ 48 ∷ 48 ∷ 48 ∷ 48 ∷ 48 ∷ 48 ∷ 48 ∷ 48 ∷ 48 ∷ 48 ∷ 48 ∷ 48 ∷ 48 ∷ 48 ∷ 48 ∷ 48 ∷ 48 ∷ 48 ∷ 48 ∷ 48 ∷ 48 ∷ 48 ∷ 48 ∷ 48 ∷ 48 ∷ 48 ∷ 48 ∷ 48 ∷ 48 ∷ 48 ∷ 48 ∷ 48 ∷ 48 ∷ 48 ∷ 48 ∷ 48 ∷ 48 ∷ 48 ∷ 48 ∷ 48 ∷ 48 ∷ 49 ∷ []) Unclear ∷
    []

pub examples_hold : map (λ (x : Line). command_of x.bytes) examples ≡ map (λ (x : Line). x.command) examples
unfolding index_of pick first_word behind spaces word_count plain text_of digits decimal capped number_from number_of of_one of_two bare_of of_three write_of open_of of_four of_count command_of
examples_hold = refl
