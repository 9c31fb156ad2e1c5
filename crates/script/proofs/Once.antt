-- No second outcome fits the promise of a call: two that do, for one line, are equal.
use Prim.Native.Nat.{ℕ}
use mathlib.Core.Path.{◌≡◌, sym, ◌∙◌}
use mathlib.Core.List.{List}
use Rattle.script.specs.declared.Command.{Command}
use Rattle.script.specs.Words.{key_of, value_of}
use Rattle.script.specs.Commands.{command_of}

pub read_once : (l : List ℕ) (a b : Command) → a ≡ command_of l → b ≡ command_of l → a ≡ b
read_once l a b e f = e ∙ sym f

pub key_once : (l k m : List ℕ) → k ≡ key_of l → m ≡ key_of l → k ≡ m
key_once l k m e f = e ∙ sym f

pub value_once : (l v w : List ℕ) → v ≡ value_of l → w ≡ value_of l → v ≡ w
value_once l v w e f = e ∙ sym f
