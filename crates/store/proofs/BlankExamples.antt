-- Examples of a blank table: its bytes, its size at most, and what is refused, each with what is nearest to it.
use Prim.Native.Nat.{ℕ, ◌<◌}
use mathlib.Core.Path.{◌≡◌, refl}
use mathlib.Core.List.{List, [], ◌∷◌, ◌++◌, map}
use native.Mathlib.Omega.{arith}
use lib.ListN.{replicate}
use Rattle.wire.specs.Numbers.{guard, number_of, left}
use Rattle.store.specs.Table.{blank_bytes, blank_call, TableRules}
use Rattle.store.proofs.Blank.{rules_blank}

pub record Call : Type 0 where
  pub size : ℕ
  pub id : ℕ
  pub count : ℕ
  pub number : ℕ
  pub table' : List ℕ

-- in a slice of a size: id, slot count; a refusal leaves it
abbrev made : ℕ → ℕ → ℕ → List ℕ → Call
made size id count t = record { size = size; id = id; count = count; number = 0; table' = t }

abbrev unmade : ℕ → ℕ → ℕ → Call
unmade size id count = record { size = size; id = id; count = count; number = 1; table' = replicate size 255 }

abbrev pub calls : List Call
calls =
    -- fence 0, id, slot count, and free slots
    made 160 0x0c0d 1 ((0 ∷ 0 ∷ 0 ∷ 0 ∷ 0x0c ∷ 0x0d ∷ 0 ∷ 1 ∷ []) ++ replicate 152 0)
    ∷ made 312 0xffff 2 ((0 ∷ 0 ∷ 0 ∷ 0 ∷ 0xff ∷ 0xff ∷ 0 ∷ 2 ∷ []) ++ replicate 304 0)
    ∷ made 38920 1 256 ((0 ∷ 0 ∷ 0 ∷ 0 ∷ 0 ∷ 1 ∷ 1 ∷ 0 ∷ []) ++ replicate 38912 0)
    -- no id; no slot, more than 256; a byte less, a byte more, a slot more
    ∷ unmade 160 0 1
    ∷ unmade 8 1 0
    ∷ unmade 39072 1 257
    ∷ unmade 159 1 1
    ∷ unmade 161 1 1
    ∷ unmade 312 1 1
    ∷ []

-- number and table of a call, and of its example
abbrev Left : Type 0
Left = ℕ × List ℕ

abbrev leaves : Call → Left
leaves c =
    let t = replicate {A = ℕ} c.size 255 in
    let o = blank_call t c.id c.count in
    (number_of o, left t (λ b. b) o)

pub blank_examples : map leaves calls ≡ map (λ (c : Call). (c.number, c.table')) calls
unfolding guard blank_bytes blank_call
blank_examples = refl

-- 256 slots are not too many
pub most_slots_lem : (id : ℕ) → 0 < id → id < 65536 → TableRules (blank_bytes id 256)
most_slots_lem id some fits = rules_blank id 256 some fits (omega arith) (omega arith)
