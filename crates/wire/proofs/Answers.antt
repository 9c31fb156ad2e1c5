-- Answers of the code: which number each refusal has, and that number and answer are as one.
use Prim.Native.Nat.{ℕ, ◌<◌}
use mathlib.Core.Path.{◌≡◌, refl, sym, ap, ◌∙◌}
use mathlib.Core.List.{[], ◌∷◌}
use native.Mathlib.Omega.{arith}
use lib.ListN.{get_or}
use Rattle.std.specs.Prelude.{Result, Ok, Err}
use Rattle.wire.specs.declared.Refusal.{Refusal}
use Rattle.wire.specs.declared.Refusal.TheVariants.{Broken, SmallOutlet, Malformed, Misaddressed, Stranger, Stopped, BelowFence, Sessionless, KeyMissing, SessionOver, NoNumberLeft, NotNewer, ChangeOpen, OutOfTurn, NotMeant, IdUsed, ChainFull, OnlyNode, OtherCount, KeyThere, NoFreeSlot, FenceAbove}
use Rattle.wire.specs.Numbers.{Out, refuse, ok, number_of, refusal_number, said, code, done}
use Rattle.wire.proofs.Numbers.{ok_inj, refuse_inj, refuse_ok}

-- no refusal has the number 0
pub refusal_some : (r : Refusal) → 0 < refusal_number r
refusal_some Broken = omega arith
refusal_some SmallOutlet = omega arith
refusal_some Malformed = omega arith
refusal_some Misaddressed = omega arith
refusal_some Stranger = omega arith
refusal_some Stopped = omega arith
refusal_some BelowFence = omega arith
refusal_some Sessionless = omega arith
refusal_some KeyMissing = omega arith
refusal_some SessionOver = omega arith
refusal_some NoNumberLeft = omega arith
refusal_some NotNewer = omega arith
refusal_some ChangeOpen = omega arith
refusal_some OutOfTurn = omega arith
refusal_some NotMeant = omega arith
refusal_some IdUsed = omega arith
refusal_some ChainFull = omega arith
refusal_some OnlyNode = omega arith
refusal_some OtherCount = omega arith
refusal_some KeyThere = omega arith
refusal_some NoFreeSlot = omega arith
refusal_some FenceAbove = omega arith

-- the refusal of a number; no number has two
abbrev named : ℕ → Refusal
named n = get_or (Broken ∷ Broken ∷ SmallOutlet ∷ Malformed ∷ Misaddressed ∷ Stranger ∷ Stopped ∷ BelowFence ∷ Sessionless ∷ KeyMissing ∷ SessionOver ∷ NoNumberLeft ∷ NotNewer ∷ ChangeOpen ∷ OutOfTurn ∷ NotMeant ∷ IdUsed ∷ ChainFull ∷ OnlyNode ∷ OtherCount ∷ KeyThere ∷ NoFreeSlot ∷ FenceAbove ∷ []) n Broken

named_number : (r : Refusal) → named (refusal_number r) ≡ r
named_number Broken = refl
named_number SmallOutlet = refl
named_number Malformed = refl
named_number Misaddressed = refl
named_number Stranger = refl
named_number Stopped = refl
named_number BelowFence = refl
named_number Sessionless = refl
named_number KeyMissing = refl
named_number SessionOver = refl
named_number NoNumberLeft = refl
named_number NotNewer = refl
named_number ChangeOpen = refl
named_number OutOfTurn = refl
named_number NotMeant = refl
named_number IdUsed = refl
named_number ChainFull = refl
named_number OnlyNode = refl
named_number OtherCount = refl
named_number KeyThere = refl
named_number NoFreeSlot = refl
named_number FenceAbove = refl

pub refusal_once : (r s : Refusal) → refusal_number r ≡ refusal_number s → r ≡ s
refusal_once r s e = sym (named_number r) ∙ ap named e ∙ named_number s

-- the number of an answer is document 01's number of what it says
pub code_said : {A : Type 0} (r : Result A Refusal) → code r ≡ number_of (said r)
code_said (Ok a) = refl
code_said (Err r) = refl

pub done_number : {A : Type 0} (o : Out A) → number_of (done o) ≡ number_of o
done_number (refuse n) = refl
done_number (ok a) = refl

-- two answers that say the same are the same
pub said_once : {A : Type 0} (r s : Result A Refusal) → said r ≡ said s → r ≡ s
said_once (Ok a) (Ok b) e = ap Ok (ok_inj e)
said_once (Ok a) (Err s) e = absurd (refuse_ok (sym e))
said_once (Err r) (Ok b) e = absurd (refuse_ok e)
said_once (Err r) (Err s) e = ap Err (refusal_once r s (refuse_inj e))

-- and so are two that give the same number, where nothing comes with a step that is done
pub code_once : (r s : Result (Unit {0}) Refusal) → code r ≡ code s → r ≡ s
code_once (Ok a) (Ok b) e = refl
code_once (Ok a) (Err s) e = absurd (let p = refusal_some s in omega arith)
code_once (Err r) (Ok b) e = absurd (let p = refusal_some r in omega arith)
code_once (Err r) (Err s) e = ap Err (refusal_once r s e)
