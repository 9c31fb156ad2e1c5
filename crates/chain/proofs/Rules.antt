-- No second outcome fits: every promise of this crate is an equation for its result, and each of `start`'s two for a part of it.
-- And the two together are what a start is.
use Prim.Native.Nat.{ℕ}
use mathlib.Core.Path.{◌≡◌, refl, sym, ap, ◌∙◌}
use mathlib.Core.Bool.{Bool, true, false, not}
use mathlib.Core.List.{List}
use native.Mathlib.Omega.{arith}
use Rattle.be.specs.Promise.{Exact}
use Rattle.be.proofs.Promise.{exact, pair}
use Rattle.std.specs.Prelude.{Result, Ok, Err}
use Rattle.std.specs.Result.{MatchResult}
use Rattle.wire.specs.declared.Refusal.{Refusal}
use Rattle.wire.specs.Numbers.{Out, refuse, ok, number_of, refusal_number, code, guard, broken}
use Rattle.wire.proofs.Answers.{refusal_some, code_once}
use Rattle.steps.specs.declared.Chain.{Chain}
use Rattle.steps.specs.Chain.{chain_ok, start_chain, start_call}
use Rattle.chain.proofs.start.Reads as start

pub once : {A : Type 0} {x y z : A} → x ≡ z → y ≡ z → x ≡ y
once e f = e ∙ sym f

pub start_exact : Exact {O = Chain × Result (Unit {0}) Refusal} start.Asked start.Learnt (λ r e. r)
start_exact = exact (λ _ _ r s _ _ p q. pair (once p.1 q.1, code_once r.1 s.1 (once p.0 q.0)))

-- by the number of its answer a start is done, and gives the record that comes with it, or refuses
module _ (length : ℕ) (places : List ℕ) (count : ℕ) where
  abbrev pub Starts : Out Chain → Result (Unit {0}) Refusal → Type 0
  Starts o a = MatchResult a (λ _. o ≡ ok (start_chain length places count)) (λ r. o ≡ refuse (refusal_number r))

  pub start_says : (a : Result (Unit {0}) Refusal) → code a ≡ number_of (start_call length places count) → Starts (start_call length places count) a
  unfolding start_call guard
  start_says a e = go (not (chain_ok (start_chain length places count))) a e
    where
      go : (b : Bool) (a : Result (Unit {0}) Refusal) → code a ≡ number_of (guard b broken (ok (start_chain length places count))) → Starts (guard b broken (ok (start_chain length places count))) a
      go true (Ok u) e = absurd (omega arith)
      go true (Err r) e = ap refuse (sym e)
      go false (Ok u) e = refl
      go false (Err r) e = absurd (let h = refusal_some r in omega arith)
