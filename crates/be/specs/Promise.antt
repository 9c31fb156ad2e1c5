-- What it is that a call's promise is exact. The toolchain makes of a function's `requires` what a caller must show, `Asked`, and of its `ensures` what
-- a caller learns, `Learnt`, of lifetimes, arguments, answer and what was lent as it is at exit (the module Reads of each function).
use Rattle.std.specs.Prelude.{◌≡◌}

-- what is learnt leaves one outcome: two answers, with what was lent at exit, that fit it for the same arguments are seen to be the same
pub record Once {L A R E O : Type 0} (Learnt : L → A → R → E → Type 0) (seen : R → E → O) : Type 0 where
  pub one : (κs : L) (a : A) (r s : R) (e f : E) → Learnt κs a r e → Learnt κs a s f → seen r e ≡ seen s f

-- a public call's promise: nothing is asked of the caller, whatever the arguments, and it leaves one outcome
pub record Exact {L A R E O : Type 0} (Asked : L → A → Type 0) (Learnt : L → A → R → E → Type 0) (seen : R → E → O) : Type 0 where
  pub asks : (κs : L) (a : A) → Asked κs a
  pub once : Once Learnt seen
