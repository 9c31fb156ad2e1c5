-- Promises that are equations are exact, and so are those whose predicate has such a law; and equal parts make equal pairs.
use mathlib.Core.Path.{◌≡◌, sym, ◌∙◌}
use Rattle.be.specs.Promise.{Once, Exact}

-- what is seen is a function of the arguments
pub equation_once : {L A R E O : Type 0} {seen : R → E → O} {spec : L → A → O} → Once {R = R} {E = E} (λ (κs : L) (a : A) r e. seen r e ≡ spec κs a) seen
equation_once = record { one = λ κs a r s e f p q. p ∙ sym q }

pub equation : {L A R E O : Type 0} {seen : R → E → O} {spec : L → A → O}
    → Exact {R = R} {E = E} (λ (κs : L) (a : A). Unit {0}) (λ κs a r e. seen r e ≡ spec κs a) seen
equation = record { asks = λ κs a. tt; once = equation_once }

-- a promise by any law of its predicate
pub exact : {L A R E O : Type 0} {Learnt : L → A → R → E → Type 0} {seen : R → E → O}
    → ((κs : L) (a : A) (r s : R) (e f : E) → Learnt κs a r e → Learnt κs a s f → seen r e ≡ seen s f)
    → Exact (λ (κs : L) (a : A). Unit {0}) Learnt seen
exact law = record { asks = λ κs a. tt; once = record { one = law } }

-- two things, or three, that are each the same
pub pair : {A B : Type 0} {a c : A} {b d : B} → (a ≡ c) × (b ≡ d) → ◌≡◌ {A = A × B} (a, b) (c, d)
pair p i = (p.0 i, p.1 i)

pub triple : {A B C : Type 0} {a d : A} {b e : B} {c f : C} → (a ≡ d) × (b ≡ e) × (c ≡ f) → ◌≡◌ {A = A × B × C} (a, b, c) (d, e, f)
triple p i = (p.0 i, p.1 i, p.2 i)
