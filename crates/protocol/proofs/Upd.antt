-- Laws of a function changed at one place.
use Prim.Native.Nat.{ℕ}
use mathlib.Core.Path.{◌≡◌, refl, ap, fun_ext}
use lib.Dec.{eqb}
use borrow.Author.Tests.{eqb-true, eqb-false, eq-eqb, ne_eqb}
use Rattle.wire.proofs.Numbers.{pick_case, pick_true, pick_false}
use Rattle.protocol.specs.System.{upd}

pub upd_case : {A : Type 0} (P : A → Type 0) (f : ℕ → A) (i : ℕ) (a : A) (j : ℕ) → (i ≡ j → P a) → ((i ≡ j → ⊥) → P (f j)) → P (upd f i a j)
unfolding upd
upd_case P f i a j y n = pick_case P (eqb i j) a (f j) (λ e. y (eqb-true i j e)) (λ e. n (eqb-false i j e))

pub upd_same : {A : Type 0} (f : ℕ → A) (i : ℕ) (a : A) → upd f i a i ≡ a
unfolding upd
upd_same f i a = pick_true _ _ _ (eq-eqb i i refl)

pub upd_other : {A : Type 0} (f : ℕ → A) (i : ℕ) (a : A) (j : ℕ) → (i ≡ j → ⊥) → upd f i a j ≡ f j
unfolding upd
upd_other f i a j h = pick_false _ _ _ (ne_eqb i j h)

-- what is there already changes nothing
pub upd_back : {A : Type 0} (f : ℕ → A) (i : ℕ) → upd f i (f i) ≡ f
upd_back f i = fun_ext (λ j. upd_case (λ a. a ≡ f j) f i (f i) j (λ e. ap f e) (λ _. refl))
