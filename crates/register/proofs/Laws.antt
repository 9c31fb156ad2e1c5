-- What an export leaves, from what the step that it calls gives.
use Prim.Native.Nat.{ℕ}
use mathlib.Core.Path.{◌≡◌, refl, sym, ap, ap₂, ◌∙◌, subst}
use mathlib.Core.List.{List}
use mathlib.Core.Bool.{true, ◌&&◌, not}
use mathlib.Core.Logic.{◌⊎◌, inl, inr}
use lib.ListN.{length}
use lib.Dec.{eqb}
use borrow.Author.Tests.{eq-eqb, ne_eqb}
use Rattle.wire.specs.Numbers.{Out, refuse, ok, number_of, left, Case, Judged, broken, pick}
use Rattle.wire.proofs.Numbers.{refuse_ok, pick_true, pick_false, and_both, reflects_cases}
use Rattle.steps.specs.declared.Chain.{Chain}
use Rattle.steps.specs.Chain.{chain_ok}
use Rattle.steps.specs.Control.{ChainGives}
use Rattle.steps.proofs.NodeGives.{done_at_0}
use Rattle.numbers.specs.Record.{record_size, chain_of, record_of, record_or, no_record, Stands, numbers_of, Settles}
use Rattle.numbers.proofs.Record.{reflect_stands, stands_record, stands_none, or_record, or_none}
use Rattle.register.specs.Boundary.{Leaves, and_then}

-- ---- the record that numbers stand for

-- the one made of numbers that stand for none breaks the rules
pub none_breaks : not (chain_ok no_record) ≡ true
unfolding chain_ok
none_breaks = refl

-- a step on numbers, by the record that the code makes of them; it refuses that one with 1
pub record OnNumbers {A : Type 0} (l : List ℕ) (c : Chain) (f : Chain → Out A) : Type 0 where
  pub made : c ≡ record_or l
  pub none : f no_record ≡ refuse broken

module _ {A : Type 0} {l : List ℕ} {c : Chain} {f : Chain → Out A} (on : OnNumbers l c f) where
  pub is_on : f c ≡ and_then (record_of l) f
  is_on = ap f on.made ∙ go (reflects_cases (reflect_stands l))
    where
      go : Stands l ⊎ (Stands l → ⊥) → f (record_or l) ≡ and_then (record_of l) f
      go (inl s) = ap f (or_record l s) ∙ sym (ap (λ (o : Out Chain). and_then o f) (stands_record l s))
      go (inr n) = ap f (or_none l n) ∙ on.none ∙ sym (ap (λ (o : Out Chain). and_then o f) (stands_none l n))

  -- one that is done had a record
  stands : {a : A} → f c ≡ ok a → Stands l
  stands e = go (reflects_cases (reflect_stands l))
    where
      go : Stands l ⊎ (Stands l → ⊥) → Stands l
      go (inl s) = s
      go (inr n) = absurd (refuse_ok (sym (ap f (on.made ∙ or_none l n) ∙ on.none) ∙ e))

  -- what is given of the step is what is left of the call
  pub on_leaves : {S : Type 0} {code : Out A → ℕ} {make : A → S} {n : ℕ} {s s' : S} → ◌≡◌ {A = ℕ} n (code (f c)) → s' ≡ left s make (f c)
      → Leaves code make (and_then (record_of l) f) n s s'
  on_leaves {code} {make} {s} e g = record { number = e ∙ ap code is_on; lent = g ∙ ap (left s make) is_on }

  -- what the step makes of the record that it is handed
  pub on_left : {B : Type 0} (b : B) (g : Chain → A → B) → left b (g c) (f c) ≡ left b (g (chain_of l)) (and_then (record_of l) f)
  on_left {B} b g = go (reflects_cases (reflect_stands l))
    where
      go : Stands l ⊎ (Stands l → ⊥) → left b (g c) (f c) ≡ left b (g (chain_of l)) (and_then (record_of l) f)
      go (inl s) =
          ap (λ (x : Chain). left b (g x) (f x)) (on.made ∙ or_record l s)
          ∙ sym (ap (λ (o : Out Chain). left b (g (chain_of l)) (and_then o f)) (stands_record l s))
      go (inr n) =
          ap (left b (g c)) (ap f (on.made ∙ or_none l n) ∙ on.none)
          ∙ sym (ap (λ (o : Out Chain). left b (g (chain_of l)) (and_then o f)) (stands_none l n))

-- ---- the numbers that are given back

-- under the number of an answer
pub settles_as : {l l' : List ℕ} {m n g : ℕ} {r : Chain} → ◌≡◌ {A = ℕ} m g → Settles l m r n l' → Settles l g r n l'
settles_as {l} {l'} {n = n} {r = r} e s = subst (λ (k : ℕ). Settles l k r n l') e s

-- of a step that gives a record where it is done, and is done only where there is room
pub settle_leaves : {l l' : List ℕ} {n g : ℕ} {r : Chain} (cs : List Case) (o : Out Chain) → Judged cs o → ◌≡◌ {A = ℕ} g (number_of o)
    → ((a : Chain) → o ≡ ok a → (r ≡ a) × (length l ≡ record_size)) → Settles l g r n l' → Leaves number_of numbers_of o n l l'
settle_leaves {l} {l'} {n} {g} {r} cs o j e d s = record { number = s.number ∙ e; lent = s.numbers ∙ go o refl }
  where
    go : (p : Out Chain) → o ≡ p → pick (eqb g 0 && eqb (length l) record_size) (numbers_of r) l ≡ left l numbers_of p
    go (refuse m) q = pick_false _ _ _ (ap (◌&& eqb (length l) record_size) (ne_eqb g 0 (λ z. refuse_ok (sym q ∙ (done_at_0 cs o j (sym e ∙ z)).1))))
    go (ok a) q =
        pick_true _ _ _ (and_both _ _ (eq-eqb g 0 (e ∙ ap number_of q)) (eq-eqb (length l) record_size (d a q).1))
        ∙ ap numbers_of (d a q).0

-- of a step on the record alone
pub chain_leaves : {l l' : List ℕ} {n g : ℕ} {c r : Chain} {f : Chain → Out Chain} → OnNumbers l c f → (cs : List Case) → Judged cs (f c)
    → ChainGives c (f c) g r → Settles l g r n l' → Leaves number_of numbers_of (and_then (record_of l) f) n l l'
chain_leaves {c = c} {f = f} on cs j g s =
    let h = settle_leaves cs (f c) j g.number (λ a e. (g.chain ∙ ap (left c (λ x. x)) e, (stands on e).size)) s in
    on_leaves on h.number h.lent

-- two things that were lent
pub both : {A S T : Type 0} {code : Out A → ℕ} {make : A → S} {other : A → T} {n : ℕ} {s s' : S} {t t' : T} (o : Out A)
    → Leaves code make o n s s' → t' ≡ left t other o → Leaves {S = S × T} code (λ a. (make a, other a)) o n (s, t) (s', t')
both {A} {S} {T} {make = make} {other} {s = s} {s'} {t} {t'} o h e = record { number = h.number; lent = go o h.lent e }
  where
    go : (p : Out A) → s' ≡ left s make p → t' ≡ left t other p → ◌≡◌ {A = S × T} (s', t') (left (s, t) (λ a. (make a, other a)) p)
    go (refuse m) x y = ap₂ (λ a b. (a, b)) x y
    go (ok a) x y = ap₂ (λ a b. (a, b)) x y

-- ---- a call in other words

pub leaves_is : {A S : Type 0} {code : Out A → ℕ} {make : A → S} {o p : Out A} {n : ℕ} {s s' : S} → o ≡ p → Leaves code make o n s s' → Leaves code make p n s s'
leaves_is {code} {make} {s} e h = record { number = h.number ∙ ap code e; lent = h.lent ∙ ap (left s make) e }

pub refused : {A S : Type 0} {make : A → S} {o : Out A} {m n : ℕ} {s : S} → o ≡ refuse m → n ≡ m → Leaves number_of make o n s s
refused e f = record { number = f ∙ sym (ap number_of e); lent = sym (ap (left _ _) e) }

pub done : {A S : Type 0} {make : A → S} {o : Out A} {a : A} {s s' : S} → o ≡ ok a → s' ≡ make a → Leaves number_of make o 0 s s'
done e f = record { number = sym (ap number_of e); lent = f ∙ sym (ap (left _ _) e) }
