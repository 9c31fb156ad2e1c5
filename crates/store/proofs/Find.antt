-- The first slot that passes a test, the slot that has a key, and what a table holds of a key.
use Prim.Native.Nat.{ℕ, zero, suc, ◌+◌, ◌<◌}
use mathlib.Core.Path.{◌≡◌, refl, sym, ap, ◌∙◌}
use mathlib.Core.List.{List, [], ◌∷◌}
use mathlib.Core.Logic.{◌↔◌}
use mathlib.Core.Bool.{Bool, true, false}
use native.Mathlib.Omega.{arith}
use native.Mathlib.Nat.{add-zero}
use lib.ListN.{length, get_or, set, replicate, length-set, length-replicate, get_or-replicate}
use lib.Seq.{get_or-set_same, get_or-set_other}
use Rattle.wire.specs.Numbers.{pick}
use Rattle.wire.proofs.Numbers.{pick_true, pick_false, pick_case, Reflects, reflects_yes, reflects_no, reflect_eqb, reflect_not, reflect_and, reflect_eqs}
use Rattle.std.specs.Prelude.{Option, Some, None}
use Rattle.wire.specs.Version.{zero_version}
use Rattle.store.specs.Table.{Slot, free_slot, entered_slot, free, has, is_free_slot, first_from, find, lowest_free}
use Rattle.store.specs.Held.{Held, missing, holds, held, held_version, held_content, version_at, content_at, content_of, nothing}

-- ---- the first slot that passes a test

pub record FirstAt (f : Slot → Bool) (l : List Slot) (i : ℕ) : Type 0 where
  pub below : i < length l
  pub passes : f (get_or l i free_slot) ≡ true
  pub lowest : (j : ℕ) → j < i → f (get_or l j free_slot) ≡ false

abbrev pub NoneOf : (Slot → Bool) → List Slot → Type 0
NoneOf f l = (j : ℕ) → j < length l → f (get_or l j free_slot) ≡ false

-- a slot in front that does not pass, and without it
behind : (f : Slot → Bool) (s : Slot) (l : List Slot) (i : ℕ) → f s ≡ false → FirstAt f l i → FirstAt f (s ∷ l) (suc i)
behind f s l i n a = record { below = let h = a.below in omega arith; passes = a.passes; lowest = low }
  where
    low : (j : ℕ) → j < suc i → f (get_or (s ∷ l) j free_slot) ≡ false
    low zero h = n
    low (suc j) h = a.lowest j (omega arith)

ahead : (f : Slot → Bool) (s : Slot) (l : List Slot) (i : ℕ) → FirstAt f (s ∷ l) (suc i) → FirstAt f l i
ahead f s l i a = record { below = let h = a.below in omega arith; passes = a.passes; lowest = λ j h. a.lowest (suc j) (omega arith) }

-- what is found is the first
first_from_lem : (f : Slot → Bool) (m : ℕ) (l : List Slot) (j : ℕ) → first_from f m l ≡ Some j → (i : ℕ) × (m + i ≡ j) × FirstAt f l i
first_from_lem f m [] j e = absurd (let z : ◌≡◌ {A = ℕ} 0 1 = cc in omega arith)
first_from_lem f m (s ∷ l) j e =
    pick_case (λ z. z ≡ Some j → (i : ℕ) × (m + i ≡ j) × FirstAt f (s ∷ l) i) (f s) (Some m) (first_from f (suc m) l)
    (λ t q. (0, add-zero m ∙ (cc), record { below = omega arith; passes = t; lowest = λ j h. absurd (omega arith) }))
    (λ n q. let r = first_from_lem f (suc m) l j q in (suc r.0, omega (arith, r.1), behind f s l r.0 n r.2))
    e

first_at : (f : Slot → Bool) (l : List Slot) (i : ℕ) → first_from f 0 l ≡ Some i → FirstAt f l i
first_at f l i e = let r = first_from_lem f 0 l i e in rw (let p : i ≡ r.0 = omega (arith, r.1) in p) r.2

-- the first is found
from_first : (f : Slot → Bool) (m : ℕ) (l : List Slot) (i : ℕ) → FirstAt f l i → first_from f m l ≡ Some (m + i)
from_first f m [] i a = absurd (let h = a.below in omega arith)
from_first f m (s ∷ l) zero a = pick_true (f s) (Some m) (first_from f (suc m) l) a.passes ∙ ap Some (sym (add-zero m))
from_first f m (s ∷ l) (suc i) a =
    pick_false (f s) (Some m) (first_from f (suc m) l) (a.lowest 0 (omega arith))
    ∙ from_first f (suc m) l i (ahead f s l i a)
    ∙ ap Some (omega arith)

at_first : (f : Slot → Bool) (l : List Slot) (i : ℕ) → FirstAt f l i → first_from f 0 l ≡ Some i
at_first f l i a = from_first f 0 l i a ∙ ap Some (omega arith)

-- nothing is found where none passes
from_none : (f : Slot → Bool) (m : ℕ) (l : List Slot) → NoneOf f l → first_from f m l ≡ None
from_none f m [] n = refl
from_none f m (s ∷ l) n =
    pick_false (f s) (Some m) (first_from f (suc m) l) (n 0 (omega arith)) ∙ from_none f (suc m) l (λ j h. n (suc j) (omega arith))

none_from : (f : Slot → Bool) (m : ℕ) (l : List Slot) → first_from f m l ≡ None → NoneOf f l
none_from f m [] e = λ j h. absurd (omega arith)
none_from f m (s ∷ l) e =
    pick_case (λ z. z ≡ None → NoneOf f (s ∷ l)) (f s) (Some m) (first_from f (suc m) l)
    (λ t q. absurd (let z : ◌≡◌ {A = ℕ} 0 1 = cc in omega arith))
    (λ n q. all n (none_from f (suc m) l q))
    e
  where
    all : f s ≡ false → NoneOf f l → NoneOf f (s ∷ l)
    all n g zero h = n
    all n g (suc j) h = g j (omega arith)

-- a slot set where the first stands, and that passes too, is the first
pub first_set : (f : Slot → Bool) (l : List Slot) (i : ℕ) (s : Slot) → i < length l → f s ≡ true → ((j : ℕ) → j < i → f (get_or l j free_slot) ≡ false) → FirstAt f (set l i s) i
first_set f l i s h t low = record {
  below = rw length-set h;
  passes = ap f (get_or-set_same l i s free_slot h) ∙ t;
  lowest = λ j b. ap f (get_or-set_other l i j s free_slot (omega arith)) ∙ low j b;
}

-- a slot set that passes as the one before did leaves the first where it was
pub first_skip : (f : Slot → Bool) (m : ℕ) (l : List Slot) (i : ℕ) (s : Slot) → f (get_or l i free_slot) ≡ false → f s ≡ false → first_from f m (set l i s) ≡ first_from f m l
first_skip f m [] i s o n = refl
first_skip f m (x ∷ l) zero s o n = pick_false (f s) (Some m) (first_from f (suc m) l) n ∙ sym (pick_false (f x) (Some m) (first_from f (suc m) l) o)
first_skip f m (x ∷ l) (suc i) s o n = ap (pick (f x) (Some m)) (first_skip f (suc m) l i s o n)

-- ---- a slot that is used and has the key

pub reflect_has : (k : List ℕ) (s : Slot) → Reflects (has k s) ((s.state ≡ free → ⊥) × (s.key ≡ k))
unfolding has
reflect_has k s = reflect_and (reflect_not (reflect_eqb s.state free)) (reflect_eqs s.key k)

pub reflect_free : (s : Slot) → Reflects (is_free_slot s) (s.state ≡ free)
unfolding is_free_slot
reflect_free s = reflect_eqb s.state free

-- a free slot has no key, and a slot has no key but its own
pub has_free : (k : List ℕ) (s : Slot) → s.state ≡ free → has k s ≡ false
has_free k s e = reflects_no (reflect_has k s) (λ p. p.0 e)

pub has_other : (k : List ℕ) (s : Slot) → (s.key ≡ k → ⊥) → has k s ≡ false
has_other k s n = reflects_no (reflect_has k s) (λ p. n p.1)

-- ---- the lowest used slot that has a key, and the lowest free slot

pub find_at : (k : List ℕ) (l : List Slot) (i : ℕ) → find k l ≡ Some i → FirstAt (has k) l i
unfolding find
find_at k l i e = first_at (has k) l i e

pub at_find : (k : List ℕ) (l : List Slot) (i : ℕ) → FirstAt (has k) l i → find k l ≡ Some i
unfolding find
at_find k l i a = at_first (has k) l i a

pub find_none : (k : List ℕ) (l : List Slot) → find k l ≡ None → NoneOf (has k) l
unfolding find
find_none k l e = none_from (has k) 0 l e

pub none_find : (k : List ℕ) (l : List Slot) → NoneOf (has k) l → find k l ≡ None
unfolding find
none_find k l n = from_none (has k) 0 l n

pub free_at : (l : List Slot) (i : ℕ) → lowest_free l ≡ Some i → FirstAt is_free_slot l i
unfolding lowest_free
free_at l i e = first_at is_free_slot l i e

pub at_free : (l : List Slot) (i : ℕ) → FirstAt is_free_slot l i → lowest_free l ≡ Some i
unfolding lowest_free
at_free l i a = at_first is_free_slot l i a

pub free_none : (l : List Slot) → lowest_free l ≡ None → NoneOf is_free_slot l
unfolding lowest_free
free_none l e = none_from is_free_slot 0 l e

pub none_free : (l : List Slot) → NoneOf is_free_slot l → lowest_free l ≡ None
unfolding lowest_free
none_free l n = from_none is_free_slot 0 l n

-- ---- what a table holds of a key

pub held_at_lem : (k : List ℕ) (l : List Slot) (i : ℕ) → FirstAt (has k) l i → held k l ≡ holds (get_or l i free_slot)
unfolding held
held_at_lem k [] i a = absurd (let h = a.below in omega arith)
held_at_lem k (s ∷ l) zero a = pick_true (has k s) (holds s) (held k l) a.passes
held_at_lem k (s ∷ l) (suc i) a =
    pick_false (has k s) (holds s) (held k l) (a.lowest 0 (omega arith)) ∙ held_at_lem k l i (ahead (has k) s l i a)

pub held_none : (k : List ℕ) (l : List Slot) → NoneOf (has k) l → held k l ≡ missing
unfolding held
held_none k [] n = refl
held_none k (s ∷ l) n = pick_false (has k s) (holds s) (held k l) (n 0 (omega arith)) ∙ held_none k l (λ j h. n (suc j) (omega arith))

-- by what `find` gives
abbrev pub held_at : List Slot → Option ℕ → Held
held_at l (Some i) = holds (get_or l i free_slot)
held_at l None = missing

pub held_find : (k : List ℕ) (l : List Slot) → held k l ≡ held_at l (find k l)
held_find k l = go (find k l) refl
  where
    go : (f : Option ℕ) → find k l ≡ f → held k l ≡ held_at l f
    go (Some i) e = held_at_lem k l i (find_at k l i e)
    go None e = held_none k l (find_none k l e)

-- missing if and only if nothing is found
pub held_missing : (k : List ℕ) (l : List Slot) → (held k l ≡ missing) ↔ (find k l ≡ None)
held_missing k l = (go (find k l) refl, λ e. held_find k l ∙ ap (held_at l) e)
  where
    go : (f : Option ℕ) → find k l ≡ f → held k l ≡ missing → find k l ≡ None
    go (Some i) e m = absurd (let h = held_find k l in let z : ◌≡◌ {A = ℕ} 0 1 = cc in omega arith)
    go None e m = e

-- what is held stands where the key is found
pub held_holds : (k : List ℕ) (l : List Slot) (s : Slot) → held k l ≡ holds s → (i : ℕ) × (find k l ≡ Some i) × (get_or l i free_slot ≡ s)
held_holds k l s h = go (find k l) refl
  where
    go : (f : Option ℕ) → find k l ≡ f → (i : ℕ) × (find k l ≡ Some i) × (get_or l i free_slot ≡ s)
    go (Some i) e = (i, e, let g = held_find k l in (cc))
    go None e = absurd (let g = held_find k l in let z : ◌≡◌ {A = ℕ} 0 1 = cc in omega arith)

-- no slot of a key stands among free ones
pub held_blank : (k : List ℕ) (n : ℕ) → held k (replicate n free_slot) ≡ missing
held_blank k n =
    held_none k (replicate n free_slot)
    (λ j h. has_free k (get_or (replicate n free_slot) j free_slot) (ap (λ (s : Slot). s.state) (get_or-replicate n j free_slot free_slot (rw length-replicate at h))))

-- ---- a slot that is set

-- the slot of the key itself
pub held_set : (k : List ℕ) (l : List Slot) (i : ℕ) (s : Slot) → find k l ≡ Some i → has k s ≡ true → held k (set l i s) ≡ holds s
held_set k l i s e h =
    let a = find_at k l i e in
    held_at_lem k (set l i s) i (first_set (has k) l i s a.below h a.lowest) ∙ ap holds (get_or-set_same l i s free_slot a.below)

-- a slot that has not the key, before and after
pub held_skip : (k : List ℕ) (l : List Slot) (i : ℕ) (s : Slot) → has k (get_or l i free_slot) ≡ false → has k s ≡ false → held k (set l i s) ≡ held k l
unfolding held
held_skip k [] i s o n = refl
held_skip k (x ∷ l) zero s o n = pick_false (has k s) (holds s) (held k l) n ∙ sym (pick_false (has k x) (holds x) (held k l) o)
held_skip k (x ∷ l) (suc i) s o n = ap (pick (has k x) (holds x)) (held_skip k l i s o n)

-- a slot of another key
pub held_other : (k j : List ℕ) (l : List Slot) (i : ℕ) (s : Slot) → find k l ≡ Some i → s.key ≡ k → (j ≡ k → ⊥) → held j (set l i s) ≡ held j l
held_other k j l i s e h ne =
    let old = ((reflect_has k (get_or l i free_slot)).0 (find_at k l i e).passes).1 in
    held_skip j l i s (has_other j (get_or l i free_slot) (λ q. ne (sym q ∙ old))) (has_other j s (λ q. ne (sym q ∙ h)))

-- ---- a key that is entered

-- an entered slot has no content
content_of_lem : (k : List ℕ) → content_of (entered_slot k) ≡ nothing
unfolding content_of pick
content_of_lem k = refl

module _ (k : List ℕ) (l : List Slot) (i : ℕ) (at : lowest_free l ≡ Some i) (new : find k l ≡ None) where
  pub held_entered : held k (set l i (entered_slot k)) ≡ holds (entered_slot k)
  held_entered =
      let below = (free_at l i at).below in
      let yes : has k (entered_slot k) ≡ true = reflects_yes (reflect_has k (entered_slot k)) (λ e. omega arith, refl) in
      held_at_lem k (set l i (entered_slot k)) i (first_set (has k) l i (entered_slot k) below yes (λ j h. find_none k l new j (omega arith)))
      ∙ ap holds (get_or-set_same l i (entered_slot k) free_slot below)

  -- a missing key counts as 0.0 with no content, and so does an entered one
  pub version_entered : (version_at k l ≡ zero_version) × (version_at k (set l i (entered_slot k)) ≡ zero_version)
  version_entered = (ap held_version (held_none k l (find_none k l new)), ap held_version held_entered)

  pub content_entered : (content_at k l ≡ nothing) × (content_at k (set l i (entered_slot k)) ≡ nothing)
  content_entered = (ap held_content (held_none k l (find_none k l new)), ap held_content held_entered ∙ content_of_lem k)

  pub held_entered_other : (j : List ℕ) → (j ≡ k → ⊥) → held j (set l i (entered_slot k)) ≡ held j l
  held_entered_other j ne =
      held_skip j l i (entered_slot k)
      (has_free j (get_or l i free_slot) ((reflect_free (get_or l i free_slot)).0 (free_at l i at).passes))
      (has_other j (entered_slot k) (λ q. ne (sym q)))
