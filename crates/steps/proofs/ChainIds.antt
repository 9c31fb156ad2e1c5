-- Laws of lists of ids: which ids are in a list, and its first, its last, its next and its place of an id.
use Prim.Native.Nat.{ℕ, suc, ◌<◌, ◌≤◌}
use mathlib.Core.Path.{◌≡◌, refl, sym, ap, ◌∙◌, subst}
use mathlib.Core.Bool.{Bool, true, false, ◌||◌, false≢true, true≢false}
use mathlib.Core.List.Memᴰ.{append_right as right}
use mathlib.Core.List.Memᴰ.{cast}
use mathlib.Core.List.Memᴰ.{head as here}
use mathlib.Core.List.Memᴰ.{tail as there}
use mathlib.Core.List.{List, [], ◌∷◌, ◌++◌, Memᴰ as Mem}
use native.Mathlib.Omega.{arith}
use lib.ListN.{length, get_or}
use lib.Dec.{eqb}
use borrow.Author.Tests.{eqb-true, eqb-false, eq-eqb, ne_eqb}
use Rattle.wire.specs.Numbers.{pick}
use Rattle.wire.proofs.Numbers.{pick_true, pick_false, pick_case, Reflects, reflect_eqb, reflect_iff}
use Rattle.steps.specs.Chain.{memb, first_of, last_of, next_of, place_of, First, Last, Follows, Distinct}

-- ---- membership

pub memb_true : (j : ℕ) (l : List ℕ) → memb j l ≡ true → Mem j l
unfolding memb
memb_true j [] e = absurd (false≢true e)
memb_true j (x ∷ l) e = go (eqb x j) refl e (memb_true j l)
  where
    go : (b : Bool) → eqb x j ≡ b → (b || memb j l) ≡ true → (memb j l ≡ true → Mem j l) → Mem j (x ∷ l)
    go true e₁ e ih = here (sym (eqb-true x j e₁))
    go false e₁ e ih = there (ih e)

pub memb_false : (j : ℕ) (l : List ℕ) → memb j l ≡ false → Mem j l → ⊥
unfolding memb
memb_false j [] e m = elim m [ ]
memb_false j (x ∷ l) e m = go (eqb x j) refl e m (memb_false j l)
  where
    go : (b : Bool) → eqb x j ≡ b → (b || memb j l) ≡ false → Mem j (x ∷ l) → (memb j l ≡ false → Mem j l → ⊥) → ⊥
    go true e₁ e m ih = true≢false e
    go false e₁ e (here p) ih = eqb-false x j e₁ (sym p)
    go false e₁ e (there m) ih = ih e m

pub reflect_memb : (j : ℕ) (l : List ℕ) → Reflects (memb j l) (Mem j l)
reflect_memb j l = (memb_true j l, memb_false j l)

-- in the tail, if not the head
pub in_tail : {j x : ℕ} {l : List ℕ} → (x ≡ j → ⊥) → Mem j (x ∷ l) → Mem j l
in_tail n (here e) = absurd (n (sym e))
in_tail n (there m) = m

pub mem_some : {j : ℕ} {l : List ℕ} → Mem j l → 0 < length l
mem_some (here e) = omega arith
mem_some (there m) = omega arith

-- ---- the first

pub first_here : (l : List ℕ) → 0 < length l → First (first_of l) l
unfolding first_of
first_here [] h = absurd (omega arith)
first_here (x ∷ l) h = (l, refl)

pub first_is : {j : ℕ} (l : List ℕ) → First j l → j ≡ first_of l
unfolding first_of
first_is l f = sym (ap first_of f.1)

pub first_mem : (l : List ℕ) → 0 < length l → Mem (first_of l) l
unfolding first_of
first_mem [] h = absurd (omega arith)
first_mem (x ∷ l) h = here refl

pub reflect_first : (j : ℕ) (l : List ℕ) → 0 < length l → Reflects (eqb j (first_of l)) (First j l)
reflect_first j l h = reflect_iff (reflect_eqb j (first_of l)) (λ e. subst (λ (i : ℕ). First i l) (sym e) (first_here l h), first_is l)

-- ---- the last

pub last_here : (l : List ℕ) → 0 < length l → Last (last_of l) l
unfolding last_of
last_here [] h = absurd (omega arith)
last_here (x ∷ []) h = ([], refl)
last_here (x ∷ (y ∷ l)) h = let f = last_here (y ∷ l) (omega arith) in (x ∷ f.0, ap (λ (m : List ℕ). x ∷ m) f.1)

last_append : (j : ℕ) (m : List ℕ) → last_of (m ++ (j ∷ [])) ≡ j
unfolding last_of
last_append j [] = refl
last_append j (x ∷ []) = refl
last_append j (x ∷ (y ∷ m)) = last_append j (y ∷ m)

pub last_is : {j : ℕ} (l : List ℕ) → Last j l → j ≡ last_of l
last_is {j} l f = sym (ap last_of f.1 ∙ last_append j f.0)

pub last_mem : (l : List ℕ) → 0 < length l → Mem (last_of l) l
unfolding last_of
last_mem [] h = absurd (omega arith)
last_mem (x ∷ []) h = here refl
last_mem (x ∷ (y ∷ l)) h = there (last_mem (y ∷ l) (omega arith))

pub reflect_last : (j : ℕ) (l : List ℕ) → 0 < length l → Reflects (eqb j (last_of l)) (Last j l)
reflect_last j l h = reflect_iff (reflect_eqb j (last_of l)) (λ e. subst (λ (i : ℕ). Last i l) (sym e) (last_here l h), last_is l)

-- ---- the next

-- after an id that is not the last there is a next one
pub next_follows : (i : ℕ) (l : List ℕ) → Mem i l → (i ≡ last_of l → ⊥) → Follows i (next_of i l) l
unfolding next_of first_of last_of pick
next_follows i (x ∷ []) (here e) n = absurd (n e)
next_follows i (x ∷ []) (there m) n = elim m [ ]
next_follows i (x ∷ (y ∷ l)) m n = go (eqb x i) refl (λ (m' : Mem i (y ∷ l)). next_follows i (y ∷ l) m' n)
  where
    up : {j : ℕ} → Follows i j (y ∷ l) → Follows i j (x ∷ (y ∷ l))
    up f = (x ∷ f.0, f.1, ap (λ (k : List ℕ). x ∷ k) f.2)

    go : (b : Bool) → eqb x i ≡ b → (Mem i (y ∷ l) → Follows i (next_of i (y ∷ l)) (y ∷ l)) → Follows i (pick b y (next_of i (y ∷ l))) (x ∷ (y ∷ l))
    go true e ih = ([], l, ap (λ (z : ℕ). z ∷ (y ∷ l)) (eqb-true x i e))
    go false e ih = up (ih (in_tail (eqb-false x i e) m))
next_follows i [] m n = elim m [ ]

-- an id stands in a list of distinct ids once
once : {i : ℕ} {c : List ℕ} (a : List ℕ) → Distinct (a ++ (i ∷ c)) → (Mem i a → ⊥) × (Mem i c → ⊥)
once [] d = ((λ m. elim m [ ]), d.0)
once {i} {c} (x ∷ a) d = let h = once a d.1 in (not h, h.1)
  where
    not : (Mem i a → ⊥) × (Mem i c → ⊥) → Mem i (x ∷ a) → ⊥
    not h (here e) = d.0 (right a (here (sym e)))
    not h (there m) = h.0 m

next_append : (i j : ℕ) (a b : List ℕ) → (Mem i a → ⊥) → next_of i (a ++ (i ∷ (j ∷ b))) ≡ j
unfolding next_of first_of
next_append i j [] b n = pick_true _ _ _ (eq-eqb i i refl)
next_append i j (x ∷ a) b n = pick_false _ _ _ (ne_eqb x i (λ e. n (here (sym e)))) ∙ next_append i j a b (λ m. n (there m))

last_behind_mem : (i j : ℕ) (a b : List ℕ) → Mem (last_of (a ++ (i ∷ (j ∷ b)))) (j ∷ b)
unfolding last_of
last_behind_mem i j [] b = last_mem (j ∷ b) (omega arith)
last_behind_mem i j (x ∷ []) b = last_mem (j ∷ b) (omega arith)
last_behind_mem i j (x ∷ (y ∷ a)) b = last_behind_mem i j (y ∷ a) b

-- what follows i is the next one, and i is not the last
pub follows_next : {i j : ℕ} (l : List ℕ) → Distinct l → Follows i j l → Mem i l × (i ≡ last_of l → ⊥) × (j ≡ next_of i l)
follows_next {i} {j} l d (a, b, e) =
    let o = once a (subst (λ (k : List ℕ). Distinct k) e d) in (
      subst (λ (k : List ℕ). Mem i k) (sym e) (right a (here refl)),
      (λ q. o.1 (cast (q ∙ ap last_of e) (last_behind_mem i j a b))),
      sym (ap (next_of i) e ∙ next_append i j a b o.0),
    )

-- ---- the place

pub place_le : (j : ℕ) (l : List ℕ) → place_of j l ≤ length l
unfolding place_of
place_le j [] = omega arith
place_le j (x ∷ l) = let h = place_le j l in pick_case (λ p. p ≤ suc (length l)) _ _ _ (λ e. omega arith) (λ e. omega arith)

pub place_mem : (j : ℕ) (l : List ℕ) → place_of j l < length l → Mem j l
unfolding place_of pick
place_mem j [] h = absurd (omega arith)
place_mem j (x ∷ l) h = go (eqb x j) refl h (place_mem j l)
  where
    go : (b : Bool) → eqb x j ≡ b → pick b 0 (suc (place_of j l)) < suc (length l) → (place_of j l < length l → Mem j l) → Mem j (x ∷ l)
    go true e h ih = here (sym (eqb-true x j e))
    go false e h ih = there (ih (omega (arith, h)))

pub mem_place : (j : ℕ) (l : List ℕ) → Mem j l → place_of j l < length l
unfolding place_of
mem_place j (x ∷ l) m = pick_case (λ p. p < suc (length l)) _ _ _ (λ e. omega arith) (λ e. let h = mem_place j l (in_tail (eqb-false x j e) m) in omega arith)
mem_place j [] m = elim m [ ]

pub get_or_place : (j : ℕ) (l : List ℕ) → Mem j l → get_or l (place_of j l) 0 ≡ j
unfolding place_of
get_or_place j (x ∷ l) m = pick_case (λ p. get_or (x ∷ l) p 0 ≡ j) _ _ _ (eqb-true x j) (λ e. get_or_place j l (in_tail (eqb-false x j e) m))
get_or_place j [] m = elim m [ ]
