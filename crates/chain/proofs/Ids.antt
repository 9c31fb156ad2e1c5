-- The ids of a chain in std's words: where one is found, and the rules of the ids in one turn.
use Prim.Native.Nat.{ℕ, suc, ◌+◌, ◌-◌, ◌<◌, ◌≤◌}
use mathlib.Core.Path.{◌≡◌, refl, sym, ap, ◌∙◌}
use mathlib.Core.Bool.{Bool, true, false, ◌&&◌, ◌||◌, not}
use mathlib.Core.List.{List, [], ◌∷◌}
use native.Mathlib.Omega.{arith}
use native.Mathlib.Decide.{dec_lt}
use lib.ListN.{length, get_or, take, length-take}
use lib.Dec.{ltb, leb, eqb}
use borrow.Author.Tests.{lt-ltb, le-ltb, le-leb, lt-leb}
use Rattle.std.specs.Prelude.{Some, None, cond, max, fold}
use Rattle.std.specs.List.{position, position_or_len, slice_get, list_any, list_all, reduce}
use Rattle.std.specs.Option.{unwrap_or}
use Rattle.std.proofs.lemmas.Option.{unwrap_or-slice_get}
use Rattle.std.proofs.lemmas.List.Recursion.{is_position_or_len}
use Rattle.wire.specs.Numbers.{pick}
use Rattle.wire.proofs.Numbers.{pick_true, pick_false}
use Rattle.store.specs.Table.{all_zero}
use Rattle.steps.proofs.ChainIds.{place_le, memb_true, memb_false, mem_place, place_mem}
use Rattle.chain.specs.Ids.{ids_ok}
use Rattle.steps.specs.Chain.{memb, first_of, last_of, next_of, place_of, apart, none_above, largest}

-- ---- which id stands where

pub memb_place : (j : ℕ) (l : List ℕ) → memb j l ≡ ltb (place_of j l) (length l)
memb_place j l = go (memb j l) refl
  where
    go : (b : Bool) → memb j l ≡ b → b ≡ ltb (place_of j l) (length l)
    go true e = sym (lt-ltb _ _ (mem_place j l (memb_true j l e)))
    go false e = let n : place_of j l < length l → ⊥ = λ h. memb_false j l e (place_mem j l h) in sym (le-ltb (place_of j l) (length l) (omega arith))

pub first_at : (l : List ℕ) → first_of l ≡ get_or l 0 0
unfolding first_of
first_at [] = refl
first_at (x ∷ l) = refl

pub last_at : (l : List ℕ) → last_of l ≡ get_or l (length l - 1) 0
unfolding last_of
last_at [] = refl
last_at (x ∷ []) = refl
last_at (x ∷ (y ∷ l)) =
    let e : suc (length l) - 1 ≡ length l = omega arith in
    let f : suc (length l) ≡ suc (suc (length l)) - 1 = omega arith in
    last_at (y ∷ l) ∙ ap (λ (k : ℕ). get_or (y ∷ l) k 0) e ∙ ap (λ (k : ℕ). get_or (x ∷ (y ∷ l)) k 0) f

pub next_at : (j : ℕ) (l : List ℕ) → next_of j l ≡ get_or l (place_of j l + 1) 0
unfolding next_of place_of pick
next_at j [] = refl
next_at j (x ∷ l) = go (eqb x j) (next_at j l)
  where
    go : (b : Bool) → next_of j l ≡ get_or l (place_of j l + 1) 0 → pick b (first_of l) (next_of j l) ≡ get_or (x ∷ l) (pick b 0 (suc (place_of j l)) + 1) 0
    go true e = first_at l
    go false e = let f : suc (place_of j l + 1) ≡ suc (place_of j l) + 1 = omega arith in e ∙ ap (λ (k : ℕ). get_or (x ∷ l) k 0) f

pub first_got : (l : List ℕ) → first_of l ≡ unwrap_or (slice_get l 0) 0
first_got l = first_at l ∙ sym (unwrap_or-slice_get l 0 0)

pub last_got : (l : List ℕ) → last_of l ≡ unwrap_or (slice_get l (length l - 1)) 0
last_got l = last_at l ∙ sym (unwrap_or-slice_get l (length l - 1) 0)

-- an id is in a list, and its place
pub memb_any : (j : ℕ) (l : List ℕ) → memb j l ≡ list_any (λ x. eqb x j) l
unfolding memb
memb_any j [] = refl
memb_any j (x ∷ l) = ap (λ (b : Bool). eqb x j || b) (memb_any j l)

place_first : (j : ℕ) (l : List ℕ) → place_of j l ≡ position_or_len (λ x. eqb x j) l
unfolding place_of
place_first j = is_position_or_len (place_of j) (λ x. eqb x j) refl (λ x l. turn x l (eqb x j) refl)
  where
    turn : (x : ℕ) (l : List ℕ) (b : Bool) → eqb x j ≡ b → place_of j (x ∷ l) ≡ cond (eqb x j) 0 (1 + place_of j l)
    turn x l true e = pick_true _ _ _ e ∙ sym (ap (λ (b : Bool). cond b 0 (1 + place_of j l)) e)
    turn x l false e = let f : suc (place_of j l) ≡ 1 + place_of j l = omega arith in pick_false _ _ _ e ∙ f ∙ sym (ap (λ (b : Bool). cond b 0 (1 + place_of j l)) e)

pub place_found : (j : ℕ) (l : List ℕ) → place_of j l ≡ unwrap_or (position (λ x. eqb x j) l) (length l)
place_found j l = go (dec_lt (place_of j l) (length l)) ∙ ap (λ (p : ℕ). unwrap_or (cond (ltb p (length l)) (Some p) None) (length l)) (place_first j l)
  where
    go : Dec (place_of j l < length l) → place_of j l ≡ unwrap_or (cond (ltb (place_of j l) (length l)) (Some (place_of j l)) None) (length l)
    go (yes h) = sym (ap (λ (b : Bool). unwrap_or (cond b (Some (place_of j l)) None) (length l)) (lt-ltb _ _ h))
    go (no h) =
        let e : place_of j l ≡ length l = omega (arith, place_le j l) in
        e ∙ sym (ap (λ (b : Bool). unwrap_or (cond b (Some (place_of j l)) None) (length l)) (le-ltb (place_of j l) (length l) (omega arith)))

-- at most as many as the places that are taken
pub place_low : (j n : ℕ) (l : List ℕ) → place_of j (take n l) ≤ n
place_low j n l = omega (arith, place_le j (take n l), length-take n l)

-- ---- the rules of the ids

pub and_none : (b : Bool) → (b && false) ≡ false
and_none true = refl
and_none false = refl

-- no id, and one in front of others
pub ids_none : (top : ℕ) (l : List ℕ) → length l ≡ 0 → ids_ok top l ≡ true
unfolding ids_ok apart none_above
ids_none top [] e = refl
ids_none top (x ∷ l) e = absurd (omega arith)

pub ids_turn : (top x : ℕ) (l : List ℕ) → ids_ok top (x ∷ l) ≡ (not (eqb x 0 || (memb x l || ltb top x)) && ids_ok top l)
unfolding ids_ok apart none_above
ids_turn top x l =
    go (eqb x 0) (memb x l) (dec_lt top x)
  where
    go : (a b : Bool) → Dec (top < x) → ((not a && (not b && apart l)) && (leb x top && none_above top l)) ≡ (not (a || (b || ltb top x)) && (apart l && none_above top l))
    go true b d = refl
    go false true d = refl
    go false false (yes h) =
        ap (λ (c : Bool). apart l && (c && none_above top l)) (lt-leb x top h)
        ∙ and_none (apart l)
        ∙ sym (ap (λ (c : Bool). not c && (apart l && none_above top l)) (lt-ltb top x h))
    go false false (no h) =
        ap (λ (c : Bool). apart l && (c && none_above top l)) (le-leb x top (omega arith))
        ∙ sym (ap (λ (c : Bool). not c && (apart l && none_above top l)) (le-ltb top x (omega arith)))

pub zero_all : (l : List ℕ) → all_zero l ≡ list_all (λ x. eqb x 0) l
zero_all [] = refl
zero_all (x ∷ l) = ap (λ (b : Bool). eqb x 0 && b) (zero_all l)

-- ---- the largest

largest_max : (x : ℕ) (l : List ℕ) → largest (x ∷ l) ≡ max x (largest l)
unfolding largest pick
largest_max x l = go (dec_lt (largest l) x)
  where
    go : Dec (largest l < x) → pick (ltb (largest l) x) x (largest l) ≡ max x (largest l)
    go (yes h) = let e : x ≡ max x (largest l) = omega arith in pick_true _ _ _ (lt-ltb _ _ h) ∙ e
    go (no h) = let e : largest l ≡ max x (largest l) = omega arith in pick_false _ _ _ (le-ltb (largest l) x (omega arith)) ∙ e

folded : (m : ℕ) (l : List ℕ) → max m (largest l) ≡ fold max m l
unfolding largest
folded m [] = omega arith
folded m (x ∷ l) = let e : max m (max x (largest l)) ≡ max (max m x) (largest l) = omega arith in ap (max m) (largest_max x l) ∙ e ∙ folded (max m x) l

pub largest_got : (l : List ℕ) → largest l ≡ unwrap_or (reduce max l) 0
unfolding largest
largest_got [] = refl
largest_got (x ∷ l) = largest_max x l ∙ folded x l
