-- The eight places with an id put in or taken out: the chain that they hold, how many they are, and the zeros behind it.
use Prim.Native.Nat.{ℕ, zero, suc, ◌+◌, ◌-◌, ◌<◌, ◌≤◌}
use mathlib.Core.Path.{◌≡◌, refl, sym, ap, ap₂, ◌∙◌, subst}
use mathlib.Core.List.{List, [], ◌∷◌, ◌++◌}
use native.Mathlib.Omega.{arith}
use native.Mathlib.Nat.{sub-zero}
use lib.ListN.{length, take, drop, length-append, length-take, length-drop}
use lib.Seq.{take-take, take-nil, drop-drop, take-append-add, drop-append-add, get_or-take, length-take-le, take-append-le, drop-append-le}
use borrow.Author.Tests.{lt-ltb}
use Rattle.wire.proofs.Numbers.{pick_true}
use Rattle.store.specs.Table.{Zero}
use Rattle.steps.specs.Chain.{most_nodes, insert_at, remove_at}

-- ---- parts of lists, and zeros

drop_take : (k n : ℕ) (l : List ℕ) → k ≤ n → drop k (take n l) ≡ take (n - k) (drop k l)
drop_take zero n l h = rw (sub-zero n)
drop_take (suc k) zero l h = absurd (omega arith)
drop_take (suc k) (suc n) [] h = sym (take-nil (suc n - suc k))
drop_take (suc k) (suc n) (x ∷ l) h = let e : n - k ≡ suc n - suc k = omega arith in drop_take k n l (omega arith) ∙ ap (λ (m : ℕ). take m (drop k l)) e

zero_take : (k : ℕ) (l : List ℕ) → Zero l → Zero (take k l)
zero_take k l z i h = let g = simp length-take at h in get_or-take k l i 0 (omega arith) ∙ z i (omega arith)

zero_more : (l : List ℕ) → Zero l → Zero (l ++ (0 ∷ []))
zero_more [] z zero h = refl
zero_more [] z (suc i) h = refl
zero_more (x ∷ l) z zero h = z 0 (omega arith)
zero_more (x ∷ l) z (suc i) h = zero_more l (λ j k. z (suc j) (omega arith)) i (omega arith)

-- ---- the places

-- how many the members are
pub length_members : (n : ℕ) (l : List ℕ) → length l ≡ most_nodes → n ≤ most_nodes → length (take n l) ≡ n
length_members n l e h = length-take-le n l (omega arith)

module _ (l : List ℕ) (at : ℕ) (eight : length l ≡ most_nodes) (low : at < most_nodes) where
  front : length (take at l) ≡ at
  front = length-take-le at l (omega arith)

  pub inserted_is : (id : ℕ) → insert_at l at id ≡ take at l ++ (id ∷ take (7 - at) (drop at l))
  unfolding insert_at
  inserted_is id = pick_true _ _ _ (lt-ltb at most_nodes low)

  pub length_inserted : (id : ℕ) → length (insert_at l at id) ≡ most_nodes
  length_inserted id = rw (inserted_is id) (simp (length-append, length-take, length-drop) (omega arith))

  pub insert_members : (id n : ℕ) → n < most_nodes → at ≤ n → take (n + 1) (insert_at l at id) ≡ take at (take n l) ++ (id ∷ drop at (take n l))
  insert_members id n h a =
      let e : n + 1 ≡ length (take at l) + suc (n - at) = omega (arith, front) in
      ap₂ take e (inserted_is id)
      ∙ take-append-add (take at l) (id ∷ take (7 - at) (drop at l)) (suc (n - at))
      ∙ ap₂ (λ (x y : List ℕ). x ++ (id ∷ y)) (sym (take-take at n l a)) (take-take (n - at) (7 - at) (drop at l) (omega arith) ∙ sym (drop_take at n l a))

  insert_behind : (id n : ℕ) → n < most_nodes → at ≤ n → drop (n + 1) (insert_at l at id) ≡ take (7 - n) (drop n l)
  insert_behind id n h a =
      let e : n + 1 ≡ length (take at l) + suc (n - at) = omega (arith, front) in
      let f : 7 - at - (n - at) ≡ 7 - n = omega arith in
      let g : at + (n - at) ≡ n = omega arith in
      ap₂ drop e (inserted_is id)
      ∙ drop-append-add (take at l) (id ∷ take (7 - at) (drop at l)) (suc (n - at))
      ∙ drop_take (n - at) (7 - at) (drop at l) (omega arith)
      ∙ ap₂ take f (drop-drop (n - at) at l ∙ ap (λ (m : ℕ). drop m l) g)

  pub insert_unused : (id n : ℕ) → n < most_nodes → at ≤ n → Zero (drop n l) → Zero (drop (n + 1) (insert_at l at id))
  insert_unused id n h a z = subst Zero (sym (insert_behind id n h a)) (zero_take (7 - n) (drop n l) z)

  length_kept : length (take at l ++ drop (at + 1) l) ≡ 7
  length_kept = simp (length-append, length-take, length-drop) (omega arith)

  pub removed_is : remove_at l at ≡ take at l ++ drop (at + 1) l ++ (0 ∷ [])
  unfolding remove_at
  removed_is = pick_true _ _ _ (lt-ltb at most_nodes low)

  pub length_removed : length (remove_at l at) ≡ most_nodes
  length_removed = rw removed_is (simp (length-append, length-take, length-drop) (omega arith))

  pub remove_members : (n : ℕ) → at < n → n ≤ most_nodes → take (n - 1) (remove_at l at) ≡ take at (take n l) ++ drop (suc at) (take n l)
  remove_members n h a =
      let e : n - 1 ≡ length (take at l) + (n - suc at) = omega (arith, front) in
      let f : at + 1 ≡ suc at = omega arith in
      ap (take (n - 1)) removed_is
      ∙ take-append-le (n - 1) (take at l ++ drop (at + 1) l) (0 ∷ []) (omega (arith, length_kept))
      ∙ ap (λ (m : ℕ). take m (take at l ++ drop (at + 1) l)) e
      ∙ take-append-add (take at l) (drop (at + 1) l) (n - suc at)
      ∙ ap₂ ◌++◌ (sym (take-take at n l (omega arith))) (ap (λ (m : ℕ). take (n - suc at) (drop m l)) f ∙ sym (drop_take (suc at) n l h))

  remove_behind : (n : ℕ) → at < n → n ≤ most_nodes → drop (n - 1) (remove_at l at) ≡ drop n l ++ (0 ∷ [])
  remove_behind n h a =
      let e : n - 1 ≡ length (take at l) + (n - suc at) = omega (arith, front) in
      let f : at + 1 + (n - suc at) ≡ n = omega arith in
      ap (drop (n - 1)) removed_is
      ∙ drop-append-le (n - 1) (take at l ++ drop (at + 1) l) (0 ∷ []) (omega (arith, length_kept))
      ∙ ap (λ (k : List ℕ). k ++ (0 ∷ [])) (ap (λ (m : ℕ). drop m (take at l ++ drop (at + 1) l)) e ∙ drop-append-add (take at l) (drop (at + 1) l) (n - suc at) ∙ drop-drop (n - suc at) (at + 1) l ∙ ap (λ (m : ℕ). drop m l) f)

  pub remove_unused : (n : ℕ) → at < n → n ≤ most_nodes → Zero (drop n l) → Zero (drop (n - 1) (remove_at l at))
  remove_unused n h a z = subst Zero (sym (remove_behind n h a)) (zero_more (drop n l) z)
