-- The eight places one by one, once an id is inserted or removed.
use Prim.Native.Nat.{ℕ, zero, suc, ◌+◌, ◌-◌, ◌<◌, ◌≤◌}
use mathlib.Core.Path.{◌≡◌, refl, sym, ap, ap₂, ◌∙◌}
use mathlib.Core.List.{List, [], ◌∷◌, ◌++◌}
use native.Mathlib.Omega.{arith}
use native.Mathlib.Decide.{dec_lt, ℕ_discrete}
use lib.ListN.{length, get_or, take, drop, length-append, length-take, length-drop, get_or-append, get_or-eq_default}
use lib.Dec.{ltb, eqb}
use lib.Seq.{get_or_at, get_or-append-add, get_or-take, get_or-drop, length-take-le}
use borrow.Author.Tests.{lt-ltb, le-ltb, eq-eqb, ne_eqb}
use Rattle.wire.specs.Numbers.{pick}
use Rattle.wire.proofs.Numbers.{pick_true, pick_false}
use Rattle.store.specs.Table.{tab}
use Rattle.steps.specs.Chain.{most_nodes, insert_at, remove_at}
use Rattle.steps.proofs.ChainPlaces.{inserted_is, length_inserted, removed_is, length_removed}

-- a list by its places
pub by_place : (n : ℕ) (l : List ℕ) (f : ℕ → ℕ) → length l ≡ n → ((i : ℕ) → i < n → get_or l i 0 ≡ f i) → tab n f ≡ l
by_place zero [] f h p = refl
by_place zero (x ∷ l) f h p = absurd (omega arith)
by_place (suc n) [] f h p = absurd (omega arith)
by_place (suc n) (x ∷ l) f h p = rw (← p 0 (omega arith), by_place n l (λ i. f (suc i)) (omega arith) (λ i k. p (suc i) (omega arith)))

-- eight places that are as they should be
pub eight_are : (f : ℕ → ℕ) {a b c d e g h i : ℕ} → a ≡ f 0 → b ≡ f 1 → c ≡ f 2 → d ≡ f 3 → e ≡ f 4 → g ≡ f 5 → h ≡ f 6 → i ≡ f 7
    → a ∷ b ∷ c ∷ d ∷ e ∷ g ∷ h ∷ i ∷ [] ≡ tab most_nodes f
eight_are f p q r s t u v w = ap₂ ◌∷◌ p (ap₂ ◌∷◌ q (ap₂ ◌∷◌ r (ap₂ ◌∷◌ s (ap₂ ◌∷◌ t (ap₂ ◌∷◌ u (ap₂ ◌∷◌ v (ap₂ ◌∷◌ w refl)))))))

-- where no place is as far as `at`, the list stays
stays : (l : List ℕ) (at : ℕ) (g : ℕ → ℕ) → length l ≡ most_nodes → most_nodes ≤ at → tab most_nodes (λ i. pick (ltb i at) (get_or l i 0) (g i)) ≡ l
stays l at g e h = by_place most_nodes l (λ i. pick (ltb i at) (get_or l i 0) (g i)) e (λ i b. sym (pick_true (ltb i at) (get_or l i 0) (g i) (lt-ltb i at (omega arith))))

-- what stands at place i afterwards
abbrev pub inserted_at : List ℕ → ℕ → ℕ → ℕ → ℕ
inserted_at l at id i = pick (ltb i at) (get_or l i 0) (pick (eqb i at) id (get_or l (i - 1) 0))

abbrev pub removed_at : List ℕ → ℕ → ℕ → ℕ
removed_at l at i = pick (ltb i at) (get_or l i 0) (get_or l (i + 1) 0)

module _ (l : List ℕ) (at : ℕ) (eight : length l ≡ most_nodes) where
  front : at < most_nodes → length (take at l) ≡ at
  front h = length-take-le at l (omega arith)

  at_insert : at < most_nodes → (id i : ℕ) → i < most_nodes → get_or (take at l ++ (id ∷ take (7 - at) (drop at l))) i 0 ≡ inserted_at l at id i
  at_insert h id i b = go (dec_lt i at) (ℕ_discrete i at)
    where
      go : Dec (i < at) → Dec (i ≡ at) → get_or (take at l ++ (id ∷ take (7 - at) (drop at l))) i 0 ≡ inserted_at l at id i
      go (yes a) d =
          get_or-append (take at l) _ 0 i (rw (front h) a) ∙ get_or-take at l i 0 a ∙ sym (pick_true _ _ _ (lt-ltb i at a))
      go (no a) (yes e) =
          get_or_at (take at l) id _ 0 i (front h ∙ sym e) ∙ sym (pick_false _ _ _ (le-ltb i at (omega arith)) ∙ pick_true _ _ _ (eq-eqb i at e))
      go (no a) (no n) =
          let j = i - at - 1 in
          let e : i ≡ length (take at l) + suc j = rw (front h) (omega arith) in
          let f : at + j ≡ i - 1 = omega arith in
          ap (λ (x : ℕ). get_or (take at l ++ (id ∷ take (7 - at) (drop at l))) x 0) e
          ∙ get_or-append-add (take at l) (id ∷ take (7 - at) (drop at l)) (suc j) 0
          ∙ get_or-take (7 - at) (drop at l) j 0 (omega arith)
          ∙ get_or-drop at l j 0
          ∙ ap (λ (x : ℕ). get_or l x 0) f
          ∙ sym (pick_false _ _ _ (le-ltb i at (omega arith)) ∙ pick_false _ _ _ (ne_eqb i at n))

  pub inserted : (id : ℕ) → tab most_nodes (inserted_at l at id) ≡ insert_at l at id
  unfolding insert_at
  inserted id = go (dec_lt at most_nodes)
    where
      go : Dec (at < most_nodes) → tab most_nodes (inserted_at l at id) ≡ insert_at l at id
      go (yes h) =
          by_place most_nodes (insert_at l at id) (inserted_at l at id) (length_inserted l at eight h id)
          (λ i b. ap (λ (m : List ℕ). get_or m i 0) (inserted_is l at eight h id) ∙ at_insert h id i b)
      go (no h) = stays l at (λ i. pick (eqb i at) id (get_or l (i - 1) 0)) eight (omega arith) ∙ sym (pick_false _ _ _ (le-ltb at most_nodes (omega arith)))

  at_remove : at < most_nodes → (i : ℕ) → i < most_nodes → get_or (take at l ++ drop (at + 1) l ++ (0 ∷ [])) i 0 ≡ removed_at l at i
  at_remove h i b = go (dec_lt i at) (dec_lt i 7)
    where
      rest : length (take at l ++ drop (at + 1) l) ≡ 7
      rest = simp (length-append, length-take, length-drop) (omega arith)

      go : Dec (i < at) → Dec (i < 7) → get_or (take at l ++ drop (at + 1) l ++ (0 ∷ [])) i 0 ≡ removed_at l at i
      go (yes a) d =
          get_or-append (take at l ++ drop (at + 1) l) (0 ∷ []) 0 i (rw rest (omega arith))
          ∙ get_or-append (take at l) (drop (at + 1) l) 0 i (rw (front h) a)
          ∙ get_or-take at l i 0 a
          ∙ sym (pick_true _ _ _ (lt-ltb i at a))
      go (no a) (yes c) =
          let j = i - at in
          let e : i ≡ length (take at l) + j = rw (front h) (omega arith) in
          let f : at + 1 + j ≡ i + 1 = omega arith in
          get_or-append (take at l ++ drop (at + 1) l) (0 ∷ []) 0 i (rw rest c)
          ∙ ap (λ (x : ℕ). get_or (take at l ++ drop (at + 1) l) x 0) e
          ∙ get_or-append-add (take at l) (drop (at + 1) l) j 0
          ∙ get_or-drop (at + 1) l j 0
          ∙ ap (λ (x : ℕ). get_or l x 0) f
          ∙ sym (pick_false _ _ _ (le-ltb i at (omega arith)))
      go (no a) (no c) =
          get_or_at (take at l ++ drop (at + 1) l) 0 [] 0 i (rest ∙ omega arith)
          ∙ sym (pick_false _ _ _ (le-ltb i at (omega arith)) ∙ get_or-eq_default l 0 {n = i + 1} (omega arith))

  pub removed : tab most_nodes (removed_at l at) ≡ remove_at l at
  unfolding remove_at
  removed = go (dec_lt at most_nodes)
    where
      go : Dec (at < most_nodes) → tab most_nodes (removed_at l at) ≡ remove_at l at
      go (yes h) =
          by_place most_nodes (remove_at l at) (removed_at l at) (length_removed l at eight h)
          (λ i b. ap (λ (m : List ℕ). get_or m i 0) (removed_is l at eight h) ∙ at_remove h i b)
      go (no h) = stays l at (λ i. get_or l (i + 1) 0) eight (omega arith) ∙ sym (pick_false _ _ _ (le-ltb at most_nodes (omega arith)))
