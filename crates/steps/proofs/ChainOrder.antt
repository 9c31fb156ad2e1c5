-- Which id is ahead of which in a chain, and the chain with an id put in beside another, or with one taken out.
use Prim.Native.Nat.{ℕ, suc}
use mathlib.Core.Path.{◌≡◌, refl, sym, ap, ◌∙◌}
use mathlib.Core.Bool.{Bool, true, false, true≢false}
use mathlib.Core.Logic.{◌⊎◌, inl, inr, ⊎_elim, ◌↔◌}
use mathlib.Core.List.Memᴰ.{cast}
use mathlib.Core.List.Memᴰ.{head as here}
use mathlib.Core.List.Memᴰ.{tail as there}
use mathlib.Core.List.{List, [], ◌∷◌, ◌++◌, Memᴰ as Mem}
use native.Mathlib.Omega.{arith}
use lib.ListN.{take, drop}
use lib.Dec.{eqb}
use borrow.Author.Tests.{eqb-true, eqb-false}
use Rattle.wire.specs.Numbers.{pick}
use Rattle.wire.proofs.Numbers.{pick_case}
use Rattle.steps.specs.Chain.{first_of, last_of, next_of, place_of, First, Distinct}
use Rattle.steps.proofs.ChainIds.{in_tail, last_mem, first_is}

-- ---- ahead of

pub data Ahead (i j : ℕ) : List ℕ → Type 0 where
  first : {x : ℕ} {l : List ℕ} → i ≡ x → Mem j l → Ahead i j (x ∷ l)
  later : {x : ℕ} {l : List ℕ} → Ahead i j l → Ahead i j (x ∷ l)

pub ahead_fst : {i j : ℕ} {l : List ℕ} → Ahead i j l → Mem i l
ahead_fst (first e m) = here e
ahead_fst (later a) = there (ahead_fst a)

pub ahead_snd : {i j : ℕ} {l : List ℕ} → Ahead i j l → Mem j l
ahead_snd (first e m) = there m
ahead_snd (later a) = there (ahead_snd a)

-- nothing is ahead of the first, which is ahead of all others
pub not_before_first : {i : ℕ} (l : List ℕ) → Distinct l → Ahead i (first_of l) l → ⊥
unfolding first_of
not_before_first [] d a = elim a [ ]
not_before_first (x ∷ l) d (first e m) = d.0 m
not_before_first (x ∷ l) d (later a) = d.0 (ahead_snd a)

pub first_ahead : {j : ℕ} (l : List ℕ) → Mem j l → (j ≡ first_of l) ⊎ Ahead (first_of l) j l
unfolding first_of
first_ahead (x ∷ l) (here e) = inl e
first_ahead (x ∷ l) (there m) = inr (first refl m)
first_ahead {j = j} [] x' = elim x' [ ]

pub none_ahead_first : {j : ℕ} (l : List ℕ) → Mem j l → ((i : ℕ) → Ahead i j l → ⊥) → j ≡ first_of l
none_ahead_first l m n = ⊎_elim (λ e. e) (λ a. absurd (n _ a)) (first_ahead l m)

-- nothing is behind the last, which is behind all others
pub not_after_last : {j : ℕ} (l : List ℕ) → Distinct l → Ahead (last_of l) j l → ⊥
unfolding last_of
not_after_last [] d a = elim a [ ]
not_after_last (x ∷ []) d (first e m) = elim m [ ]
not_after_last (x ∷ []) d (later a) = elim a [ ]
not_after_last (x ∷ (y ∷ l)) d (first e m) = d.0 (cast (sym e) (last_mem (y ∷ l) (omega arith)))
not_after_last (x ∷ (y ∷ l)) d (later a) = not_after_last (y ∷ l) d.1 a

pub last_behind : {i : ℕ} (l : List ℕ) → Mem i l → (i ≡ last_of l) ⊎ Ahead i (last_of l) l
unfolding last_of
last_behind (x ∷ []) (here e) = inl e
last_behind (x ∷ []) (there m) = elim m [ ]
last_behind (x ∷ (y ∷ l)) (here e) = inr (first e (last_mem (y ∷ l) (omega arith)))
last_behind (x ∷ (y ∷ l)) (there m) = ⊎_elim inl (λ a. inr (later a)) (last_behind (y ∷ l) m)
last_behind {i = i} [] x' = elim x' [ ]

pub none_behind_last : {j : ℕ} (l : List ℕ) → Mem j l → ((i : ℕ) → Ahead j i l → ⊥) → j ≡ last_of l
none_behind_last l m n = ⊎_elim (λ e. e) (λ a. absurd (n _ a)) (last_behind l m)

-- the next of an id that is not the last is in the list, and only that id and those ahead of it are ahead of its next
pub next_mem : (j : ℕ) (l : List ℕ) → Mem j l → (j ≡ last_of l → ⊥) → Mem (next_of j l) l
unfolding next_of first_of last_of
next_mem j (x ∷ []) (here e) n = absurd (n e)
next_mem j (x ∷ []) (there m) n = elim m [ ]
next_mem j (x ∷ (y ∷ l)) m n = pick_case (λ z. Mem z (x ∷ (y ∷ l))) _ _ _ (λ e. there (here refl)) (λ e. there (next_mem j (y ∷ l) (in_tail (eqb-false x j e) m) n))
next_mem j [] m n = elim m [ ]

pub ahead_next : {i : ℕ} (j : ℕ) (l : List ℕ) → Distinct l → Mem j l → Ahead i (next_of j l) l → (i ≡ j) ⊎ Ahead i j l
unfolding next_of pick
ahead_next {i} j (x ∷ l) d m a = go (eqb x j) refl a (ahead_next j l d.1)
  where
    up : (i ≡ j) ⊎ Ahead i j l → (i ≡ j) ⊎ Ahead i j (x ∷ l)
    up (inl e) = inl e
    up (inr a) = inr (later a)

    go : (b : Bool) → eqb x j ≡ b → Ahead i (pick b (first_of l) (next_of j l)) (x ∷ l) → (Mem j l → Ahead i (next_of j l) l → (i ≡ j) ⊎ Ahead i j l) → (i ≡ j) ⊎ Ahead i j (x ∷ l)
    go true e (first p q) ih = inl (p ∙ eqb-true x j e)
    go true e (later a) ih = absurd (not_before_first l d.1 a)
    go false e (first p q) ih = inr (first p (in_tail (eqb-false x j e) m))
    go false e (later a) ih = up (ih (in_tail (eqb-false x j e) m) a)
ahead_next {i = i} j [] d m a = elim m [ ]

-- ---- one id taken out

unfoldable pub del : ℕ → List ℕ → List ℕ
del r [] = []
del r (x ∷ l) = pick (eqb x r) l (x ∷ del r l)

pub mem_del : {j : ℕ} (r : ℕ) (l : List ℕ) → Mem j (del r l) → Mem j l
unfolding del pick
mem_del r [] m = m
mem_del {j} r (x ∷ l) m = go (eqb x r) m (mem_del r l)
  where
    go : (b : Bool) → Mem j (pick b l (x ∷ del r l)) → (Mem j (del r l) → Mem j l) → Mem j (x ∷ l)
    go true m ih = there m
    go false (here e) ih = here e
    go false (there m) ih = there (ih m)

pub mem_del_other : {j : ℕ} (r : ℕ) (l : List ℕ) → Mem j l → (j ≡ r → ⊥) → Mem j (del r l)
unfolding del pick
mem_del_other {j} r (x ∷ l) m n = go (eqb x r) refl m (λ z. mem_del_other r l z n)
  where
    go : (b : Bool) → eqb x r ≡ b → Mem j (x ∷ l) → (Mem j l → Mem j (del r l)) → Mem j (pick b l (x ∷ del r l))
    go true e (here q) ih = absurd (n (q ∙ eqb-true x r e))
    go true e (there m) ih = m
    go false e (here q) ih = here q
    go false e (there m) ih = there (ih m)
mem_del_other {j = j} r [] m n = elim m [ ]

pub ahead_del : {i j : ℕ} (r : ℕ) (l : List ℕ) → Ahead i j (del r l) → Ahead i j l
unfolding del pick
ahead_del r [] a = a
ahead_del {i} {j} r (x ∷ l) a = go (eqb x r) a (ahead_del r l)
  where
    go : (b : Bool) → Ahead i j (pick b l (x ∷ del r l)) → (Ahead i j (del r l) → Ahead i j l) → Ahead i j (x ∷ l)
    go true a ih = later a
    go false (first e m) ih = first e (mem_del r l m)
    go false (later a) ih = later (ih a)

pub del_gone : {j : ℕ} (r : ℕ) (l : List ℕ) → Distinct l → Mem j (del r l) → j ≡ r → ⊥
unfolding del pick
del_gone r [] d m q = elim m [ ]
del_gone {j} r (x ∷ l) d m q = go (eqb x r) refl m (λ m'. del_gone r l d.1 m' q)
  where
    go : (b : Bool) → eqb x r ≡ b → Mem j (pick b l (x ∷ del r l)) → (Mem j (del r l) → ⊥) → ⊥
    go true e m ih = d.0 (cast (eqb-true x r e ∙ sym q) m)
    go false e (here p) ih = eqb-false x r e (sym p ∙ q)
    go false e (there m) ih = ih m

pub del_distinct : (r : ℕ) (l : List ℕ) → Distinct l → Distinct (del r l)
unfolding del
del_distinct r [] d = d
del_distinct r (x ∷ l) d = pick_case Distinct _ _ _ (λ e. d.1) (λ e. ((λ m. d.0 (mem_del r l m)), del_distinct r l d.1))

-- as places: all but the place of the id
pub del_place : (r : ℕ) (l : List ℕ) → Mem r l → del r l ≡ take (place_of r l) l ++ drop (suc (place_of r l)) l
unfolding del place_of pick
del_place r (x ∷ l) m = go (eqb x r) refl (del_place r l)
  where
    go : (b : Bool) → eqb x r ≡ b → (Mem r l → del r l ≡ take (place_of r l) l ++ drop (suc (place_of r l)) l) → pick b l (x ∷ del r l) ≡ take (pick b 0 (suc (place_of r l))) (x ∷ l) ++ drop (suc (pick b 0 (suc (place_of r l)))) (x ∷ l)
    go true e ih = refl
    go false e ih = ap (λ (k : List ℕ). x ∷ k) (ih (in_tail (eqb-false x r e) m))
del_place r [] m = elim m [ ]

-- ---- one id put in, just before or just after a named one

unfoldable pub ins : Bool → ℕ → ℕ → List ℕ → List ℕ
ins after named fresh [] = []
ins after named fresh (x ∷ l) = pick (eqb x named) (pick after (x ∷ (fresh ∷ l)) (fresh ∷ (x ∷ l))) (x ∷ ins after named fresh l)

pub mem_ins : {j : ℕ} (after : Bool) (named fresh : ℕ) (l : List ℕ) → Mem j (ins after named fresh l) → ((j ≡ fresh) × Mem named l) ⊎ Mem j l
unfolding ins pick
mem_ins after named fresh [] m = inr m
mem_ins {j} after named fresh (x ∷ l) m = go after (eqb x named) refl m (mem_ins after named fresh l)
  where
    up : ((j ≡ fresh) × Mem named l) ⊎ Mem j l → ((j ≡ fresh) × Mem named (x ∷ l)) ⊎ Mem j (x ∷ l)
    up (inl p) = inl (p.0, there p.1)
    up (inr m) = inr (there m)

    go : (a b : Bool) → eqb x named ≡ b → Mem j (pick b (pick a (x ∷ (fresh ∷ l)) (fresh ∷ (x ∷ l))) (x ∷ ins after named fresh l)) → (Mem j (ins after named fresh l) → ((j ≡ fresh) × Mem named l) ⊎ Mem j l) → ((j ≡ fresh) × Mem named (x ∷ l)) ⊎ Mem j (x ∷ l)
    go true true e (here p) ih = inr (here p)
    go true true e (there (here p)) ih = inl (p, here (sym (eqb-true x named e)))
    go true true e (there (there m)) ih = inr (there m)
    go false true e (here p) ih = inl (p, here (sym (eqb-true x named e)))
    go false true e (there m) ih = inr m
    go true false e (here p) ih = inr (here p)
    go true false e (there m) ih = up (ih m)
    go false false e (here p) ih = inr (here p)
    go false false e (there m) ih = up (ih m)

pub mem_ins_old : {j : ℕ} (after : Bool) (named fresh : ℕ) (l : List ℕ) → Mem j l → Mem j (ins after named fresh l)
unfolding ins pick
mem_ins_old {j} after named fresh (x ∷ l) m = go after (eqb x named) m (mem_ins_old after named fresh l)
  where
    go : (a b : Bool) → Mem j (x ∷ l) → (Mem j l → Mem j (ins after named fresh l)) → Mem j (pick b (pick a (x ∷ (fresh ∷ l)) (fresh ∷ (x ∷ l))) (x ∷ ins after named fresh l))
    go true true (here e) ih = here e
    go true true (there m) ih = there (there m)
    go false true m ih = there m
    go true false (here e) ih = here e
    go true false (there m) ih = there (ih m)
    go false false (here e) ih = here e
    go false false (there m) ih = there (ih m)
mem_ins_old {j = j} after named fresh [] m = elim m [ ]

pub mem_ins_fresh : (after : Bool) (named fresh : ℕ) (l : List ℕ) → Mem named l → Mem fresh (ins after named fresh l)
unfolding ins
mem_ins_fresh after named fresh (x ∷ l) m =
    pick_case (λ k. Mem fresh k) _ _ _
    (λ e. pick_case (λ k. Mem fresh k) _ _ _ (λ _. there (here refl)) (λ _. here refl))
    (λ e. there (mem_ins_fresh after named fresh l (in_tail (eqb-false x named e) m)))
mem_ins_fresh after named fresh [] m = elim m [ ]

pub ins_distinct : (after : Bool) (named fresh : ℕ) (l : List ℕ) → Distinct l → (Mem fresh l → ⊥) → Distinct (ins after named fresh l)
unfolding ins
ins_distinct after named fresh [] d n = d
ins_distinct after named fresh (x ∷ l) d n =
    pick_case Distinct _ _ _
    (λ e. pick_case Distinct _ _ _ (λ _. (other, ((λ m. n (there m)), d.1))) (λ _. (n, d)))
    (λ e. ((λ m. ⊎_elim (λ (p : (x ≡ fresh) × Mem named l). n (here (sym p.0))) (λ m. d.0 m) (mem_ins after named fresh l m)), ins_distinct after named fresh l d.1 (λ m. n (there m))))
  where
    other : Mem x (fresh ∷ l) → ⊥
    other (here e) = n (here (sym e))
    other (there m) = d.0 m

-- as places: at the place of the named one, or the place behind it
abbrev pub ins_place : Bool → ℕ → List ℕ → ℕ
ins_place after named l = pick after (suc (place_of named l)) (place_of named l)

pub ins_place_lem : (after : Bool) (named fresh : ℕ) (l : List ℕ) → Mem named l → ins after named fresh l ≡ take (ins_place after named l) l ++ (fresh ∷ drop (ins_place after named l) l)
unfolding ins place_of pick
ins_place_lem after named fresh (x ∷ l) m = go after (eqb x named) refl (ins_place_lem after named fresh l)
  where
    go : (a b : Bool) → eqb x named ≡ b → (Mem named l → ins a named fresh l ≡ take (ins_place a named l) l ++ (fresh ∷ drop (ins_place a named l) l)) → pick b (pick a (x ∷ (fresh ∷ l)) (fresh ∷ (x ∷ l))) (x ∷ ins a named fresh l) ≡ take (pick a (suc (pick b 0 (suc (place_of named l)))) (pick b 0 (suc (place_of named l)))) (x ∷ l) ++ (fresh ∷ drop (pick a (suc (pick b 0 (suc (place_of named l)))) (pick b 0 (suc (place_of named l)))) (x ∷ l))
    go true true e ih = refl
    go false true e ih = refl
    go true false e ih = ap (λ (k : List ℕ). x ∷ k) (ih (in_tail (eqb-false x named e) m))
    go false false e ih = ap (λ (k : List ℕ). x ∷ k) (ih (in_tail (eqb-false x named e) m))
ins_place_lem after named fresh [] m = elim m [ ]

-- it is first if it was put in before the first
pub ins_first : (after : Bool) (named fresh : ℕ) (l : List ℕ) → Mem named l → (Mem fresh l → ⊥) → First fresh (ins after named fresh l) ↔ ((after ≡ false) × First named l)
unfolding ins pick first_of
ins_first after named fresh (x ∷ l) m n = go after (eqb x named) refl
  where
    head : (k : List ℕ) → First fresh (x ∷ k) → ⊥
    head k (q, e) = n (here (cc))

    go : (a b : Bool) → eqb x named ≡ b → First fresh (pick b (pick a (x ∷ (fresh ∷ l)) (fresh ∷ (x ∷ l))) (x ∷ ins after named fresh l)) ↔ ((a ≡ false) × First named (x ∷ l))
    go true true e = (λ f. absurd (head _ f), λ f. absurd (true≢false f.0))
    go false true e = (λ f. (refl, (l, ap (λ (z : ℕ). z ∷ l) (eqb-true x named e))), λ f. (x ∷ l, refl))
    go true false e = (λ f. absurd (head _ f), λ f. absurd (true≢false f.0))
    go false false e = (λ f. absurd (head _ f), λ f. absurd (eqb-false x named e (sym (first_is (x ∷ l) f.1))))
ins_first after named fresh [] m n = elim m [ ]

-- who is ahead of whom afterwards
pub data Joined (after : Bool) (i j named fresh : ℕ) (l : List ℕ) : Type 0 where
  behind : j ≡ fresh → Ahead i named l → Joined after i j named fresh l
  just_behind : j ≡ fresh → i ≡ named → after ≡ true → Joined after i j named fresh l
  just_ahead : i ≡ fresh → j ≡ named → after ≡ false → Joined after i j named fresh l
  ahead : i ≡ fresh → Ahead named j l → Joined after i j named fresh l
  old : Ahead i j l → Joined after i j named fresh l

pub joined : {i j : ℕ} (after : Bool) (named fresh : ℕ) (l : List ℕ) → Ahead i j (ins after named fresh l) → Joined after i j named fresh l
unfolding ins pick
joined after named fresh [] a = elim a [ ]
joined {i} {j} after named fresh (x ∷ l) a = go after refl (eqb x named) refl a (joined after named fresh l)
  where
    at : after ≡ false → i ≡ fresh → x ≡ named → Mem j (x ∷ l) → Joined after i j named fresh (x ∷ l)
    at b p e (here q) = just_ahead p (q ∙ e) b
    at b p e (there m) = ahead p (first (sym e) m)

    up : Joined after i j named fresh l → Joined after i j named fresh (x ∷ l)
    up (behind e a) = behind e (later a)
    up (just_behind e q b) = just_behind e q b
    up (just_ahead e q b) = just_ahead e q b
    up (ahead e a) = ahead e (later a)
    up (old a) = old (later a)

    side : i ≡ x → ((j ≡ fresh) × Mem named l) ⊎ Mem j l → Joined after i j named fresh (x ∷ l)
    side p (inl q) = behind q.0 (first p q.1)
    side p (inr m) = old (first p m)

    put_behind : after ≡ true → x ≡ named → Ahead i j (x ∷ (fresh ∷ l)) → Joined after i j named fresh (x ∷ l)
    put_behind b e (first p (here q)) = just_behind q (p ∙ e) b
    put_behind b e (first p (there m)) = old (first p m)
    put_behind b e (later (first p m)) = ahead p (first (sym e) m)
    put_behind b e (later (later a)) = old (later a)

    put_before : after ≡ false → x ≡ named → Ahead i j (fresh ∷ (x ∷ l)) → Joined after i j named fresh (x ∷ l)
    put_before b e (first p m) = at b p e m
    put_before b e (later a) = old a

    put_later : Ahead i j (x ∷ ins after named fresh l) → (Ahead i j (ins after named fresh l) → Joined after i j named fresh l) → Joined after i j named fresh (x ∷ l)
    put_later (first p m) ih = side p (mem_ins after named fresh l m)
    put_later (later a) ih = up (ih a)

    go : (a : Bool) → after ≡ a → (b : Bool) → eqb x named ≡ b → Ahead i j (pick b (pick a (x ∷ (fresh ∷ l)) (fresh ∷ (x ∷ l))) (x ∷ ins after named fresh l)) → (Ahead i j (ins after named fresh l) → Joined after i j named fresh l) → Joined after i j named fresh (x ∷ l)
    go true b true e a ih = put_behind b (eqb-true x named e) a
    go false b true e a ih = put_before b (eqb-true x named e) a
    go true b false e a ih = put_later a ih
    go false b false e a ih = put_later a ih
