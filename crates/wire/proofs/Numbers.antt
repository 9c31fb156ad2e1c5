-- Laws of tests and refusals: what a test that was passed says, what a test reflects, and that a ladder of tests gives the first row that applies.
use Prim.Native.Nat.{ℕ, ◌<◌, ◌≤◌}
use mathlib.Core.Path.{◌≡◌, refl, sym, ap, ap₂, ◌∙◌, subst}
use mathlib.Core.Bool.{Bool, true, false, true≢false, false≢true, not, ◌&&◌, ◌||◌}
use mathlib.Core.Logic.{◌⊎◌, inl, inr, ◌↔◌, ⊎_elim}
use mathlib.Core.List.Memᴰ.{head as here}
use mathlib.Core.List.Memᴰ.{tail as there}
use mathlib.Core.List.{List, [], ◌∷◌, ◌++◌, Memᴰ as Mem}
use native.Mathlib.Omega.{arith}
use lib.Dec.{ltb, leb, eqb}
use lib.ListN.{length, get_or, drop}
use borrow.Author.Tests.{ltb-true, ltb-false, leb-true, leb-false, eqb-true, eqb-false, not-true, not-false}
use Rattle.wire.specs.Numbers.{Out, refuse, ok, pick, guard, Test, judge, first_number, Case, under, Applies, First, Judged, priority, number_of, left, eqs}

-- ---- if-then-else

pub pick_true : {A : Type 0} (b : Bool) (x y : A) → b ≡ true → pick b x y ≡ x
unfolding pick
pick_true true x y e = refl
pick_true false x y e = absurd (true≢false (sym e))

pub pick_false : {A : Type 0} (b : Bool) (x y : A) → b ≡ false → pick b x y ≡ y
unfolding pick
pick_false true x y e = absurd (true≢false e)
pick_false false x y e = refl

-- one row of a number that is made from its last row up
pub rung : {m n n' : ℕ} {b b' : Bool} (x : ℕ) → m ≡ pick b x n → b ≡ b' → n ≡ n' → m ≡ pick b' x n'
rung x e f g = e ∙ ap₂ (λ (b : Bool) (n : ℕ). pick b x n) f g

pub pick_case : {A : Type 0} (P : A → Type 0) (b : Bool) (x y : A) → (b ≡ true → P x) → (b ≡ false → P y) → P (pick b x y)
unfolding pick
pick_case P true x y f g = f refl
pick_case P false x y f g = g refl

-- ---- what a step answers

pub ok_inj : {A : Type 0} {a b : A} → ◌≡◌ {A = Out A} (ok a) (ok b) → a ≡ b
ok_inj e = cc

pub refuse_inj : {A : Type 0} {m n : ℕ} → ◌≡◌ {A = Out A} (refuse m) (refuse n) → m ≡ n
refuse_inj e = cc

pub refuse_ok : {A : Type 0} {n : ℕ} {a : A} → ◌≡◌ {A = Out A} (refuse n) (ok a) → ⊥
refuse_ok e = let z : ◌≡◌ {A = ℕ} 0 1 = cc in omega arith

-- ---- one test

-- past a test: it did not hold
pub past : {A : Type 0} (b : Bool) (n : ℕ) (y : Out A) (a : A) → guard b n y ≡ ok a → (b ≡ false) × (y ≡ ok a)
unfolding guard
past true n y a e = (cc, cc)
past false n y a e = (refl, e)

pub pass_guard : {A : Type 0} (b : Bool) (n : ℕ) (y : Out A) → b ≡ false → guard b n y ≡ y
unfolding guard
pass_guard true n y e = absurd (true≢false e)
pass_guard false n y e = refl

pub stop_guard : {A : Type 0} (b : Bool) (n : ℕ) (y : Out A) → b ≡ true → guard b n y ≡ refuse n
unfolding guard
stop_guard true n y e = refl
stop_guard false n y e = absurd (false≢true e)

-- ---- several tests

-- none of them holds
abbrev pub Passed : List Test → Type 0
Passed [] = Unit {0}
Passed (t ∷ l) = (t.holds ≡ false) × Passed l

pub past_all : {A : Type 0} (l : List Test) (y : Out A) (a : A) → judge l y ≡ ok a → Passed l × (y ≡ ok a)
past_all [] y a e = (tt, e)
past_all (t ∷ l) y a e =
    let g = past _ _ _ _ e in
    let r = past_all l y a g.1 in
    ((g.0, r.0), r.1)

pub pass_all : {A : Type 0} (l : List Test) (y : Out A) → Passed l → judge l y ≡ y
pass_all [] y p = refl
pass_all (t ∷ l) y p = pass_guard _ _ _ p.0 ∙ pass_all l y p.1

-- two ladders, one behind the other, are one
pub judge_append : {A : Type 0} (l m : List Test) (y : Out A) → judge l (judge m y) ≡ judge (l ++ m) y
judge_append [] m y = refl
judge_append (t ∷ l) m y = ap (guard t.holds t.number) (judge_append l m y)

-- ---- tests of tests

pub and_left : (a b : Bool) → (a && b) ≡ true → a ≡ true
and_left true b e = refl
and_left false b e = e

pub and_right : (a b : Bool) → (a && b) ≡ true → b ≡ true
and_right true b e = e
and_right false b e = absurd (false≢true e)

pub and_both : (a b : Bool) → a ≡ true → b ≡ true → (a && b) ≡ true
and_both true b e f = f
and_both false b e f = e

pub and_false : (a b : Bool) → (a && b) ≡ false → (a ≡ false) ⊎ (b ≡ false)
and_false true b e = inr e
and_false false b e = inl refl

pub or_false : (a b : Bool) → (a || b) ≡ false → (a ≡ false) × (b ≡ false)
or_false true b e = absurd (true≢false e)
or_false false b e = (refl, e)

pub or_true : (a b : Bool) → (a || b) ≡ true → (a ≡ true) ⊎ (b ≡ true)
or_true true b e = inl refl
or_true false b e = inr e

pub or_left : (a b : Bool) → a ≡ true → (a || b) ≡ true
or_left true b e = refl
or_left false b e = absurd (false≢true e)

-- ---- the number of the first test that holds: a step is done where it is 0, and refused otherwise

-- a test that holds
pub judge_refused : {A : Type 0} (l : List Test) (y : Out A) → (first_number l ≡ 0 → ⊥) → judge l y ≡ refuse (first_number l)
judge_refused [] y n = absurd (n refl)
judge_refused (t ∷ l) y n = go t.holds refl (judge_refused l y)
  where
    go : (b : Bool) → t.holds ≡ b → ((first_number l ≡ 0 → ⊥) → judge l y ≡ refuse (first_number l)) → judge (t ∷ l) y ≡ refuse (first_number (t ∷ l))
    go true e ih = stop_guard _ _ _ e ∙ ap refuse (sym (pick_true _ _ _ e))
    go false e ih = let p = pick_false t.holds t.number (first_number l) e in pass_guard _ _ _ e ∙ ih (λ f. n (p ∙ f)) ∙ ap refuse (sym p)

-- none holds: no refusal has the number 0
abbrev pub over : List Test → Bool
over [] = true
over (t ∷ l) = not (eqb t.number 0) && over l

pub all_passed : (l : List Test) → over l ≡ true → first_number l ≡ 0 → Passed l
all_passed [] o e = tt
all_passed (t ∷ l) o e = go t.holds refl (all_passed l (and_right (not (eqb t.number 0)) (over l) o))
  where
    go : (b : Bool) → t.holds ≡ b → (first_number l ≡ 0 → Passed l) → Passed (t ∷ l)
    go true f ih = absurd (eqb-false _ _ (not-true _ (and_left (not (eqb t.number 0)) (over l) o)) (sym (pick_true _ _ _ f) ∙ e))
    go false f ih = (f, ih (sym (pick_false _ _ _ f) ∙ e))

pub judge_done : {A : Type 0} (l : List Test) (y : Out A) → over l ≡ true → first_number l ≡ 0 → judge l y ≡ y
judge_done l y o e = pass_all l y (all_passed l o e)

-- ---- a test that reflects a fact: it is true where the fact holds, and false where it does not

abbrev pub Reflects : Bool → Type 0 → Type 0
Reflects b P = (b ≡ true → P) × (b ≡ false → P → ⊥)

-- the value of the test from the fact
pub reflects_yes : {b : Bool} {P : Type 0} → Reflects b P → P → b ≡ true
reflects_yes {b = true} r p = refl
reflects_yes {b = false} r p = absurd (r.1 refl p)

pub reflects_no : {b : Bool} {P : Type 0} → Reflects b P → (P → ⊥) → b ≡ false
reflects_no {b = true} r n = absurd (n (r.0 refl))
reflects_no {b = false} r n = refl

-- the fact or its contrary
pub reflects_cases : {b : Bool} {P : Type 0} → Reflects b P → P ⊎ (P → ⊥)
reflects_cases {b = true} r = inl (r.0 refl)
reflects_cases {b = false} r = inr (r.1 refl)

pub reflect_true : {P : Type 0} → P → Reflects true P
reflect_true p = (λ e. p, λ e. absurd (true≢false e))

pub reflect_false : {P : Type 0} → (P → ⊥) → Reflects false P
reflect_false n = (λ e. absurd (false≢true e), λ e. n)

pub reflect_eqb : (a b : ℕ) → Reflects (eqb a b) (a ≡ b)
reflect_eqb a b = (eqb-true a b, eqb-false a b)

pub reflect_ltb : (a b : ℕ) → Reflects (ltb a b) (a < b)
reflect_ltb a b = (ltb-true a b, λ e h. let g = ltb-false a b e in omega arith)

pub reflect_leb : (a b : ℕ) → Reflects (leb a b) (a ≤ b)
reflect_leb a b = (leb-true a b, λ e h. let g = leb-false a b e in omega arith)

-- whichever comparison of two numbers a test is
pub ruleset comparisons = (reflect_eqb, reflect_ltb, reflect_leb)

pub reflect_not : {b : Bool} {P : Type 0} → Reflects b P → Reflects (not b) (P → ⊥)
reflect_not {b} r = (λ e. r.1 (not-true b e), λ e n. n (r.0 (not-false b e)))

-- the second need only reflect its fact where the first holds
pub reflect_and_then : {a b : Bool} {P Q : Type 0} → Reflects a P → (a ≡ true → Reflects b Q) → Reflects (a && b) (P × Q)
reflect_and_then {a = true} r s = (λ e. (r.0 refl, (s refl).0 e), λ e p. (s refl).1 e p.1)
reflect_and_then {a = false} r s = (λ e. absurd (false≢true e), λ e p. r.1 refl p.0)

pub reflect_and : {a b : Bool} {P Q : Type 0} → Reflects a P → Reflects b Q → Reflects (a && b) (P × Q)
reflect_and r s = reflect_and_then r (λ _. s)

-- the second need only reflect its fact where the first does not hold
pub reflect_or_else : {a b : Bool} {P Q : Type 0} → Reflects a P → (a ≡ false → Reflects b Q) → Reflects (a || b) (P ⊎ Q)
reflect_or_else {a = true} r s = (λ e. inl (r.0 refl), λ e. absurd (true≢false e))
reflect_or_else {a = false} r s = (λ e. inr ((s refl).0 e), λ e. ⊎_elim (r.1 refl) ((s refl).1 e))

pub reflect_or : {a b : Bool} {P Q : Type 0} → Reflects a P → Reflects b Q → Reflects (a || b) (P ⊎ Q)
reflect_or r s = reflect_or_else r (λ _. s)

pub reflect_pick : {b x y : Bool} {P : Type 0} → (b ≡ true → Reflects x P) → (b ≡ false → Reflects y P) → Reflects (pick b x y) P
reflect_pick {b} {x} {y} {P} f g = pick_case (λ (z : Bool). Reflects z P) b x y f g

-- a test said in other words, and a fact said in other words
pub reflect_is : {b c : Bool} {P : Type 0} → b ≡ c → Reflects c P → Reflects b P
reflect_is e r = (λ f. r.0 (sym e ∙ f), λ f. r.1 (sym e ∙ f))

pub reflect_iff : {b : Bool} {P Q : Type 0} → Reflects b P → P ↔ Q → Reflects b Q
reflect_iff r i = (λ e. i.0 (r.0 e), λ e q. r.1 e (i.1 q))

-- ---- the first of a list

pub first_holds_lem : (P : ℕ → Type 0) (l : List ℕ) (n : ℕ) → First P l n → P n
first_holds_lem P (x ∷ l) n (inl h) = subst P (sym h.0) h.1
first_holds_lem P (x ∷ l) n (inr h) = first_holds_lem P l n h.1
first_holds_lem P [] n x' = elim x' [ ]

pub first_once : (P : ℕ → Type 0) (l : List ℕ) (m n : ℕ) → First P l m → First P l n → m ≡ n
first_once P (x ∷ l) m n (inl g) (inl h) = g.0 ∙ sym h.0
first_once P (x ∷ l) m n (inl g) (inr h) = absurd (h.0 g.1)
first_once P (x ∷ l) m n (inr g) (inl h) = absurd (g.0 h.1)
first_once P (x ∷ l) m n (inr g) (inr h) = first_once P l m n g.1 h.1
first_once P [] m n x'' _ = elim x'' [ ]

-- the first for a property that holds of the same numbers
pub first_iff : (P Q : ℕ → Type 0) (l : List ℕ) (n : ℕ) → ((m : ℕ) → P m ↔ Q m) → First P l n → First Q l n
first_iff P Q (x ∷ l) n i (inl h) = inl (h.0, (i x).0 h.1)
first_iff P Q (x ∷ l) n i (inr h) = inr (λ q. h.0 ((i x).1 q), first_iff P Q l n i h.1)
first_iff P Q [] n i x'' = elim x'' [ ]

-- ---- the rows leave one answer

-- refused with n if and only if n is the first row that applies
pub judged_refused : {A : Type 0} (cs : List Case) (o : Out A) (n : ℕ) → Judged cs o → (o ≡ refuse n) ↔ First (Applies cs) priority n
judged_refused cs (refuse m) n j =
    (λ e. subst (First (Applies cs) priority) (refuse_inj e) j, λ f. ap refuse (first_once (Applies cs) priority m n j f))
judged_refused cs (ok a) n j = (λ e. absurd (refuse_ok (sym e)), λ f. absurd (j n (first_holds_lem (Applies cs) priority n f)))

-- done if and only if no row applies
pub judged_done : {A : Type 0} (cs : List Case) (o : Out A) → Judged cs o → ((a : A) × (o ≡ ok a)) ↔ ((n : ℕ) → Applies cs n → ⊥)
judged_done cs (refuse m) j = (λ e. absurd (refuse_ok e.1), λ f. absurd (f m (first_holds_lem (Applies cs) priority m j)))
judged_done cs (ok a) j = (λ e. j, λ f. (a, refl))

-- no row applies, and what a done step gives is a: it gives a
pub judged_gives : {A : Type 0} (cs : List Case) (o : Out A) (a : A) → Judged cs o → ((b : A) → o ≡ ok b → ◌≡◌ {A = Out A} (ok a) (ok b)) → ((n : ℕ) → Applies cs n → ⊥) → o ≡ ok a
judged_gives cs o a j is none = let d = (judged_done cs o j).1 none in d.1 ∙ sym (is d.0 d.1)

-- two answers that the rows call for have one number
pub judged_once : {A B : Type 0} (cs : List Case) (x : Out A) (y : Out B) → Judged cs x → Judged cs y → number_of x ≡ number_of y
judged_once cs (refuse m) (refuse n) g h = first_once (Applies cs) priority m n g h
judged_once cs (refuse m) (ok b) g h = absurd (h m (first_holds_lem (Applies cs) priority m g))
judged_once cs (ok a) (refuse n) g h = absurd (g n (first_holds_lem (Applies cs) priority n h))
judged_once cs (ok a) (ok b) g h = refl

-- a refusal leaves what was lent as it was
pub left_refused : {A B : Type 0} {n : ℕ} (o : Out A) (b : B) (f : A → B) → n ≡ number_of o → (n ≡ 0 → ⊥) → left b f o ≡ b
left_refused (refuse n) b f e h = refl
left_refused (ok a) b f e h = absurd (h e)

-- ---- a ladder of tests and the rows that it stands for

-- the same numbers, and each test reflects its row where no earlier test holds
abbrev pub Matches : List Test → List Case → Type 0
Matches [] [] = Unit {0}
Matches [] (c ∷ cs) = ⊥
Matches (t ∷ l) [] = ⊥
Matches (t ∷ l) (c ∷ cs) = (t.number ≡ c.number) × Reflects t.holds c.when × (t.holds ≡ false → Matches l cs)

abbrev pub numbers : List Case → List ℕ
numbers [] = []
numbers (c ∷ cs) = c.number ∷ numbers cs

-- the first list stands in the second, in its order
abbrev pub in_order : List ℕ → List ℕ → Bool
in_order [] ps = true
in_order (n ∷ ns) [] = false
in_order (n ∷ ns) (p ∷ ps) = elim (eqb n p) [ true ↦ in_order ns ps | false ↦ in_order (n ∷ ns) ps ]

-- a row applies only under a number that is in the list
row_in : (cs : List Case) (ps : List ℕ) (m : ℕ) → in_order (numbers cs) ps ≡ true → Applies cs m → Mem m ps
row_in (c ∷ cs) [] m o a = absurd (false≢true o)
row_in (c ∷ cs) (p ∷ ps) m o a = go (eqb c.number p) refl o a (row_in cs ps m) (row_in (c ∷ cs) ps m)
  where
    go : (b : Bool) → eqb c.number p ≡ b → elim b [ true ↦ in_order (numbers cs) ps | false ↦ in_order (numbers (c ∷ cs)) ps ] ≡ true
        → Applies (c ∷ cs) m
        → (in_order (numbers cs) ps ≡ true → Applies cs m → Mem m ps)
        → (in_order (numbers (c ∷ cs)) ps ≡ true → Applies (c ∷ cs) m → Mem m ps)
        → Mem m (p ∷ ps)
    go true e o (inl h) ih jh = here (h.0 ∙ eqb-true c.number p e)
    go true e o (inr h) ih jh = there (ih o h)
    go false e o a ih jh = there (jh o a)
row_in [] ps m o a = elim a [ ]

-- a test that holds of every number of a list; one that holds of every two, the first before the second
abbrev every : (ℕ → Bool) → List ℕ → Bool
every f [] = true
every f (p ∷ ps) = f p && every f ps

abbrev pairwise : (ℕ → ℕ → Bool) → List ℕ → Bool
pairwise f [] = true
pairwise f (p ∷ ps) = every (f p) ps && pairwise f ps

every_in : (f : ℕ → Bool) (ps : List ℕ) (m : ℕ) → every f ps ≡ true → Mem m ps → f m ≡ true
every_in f (p ∷ ps) m e (here h) = ap f h ∙ and_left (f p) (every f ps) e
every_in f (p ∷ ps) m e (there h) = every_in f ps m (and_right (f p) (every f ps) e) h
every_in f [] m e x'' = elim x'' [ ]

abbrev differ : ℕ → ℕ → Bool
differ a b = not (eqb a b)

-- Judged, over any order of the numbers
abbrev JudgedBy : {A : Type 0} → List ℕ → List Case → Out A → Type 0
JudgedBy ps cs (refuse n) = First (Applies cs) ps n
JudgedBy ps cs (ok a) = (n : ℕ) → Applies cs n → ⊥

-- one number more in front, under which no row applies
later : {A : Type 0} (p : ℕ) (ps : List ℕ) (cs : List Case) (o : Out A) → (Applies cs p → ⊥) → JudgedBy ps cs o → JudgedBy (p ∷ ps) cs o
later p ps cs (refuse n) f j = inr (f, j)
later p ps cs (ok a) f j = j

-- one row more in front, which does not apply
skip : {A : Type 0} (ps : List ℕ) (c : Case) (cs : List Case) (o : Out A) → (c.when → ⊥) → JudgedBy ps cs o → JudgedBy ps (c ∷ cs) o
skip ps c cs (refuse n) f j =
    first_iff (Applies cs) (Applies (c ∷ cs)) ps n (λ m. (λ a. inr a, λ a. ⊎_elim (λ h. absurd (f h.1)) (λ h. h) a)) j
skip ps c cs (ok a) f j = λ n. ⊎_elim (λ g. f g.1) (j n)

judged_by : {A : Type 0} (ps : List ℕ) (l : List Test) (cs : List Case) → pairwise differ ps ≡ true → Matches l cs → in_order (numbers cs) ps ≡ true → (a : A)
    → JudgedBy ps cs (judge l (ok a))
judged_by ps [] [] d m o a = λ n h. h
judged_by [] (t ∷ l) (c ∷ cs) d m o a = absurd (false≢true o)
judged_by (p ∷ ps) (t ∷ l) (c ∷ cs) d m o a =
    go (eqb c.number p) refl o t.holds refl (λ f q. judged_by ps l cs rest f q a) (λ q. judged_by ps (t ∷ l) (c ∷ cs) rest m q a)
  where
    rest : pairwise differ ps ≡ true
    rest = and_right (every (differ p) ps) (pairwise differ ps) d

    other : (ds : List Case) → in_order (numbers ds) ps ≡ true → Applies ds p → ⊥
    other ds o h =
        let e : differ p p ≡ true = every_in (differ p) ps p (and_left (every (differ p) ps) (pairwise differ ps) d) (row_in ds ps p o h) in
        eqb-false p p (not-true (eqb p p) e) refl

    go : (b : Bool) → eqb c.number p ≡ b → elim b [ true ↦ in_order (numbers cs) ps | false ↦ in_order (numbers (c ∷ cs)) ps ] ≡ true
        → (h : Bool) → t.holds ≡ h
        → (Matches l cs → in_order (numbers cs) ps ≡ true → JudgedBy ps cs (judge l (ok a)))
        → (in_order (numbers (c ∷ cs)) ps ≡ true → JudgedBy ps (c ∷ cs) (judge (t ∷ l) (ok a)))
        → JudgedBy (p ∷ ps) (c ∷ cs) (judge (t ∷ l) (ok a))
    go true e o true f ih jh =
        let q : c.number ≡ p = eqb-true c.number p e in
        subst (JudgedBy (p ∷ ps) (c ∷ cs)) (sym (stop_guard t.holds t.number (judge l (ok a)) f)) (inl (m.0 ∙ q, inl (sym q, m.1.0 f)))
    go true e o false f ih jh =
        let no : Applies (c ∷ cs) p → ⊥ = ⊎_elim (λ g. m.1.1 f g.1) (other cs o) in
        subst (JudgedBy (p ∷ ps) (c ∷ cs)) (sym (pass_guard t.holds t.number (judge l (ok a)) f))
        (later p ps (c ∷ cs) (judge l (ok a)) no (skip ps c cs (judge l (ok a)) (m.1.1 f) (ih (m.2 f) o)))
    go false e o h f ih jh = later p ps (c ∷ cs) (judge (t ∷ l) (ok a)) (other (c ∷ cs) o) (jh o)
judged_by {A = A} ps [] (c ∷ cs) d m o a = elim m [ ]
judged_by {A = A} [] (t ∷ l) [] d m o a = elim m [ ]
judged_by {A = A} (p ∷ ps) (t ∷ l) [] d m o a = elim m [ ]

-- a ladder whose tests stand for the rows, in the order of the numbers, gives what the rows call for
pub judged : {A : Type 0} (l : List Test) (cs : List Case) → Matches l cs → in_order (numbers cs) priority ≡ true → (a : A) → Judged cs (judge l (ok a))
judged l cs m o a = go (judge l (ok a)) (judged_by priority l cs refl m o a)
  where
    go : {A : Type 0} (o : Out A) → JudgedBy priority cs o → Judged cs o
    go (refuse n) j = j
    go (ok a) j = j

-- rows one behind the other
pub matches_append : (l m : List Test) (cs ds : List Case) → Matches l cs → (Passed l → Matches m ds) → Matches (l ++ m) (cs ++ ds)
matches_append [] m [] ds x y = y tt
matches_append (t ∷ l) m (c ∷ cs) ds x y = (x.0, x.1, λ e. matches_append l m cs ds (x.2 e) (λ p. y (e, p)))
matches_append [] m (c ∷ cs) ds x y = elim x [ ]
matches_append (t ∷ l) m [] ds x y = elim x [ ]

-- rows that apply only under W, where W holds
pub matches_under : (W : Type 0) (l : List Test) (cs : List Case) → W → Matches l cs → Matches l (under W cs)
matches_under W [] [] w m = m
matches_under W (t ∷ l) (c ∷ cs) w m = (m.0, reflect_iff m.1 (λ p. (w, p), λ p. p.1), λ e. matches_under W l cs w (m.2 e))
matches_under W [] (c ∷ cs) w m = elim m [ ]
matches_under W (t ∷ l) [] w m = elim m [ ]

-- ---- of several that apply, the lowest is given

lowest : (P : ℕ → Type 0) (ps : List ℕ) (n m : ℕ) → pairwise ltb ps ≡ true → First P ps n → P m → Mem m ps → n ≤ m
lowest P (p ∷ ps) n m d (inl f) h (here e) = let g = f.0 in omega arith
lowest P (p ∷ ps) n m d (inl f) h (there i) =
    let g = f.0 in
    let l = ltb-true p m (every_in (ltb p) ps m (and_left (every (ltb p) ps) (pairwise ltb ps) d) i) in
    omega arith
lowest P (p ∷ ps) n m d (inr f) h (here e) = absurd (f.0 (subst P e h))
lowest P (p ∷ ps) n m d (inr f) h (there i) = lowest P ps n m (and_right (every (ltb p) ps) (pairwise ltb ps) d) f.1 h i
lowest P [] n m d x4 h _ = elim x4 [ ]

pub judged_lowest : (cs : List Case) (n m : ℕ) → in_order (numbers cs) priority ≡ true → First (Applies cs) priority n → Applies cs m → n ≤ m
judged_lowest cs n m o f h = lowest (Applies cs) priority n m refl f h (row_in cs priority m o h)

-- ---- whether two lists are the same

pub reflect_eqs : (a b : List ℕ) → Reflects (eqs a b) (a ≡ b)
reflect_eqs [] [] = reflect_true refl
reflect_eqs [] (y ∷ b) = reflect_false (λ e. let h = ap length e in omega arith)
reflect_eqs (x ∷ a) [] = reflect_false (λ e. let h = ap length e in omega arith)
reflect_eqs (x ∷ a) (y ∷ b) =
    reflect_iff (reflect_and (reflect_eqb x y) (reflect_eqs a b)) (λ p. ap₂ ◌∷◌ p.0 p.1, λ e. (ap (λ (l : List ℕ). get_or l 0 0) e, ap (drop 1) e))
