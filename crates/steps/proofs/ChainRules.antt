-- The rules of a record: the tests hold exactly where document 01's rules do; and a starting record, when it is made and that it keeps them.
use Prim.Native.Nat.{ℕ, ◌<◌, ◌≤◌}
use mathlib.Core.Path.{◌≡◌, refl, sym}
use mathlib.Core.Bool.{Bool, true, false, ◌||◌, not, true≢false}
use mathlib.Core.List.Memᴰ.{head as here}
use mathlib.Core.List.Memᴰ.{tail as there}
use mathlib.Core.List.{List, [], ◌∷◌, Memᴰ as Mem}
use mathlib.Core.Logic.{inl}
use native.Mathlib.Omega.{arith}
use lib.ListN.{length, take, drop}
use borrow.Author.Tests.{ltb-true, ltb-false}
use Rattle.wire.specs.Numbers.{ok, Judged, Applies, test, broken}
use Rattle.wire.proofs.Numbers.{pick_case, past, judged, judged_gives, Reflects, reflect_true, reflect_eqb, reflect_ltb, reflect_leb, reflect_not, reflect_and, reflect_and_then, reflect_iff}
use Rattle.store.specs.Table.{Zero, most_slots}
use Rattle.store.proofs.Rules.{reflect_zero}
use Rattle.steps.specs.declared.Joining.{Joining}
use Rattle.steps.specs.declared.Change.{Change}
use Rattle.steps.specs.declared.Change.TheVariants.{Still, Before, After}
use Rattle.steps.specs.declared.Chain.{Chain}
use Rattle.steps.specs.Chain.{most_nodes, members, Distinct, apart, none_above, joining_ok, change_ok, chain_ok, JoiningRules, ChangeRules, ChainRules, largest, start_chain, start_call, start_rows}
use Rattle.steps.proofs.ChainIds.{reflect_memb, reflect_last, mem_some}

-- ---- each rule

-- ids distinct and not 0
reflect_apart : (l : List ℕ) → Reflects (apart l) (Distinct l × (Mem 0 l → ⊥))
unfolding apart
reflect_apart [] = reflect_true (tt, λ m. elim m [ ])
reflect_apart (x ∷ l) =
    reflect_iff
    (reflect_and (reflect_not (reflect_eqb x 0)) (reflect_and (reflect_not (reflect_memb x l)) (reflect_apart l)))
    (λ p. ((p.1.0, p.1.1.0), off p), λ q. ((λ e. q.1 (here (sym e))), (q.0.0, (q.0.1, λ m. q.1 (there m)))))
  where
    off : (x ≡ 0 → ⊥) × ((Mem x l → ⊥) × (Distinct l × (Mem 0 l → ⊥))) → Mem 0 (x ∷ l) → ⊥
    off p (here e) = p.0 (sym e)
    off p (there m) = p.1.1.1 m

-- none above h
reflect_above : (h : ℕ) (l : List ℕ) → Reflects (none_above h l) ((j : ℕ) → Mem j l → j ≤ h)
unfolding none_above
reflect_above h [] = reflect_true (λ j m. elim m [ ])
reflect_above h (x ∷ l) =
    reflect_iff (reflect_and (reflect_leb x h) (reflect_above h l)) (all, λ q. (q x (here refl), λ j m. q j (there m)))
  where
    all : (x ≤ h) × ((j : ℕ) → Mem j l → j ≤ h) → (j : ℕ) → Mem j (x ∷ l) → j ≤ h
    all p j (here e) = rw e p.0
    all p j (there m) = p.1 j m

-- where a mark is missing
reflect_unless : (b : Bool) {c : Bool} {P : Type 0} → Reflects c P → Reflects (b || c) (b ≡ false → P)
reflect_unless true r = reflect_true (λ e. absurd (true≢false e))
reflect_unless false r = reflect_iff r (λ p e. p, λ f. f refl)

-- ---- the open change

pub reflect_joining : (r : Chain) (j : Joining) → Reflects (joining_ok r j) (JoiningRules r j)
unfolding joining_ok
reflect_joining r j =
    reflect_iff
    (reflect_and (reflect_memb j.named (members r))
    (reflect_and (reflect_not (reflect_memb j.fresh (members r)))
    (reflect_and (reflect_eqb j.fresh r.highest)
    (reflect_and (reflect_ltb r.length most_nodes)
    (reflect_and (reflect_leb j.next r.count)
    (reflect_unless j.fenced (reflect_eqb j.next 0))))))) (
      λ p. record {
        named = p.0;
        outside = p.1.0;
        highest = p.1.1.0;
        room = p.1.1.1.0;
        next = p.1.1.1.1.0;
        unfenced = p.1.1.1.1.1;
      },
      λ q. (q.named, (q.outside, (q.highest, (q.room, (q.next, q.unfenced))))),
    )

reflect_change : (r : Chain) (ch : Change) → Reflects (change_ok r ch) (ChangeRules r ch)
reflect_change r Still = reflect_true tt
reflect_change r (Before j) = reflect_joining r j
reflect_change r (After j) =
    reflect_and_then (reflect_joining r j)
    (λ e. reflect_last j.named (members r) (mem_some ((reflect_joining r j).0 e).named))

-- ---- the record

pub reflect_chain : (r : Chain) → Reflects (chain_ok r) (ChainRules r)
unfolding chain_ok
reflect_chain r =
    reflect_iff
    (reflect_and (reflect_and (reflect_ltb 0 r.length) (reflect_leb r.length most_nodes))
    (reflect_and (reflect_eqb (length r.places) most_nodes)
    (reflect_and (reflect_apart (members r))
    (reflect_and (reflect_zero (drop r.length r.places))
    (reflect_and (reflect_not (reflect_eqb r.session.0 0))
    (reflect_and (reflect_above r.highest (members r))
    (reflect_and (reflect_and (reflect_ltb 0 r.count) (reflect_leb r.count most_slots))
    (reflect_change r r.change)))))))) (
      λ p. record {
        some = p.0.0;
        few = p.0.1;
        eight = p.1.0;
        distinct = p.1.1.0.0;
        nonzero = p.1.1.0.1;
        unused = p.1.1.1.0;
        session = p.1.1.1.1.0;
        highest = p.1.1.1.1.1.0;
        count_some = p.1.1.1.1.1.1.0.0;
        count_few = p.1.1.1.1.1.1.0.1;
        change = p.1.1.1.1.1.1.1;
      },
      λ q. ((q.some, q.few), (q.eight, ((q.distinct, q.nonzero), (q.unused, (q.session, (q.highest, ((q.count_some, q.count_few), q.change))))))),
    )

-- ---- at the start

-- the largest is in the list, and none is above it
pub largest_mem : (l : List ℕ) → 0 < length l → Mem (largest l) l
unfolding largest
largest_mem [] h = absurd (omega arith)
largest_mem (x ∷ []) h = pick_case (λ n. Mem n (x ∷ [])) _ _ _ (λ e. here refl) (λ e. let g = ltb-false 0 x e in here (omega arith))
largest_mem (x ∷ (y ∷ l)) h = pick_case (λ n. Mem n (x ∷ (y ∷ l))) _ _ _ (λ e. here refl) (λ e. there (largest_mem (y ∷ l) (omega arith)))

pub largest_above : (j : ℕ) (l : List ℕ) → Mem j l → j ≤ largest l
unfolding largest
largest_above j (x ∷ l) (here e) = pick_case (λ n. j ≤ n) _ _ _ (λ f. omega arith) (λ f. let g = ltb-false (largest l) x f in omega arith)
largest_above j (x ∷ l) (there m) = let h = largest_above j l m in pick_case (λ n. j ≤ n) _ _ _ (λ f. let g = ltb-true (largest l) x f in omega arith) (λ f. h)
largest_above j [] x' = elim x' [ ]

pub start_judged : (n : ℕ) (places : List ℕ) (count : ℕ) → Judged (start_rows n places count) (start_call n places count)
unfolding start_call
start_judged n places count = judged (test broken (not (chain_ok (start_chain n places count))) ∷ []) (start_rows n places count) (refl, reflect_not (reflect_chain (start_chain n places count)), λ e. tt) refl _

-- of any ids of which a chain may be made, and any slot count of a table
module _ (n : ℕ) (places : List ℕ) (count : ℕ)
    (some : 0 < n) (few : n ≤ most_nodes) (eight : length places ≡ most_nodes)
    (distinct : Distinct (take n places)) (nonzero : Mem 0 (take n places) → ⊥) (unused : Zero (drop n places))
    (count_some : 0 < count) (count_few : count ≤ most_slots) where
  -- it keeps the rules
  pub start_rules : ChainRules (start_chain n places count)
  unfolding start_chain
  start_rules = record {
    some = some;
    few = few;
    eight = eight;
    distinct = distinct;
    nonzero = nonzero;
    unused = unused;
    session = λ e. omega arith;
    highest = λ j m. largest_above j (take n places) m;
    count_some = count_some;
    count_few = count_few;
    change = tt;
  }

  -- it is made
  pub start_done : start_call n places count ≡ ok (start_chain n places count)
  unfolding start_call
  start_done = judged_gives (start_rows n places count) (start_call n places count) (start_chain n places count) (start_judged n places count) (λ b e. (past _ _ _ _ e).1) none
    where
      none : (m : ℕ) → Applies (start_rows n places count) m → ⊥
      none m (inl (e, b)) = b start_rules
      none m (mathlib.Core.Logic.inr x') = elim x' [ ]
