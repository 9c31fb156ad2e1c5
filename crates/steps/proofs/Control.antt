-- Controller steps: each gives the first refusal of document 01's table that applies, and is done where none applies.
use Prim.Native.Nat.{ℕ, ◌<◌}
use mathlib.Core.Path.{◌≡◌, refl, sym, ◌∙◌, subst}
use mathlib.Core.Bool.{Bool, true, false, ◌||◌, not, true≢false}
use mathlib.Core.List.{List, [], ◌∷◌}
use mathlib.Core.Logic.{◌⊎◌}
use native.Mathlib.Omega.{arith}
use lib.ListN.{length, get_or}
use lib.Dec.{eqb}
use borrow.Author.Tests.{not-false}
use Rattle.wire.specs.Numbers.{Judged, test, broken, out_of_turn}
use Rattle.wire.specs.Version.{top_stamp, top_session}
use Rattle.wire.proofs.Numbers.{judged, comparisons, or_false, Reflects, reflect_true, reflect_false, reflect_eqb, reflect_ltb, reflect_leb, reflect_not, reflect_and, reflect_or, reflect_iff, reflects_no}
use Rattle.store.specs.Table.{Slot, table_of, table_ok, TableRules, find, lowest_free, free_slot, free}
use Rattle.store.proofs.Find.{free_none, none_free, reflect_free}
use Rattle.store.proofs.Rules.{reflect_table}
use Rattle.std.specs.Prelude.{Option, Some, None}
use Rattle.steps.specs.declared.Joining.{Joining}
use Rattle.steps.specs.declared.Change.{Change}
use Rattle.steps.specs.declared.Change.TheVariants.{Still, Before, After}
use Rattle.steps.specs.declared.Chain.{Chain}
use Rattle.steps.specs.Chain.{members, First, is_open, when_open, Opened, chain_ok, ChainRules}
use Rattle.steps.specs.Node.{Missing, is_nothing}
use Rattle.steps.specs.Control.{Open, becomes_first, open_tests, open_call, open_step, open_rows, fence_tests, fence_call, fence_step, fence_rows, copy_tests, copy_call, copy_step, copy_rows, activate_tests, activate_call, activate_step, activate_rows, cancel_call, cancel_step, cancel_rows, remove_tests, remove_call, remove_step, remove_rows, enter_tests, enter_call, enter_step, enter_rows}
use Rattle.steps.proofs.ChainIds.{reflect_memb, reflect_first, reflect_last, memb_true}
use Rattle.steps.proofs.ChainPlaces.{length_members}
use Rattle.steps.proofs.ChainRules.{reflect_chain}
use Rattle.steps.proofs.Node.{found_missing, at_nothing}

-- ---- tests of a bool and of the state of change

reflect_mark : (b : Bool) → Reflects b (b ≡ true)
reflect_mark b = (λ e. e, λ e f. true≢false (sym f ∙ e))

pub reflect_clear : (b : Bool) → Reflects (not b) (b ≡ false)
reflect_clear true = reflect_false true≢false
reflect_clear false = reflect_true refl

reflect_open : (ch : Change) → Reflects (is_open ch) (Open ch)
reflect_open Still = reflect_false (λ p. elim p.1 [ ])
reflect_open (Before j) = reflect_true (j, Opened.before)
reflect_open (After j) = reflect_true (j, Opened.after)

-- a test of the open change, and one that does not look at it
reflect_when : (ch : Change) (f : Joining → Bool) (P : Joining → Type 0) → ((j : Joining) → Reflects (f j) (P j)) → Reflects (when_open ch f) ((j : Joining) × Opened ch j × P j)
reflect_when Still f P r = reflect_false (λ p. elim p.1 [ ])
reflect_when (Before j) f P r = reflect_iff (r j) (λ p. (j, Opened.before, p), back)
  where
    back : (k : Joining) × Opened (Before j) k × P k → P j
    back (k, Opened.before, p) = p
reflect_when (After j) f P r = reflect_iff (r j) (λ p. (j, Opened.after, p), back)
  where
    back : (k : Joining) × Opened (After j) k × P k → P j
    back (k, Opened.after, p) = p

reflect_while : (ch : Change) {b : Bool} {P : Type 0} → Reflects b P → Reflects (when_open ch (λ j. b)) (Open ch × P)
reflect_while ch {b} {P} r = reflect_iff (reflect_when ch (λ j. b) (λ j. P) (λ j. r)) (λ p. ((p.0, p.1), p.2), λ q. (q.0.0, q.0.1, q.1))

-- ---- tests of a table

reflect_nothing : (f : Option ℕ) → Reflects (is_nothing f) (f ≡ None)
reflect_nothing None = reflect_true refl
reflect_nothing (Some i) = reflect_false at_nothing

reflect_missing : (k : List ℕ) (l : List Slot) → Reflects (is_nothing (find k l)) (Missing k l)
reflect_missing k l = reflect_iff (reflect_nothing (find k l)) (found_missing k l)

reflect_full : (l : List Slot) → Reflects (is_nothing (lowest_free l)) ((i : ℕ) → i < length l → (get_or l i free_slot).state ≡ free → ⊥)
reflect_full l =
    reflect_iff (reflect_nothing (lowest_free l))
    (λ e i b. (reflect_free (get_or l i free_slot)).1 (free_none l e i b), λ n. none_free l (λ i b. reflects_no (reflect_free (get_or l i free_slot)) (n i b)))

-- ---- the steps

-- the new node would be first
reflect_becomes : (r : Chain) (ch : Change) → 0 < length (members r) → Reflects (becomes_first r ch) ((j : Joining) × (ch ≡ Before j) × First j.named (members r))
reflect_becomes r Still h = reflect_false (λ p. let e : Still ≡ Before p.0 = p.1 in let z : ◌≡◌ {A = ℕ} 0 1 = cc in omega arith)
reflect_becomes r (Before j) h =
    reflect_iff (reflect_first j.named (members r) h)
    (λ f. (j, refl, f), λ p. let e : Before j ≡ Before p.0 = p.1 in let q : p.0 ≡ j = cc in subst (λ (k : Joining). First k.named (members r)) q p.2)
reflect_becomes r (After j) h = reflect_false (λ p. let e : After j ≡ Before p.0 = p.1 in let z : ◌≡◌ {A = ℕ} 0 1 = cc in omega arith)

pub some_members : (r : Chain) → ChainRules r → 0 < length (members r)
some_members r k = rw (length_members r.length r.places k.eight k.few) k.some

-- what a passed test of rules says
pub holds : {a : Bool} {P : Type 0} → Reflects a P → not a ≡ false → P
holds {a} r e = r.0 (not-false a e)

pub holds_and : {a b : Bool} {P : Type 0} → Reflects a P → (not a || b) ≡ false → P × (b ≡ false)
holds_and {a} {b} r e = let o = or_false (not a) b e in (holds r o.0, o.1)

-- a row that applies only where something is there to speak of
given : {W P : Type 0} {b : Bool} → W → Reflects b P → Reflects b (W × P)
given w r = reflect_iff r (λ p. (w, p), λ p. p.1)

pub open_judged : (r : Chain) (after : Bool) (named fresh : ℕ) → Judged (open_rows r after named fresh) (open_call r after named fresh)
unfolding open_call open_step
open_judged r after named fresh =
    judged (test broken (not (chain_ok r)) ∷ open_tests r after named fresh) (open_rows r after named fresh) (
      refl,
      reflect_not (reflect_chain r),
      λ e.
          let k = holds (reflect_chain r) e in (
            refl,
            given k (reflect_eqb r.wiring.0 top_stamp),
            λ _. (
              refl,
              given k (reflect_open r.change),
              λ _. (
                refl,
                given k (reflect_or (reflect_not (reflect_memb named (members r))) (reflect_and (reflect_mark after) (reflect_not (reflect_last named (members r) (some_members r k))))),
                λ _. (
                  refl,
                  given k (reflect_leb fresh r.highest),
                  λ _.
                      (refl, given k (search comparisons), λ _. tt),
                ),
              ),
            ),
          ),
    )
    refl _

pub fence_judged : (r : Chain) (t : List ℕ) → Judged (fence_rows r t) (fence_call r t)
unfolding fence_call fence_step
fence_judged r t =
    judged (test broken (not (chain_ok r) || not (table_ok t)) ∷ fence_tests r (table_of t)) (fence_rows r t) (
      refl,
      reflect_or (reflect_not (reflect_chain r)) (reflect_not (reflect_table t)),
      λ e.
          let c = holds_and (reflect_chain r) e in
          let k : ChainRules r × TableRules t = (c.0, holds (reflect_table t) c.1) in (
            refl,
            given k (reflect_not (reflect_open r.change)),
            λ _. (
              refl,
              given k (reflect_when r.change (λ j. not (eqb (table_of t).id j.named)) (λ j. (table_of t).id ≡ j.named → ⊥) (λ j. reflect_not (reflect_eqb (table_of t).id j.named))),
              λ _. (
                refl,
                given k (reflect_while r.change (reflect_not (reflect_eqb (length (table_of t).slots) r.count))),
                λ _.
                    (refl, given k (reflect_while r.change (reflect_ltb r.wiring.0 (table_of t).fence.0)), λ _. tt),
              ),
            ),
          ),
    )
    refl _

pub copy_judged : (r : Chain) (i : ℕ) (named fresh : List ℕ) → Judged (copy_rows r i named fresh) (copy_call r i named fresh)
unfolding copy_call copy_step
copy_judged r i named fresh =
    judged (test broken (not (chain_ok r) || (not (table_ok named) || not (table_ok fresh))) ∷ copy_tests r i (table_of named) (table_of fresh)) (copy_rows r i named fresh) (
      refl,
      reflect_or (reflect_not (reflect_chain r)) (reflect_or (reflect_not (reflect_table named)) (reflect_not (reflect_table fresh))),
      λ e.
          let c = holds_and (reflect_chain r) e in
          let d = holds_and (reflect_table named) c.1 in
          let k : ChainRules r × TableRules named × TableRules fresh = (c.0, d.0, holds (reflect_table fresh) d.1) in (
            refl,
            given k (reflect_or (reflect_not (reflect_open r.change))
                (reflect_when r.change _ (λ j. (j.fenced ≡ false) ⊎ ((i ≡ j.next → ⊥) ⊎ (j.next ≡ r.count)))
                (λ j. reflect_or (reflect_clear j.fenced) (reflect_or (reflect_not (reflect_eqb i j.next)) (reflect_eqb j.next r.count))))),
            λ _. (
              refl,
              given k (reflect_when r.change _ (λ j. ((table_of named).id ≡ j.named → ⊥) ⊎ ((table_of fresh).id ≡ j.fresh → ⊥))
                  (λ j. reflect_or (reflect_not (reflect_eqb (table_of named).id j.named)) (reflect_not (reflect_eqb (table_of fresh).id j.fresh)))),
              λ _.
                  (refl, given k (reflect_while r.change (reflect_or (reflect_not (reflect_eqb (length (table_of named).slots) r.count)) (reflect_not (reflect_eqb (length (table_of fresh).slots) r.count)))), λ _. tt),
            ),
          ),
    )
    refl _

pub activate_judged : (r : Chain) → Judged (activate_rows r) (activate_call r)
unfolding activate_call activate_step
activate_judged r =
    judged (test broken (not (chain_ok r)) ∷ activate_tests r) (activate_rows r) (
      refl,
      reflect_not (reflect_chain r),
      λ e.
          let k = holds (reflect_chain r) e in (
            refl,
            given k (reflect_iff (reflect_and (reflect_becomes r r.change (some_members r k)) (reflect_eqb r.session.0 top_session))
                (λ p. (p.0.0, p.0.1, p.0.2, p.1), λ q. ((q.0, q.1, q.2), q.3))),
            λ _.
                (refl, given k (reflect_or (reflect_not (reflect_open r.change)) (reflect_when r.change _ (λ j. j.next < r.count) (λ j. reflect_ltb j.next r.count))), λ _. tt),
          ),
    )
    refl _

pub cancel_judged : (r : Chain) → Judged (cancel_rows r) (cancel_call r)
unfolding cancel_call cancel_step
cancel_judged r =
    judged (test broken (not (chain_ok r)) ∷ test out_of_turn (not (is_open r.change)) ∷ []) (cancel_rows r)
    (refl, reflect_not (reflect_chain r), λ e. (refl, given (holds (reflect_chain r) e) (reflect_not (reflect_open r.change)), λ _. tt))
    refl _

pub remove_judged : (r : Chain) (id : ℕ) → Judged (remove_rows r id) (remove_call r id)
unfolding remove_call remove_step
remove_judged r id =
    judged (test broken (not (chain_ok r)) ∷ remove_tests r id) (remove_rows r id) (
      refl,
      reflect_not (reflect_chain r),
      λ e.
          let k = holds (reflect_chain r) e in (
            refl,
            given k (reflect_and (reflect_first id (members r) (some_members r k)) (reflect_eqb r.session.0 top_session)),
            λ _. (
              refl,
              given k (reflect_open r.change),
              λ _. (
                refl,
                given k (reflect_not (reflect_memb id (members r))),
                λ m.
                    (refl, given k (reflect_iff (reflect_eqb r.length 1) (λ n. (n, memb_true id (members r) (not-false _ m)), λ p. p.0)), λ _. tt),
              ),
            ),
          ),
    )
    refl _

pub enter_judged : (r : Chain) (t : List ℕ) (id : ℕ) (key : List ℕ) → Judged (enter_rows r t id key) (enter_call r t id key)
unfolding enter_call enter_step
enter_judged r t id key =
    judged (test broken (not (chain_ok r) || not (table_ok t)) ∷ enter_tests r (table_of t) id key) (enter_rows r t id key) (
      refl,
      reflect_or (reflect_not (reflect_chain r)) (reflect_not (reflect_table t)),
      λ e.
          let c = holds_and (reflect_chain r) e in
          let k : ChainRules r × TableRules t = (c.0, holds (reflect_table t) c.1) in (
            refl,
            given k (reflect_open r.change),
            λ _. (
              refl,
              given k (reflect_or (reflect_not (reflect_memb id (members r))) (reflect_not (reflect_eqb (table_of t).id id))),
              λ _. (
                refl,
                given k (reflect_not (reflect_eqb (length (table_of t).slots) r.count)),
                λ _. (
                  refl,
                  given k (reflect_not (reflect_missing key (table_of t).slots)),
                  λ _.
                      (refl, given k (reflect_full (table_of t).slots), λ _. tt),
                ),
              ),
            ),
          ),
    )
    refl _
