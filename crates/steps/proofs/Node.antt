-- The node step: the slot that has a key, and that the number given is the first row of document 01 that applies.
use Prim.Native.Nat.{ℕ, ◌≤◌}
use mathlib.Core.Path.{◌≡◌, refl, sym, ap, ◌∙◌, subst}
use mathlib.Core.List.{List, ◌∷◌}
use mathlib.Core.Bool.{Bool, false, not}
use mathlib.Core.Logic.{◌↔◌, ⊎_elim}
use native.Mathlib.Omega.{arith}
use lib.ListN.{length, get_or}
use lib.Dec.{ltb}
use borrow.Author.Tests.{not-false, ltb-false, le-ltb}
use Rattle.wire.specs.Numbers.{ok, test, broken, small_outlet, malformed, Judged}
use Rattle.wire.specs.Version.{same_session}
use Rattle.wire.specs.Packet.{Packet, packet_of, well_formed, Formed, outlet_size}
use Rattle.wire.specs.declared.Session.{Session}
use Rattle.wire.proofs.Numbers.{past, pass_guard, Reflects, reflects_cases, reflects_no, reflects_yes, reflect_true, reflect_false, reflect_eqb, reflect_ltb, reflect_not, reflect_and, reflect_or, reflect_iff, Matches, matches_under, judged}
use Rattle.wire.proofs.Versions.{reflect_newer}
use Rattle.wire.proofs.Packet.{reflect_formed}
use Rattle.store.specs.Table.{Slot, Table, table_of, table_ok, TableRules, has, find, free_slot, free}
use Rattle.std.specs.Prelude.{Option, Some, None}
use Rattle.store.proofs.Rules.{reflect_table}
use Rattle.store.proofs.Find.{find_at, at_find, find_none, none_find, reflect_has}
use Rattle.steps.specs.Node.{Sent, node_step, node_call, node_tests, node_does, when_found, is_nothing, is_read, is_numbered, is_unnumbered, Alters, Numbered, Unnumbered, Stands, Missing, AtKey, node_step_rows, node_rows}

-- a fact that a test reflects holds if it cannot fail
pub stable : {b : Bool} {P : Type 0} → Reflects b P → ((P → ⊥) → ⊥) → P
stable r n = ⊎_elim (λ h. h) (λ d. absurd (n d)) (reflects_cases r)

-- ---- the slot that has a key

-- a slot has not the key: if it has it, it is free
unused : (k : List ℕ) (s : Slot) → (has k s ≡ false) ↔ (s.key ≡ k → s.state ≡ free)
unused k s = (λ e h. stable (reflect_eqb _ _) (λ n. (reflect_has k s).1 e (n, h)), λ f. reflects_no (reflect_has k s) (λ p. p.0 (f p.1)))

pub found_stands : (k : List ℕ) (l : List Slot) (i : ℕ) → find k l ≡ Some i → Stands k l i (get_or l i free_slot)
found_stands k l i e =
    let a = find_at k l i e in
    let h = (reflect_has k (get_or l i free_slot)).0 a.passes in
    record { below = a.below; at = refl; used = h.0; key = h.1; lowest = λ j b. (unused k (get_or l j free_slot)).0 (a.lowest j b) }

pub stands_found : {k : List ℕ} {l : List Slot} {i : ℕ} {s : Slot} → Stands k l i s → find k l ≡ Some i
stands_found {k} {l} {i} {s} h =
    at_find k l i
    (record {
      below = h.below;
      passes = ap (has k) h.at ∙ reflects_yes (reflect_has k s) (h.used, h.key);
      lowest = λ j b. (unused k (get_or l j free_slot)).1 (h.lowest j b);
    })

pub found_missing : (k : List ℕ) (l : List Slot) → (find k l ≡ None) ↔ Missing k l
found_missing k l =
    (λ e j b. (unused k (get_or l j free_slot)).0 (find_none k l e j b), λ m. none_find k l (λ j b. (unused k (get_or l j free_slot)).1 (m j b)))

pub at_inj : {i j : ℕ} → ◌≡◌ {A = Option ℕ} (Some i) (Some j) → i ≡ j
at_inj e = cc

pub at_nothing : {i : ℕ} → ◌≡◌ {A = Option ℕ} (Some i) None → ⊥
at_nothing e = let z : ◌≡◌ {A = ℕ} 0 1 = cc in omega arith

-- ---- the rows

-- two sessions are one where their numbers are
reflect_session : (a b : Session) → Reflects (same_session a b) (b ≡ a)
reflect_session a b = reflect_iff (reflect_eqb a.0 b.0) (λ e. λ i. record { 0 = sym e i }, λ e. ap (λ (s : Session). s.0) (sym e))

-- kinds of queries
pub reflect_alters : (p : Packet) → Reflects (not (is_read p)) (Alters p)
reflect_alters p = reflect_not (reflect_eqb _ _)

pub reflect_numbered : (p : Packet) → Reflects (is_numbered p) (Numbered p)
reflect_numbered p = reflect_and (reflect_alters p) (reflect_not (reflect_eqb _ _))

pub reflect_unnumbered : (p : Packet) → Reflects (is_unnumbered p) (Unnumbered p)
reflect_unnumbered p = reflect_and (reflect_alters p) (reflect_eqb _ _)

module _ (t : Table) (p : Packet) where
  reflect_missing : (f : Option ℕ) → find p.key t.slots ≡ f → Reflects (is_nothing f) (Missing p.key t.slots)
  reflect_missing None e = reflect_true ((found_missing p.key t.slots).0 e)
  reflect_missing (Some i) e = reflect_false (λ m. at_nothing (sym e ∙ (found_missing p.key t.slots).1 m))

  reflect_at : (f : Option ℕ) → find p.key t.slots ≡ f → (b : Slot → Bool) (P : Slot → Type 0) → ((s : Slot) → Reflects (b s) (P s)) → Reflects (when_found t f b) (AtKey t p P)
  reflect_at None e b P r = reflect_false (λ h. at_nothing (sym (stands_found h.2) ∙ e))
  reflect_at (Some i) e b P r =
      reflect_iff (r (get_or t.slots i free_slot)) (
        λ h. (i, get_or t.slots i free_slot, found_stands p.key t.slots i e, h),
        λ h.
            let same : h.0 ≡ i = at_inj (sym (stands_found h.2) ∙ e) in
            subst P (sym h.2.at ∙ ap (λ (j : ℕ). get_or t.slots j free_slot) same) h.3,
      )

  -- each test stands for its row
  pub node_matches : (f : Option ℕ) → find p.key t.slots ≡ f → Matches (node_tests t p f) (node_step_rows t p)
  node_matches f e = (
    refl,
    reflect_or (reflect_not (reflect_eqb _ _)) (reflect_or (reflect_not (reflect_eqb _ _)) (reflect_not (reflect_eqb _ _))),
    λ _. (
      refl,
      reflect_ltb _ _,
      λ _. (
        refl,
        reflect_and (reflect_alters p) (reflect_eqb _ _),
        λ _. (
          refl,
          reflect_and (reflect_numbered p) (reflect_missing f e),
          λ _. (
            refl,
            reflect_and (reflect_unnumbered p) (reflect_at f e _ _ (λ s. reflect_ltb _ _)),
            λ _. (
              refl,
              reflect_and (reflect_unnumbered p) (reflect_at f e _ _ (λ s. reflect_and (reflect_session _ _) (reflect_eqb _ _))),
              λ _.
                  (refl, reflect_and (reflect_numbered p) (reflect_at f e _ _ (λ s. reflect_not (reflect_newer _ _))), λ _. tt),
            ),
          ),
        ),
      ),
    ),
  )

  -- the step over slots and fields gives the first row that applies
  pub step_judged : Judged (node_step_rows t p) (node_step t p)
  unfolding node_step
  step_judged = judged (node_tests t p (find p.key t.slots)) (node_step_rows t p) (node_matches (find p.key t.slots) refl) refl _

-- the call gives the first row that applies
pub node_judged : (t p out : List ℕ) → Judged (node_rows t p out) (node_call t p out)
unfolding node_call node_step
node_judged t p out =
    let f = find (packet_of p).key (table_of t).slots in
    judged
    (test broken (not (table_ok t))
    ∷ test small_outlet (ltb (length out) outlet_size)
    ∷ test malformed (not (well_formed p))
    ∷ node_tests (table_of t) (packet_of p) f)
    (node_rows t p out) (
      refl,
      reflect_not (reflect_table t),
      λ a. (
        refl,
        reflect_ltb _ _,
        λ b. (
          refl,
          reflect_not (reflect_formed p),
          λ c.
              matches_under (TableRules t × Formed p) (node_tests (table_of t) (packet_of p) f) (node_step_rows (table_of t) (packet_of p))
              ((reflect_table t).0 (not-false _ a), (reflect_formed p).0 (not-false _ c))
              (node_matches (table_of t) (packet_of p) f refl),
        ),
      ),
    )
    refl
    (node_does (table_of t) (packet_of p) f)

-- ---- the call and the step

-- a call on a table, an outlet and a packet as they should be is the step
pub call_step : (t p out : List ℕ) → TableRules t → outlet_size ≤ length out → Formed p → node_call t p out ≡ node_step (table_of t) (packet_of p)
unfolding node_call
call_step t p out g h f =
    pass_guard _ _ _ (reflects_no (reflect_not (reflect_table t)) (λ n. n g))
    ∙ (pass_guard _ _ _ (le-ltb _ _ h) ∙ pass_guard _ _ _ (reflects_no (reflect_not (reflect_formed p)) (λ n. n f)))

-- what a call that is done says
pub record NodeCalled (t p out : List ℕ) (x : Sent) : Type 0 where
  pub rules : TableRules t
  pub room : outlet_size ≤ length out
  pub formed : Formed p
  pub step : node_step (table_of t) (packet_of p) ≡ ok x

pub node_called : (t p out : List ℕ) (x : Sent) → node_call t p out ≡ ok x → NodeCalled t p out x
unfolding node_call
node_called t p out x e =
    let a = past _ _ _ _ e in
    let b = past _ _ _ _ a.1 in
    let c = past _ _ _ _ b.1 in
    record {
      rules = (reflect_table t).0 (not-false _ a.0);
      room = ltb-false _ _ b.0;
      formed = (reflect_formed p).0 (not-false _ c.0);
      step = c.1;
    }
