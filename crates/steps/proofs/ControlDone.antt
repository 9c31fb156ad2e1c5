-- When a controller step is done: each in every case that document 01 leaves it, so that no number is given too often.
use Prim.Native.Nat.{ℕ, ◌<◌, ◌≤◌}
use mathlib.Core.Path.{◌≡◌, refl, sym, ap, ◌∙◌, subst}
use mathlib.Core.Bool.{Bool, true, false, true≢false}
use mathlib.Core.List.{List, Memᴰ as Mem}
use mathlib.Core.Logic.{inl, inr}
use native.Mathlib.Omega.{arith}
use lib.ListN.{length, get_or}
use Rattle.wire.specs.Numbers.{ok, Applies}
use Rattle.wire.specs.Version.{top_stamp, top_session}
use Rattle.wire.proofs.Numbers.{judged_gives, past, past_all, reflects_yes, reflects_no}
use Rattle.store.specs.Table.{table_of, TableRules, lowest_free, free_slot, free, entered_slot, set_row}
use Rattle.std.specs.Prelude.{Option, Some}
use Rattle.store.proofs.Find.{at_free, reflect_free}
use Rattle.steps.specs.declared.Joining.{Joining}
use Rattle.steps.specs.declared.Change.{Change}
use Rattle.steps.specs.declared.Change.TheVariants.{Still, Before}
use Rattle.steps.specs.declared.Chain.{Chain}
use Rattle.steps.specs.Chain.{most_nodes, members, First, Last, Opened, ChainRules, with_change}
use Rattle.steps.specs.Node.{Missing}
use Rattle.steps.specs.Control.{Open, change_for, opened, open_tests, open_step, open_call, open_rows, marked, marked_change, fence_tests, fence_step, fence_call, fence_rows, advanced, advanced_change, copy_tests, copy_step, copy_call, copy_rows, activated, activate_tests, activate_step, activate_call, activate_rows, cancel_step, cancel_call, cancel_rows, removed, remove_tests, remove_step, remove_call, remove_rows, enter_at, enter_tests, enter_step, enter_call, enter_rows}
use Rattle.steps.proofs.Control.{open_judged, fence_judged, copy_judged, activate_judged, cancel_judged, remove_judged, enter_judged}
use Rattle.steps.proofs.ControlViews.{opened_for, marked_for, advanced_for}

-- ---- no change, or the open one

none_open : {ch : Change} → ch ≡ Still → Open ch → ⊥
none_open e o = elim (subst (λ (ch : Change). Opened ch o.0) e o.1) [ ]

only_open : {ch : Change} {j k : Joining} (after : Bool) → ch ≡ change_for after j → Opened ch k → k ≡ j
only_open {j} {k} after e o = go after j k (subst (λ (ch : Change). Opened ch k) e o)
  where
    go : (after : Bool) (j k : Joining) → Opened (change_for after j) k → k ≡ j
    go false j k Opened.before = refl
    go true j k Opened.after = refl

-- a change "before" is not "after"
before_for : {j k : Joining} (after : Bool) → change_for after j ≡ Before k → (after ≡ false) × (k ≡ j)
before_for {j} {k} false e = (refl, cc)
before_for {j} {k} true e = absurd (let z : ◌≡◌ {A = ℕ} 0 1 = cc in omega arith)

-- ---- the steps, of a record that keeps the rules

module _ (r : Chain) (rules : ChainRules r) where
  module _ (still : r.change ≡ Still) where
    -- open: at a chain node, the last if after; an id above the highest, with a place and a wiring number left
    pub open_done : (after : Bool) (named fresh : ℕ)
        → Mem named (members r) → (after ≡ true → Last named (members r))
        → r.highest < fresh → r.length < most_nodes → r.wiring.0 < top_stamp
        → open_call r after named fresh ≡ ok (opened r after named fresh)
    unfolding open_call open_step
    open_done after named fresh member last above room left =
        judged_gives (open_rows r after named fresh) (open_call r after named fresh) (opened r after named fresh) (open_judged r after named fresh)
        (λ b e. (past_all (open_tests r after named fresh) _ b (past _ _ _ _ e).1).1) none
      where
        none : (n : ℕ) → Applies (open_rows r after named fresh) n → ⊥
        none n (inl (e, b)) = b rules
        none n (inr (inl (e, h))) = let w = h.1 in omega arith
        none n (inr (inr (inl (e, h)))) = none_open still h.1
        none n (inr (inr (inr (inl (e, (k, inl b)))))) = b member
        none n (inr (inr (inr (inl (e, (k, inr b)))))) = b.1 (last b.0)
        none n (inr (inr (inr (inr (inl (e, h)))))) = let w = h.1 in omega arith
        none n (inr (inr (inr (inr (inr (inl (e, h))))))) = let w = h.1 in omega arith
        none n (inr (inr (inr (inr (inr (inr x6)))))) = elim x6 [ ]

    -- remove: a chain node, and not the only one; with a session left if it is the first
    pub remove_done : (id : ℕ) → Mem id (members r) → 1 < r.length → (First id (members r) → r.session.0 < top_session)
        → remove_call r id ≡ ok (removed r id)
    unfolding remove_call remove_step
    remove_done id member two left =
        judged_gives (remove_rows r id) (remove_call r id) (removed r id) (remove_judged r id)
        (λ b e. (past_all (remove_tests r id) _ b (past _ _ _ _ e).1).1) none
      where
        none : (n : ℕ) → Applies (remove_rows r id) n → ⊥
        none n (inl (e, b)) = b rules
        none n (inr (inl (e, h))) = let l = left h.1.0 in let w = h.1.1 in omega arith
        none n (inr (inr (inl (e, h)))) = none_open still h.1
        none n (inr (inr (inr (inl (e, h))))) = h.1 member
        none n (inr (inr (inr (inr (inl (e, h)))))) = let w = h.1.0 in omega arith
        none n (inr (inr (inr (inr (inr x5))))) = elim x5 [ ]

    -- enter: a key that is missing, at a chain node, into the lowest free slot of its table
    pub enter_done : (t : List ℕ) (id : ℕ) (key : List ℕ) (i : ℕ)
        → TableRules t → Mem id (members r) → (table_of t).id ≡ id → length (table_of t).slots ≡ r.count
        → Missing key (table_of t).slots
        → i < length (table_of t).slots → (get_or (table_of t).slots i free_slot).state ≡ free
        → ((j : ℕ) → j < i → (get_or (table_of t).slots j free_slot).state ≡ free → ⊥)
        → enter_call r t id key ≡ ok (set_row i (entered_slot key))
    unfolding enter_call enter_step
    enter_done t id key i good member meant count missing below empty lowest =
        judged_gives (enter_rows r t id key) (enter_call r t id key) (set_row i (entered_slot key)) (enter_judged r t id key)
        (λ b e. ap (λ (f : Option ℕ). ok (enter_at key f)) (sym at) ∙ (past_all (enter_tests r (table_of t) id key) _ b (past _ _ _ _ e).1).1) none
      where
        at : lowest_free (table_of t).slots ≡ Some i
        at =
            at_free (table_of t).slots i
            (record { below = below; passes = reflects_yes (reflect_free _) empty; lowest = λ j l. reflects_no (reflect_free _) (lowest j l) })

        none : (n : ℕ) → Applies (enter_rows r t id key) n → ⊥
        none n (inl (e, inl b)) = b rules
        none n (inl (e, inr b)) = b good
        none n (inr (inl (e, h))) = none_open still h.1
        none n (inr (inr (inl (e, (k, inl b))))) = b member
        none n (inr (inr (inl (e, (k, inr b))))) = b meant
        none n (inr (inr (inr (inl (e, h))))) = h.1 count
        none n (inr (inr (inr (inr (inl (e, h)))))) = h.1 missing
        none n (inr (inr (inr (inr (inr (inl (e, h))))))) = h.1 i below empty
        none n (inr (inr (inr (inr (inr (inr x6)))))) = elim x6 [ ]

  module _ (after : Bool) (j : Joining) (change : r.change ≡ change_for after j) where
    -- there is a change, and no other
    there : Open r.change
    there = (j, subst (λ (ch : Change). Opened ch j) (sym change) (opened_for after j))

    only : {k : Joining} → Opened r.change k → k ≡ j
    only o = only_open after change o

    -- fence: the named node's table, whose fence is not above the wiring number; marked or not
    pub fence_done : (t : List ℕ)
        → TableRules t → (table_of t).id ≡ j.named → length (table_of t).slots ≡ r.count → (table_of t).fence.0 ≤ r.wiring.0
        → fence_call r t ≡ ok (with_change r (change_for after (marked j)))
    unfolding fence_call fence_step
    fence_done t good meant count below =
        judged_gives (fence_rows r t) (fence_call r t) _ (fence_judged r t)
        (λ b e. (past_all (fence_tests r (table_of t)) _ b (past _ _ _ _ e).1).1) none
        ∙ ap (λ (ch : Change). ok (with_change r ch)) (ap marked_change change ∙ marked_for after j)
      where
        none : (n : ℕ) → Applies (fence_rows r t) n → ⊥
        none n (inl (e, inl b)) = b rules
        none n (inl (e, inr b)) = b good
        none n (inr (inl (e, h))) = h.1 there
        none n (inr (inr (inl (e, (k, (i, o, b)))))) = b (meant ∙ ap (λ (x : Joining). x.named) (sym (only o)))
        none n (inr (inr (inr (inl (e, h))))) = h.1.1 count
        none n (inr (inr (inr (inr (inl (e, h)))))) = let w = h.1.1 in omega arith
        none n (inr (inr (inr (inr (inr x5))))) = elim x5 [ ]

    -- copy: the next slot of a marked change, from the named node's table to the new one's, whatever their fences and slots
    pub copy_done : (named fresh : List ℕ)
        → TableRules named → (table_of named).id ≡ j.named → length (table_of named).slots ≡ r.count
        → TableRules fresh → (table_of fresh).id ≡ j.fresh → length (table_of fresh).slots ≡ r.count
        → j.fenced ≡ true → j.next < r.count
        → copy_call r j.next named fresh ≡ ok (with_change r (change_for after (advanced j)))
    unfolding copy_call copy_step
    copy_done named fresh good meant count good' meant' count' fenced next =
        judged_gives (copy_rows r j.next named fresh) (copy_call r j.next named fresh) _ (copy_judged r j.next named fresh)
        (λ b e. (past_all (copy_tests r j.next (table_of named) (table_of fresh)) _ b (past _ _ _ _ e).1).1) none
        ∙ ap (λ (ch : Change). ok (with_change r ch)) (ap advanced_change change ∙ advanced_for after j)
      where
        none : (n : ℕ) → Applies (copy_rows r j.next named fresh) n → ⊥
        none n (inl (e, inl b)) = b rules
        none n (inl (e, inr (inl b))) = b good
        none n (inl (e, inr (inr b))) = b good'
        none n (inr (inl (e, (k, inl b)))) = b there
        none n (inr (inl (e, (k, inr (i, o, inl b))))) = true≢false (sym fenced ∙ (ap (λ (x : Joining). x.fenced) (sym (only o)) ∙ b))
        none n (inr (inl (e, (k, inr (i, o, inr (inl b)))))) = b (ap (λ (x : Joining). x.next) (sym (only o)))
        none n (inr (inl (e, (k, inr (i, o, inr (inr b)))))) = let w = ap (λ (x : Joining). x.next) (only o) in omega arith
        none n (inr (inr (inl (e, (k, (i, o, inl b)))))) = b (meant ∙ ap (λ (x : Joining). x.named) (sym (only o)))
        none n (inr (inr (inl (e, (k, (i, o, inr b)))))) = b (meant' ∙ ap (λ (x : Joining). x.fresh) (sym (only o)))
        none n (inr (inr (inr (inl (e, (k, (o, inl b))))))) = b count
        none n (inr (inr (inr (inr x4)))) = elim x4 [ ]
        none n (inr (inr (inr (inl (e, (k, (o, inr b))))))) = b count'

    -- activate: all slots copied; with a session left if it becomes first
    pub activate_done : j.next ≡ r.count → (after ≡ false → First j.named (members r) → r.session.0 < top_session)
        → activate_call r ≡ ok (activated r)
    unfolding activate_call activate_step
    activate_done copied left =
        judged_gives (activate_rows r) (activate_call r) (activated r) (activate_judged r)
        (λ b e. (past_all (activate_tests r) _ b (past _ _ _ _ e).1).1) none
      where
        none : (n : ℕ) → Applies (activate_rows r) n → ⊥
        none n (inl (e, b)) = b rules
        none n (inr (inl (e, (k, (i, c, f, t))))) =
            let b = before_for after (sym change ∙ c) in
            let l = left b.0 (subst (λ (x : Joining). First x.named (members r)) b.1 f) in
            omega arith
        none n (inr (inr (inl (e, (k, inl b))))) = b there
        none n (inr (inr (inr x3))) = elim x3 [ ]
        none n (inr (inr (inl (e, (k, inr (i, o, b)))))) = let w = ap (λ (x : Joining). x.next) (only o) in omega arith

    -- cancel: any change
    pub cancel_done : cancel_call r ≡ ok (with_change r Still)
    unfolding cancel_call cancel_step
    cancel_done = judged_gives (cancel_rows r) (cancel_call r) (with_change r Still) (cancel_judged r) (λ b e. (past _ _ _ _ (past _ _ _ _ e).1).1) none
      where
        none : (n : ℕ) → Applies (cancel_rows r) n → ⊥
        none n (inl (e, b)) = b rules
        none n (inr (inl (e, h))) = h.1 there
        none n (inr (inr x'')) = elim x'' [ ]
