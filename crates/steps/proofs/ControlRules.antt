-- Controller steps keep the rules of a record.
use Prim.Native.Nat.{ℕ, ◌+◌, ◌<◌, ◌≤◌}
use mathlib.Core.Path.{◌≡◌, refl, sym, ap, ap₂, ◌∙◌, subst}
use mathlib.Core.Bool.{Bool, true, false, true≢false}
use mathlib.Core.List.Memᴰ.{cast}
use mathlib.Core.List.{List, Memᴰ as Mem}
use mathlib.Core.Logic.{◌⊎◌, inl, inr, ⊎_elim, ⊎_map}
use native.Mathlib.Omega.{arith}
use lib.ListN.{length, take, drop}
use Rattle.wire.specs.Numbers.{ok}
use Rattle.wire.specs.declared.Session.{Session}
use Rattle.wire.proofs.Numbers.{reflects_cases}
use Rattle.store.specs.Table.{Table, Zero}
use Rattle.steps.specs.declared.Joining.{Joining}
use Rattle.steps.specs.declared.Change.TheVariants.{Still}
use Rattle.steps.specs.declared.Chain.{Chain}
use Rattle.steps.specs.Chain.{most_nodes, members, first_of, Last, Distinct, joining, ChainRules, JoiningRules, ChangeRules, with_change}
use Rattle.steps.specs.Control.{change_for, open_step, fence_step, copy_step, activate_step, cancel_step, remove_step}
use Rattle.steps.proofs.ChainIds.{mem_some, first_mem, reflect_first}
use Rattle.steps.proofs.ChainOrder.{mem_ins, mem_ins_fresh, ins_distinct, mem_del, del_distinct}
use Rattle.steps.proofs.Control.{some_members}
use Rattle.steps.proofs.ControlViews.{Joins, joining_rules, open_view, fence_view, copy_view, activate_view, cancel_view, remove_view}

-- ---- the chain stays

-- a record with the same chain, session and slot count, no lower highest id, and a change within the rules
same_chain_lem : (r r' : Chain) → ChainRules r
    → r'.length ≡ r.length → r'.places ≡ r.places → r'.session ≡ r.session → r.highest ≤ r'.highest → r'.count ≡ r.count
    → ChangeRules r' r'.change → ChainRules r'
same_chain_lem r r' k size places session highest count change =
    let nodes : members r' ≡ members r = ap₂ take size places in
    let some = k.some in
    let few = k.few in
    let count_some = k.count_some in
    let count_few = k.count_few in
    record {
      some = omega arith;
      few = omega arith;
      eight = ap length places ∙ k.eight;
      distinct = subst Distinct (sym nodes) k.distinct;
      nonzero = subst (λ (l : List ℕ). Mem 0 l → ⊥) (sym nodes) k.nonzero;
      unused = subst Zero (sym (ap₂ drop size places)) k.unused;
      session = λ e. k.session (ap (λ (s : Session). s.0) (sym session) ∙ e);
      highest = λ j m. let h = k.highest j (subst (Mem j) nodes m) in omega arith;
      count_some = omega arith;
      count_few = omega arith;
      change = change;
    }

-- an open change within the rules, before or after
change_for_lem : (r : Chain) (after : Bool) (j : Joining) → JoiningRules r j → (after ≡ true → Last j.named (members r)) → ChangeRules r (change_for after j)
change_for_lem r false j h l = h
change_for_lem r true j h l = (h, l refl)

pub open_keeps : (r : Chain) (after : Bool) (named fresh : ℕ) (r' : Chain) → ChainRules r → open_step r after named fresh ≡ ok r' → ChainRules r'
open_keeps r after named fresh r' k e =
    let v = open_view r after named fresh r' k e in
    let nodes : members r' ≡ members r = ap₂ take v.size v.places in
    let above = v.above in
    let size = v.size in
    let room = v.room in
    let highest = v.highest in
    same_chain_lem r r' k v.size v.places v.session (omega arith) v.count
    (subst (ChangeRules r') (sym v.change)
    (change_for_lem r' after (joining named fresh false 0)
    (record {
      named = subst (Mem named) (sym nodes) v.member;
      outside = λ m. let h = k.highest fresh (subst (Mem fresh) nodes m) in omega arith;
      highest = sym highest;
      room = omega arith;
      next = omega arith;
      unfenced = λ _. refl;
    })
    (λ a. subst (Last named) (sym nodes) (v.last a))))

-- the open change with its mark and a next slot
rejoin : (r : Chain) → ChainRules r → (o : Joins r.change) (next : ℕ) → next ≤ r.count
    → ChainRules (with_change r (change_for o.after (joining o.join.named o.join.fresh true next)))
rejoin r k o next h =
    let j = joining o.join.named o.join.fresh true next in
    let g = joining_rules r k o in
    same_chain_lem r (with_change r (change_for o.after j)) k refl refl refl (omega arith) refl
    (change_for_lem (with_change r (change_for o.after j)) o.after j
    (record { named = g.named; outside = g.outside; highest = g.highest; room = g.room; next = h; unfenced = λ e. absurd (true≢false e) })
    (last o.after (subst (ChangeRules r) o.change k.change)))
  where
    last : (after : Bool) → ChangeRules r (change_for after o.join) → after ≡ true → Last o.join.named (members r)
    last false c e = absurd (true≢false (sym e))
    last true c e = c.1

pub fence_keeps : (r : Chain) (t : Table) (r' : Chain) → ChainRules r → fence_step r t ≡ ok r' → ChainRules r'
fence_keeps r t r' k e =
    let v = fence_view r t r' e in
    subst ChainRules (sym v.chain) (rejoin r k v.joins _ (joining_rules r k v.joins).next)

pub copy_keeps : (r : Chain) (i : ℕ) (named fresh : Table) (r' : Chain) → ChainRules r → copy_step r i named fresh ≡ ok r' → ChainRules r'
copy_keeps r i named fresh r' k e =
    let v = copy_view r i named fresh r' k e in
    let below = v.below in
    subst ChainRules (sym v.chain) (rejoin r k v.joins (i + 1) (omega arith))

pub cancel_keeps : (r r' : Chain) → ChainRules r → cancel_step r ≡ ok r' → ChainRules r'
cancel_keeps r r' k e =
    subst ChainRules (sym (cancel_view r r' e).chain) (same_chain_lem r (with_change r Still) k refl refl refl (omega arith) refl tt)

-- ---- the chain changes

-- a record with another chain of ids that were in the record, its session raised or not, and no change
new_chain : (r r' : Chain) → ChainRules r
    → 0 < r'.length → r'.length ≤ most_nodes → length r'.places ≡ most_nodes → Distinct (members r')
    → ((j : ℕ) → Mem j (members r') → (j ≡ r.highest) ⊎ Mem j (members r))
    → Zero (drop r'.length r'.places)
    → (r'.session.0 ≡ r.session.0 + 1) ⊎ (r'.session ≡ r.session)
    → r'.highest ≡ r.highest → r'.count ≡ r.count → r'.change ≡ Still → ChainRules r'
new_chain r r' k some few eight distinct from unused session highest count change =
    let count_some = k.count_some in
    let count_few = k.count_few in
    record {
      some = some;
      few = few;
      eight = eight;
      distinct = distinct;
      nonzero = λ m. ⊎_elim zero k.nonzero (from 0 m);
      unused = unused;
      session = λ e. ⊎_elim (λ (s : r'.session.0 ≡ r.session.0 + 1). omega arith) (λ s. k.session (ap (λ (x : Session). x.0) (sym s) ∙ e)) session;
      highest = λ j m. ⊎_elim (λ (e : j ≡ r.highest). omega arith) (λ o. let h = k.highest j o in omega arith) (from j m);
      count_some = omega arith;
      count_few = omega arith;
      change = subst (ChangeRules r') (sym change) tt;
    }
  where
    zero : 0 ≡ r.highest → ⊥
    zero e =
        let m = first_mem (members r) (some_members r k) in
        let h = k.highest (first_of (members r)) m in
        let z : 0 ≡ first_of (members r) = omega arith in
        k.nonzero (cast z m)

pub activate_keeps : (r r' : Chain) → ChainRules r → activate_step r ≡ ok r' → ChainRules r'
activate_keeps r r' k e =
    let v = activate_view r r' k e in
    let g = joining_rules r k v.joins in
    let after = v.joins.after in
    let j = v.joins.join in
    let some = k.some in
    let size = v.size in
    let room = g.room in
    let fresh = subst (Mem j.fresh) (sym v.nodes) (mem_ins_fresh after j.named j.fresh (members r) g.named) in
    new_chain r r' k (omega arith) (omega arith) v.eight
    (subst Distinct (sym v.nodes) (ins_distinct after j.named j.fresh (members r) k.distinct g.outside))
    (λ i m. ⊎_elim (λ p. inl (p.0 ∙ g.highest)) inr (mem_ins after j.named j.fresh (members r) (subst (Mem i) v.nodes m)))
    v.unused
    (⊎_map v.raised v.same (reflects_cases (reflect_first j.fresh (members r') (mem_some fresh))))
    v.highest v.count v.change

pub remove_keeps : (r : Chain) (id : ℕ) (r' : Chain) → ChainRules r → remove_step r id ≡ ok r' → ChainRules r'
remove_keeps r id r' k e =
    let v = remove_view r id r' k e in
    let few = k.few in
    let size = v.size in
    let two = v.two in
    new_chain r r' k (omega arith) (omega arith) v.eight
    (subst Distinct (sym v.nodes) (del_distinct id (members r) k.distinct))
    (λ i m. inr (mem_del id (members r) (subst (Mem i) v.nodes m)))
    v.unused
    (⊎_map v.raised v.same (reflects_cases (reflect_first id (members r) (some_members r k))))
    v.highest v.count v.change
