-- What a controller step that is done says of the record and the tables before and after, in plain facts.
use Prim.Native.Nat.{ℕ, ◌+◌, ◌-◌, ◌<◌, ◌≤◌}
use mathlib.Core.Path.{◌≡◌, refl, sym, ap, ap₂, ◌∙◌, subst}
use mathlib.Core.Bool.{Bool, true, false, ◌&&◌, not, true≢false, false≢true}
use mathlib.Core.List.{List, Memᴰ as Mem}
use mathlib.Core.Logic.{⊎_elim, ◌↔◌}
use native.Mathlib.Omega.{arith}
use lib.ListN.{length, take, drop}
use lib.Dec.{eqb}
use borrow.Author.Tests.{ltb-false, leb-false, eqb-true, eqb-false, not-false}
use Rattle.wire.specs.Numbers.{Out, ok, pick}
use Rattle.wire.specs.Version.{last_session, next_session}
use Rattle.wire.proofs.Numbers.{pick_true, pick_false, pick_case, past, past_all, ok_inj, or_false, and_false, Reflects, reflects_yes, reflects_no, reflect_iff, reflect_is, reflect_and}
use Rattle.wire.proofs.Versions.{next_session_lem, next_stamp_lem}
use Rattle.wire.specs.declared.Stamp.{Stamp}
use Rattle.wire.specs.declared.Session.{Session}
use Rattle.store.proofs.Rules.{reflect_table}
use Rattle.store.specs.Table.{Table, table_of, TableRules, Zero, find, lowest_free, entered_slot, Write, set_row}
use Rattle.std.specs.Prelude.{Option, Some, None}
use Rattle.steps.specs.declared.Joining.{Joining}
use Rattle.steps.specs.declared.Change.{Change}
use Rattle.steps.specs.declared.Change.TheVariants.{Still, Before, After}
use Rattle.steps.specs.declared.Chain.{Chain}
use Rattle.steps.specs.Chain.{most_nodes, members, first_of, place_of, First, Last, is_open, when_open, Opened, joining, ChainRules, JoiningRules, ChangeRules, with_change, insert_at}
use Rattle.steps.specs.Node.{is_nothing}
use Rattle.steps.specs.Control.{on_record, fence_call, copy_call, enter_call, change_for, opened, open_tests, open_step, fence_tests, fence_step, copy_tests, copy_step, activate_tests, activate_step, activated, cancel_step, remove_tests, remove_step, removed, enter_tests, enter_step, enter_at, marked_change, advanced, advanced_change, becomes_first, join_place, join_id}
use Rattle.steps.proofs.ChainIds.{memb_true, mem_some, mem_place, reflect_first, reflect_last}
use Rattle.steps.proofs.ChainOrder.{ins, ins_place, ins_place_lem, ins_first, del, del_place}
use Rattle.steps.proofs.ChainPlaces.{length_members, length_inserted, insert_members, insert_unused, length_removed, remove_members, remove_unused}
use Rattle.steps.proofs.ChainRules.{reflect_chain}
use Rattle.steps.proofs.Control.{holds, holds_and, reflect_clear, some_members}

-- ---- a call that is done: the rules hold, and the step is done

pub on_record_lem : {A : Type 0} (r : Chain) (y : Out A) (a : A) → on_record r y ≡ ok a → ChainRules r × (y ≡ ok a)
on_record_lem r y a e = let (p, q) = past _ _ _ _ e in (holds (reflect_chain r) p, q)

pub fence_call_lem : (r : Chain) (t : List ℕ) (r' : Chain) → fence_call r t ≡ ok r' → ChainRules r × TableRules t × (fence_step r (table_of t) ≡ ok r')
unfolding fence_call
fence_call_lem r t r' e =
    let (p, q) = past _ _ _ _ e in
    let c = holds_and (reflect_chain r) p in
    (c.0, holds (reflect_table t) c.1, q)

pub copy_call_lem : (r : Chain) (i : ℕ) (named fresh : List ℕ) (r' : Chain) → copy_call r i named fresh ≡ ok r' → ChainRules r × TableRules named × TableRules fresh × (copy_step r i (table_of named) (table_of fresh) ≡ ok r')
unfolding copy_call
copy_call_lem r i named fresh r' e =
    let (p, q) = past _ _ _ _ e in
    let c = holds_and (reflect_chain r) p in
    let d = holds_and (reflect_table named) c.1 in
    (c.0, d.0, holds (reflect_table fresh) d.1, q)

pub enter_call_lem : (r : Chain) (t : List ℕ) (id : ℕ) (key : List ℕ) (w : Write) → enter_call r t id key ≡ ok w → ChainRules r × TableRules t × (enter_step r (table_of t) id key ≡ ok w)
unfolding enter_call
enter_call_lem r t id key w e =
    let (p, q) = past _ _ _ _ e in
    let c = holds_and (reflect_chain r) p in
    (c.0, holds (reflect_table t) c.1, q)

-- ---- no change, or an open one

pub not_open : (ch : Change) → is_open ch ≡ false → ch ≡ Still
not_open Still e = refl
not_open (Before j) e = absurd (true≢false e)
not_open (After j) e = absurd (true≢false e)

-- an open change, before or after
pub record Joins (ch : Change) : Type 0 where
  pub after : Bool
  pub join : Joining
  pub change : ch ≡ change_for after join

is_open_lem : (ch : Change) → not (is_open ch) ≡ false → Joins ch
is_open_lem Still e = absurd (true≢false e)
is_open_lem (Before j) e = record { after = false; join = j; change = refl }
is_open_lem (After j) e = record { after = true; join = j; change = refl }

pub opened_for : (after : Bool) (j : Joining) → Opened (change_for after j) j
opened_for false j = Opened.before
opened_for true j = Opened.after

-- a test of the open change
pub when_is : {ch : Change} (o : Joins ch) (f : Joining → Bool) → when_open ch f ≡ f o.join
when_is o f = ap (λ (c : Change). when_open c f) o.change ∙ go o.after o.join
  where
    go : (after : Bool) (j : Joining) → when_open (change_for after j) f ≡ f j
    go false j = refl
    go true j = refl

when_open_lem : {ch : Change} (o : Joins ch) (f : Joining → Bool) {b : Bool} → when_open ch f ≡ b → f o.join ≡ b
when_open_lem o f e = sym (when_is o f) ∙ e

-- the rules of the open change
pub joining_rules : (r : Chain) → ChainRules r → (o : Joins r.change) → JoiningRules r o.join
joining_rules r k o = go o.after (subst (ChangeRules r) o.change k.change)
  where
    go : (after : Bool) → ChangeRules r (change_for after o.join) → JoiningRules r o.join
    go false h = h
    go true h = h.0

-- ---- open

pub record OpenView (r : Chain) (after : Bool) (named fresh : ℕ) (r' : Chain) : Type 0 where
  pub still : r.change ≡ Still
  pub member : Mem named (members r)
  pub last : after ≡ true → Last named (members r)
  pub above : r.highest < fresh
  pub room : r.length < most_nodes
  pub size : r'.length ≡ r.length
  pub places : r'.places ≡ r.places
  pub wiring : r'.wiring.0 ≡ r.wiring.0 + 1
  pub session : r'.session ≡ r.session
  pub highest : r'.highest ≡ fresh
  pub count : r'.count ≡ r.count
  pub change : r'.change ≡ change_for after (joining named fresh false 0)

pub open_view : (r : Chain) (after : Bool) (named fresh : ℕ) (r' : Chain) → ChainRules r → open_step r after named fresh ≡ ok r' → OpenView r after named fresh r'
unfolding open_step opened
open_view r after named fresh r' k e =
    let (p, q) = past_all (open_tests r after named fresh) _ r' e in
    let meant = or_false _ _ p.1.1.0 in
    let m = memb_true named (members r) (not-false _ meant.0) in
    let full = p.1.1.1.1.0 in
    subst (OpenView r after named fresh) (ok_inj q)
    (record {
      still = not_open r.change p.1.0;
      member = m;
      last = λ a. ⊎_elim (λ f. absurd (true≢false (sym a ∙ f))) (λ f. (reflect_last named (members r) (mem_some m)).0 (not-false _ f)) (and_false _ _ meant.1);
      above = leb-false _ _ p.1.1.1.0;
      room = let h = k.few in omega (arith, eqb-false, ltb-false);
      size = refl;
      places = refl;
      wiring = ap (λ (n : Stamp). n.0) (next_stamp_lem r.wiring p.0);
      session = refl;
      highest = refl;
      count = refl;
      change = refl;
    })

-- ---- fence

pub record FenceView (r : Chain) (t : Table) (r' : Chain) : Type 0 where
  pub joins : Joins r.change
  pub id : t.id ≡ joins.join.named
  pub count : length t.slots ≡ r.count
  pub below : t.fence.0 ≤ r.wiring.0
  pub chain : r' ≡ with_change r (change_for joins.after (joining joins.join.named joins.join.fresh true joins.join.next))

pub marked_for : (after : Bool) (j : Joining) → marked_change (change_for after j) ≡ change_for after (joining j.named j.fresh true j.next)
marked_for false j = refl
marked_for true j = refl

pub fence_view : (r : Chain) (t : Table) (r' : Chain) → fence_step r t ≡ ok r' → FenceView r t r'
unfolding fence_step
fence_view r t r' e =
    let (p, q) = past_all (fence_tests r t) _ r' e in
    let o = is_open_lem r.change p.0 in
    record {
      joins = o;
      id = eqb-true _ _ (not-false _ (when_open_lem o _ p.1.0));
      count = eqb-true _ _ (not-false _ (when_open_lem o _ p.1.1.0));
      below = ltb-false _ _ (when_open_lem o _ p.1.1.1.0);
      chain = sym (ok_inj q) ∙ ap (with_change r) (ap marked_change o.change ∙ marked_for o.after o.join);
    }

-- ---- copy

pub record CopyView (r : Chain) (i : ℕ) (named fresh : Table) (r' : Chain) : Type 0 where
  pub joins : Joins r.change
  pub fenced : joins.join.fenced ≡ true
  pub next : i ≡ joins.join.next
  pub below : i < r.count
  pub named_id : named.id ≡ joins.join.named
  pub fresh_id : fresh.id ≡ joins.join.fresh
  pub named_count : length named.slots ≡ r.count
  pub fresh_count : length fresh.slots ≡ r.count
  pub chain : r' ≡ with_change r (change_for joins.after (joining joins.join.named joins.join.fresh true (i + 1)))

pub advanced_for : (after : Bool) (j : Joining) → advanced_change (change_for after j) ≡ change_for after (advanced j)
advanced_for false j = refl
advanced_for true j = refl

pub copy_view : (r : Chain) (i : ℕ) (named fresh : Table) (r' : Chain) → ChainRules r → copy_step r i named fresh ≡ ok r' → CopyView r i named fresh r'
unfolding copy_step
copy_view r i named fresh r' k e =
    let (p, q) = past_all (copy_tests r i named fresh) _ r' e in
    let turn = or_false _ _ p.0 in
    let o = is_open_lem r.change turn.0 in
    let turns = or_false _ _ (when_open_lem o _ turn.1) in
    let slot = or_false _ _ turns.1 in
    let fenced = not-false _ turns.0 in
    let next = eqb-true _ _ (not-false _ slot.0) in
    let ids = or_false _ _ (when_open_lem o _ p.1.0) in
    let counts = or_false _ _ (when_open_lem o _ p.1.1.0) in
    record {
      joins = o;
      fenced = fenced;
      next = next;
      below = before next (joining_rules r k o).next (eqb-false _ _ slot.1);
      named_id = eqb-true _ _ (not-false _ ids.0);
      fresh_id = eqb-true _ _ (not-false _ ids.1);
      named_count = eqb-true _ _ (not-false _ counts.0);
      fresh_count = eqb-true _ _ (not-false _ counts.1);
      chain =
          sym (ok_inj q)
          ∙ ap (with_change r)
          (ap advanced_change o.change
          ∙ (advanced_for o.after o.join
          ∙ ap₂ (λ (b : Bool) (m : ℕ). change_for o.after (joining o.join.named o.join.fresh b (m + 1))) fenced (sym next)));
    }
  where
    before : {n c : ℕ} → i ≡ n → n ≤ c → (n ≡ c → ⊥) → i < c
    before e h n = omega arith

-- ---- a session raised where P holds, which refusal 11 lets it be

raise : {b : Bool} {P : Type 0} (s : Session) → Reflects b P → (b && last_session s) ≡ false → (P → (pick b (next_session s) s).0 ≡ s.0 + 1) × ((P → ⊥) → pick b (next_session s) s ≡ s)
raise s w e = (
  λ h.
      let t = reflects_yes w h in
      let l : last_session s ≡ false = ⊎_elim (λ f. absurd (true≢false (sym t ∙ f))) (λ f. f) (and_false _ _ e) in
      ap (λ (x : Session). x.0) (pick_true _ _ _ t ∙ next_session_lem s l),
  λ n. pick_false _ _ _ (reflects_no w n),
)

-- ---- activate

pub record ActivateView (r r' : Chain) : Type 0 where
  pub joins : Joins r.change
  pub copied : r.count ≤ joins.join.next
  pub nodes : members r' ≡ ins joins.after joins.join.named joins.join.fresh (members r)
  pub size : r'.length ≡ r.length + 1
  pub eight : length r'.places ≡ most_nodes
  pub unused : Zero (drop r'.length r'.places)
  pub wiring : r'.wiring ≡ r.wiring
  pub raised : First joins.join.fresh (members r') → r'.session.0 ≡ r.session.0 + 1
  pub same : (First joins.join.fresh (members r') → ⊥) → r'.session ≡ r.session
  pub highest : r'.highest ≡ r.highest
  pub count : r'.count ≡ r.count
  pub change : r'.change ≡ Still

-- the record that activation makes, of an open change
module _ (r : Chain) (k : ChainRules r) (o : Joins r.change) where
  rules : JoiningRules r o.join
  rules = joining_rules r k o

  -- where the new id goes is within the chain, or just behind it
  within : ins_place o.after o.join.named (members r) ≤ r.length
  within =
      let size = length_members r.length r.places k.eight k.few in
      let low = mem_place o.join.named (members r) rules.named in
      pick_case (λ (n : ℕ). n ≤ r.length) o.after _ _ (λ _. omega arith) (λ _. omega arith)

  at_place : join_place r r.change ≡ ins_place o.after o.join.named (members r)
  unfolding pick
  at_place = ap (join_place r) o.change ∙ go o.after o.join
    where
      go : (after : Bool) (j : Joining) → join_place r (change_for after j) ≡ ins_place after j.named (members r)
      go false j = refl
      go true j = refl

  with_id : join_id r.change ≡ o.join.fresh
  with_id = ap join_id o.change ∙ go o.after o.join
    where
      go : (after : Bool) (j : Joining) → join_id (change_for after j) ≡ j.fresh
      go false j = refl
      go true j = refl

  joined_places : (activated r).places ≡ insert_at r.places (ins_place o.after o.join.named (members r)) o.join.fresh
  unfolding activated
  joined_places = ap₂ (insert_at r.places) at_place with_id

  joined_nodes : members (activated r) ≡ ins o.after o.join.named o.join.fresh (members r)
  unfolding activated
  joined_nodes =
      let room = rules.room in
      let in_place = within in
      ap (take (r.length + 1)) joined_places
      ∙ insert_members r.places _ k.eight (omega arith) o.join.fresh r.length room within
      ∙ sym (ins_place_lem o.after o.join.named o.join.fresh (members r) rules.named)

  -- it becomes first where the named node was first and the change is before
  becomes : Reflects (becomes_first r r.change) (First o.join.fresh (members (activated r)))
  becomes =
      reflect_iff
      (reflect_is (ap (becomes_first r) o.change ∙ go o.after o.join) (reflect_and (reflect_clear o.after) (reflect_first o.join.named (members r) (some_members r k))))
      (subst (λ (l : List ℕ). ((o.after ≡ false) × First o.join.named (members r)) ↔ First o.join.fresh l) (sym joined_nodes)
      (let f = ins_first o.after o.join.named o.join.fresh (members r) rules.named rules.outside in (f.1, f.0)))
    where
      go : (after : Bool) (j : Joining) → becomes_first r (change_for after j) ≡ (not after && eqb j.named (first_of (members r)))
      go false j = refl
      go true j = refl

  made : r.count ≤ o.join.next → (becomes_first r r.change && last_session r.session) ≡ false → ActivateView r (activated r)
  unfolding activated
  made copied left =
      let in_place = within in
      let room = rules.room in
      let low : ins_place o.after o.join.named (members r) < most_nodes = omega arith in
      let sessions = raise r.session becomes left in
      record {
        joins = o;
        copied = copied;
        nodes = joined_nodes;
        size = refl;
        eight = rw joined_places (length_inserted r.places _ k.eight low o.join.fresh);
        unused = rw joined_places (insert_unused r.places _ k.eight low o.join.fresh r.length room within k.unused);
        wiring = refl;
        raised = sessions.0;
        same = sessions.1;
        highest = refl;
        count = refl;
        change = refl;
      }

pub activate_view : (r r' : Chain) → ChainRules r → activate_step r ≡ ok r' → ActivateView r r'
unfolding activate_step
activate_view r r' k e =
    let (p, q) = past_all (activate_tests r) _ r' e in
    let turn = or_false _ _ p.1.0 in
    let o = is_open_lem r.change turn.0 in
    subst (ActivateView r) (ok_inj q) (made r k o (ltb-false _ _ (when_open_lem o _ turn.1)) p.0)

-- ---- cancel

pub record CancelView (r r' : Chain) : Type 0 where
  pub joins : Joins r.change
  pub chain : r' ≡ with_change r Still

pub cancel_view : (r r' : Chain) → cancel_step r ≡ ok r' → CancelView r r'
unfolding cancel_step
cancel_view r r' e =
    let (p, q) = past _ _ _ _ e in
    record { joins = is_open_lem r.change p; chain = sym (ok_inj q) }

-- ---- remove

pub record RemoveView (r : Chain) (id : ℕ) (r' : Chain) : Type 0 where
  pub still : r.change ≡ Still
  pub member : Mem id (members r)
  pub two : 1 < r.length
  pub nodes : members r' ≡ del id (members r)
  pub size : r'.length + 1 ≡ r.length
  pub eight : length r'.places ≡ most_nodes
  pub unused : Zero (drop r'.length r'.places)
  pub wiring : r'.wiring ≡ r.wiring
  pub raised : First id (members r) → r'.session.0 ≡ r.session.0 + 1
  pub same : (First id (members r) → ⊥) → r'.session ≡ r.session
  pub highest : r'.highest ≡ r.highest
  pub count : r'.count ≡ r.count
  pub change : r'.change ≡ Still

pub remove_view : (r : Chain) (id : ℕ) (r' : Chain) → ChainRules r → remove_step r id ≡ ok r' → RemoveView r id r'
unfolding remove_step removed
remove_view r id r' k e =
    let (p, q) = past_all (remove_tests r id) _ r' e in
    let m = memb_true id (members r) (not-false _ p.1.1.0) in
    let only : r.length ≡ 1 → ⊥ = eqb-false _ _ p.1.1.1.0 in
    let some = k.some in
    let few = k.few in
    let size = length_members r.length r.places k.eight k.few in
    let place = mem_place id (members r) m in
    let within : place_of id (members r) < r.length = omega arith in
    let low : place_of id (members r) < most_nodes = omega arith in
    let two : 1 < r.length = omega arith in
    let fewer : r.length - 1 + 1 ≡ r.length = omega arith in
    let sessions = raise r.session (reflect_first id (members r) (some_members r k)) p.0 in
    subst (RemoveView r id) (ok_inj q)
    (record {
      still = not_open r.change p.1.0;
      member = m;
      two = two;
      nodes = remove_members r.places _ k.eight low r.length within few ∙ sym (del_place id (members r) m);
      size = fewer;
      eight = length_removed r.places _ k.eight low;
      unused = remove_unused r.places _ k.eight low r.length within few k.unused;
      wiring = refl;
      raised = sessions.0;
      same = sessions.1;
      highest = refl;
      count = refl;
      change = refl;
    })

-- ---- enter

pub record EnterView (r : Chain) (t : Table) (id : ℕ) (key : List ℕ) (w : Write) : Type 0 where
  pub still : r.change ≡ Still
  pub member : Mem id (members r)
  pub meant : t.id ≡ id
  pub count : length t.slots ≡ r.count
  pub fresh : find key t.slots ≡ None
  pub place : ℕ
  pub lowest : lowest_free t.slots ≡ Some place
  pub write : w ≡ set_row place (entered_slot key)

pub enter_view : (r : Chain) (t : Table) (id : ℕ) (key : List ℕ) (w : Write) → enter_step r t id key ≡ ok w → EnterView r t id key w
unfolding enter_step
enter_view r t id key w e =
    let (p, q) = past_all (enter_tests r t id key) _ w e in
    let meant = or_false _ _ p.1.0 in
    let (i, at) = found (lowest_free t.slots) p.1.1.1.1.0 in
    record {
      still = not_open r.change p.0;
      member = memb_true id (members r) (not-false _ meant.0);
      meant = eqb-true _ _ (not-false _ meant.1);
      count = eqb-true _ _ (not-false _ p.1.1.0);
      fresh = nothing (find key t.slots) (not-false _ p.1.1.1.0);
      place = i;
      lowest = at;
      write = sym (ok_inj q) ∙ ap (enter_at key) at;
    }
  where
    nothing : (f : Option ℕ) → is_nothing f ≡ true → f ≡ None
    nothing None e = refl
    nothing (Some i) e = absurd (false≢true e)

    found : (f : Option ℕ) → is_nothing f ≡ false → (i : ℕ) × (f ≡ Some i)
    found None e = absurd (true≢false e)
    found (Some i) e = (i, refl)
