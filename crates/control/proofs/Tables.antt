-- The steps over tables: their rows as the code reads a table's head, and what a step that is done or refused promises.
use Prim.Native.Nat.{ℕ, ◌<◌}
use mathlib.Core.Path.{◌≡◌, refl, sym, ap, ap₂, ◌∙◌}
use mathlib.Core.Bool.{Bool, true, false, true≢false, ◌||◌, not}
use mathlib.Core.List.{List, [], ◌∷◌}
use native.Mathlib.Omega.{arith}
use lib.ListN.{length}
use lib.Dec.{eqb}
use Rattle.wire.specs.Numbers.{Out, ok, refuse, number_of, left, refusal_number, Test, test, broken, change_open, out_of_turn, not_meant, other_count, key_there, fence_above, no_free_slot, guard, pick, first_number}
use Rattle.wire.specs.Version.{zero_version, less_stamp}
use Rattle.wire.specs.Packet.{key_size}
use Rattle.wire.specs.declared.Refusal.{Refusal}
use Rattle.wire.specs.declared.Version.{Version}
use Rattle.wire.proofs.Answers.{refusal_some}
use Rattle.wire.proofs.Numbers.{or_false, pass_guard, stop_guard, judge_refused, all_passed, judge_done}
use Rattle.store.specs.Table.{table_of, table_ok, TableRules, count_of, most_slots, fence_bytes, slots, whole_slots, find, lowest_free, slot, entered, entered_slot, Write, set_row, write_bytes}
use Rattle.std.specs.Prelude.{Option, Some, None}
use Rattle.store.proofs.Find.{free_at}
use Rattle.store.proofs.Rules.{reflect_table, length_table, slots_table}
use Rattle.table.specs.Parts.{id_part, count_part, fence_part, fence_set, slot_copied, slot_stored}
use Rattle.table.proofs.Tables.{id_table, count_table, fence_table_lem, fence_set_table, copy_table, store_table}
use Rattle.steps.specs.declared.Joining.{Joining}
use Rattle.steps.specs.declared.Change.{Change}
use Rattle.steps.specs.declared.Change.TheVariants.{Still, Before, After}
use Rattle.steps.specs.declared.Chain.{Chain}
use Rattle.steps.specs.Chain.{members, memb, chain_ok, is_open, joined, when_open, with_change}
use Rattle.steps.specs.Control.{change_for, fence_step, fence_call, FenceGives, marked, marked_change, copy_step, copy_call, copy_bytes, CopyGives, advanced, advanced_change, enter_step, enter_call, enter_at, EnterGives}
use Rattle.steps.specs.Node.{is_nothing}
use Rattle.steps.proofs.ChainRules.{reflect_chain}
use Rattle.steps.proofs.Control.{holds, holds_and}
use Rattle.steps.proofs.ControlViews.{fence_call_lem, copy_call_lem, copy_view}
use Rattle.control.specs.Turn.{Mapped, fence_all, copy_all, enter_first}

-- what follows a row counts only where the row does not apply
pick_under : {A : Type 0} (b : Bool) (x : A) {y z : A} → (b ≡ false → y ≡ z) → pick b x y ≡ pick b x z
unfolding pick
pick_under true x f = refl
pick_under false x f = f refl

-- so a row behind that of a closed change need not ask again whether it is open
while_open : (ch : Change) (b : Bool) → not (is_open ch) ≡ false → b ≡ when_open ch (λ j. b)
while_open Still b e = absurd (true≢false e)
while_open (Before j) b e = refl
while_open (After j) b e = refl

-- the node that joins is the one that the change is for
joined_for : (after : Bool) (j : Joining) → joined (change_for after j) ≡ Some j
joined_for false j = refl
joined_for true j = refl

some_inj : {a b : Joining} → Some a ≡ Some b → a ≡ b
some_inj e = cc

-- ---- a change whose joining node is another

pub mapped_marked : {P : Joining → Joining → Type 0} (ch : Change) {ch' : Change} → ((j k : Joining) → P j k → k ≡ marked j) → Mapped P ch ch' → ch' ≡ marked_change ch
mapped_marked Still f e = e
mapped_marked (Before j) f (k, p, e) = e ∙ ap Before (f j k p)
mapped_marked (After j) f (k, p, e) = e ∙ ap After (f j k p)

pub mapped_advanced : {P : Joining → Joining → Type 0} (ch : Change) {ch' : Change} → ((j k : Joining) → P j k → k ≡ advanced j) → Mapped P ch ch' → ch' ≡ advanced_change ch
mapped_advanced Still f e = e
mapped_advanced (Before j) f (k, p, e) = e ∙ ap Before (f j k p)
mapped_advanced (After j) f (k, p, e) = e ∙ ap After (f j k p)

-- ---- fence

-- the rows by the parts of the head
abbrev pub fence_read : Chain → List ℕ → List Test
fence_read r t =
    test broken (not (chain_ok r) || not (table_ok t))
    ∷ test out_of_turn (not (is_open r.change))
    ∷ test not_meant (when_open r.change (λ j. not (eqb (id_part t) j.named)))
    ∷ test other_count (not (eqb (count_part t) r.count))
    ∷ test fence_above (less_stamp r.wiring (fence_part t))
    ∷ []

pub fence_read_is : (r : Chain) (t : List ℕ) → first_number (fence_read r t) ≡ first_number (fence_all r t)
fence_read_is r t =
    pick_under (not (chain_ok r) || not (table_ok t)) broken
    (λ e.
    let g = holds (reflect_table t) (holds_and (reflect_chain r) e).1 in
    pick_under (not (is_open r.change)) out_of_turn
    (λ o.
    simp (id_table t g, count_table t g, length_table t, fence_table_lem t g)
    (ap₂ (λ (a b : Bool). pick (when_open r.change (λ j. not (eqb (table_of t).id j.named))) not_meant (pick a other_count (pick b fence_above 0)))
    (while_open r.change (not (eqb (count_of t) r.count)) o)
    (while_open r.change (less_stamp r.wiring (table_of t).fence) o))))

pub fence_done : {x : Chain} {t' : List ℕ} (r : Chain) (t : List ℕ) → 0 ≡ first_number (fence_all r t)
    → x ≡ with_change r (marked_change r.change) → t' ≡ fence_set t r.wiring → FenceGives r t 0 x t'
unfolding fence_call fence_step
fence_done r t e x y =
    let d : fence_call r t ≡ ok (with_change r (marked_change r.change)) = judge_done (fence_all r t) (ok (with_change r (marked_change r.change))) refl (sym e) in
    record {
      number = sym (ap number_of d);
      chain = x ∙ sym (ap (left r (λ c. c)) d);
      table = y ∙ fence_set_table t (fence_call_lem r t _ d).1 r.wiring ∙ sym (ap (left t (λ c. fence_bytes r.wiring t)) d);
    }

pub fence_refused : {n : ℕ} (e : Refusal) (r : Chain) (t : List ℕ) → refusal_number e ≡ first_number (fence_all r t) → n ≡ refusal_number e → FenceGives r t n r t
unfolding fence_call fence_step
fence_refused e r t f g =
    let p = refusal_some e in
    let d : fence_call r t ≡ refuse (first_number (fence_all r t)) = judge_refused (fence_all r t) (ok (with_change r (marked_change r.change))) (λ z. omega arith) in
    record { number = g ∙ f ∙ sym (ap number_of d); chain = sym (ap (left r (λ c. c)) d); table = sym (ap (left t (λ c. fence_bytes r.wiring t)) d) }

-- ---- copy

-- the rows by the parts of the heads
abbrev pub copy_read : Chain → ℕ → List ℕ → List ℕ → List Test
copy_read r i named fresh =
    test broken (not (chain_ok r) || (not (table_ok named) || not (table_ok fresh)))
    ∷ test out_of_turn (not (is_open r.change) || when_open r.change (λ j. not j.fenced || (not (eqb i j.next) || eqb j.next r.count)))
    ∷ test not_meant (when_open r.change (λ j. not (eqb (id_part named) j.named) || not (eqb (id_part fresh) j.fresh)))
    ∷ test other_count (not (eqb (count_part named) r.count) || not (eqb (count_part fresh) r.count))
    ∷ []

pub copy_read_is : (r : Chain) (i : ℕ) (named fresh : List ℕ) → first_number (copy_read r i named fresh) ≡ first_number (copy_all r i named fresh)
copy_read_is r i named fresh =
    pick_under (not (chain_ok r) || (not (table_ok named) || not (table_ok fresh))) broken
    (λ e.
    let d = holds_and (reflect_table named) (holds_and (reflect_chain r) e).1 in
    let g = d.0 in
    let h = holds (reflect_table fresh) d.1 in
    let turn = when_open r.change (λ j. not j.fenced || (not (eqb i j.next) || eqb j.next r.count)) in
    pick_under (not (is_open r.change) || turn) out_of_turn
    (λ o.
    simp (id_table named g, id_table fresh h, count_table named g, count_table fresh h, length_table)
    (ap (λ (b : Bool). pick (when_open r.change (λ j. not (eqb (table_of named).id j.named) || not (eqb (table_of fresh).id j.fresh))) not_meant (pick b other_count 0))
    (while_open r.change (not (eqb (count_of named) r.count) || not (eqb (count_of fresh) r.count)) (or_false _ turn o).0))))

-- and so by each row that the code makes
pub copy_rows_are : (r : Chain) (i : ℕ) (named fresh : List ℕ) {b t m o : Bool} → b ≡ (not (chain_ok r) || (not (table_ok named) || not (table_ok fresh)))
    → t ≡ (not (is_open r.change) || when_open r.change (λ j. not j.fenced || (not (eqb i j.next) || eqb j.next r.count)))
    → m ≡ when_open r.change (λ j. not (eqb (id_part named) j.named) || not (eqb (id_part fresh) j.fresh))
    → o ≡ (not (eqb (count_part named) r.count) || not (eqb (count_part fresh) r.count))
    → first_number (test broken b ∷ test out_of_turn t ∷ test not_meant m ∷ test other_count o ∷ []) ≡ first_number (copy_all r i named fresh)
copy_rows_are r i named fresh b t m o = cc (copy_read_is r i named fresh)

-- where copy is done: the slot is the next one and below the slot count, and the two tables keep their rules and have that count
pub record Copies (r : Chain) (i : ℕ) (named fresh : List ℕ) : Type 0 where
  pub step : copy_call r i named fresh ≡ ok (with_change r (advanced_change r.change))
  pub low : (j : Joining) → joined r.change ≡ Some j → j.next < most_slots
  pub bytes : slot_copied named fresh i ≡ copy_bytes i named fresh

pub copies : (r : Chain) (i : ℕ) (named fresh : List ℕ) → 0 ≡ first_number (copy_all r i named fresh) → Copies r i named fresh
unfolding copy_call copy_step
copies r i named fresh e =
    let d : copy_call r i named fresh ≡ ok (with_change r (advanced_change r.change)) = judge_done (copy_all r i named fresh) (ok (with_change r (advanced_change r.change))) refl (sym e) in
    let (k, g, h, s) = copy_call_lem r i named fresh _ d in
    let v = copy_view r i (table_of named) (table_of fresh) _ k s in
    let below = v.below in
    let few = k.count_few in
    let m : count_of named ≡ r.count = sym (length_table named) ∙ v.named_count in
    let n : count_of fresh ≡ r.count = sym (length_table fresh) ∙ v.fresh_count in
    record {
      step = d;
      low = λ j f. let e : v.joins.join ≡ j = some_inj (sym (joined_for v.joins.after v.joins.join) ∙ sym (ap joined v.joins.change) ∙ f) in rw (← e) (omega (arith, v.next));
      bytes = copy_table named fresh i g h (omega arith) (omega arith);
    }

pub copy_done : {x : Chain} {t' : List ℕ} (r : Chain) (i : ℕ) (named fresh : List ℕ) → Copies r i named fresh
    → x ≡ with_change r (advanced_change r.change) → t' ≡ slot_copied named fresh i → CopyGives r i named fresh 0 x t'
copy_done r i named fresh d x y = record {
  number = sym (ap number_of d.step);
  chain = x ∙ sym (ap (left r (λ c. c)) d.step);
  table = y ∙ d.bytes ∙ sym (ap (left fresh (λ c. copy_bytes i named fresh)) d.step);
}

pub copy_refused : {n : ℕ} (e : Refusal) (r : Chain) (i : ℕ) (named fresh : List ℕ) → refusal_number e ≡ first_number (copy_all r i named fresh) → n ≡ refusal_number e
    → CopyGives r i named fresh n r fresh
unfolding copy_call copy_step
copy_refused e r i named fresh f g =
    let p = refusal_some e in
    let l = copy_all r i named fresh in
    let d : copy_call r i named fresh ≡ refuse (first_number l) = judge_refused l (ok (with_change r (advanced_change r.change))) (λ z. omega arith) in
    record { number = g ∙ f ∙ sym (ap number_of d); chain = sym (ap (left r (λ c. c)) d); table = sym (ap (left fresh (λ c. copy_bytes i named fresh)) d) }

-- ---- enter

module _ (r : Chain) (t : List ℕ) (id : ℕ) (key : List ℕ) where
  -- the rows but the last, by the parts of the head and the slots that the bytes have
  abbrev pub enter_read : List Test
  enter_read =
      test broken (not (chain_ok r) || not (table_ok t))
      ∷ test change_open (is_open r.change)
      ∷ test not_meant (not (memb id (members r)) || not (eqb (id_part t) id))
      ∷ test other_count (not (eqb (count_part t) r.count))
      ∷ test key_there (not (is_nothing (find key (slots (whole_slots t) t))))
      ∷ []

  pub enter_read_is : first_number enter_read ≡ first_number (enter_first r t id key)
  enter_read_is =
      pick_under (not (chain_ok r) || not (table_ok t)) broken
      (λ e.
      let g = holds (reflect_table t) (holds_and (reflect_chain r) e).1 in
      simp (id_table t g, count_table t g, length_table t, slots_table t g))

  pub enter_refused : {n : ℕ} (e : Refusal) → refusal_number e ≡ first_number (enter_first r t id key) → n ≡ refusal_number e → EnterGives r t id key n t
  unfolding enter_call enter_step
  enter_refused e f g =
      let p = refusal_some e in
      let l = enter_first r t id key in
      let y : Out Write = guard (is_nothing (lowest_free (table_of t).slots)) no_free_slot (ok (enter_at key (lowest_free (table_of t).slots))) in
      let d : enter_call r t id key ≡ refuse (first_number l) = judge_refused l y (λ z. omega arith) in
      record { number = g ∙ f ∙ sym (ap number_of d); table = sym (ap (left t (λ w. write_bytes w t)) d) }

  -- none of those applies: the table keeps its rules, and the last row decides
  module _ (e : 0 ≡ first_number (enter_first r t id key)) where
    enter_rules : TableRules t
    enter_rules = holds (reflect_table t) (holds_and (reflect_chain r) (all_passed (enter_first r t id key) refl (sym e)).0).1

    enter_last : enter_call r t id key ≡ guard (is_nothing (lowest_free (table_of t).slots)) no_free_slot (ok (enter_at key (lowest_free (table_of t).slots)))
    unfolding enter_call enter_step
    enter_last = judge_done (enter_first r t id key) _ refl (sym e)

    pub enter_full : {n : ℕ} → lowest_free (slots (whole_slots t) t) ≡ None → n ≡ no_free_slot → EnterGives r t id key n t
    enter_full f g =
        let lowest : lowest_free (table_of t).slots ≡ None = ap lowest_free (sym (slots_table t enter_rules)) ∙ f in
        let d : enter_call r t id key ≡ refuse no_free_slot = enter_last ∙ stop_guard _ _ _ (ap is_nothing lowest) in
        record { number = g ∙ sym (ap number_of d); table = sym (ap (left t (λ w. write_bytes w t)) d) }

    pub enter_done : (i : ℕ) {v : Version} {t' : List ℕ} → lowest_free (slots (whole_slots t) t) ≡ Some i → length key ≡ key_size → v ≡ zero_version
        → t' ≡ slot_stored t i (slot key entered v []) → EnterGives r t id key 0 t'
    enter_done i f k v y =
        let lowest : lowest_free (table_of t).slots ≡ Some i = ap lowest_free (sym (slots_table t enter_rules)) ∙ f in
        let d : enter_call r t id key ≡ ok (set_row i (entered_slot key)) = enter_last ∙ pass_guard _ _ _ (ap is_nothing lowest) ∙ ap (λ (x : Option ℕ). ok (enter_at key x)) lowest in
        let below : i < count_of t = let b = (free_at (table_of t).slots i lowest).below in omega (arith, length_table t) in
        record {
          number = sym (ap number_of d);
          table = y ∙ ap (λ (v : Version). slot_stored t i (slot key entered v [])) v ∙ store_table t enter_rules i below (entered_slot key) k (omega arith) ∙ sym (ap (left t (λ w. write_bytes w t)) d);
        }
