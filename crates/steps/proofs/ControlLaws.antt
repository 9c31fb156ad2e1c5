-- What controller steps write and what they leave, and that a call's promise determines its results.
use Prim.Native.Nat.{ℕ, suc, ◌+◌, ◌^◌, ◌≤◌}
use mathlib.Core.Path.{◌≡◌, sym, ap, ◌∙◌, subst}
use mathlib.Core.Bool.{true}
use mathlib.Core.List.{List, []}
use native.Mathlib.Omega.{arith}
use native.Mathlib.Nat.{mod-le}
use lib.ListN.{length, take, drop}
use Rattle.be.specs.Be.{be, digits, put}
use Rattle.be.proofs.Laws.{be_digits, put_back, take_start, drop_start, take_before}
use Rattle.wire.specs.Numbers.{Out, ok}
use Rattle.wire.specs.Packet.{key_size}
use Rattle.wire.specs.Version.{top_stamp}
use Rattle.wire.specs.declared.Stamp.{Stamp}
use Rattle.wire.proofs.Numbers.{left_refused}
use Rattle.store.specs.Table.{table_of, is_free_slot, Write, TableRules, count_of, entered_slot, head_size, row_at, row, row_of, write_bytes, write_table, fence_bytes, fence_table}
use Rattle.store.proofs.Find.{FirstAt, free_at}
use Rattle.store.proofs.Slot.{length_row_of}
use Rattle.store.proofs.Rules.{rules_fence, length_table}
use Rattle.store.proofs.Rows.{length_row, row_same, row_other, length_row_put, table_copy, length_fence, head_fence, table_fence}
use Rattle.steps.specs.declared.Change.{Change}
use Rattle.steps.specs.declared.Chain.{Chain}
use Rattle.steps.specs.Chain.{ChainRules, joining, with_change}
use Rattle.steps.specs.Control.{ChainGives, change_for, fence_call, FenceGives, copy_call, copy_bytes, copy_slot, CopyGives, enter_call, EnterGives}
use Rattle.steps.proofs.ControlViews.{Joins, fence_call_lem, copy_call_lem, enter_call_lem, fence_view, copy_view, enter_view}
use Rattle.steps.proofs.ControlRules.{fence_keeps}
use Rattle.steps.proofs.ControlDone.{fence_done as fenced}

-- ---- copy: row i of the new table and no other, and the next slot and nothing else of the record

pub record CopiesOne (r : Chain) (i : ℕ) (named fresh : List ℕ) (r' : Chain) (fresh' : List ℕ) : Type 0 where
  pub joins : Joins r.change
  pub next : joins.join.next ≡ i
  pub fenced : joins.join.fenced ≡ true
  pub chain : r' ≡ with_change r (change_for joins.after (joining joins.join.named joins.join.fresh true (i + 1)))
  pub copied : row fresh' i ≡ row named i
  pub others : (j : ℕ) → (j ≡ i → ⊥) → row fresh' j ≡ row fresh j
  pub head : take head_size fresh' ≡ take head_size fresh
  pub size : length fresh' ≡ length fresh
  pub table : table_of fresh' ≡ write_table (copy_slot i (table_of named)) (table_of fresh)

pub copies_one : (r : Chain) (i : ℕ) (named fresh : List ℕ) (r' : Chain) → copy_call r i named fresh ≡ ok r' → CopiesOne r i named fresh r' (copy_bytes i named fresh)
copies_one r i named fresh r' e =
    let (k, a, b, s) = copy_call_lem r i named fresh r' e in
    let v = copy_view r i (table_of named) (table_of fresh) r' k s in
    let below = v.below in
    let named_count : count_of named ≡ r.count = sym (length_table named) ∙ v.named_count in
    let fresh_count : count_of fresh ≡ r.count = sym (length_table fresh) ∙ v.fresh_count in
    let namedSize = a.size in
    let freshSize = b.size in
    let from : row_at (suc i) ≤ length named = omega arith in
    let room : row_at (suc i) ≤ length fresh = omega arith in
    let full = length_row named i from in
    record {
      joins = v.joins;
      next = sym v.next;
      fenced = v.fenced;
      chain = v.chain;
      copied = row_same fresh (row named i) i full room;
      others = row_other fresh (row named i) i full room;
      head = take_before fresh (row named i) (row_at i) head_size (omega arith) (omega arith);
      size = length_row_put fresh (row named i) i full room;
      table = table_copy named fresh i a b (omega arith) (omega arith);
    }

-- ---- fence: the four bytes of the fence and nothing else of the table, the mark and nothing else of the record

pub record FencesOne (r : Chain) (t : List ℕ) (r' : Chain) (t' : List ℕ) : Type 0 where
  pub joins : Joins r.change
  pub chain : r' ≡ with_change r (change_for joins.after (joining joins.join.named joins.join.fresh true joins.join.next))
  pub fence : take 4 t' ≡ digits 4 r.wiring.0
  pub rest : drop 4 t' ≡ drop 4 t
  pub table : r.wiring.0 ≤ top_stamp → table_of t' ≡ fence_table r.wiring (table_of t)

pub fences_one : (r : Chain) (t : List ℕ) (r' : Chain) → fence_call r t ≡ ok r' → FencesOne r t r' (fence_bytes r.wiring t)
fences_one r t r' e =
    let (k, g, s) = fence_call_lem r t r' e in
    let v = fence_view r (table_of t) r' s in
    record {
      joins = v.joins;
      chain = v.chain;
      fence = take_start t (digits 4 r.wiring.0);
      rest = drop_start t (digits 4 r.wiring.0);
      table = λ h. table_fence r.wiring t g (omega arith);
    }

-- the fence that is read back is no more than the one that was written
fence_most : (n : Stamp) (t : List ℕ) → be 4 (fence_bytes n t) 0 ≤ n.0
unfolding put
fence_most n t = rw (be_digits 4 n.0 [] (drop (0 + length (digits 4 n.0)) t)) (mod-le n.0 (256 ^ 4))

-- fence is done where the change is open, the tables' id and count are meant, and the fence is not above
fence_done : (r : Chain) (t : List ℕ) → ChainRules r → TableRules t → (o : Joins r.change)
    → (table_of t).id ≡ o.join.named → length (table_of t).slots ≡ r.count → (table_of t).fence.0 ≤ r.wiring.0
    → fence_call r t ≡ ok (with_change r (change_for o.after (joining o.join.named o.join.fresh true o.join.next)))
fence_done r t k g o id count below = fenced r k o.after o.join o.change t g id count below

-- fencing again changes nothing
pub fence_again : (r : Chain) (t : List ℕ) (r' : Chain) → fence_call r t ≡ ok r'
    → (fence_call r' (fence_bytes r.wiring t) ≡ ok r') × (fence_bytes r'.wiring (fence_bytes r.wiring t) ≡ fence_bytes r.wiring t)
unfolding table_of
fence_again r t r' e =
    let (k, g, s) = fence_call_lem r t r' e in
    let v = fence_view r (table_of t) r' s in
    let size = g.size in
    let room : head_size ≤ length t = omega arith in
    let o : Joins r'.change = record { after = v.joins.after; join = joining v.joins.join.named v.joins.join.fresh true v.joins.join.next; change = ap (λ (c : Chain). c.change) v.chain } in
    let wiring : r'.wiring ≡ r.wiring = ap (λ (c : Chain). c.wiring) v.chain in
    let count : r'.count ≡ r.count = ap (λ (c : Chain). c.count) v.chain in
    let t' = fence_bytes r.wiring t in (
      fence_done r' t' (fence_keeps r (table_of t) r' k s) (rules_fence r.wiring t g) o
          (head_fence r.wiring t room 4 (omega arith) ∙ v.id)
          (length_table t' ∙ head_fence r.wiring t room 6 (omega arith) ∙ sym (length_table t) ∙ v.count ∙ sym count)
          (subst (λ (n : Stamp). be 4 t' 0 ≤ n.0) (sym wiring) (fence_most r.wiring t))
          ∙ ap (λ (ch : Change). ok (with_change r' ch)) (sym o.change),
      ap (λ (n : Stamp). fence_bytes n t') wiring
          ∙ ap (put t' 0) (sym (take_start t (digits 4 r.wiring.0)))
          ∙ put_back t' 0 4 (omega (arith, length_fence r.wiring t room)),
    )

-- ---- enter: one row of the table, which was the lowest free one

pub record EntersOne (r : Chain) (t : List ℕ) (id : ℕ) (key t' : List ℕ) : Type 0 where
  pub place : ℕ
  pub lowest : FirstAt is_free_slot (table_of t).slots place
  pub entered : row t' place ≡ row_of (entered_slot key)
  pub others : (j : ℕ) → (j ≡ place → ⊥) → row t' j ≡ row t j
  pub head : take head_size t' ≡ take head_size t
  pub size : length t' ≡ length t

pub enters_one : (r : Chain) (t : List ℕ) (id : ℕ) (key : List ℕ) (w : Write) → length key ≡ key_size → enter_call r t id key ≡ ok w → EntersOne r t id key (write_bytes w t)
enters_one r t id key w h e =
    let (k, g, s) = enter_call_lem r t id key w e in
    let v = enter_view r (table_of t) id key w s in
    let first = free_at (table_of t).slots v.place v.lowest in
    let below = first.below in
    let count = length_table t in
    let size = g.size in
    let room : row_at (suc v.place) ≤ length t = omega arith in
    let full = length_row_of (entered_slot key) h (omega arith) in
    subst (λ (x : Write). EntersOne r t id key (write_bytes x t)) (sym v.write)
    (record {
      place = v.place;
      lowest = first;
      entered = row_same t (row_of (entered_slot key)) v.place full room;
      others = row_other t (row_of (entered_slot key)) v.place full room;
      head = take_before t (row_of (entered_slot key)) (row_at v.place) head_size (omega arith) (omega arith);
      size = length_row_put t (row_of (entered_slot key)) v.place full room;
    })

-- ---- a refusal leaves everything as it was

pub chain_refused : {r : Chain} {o : Out Chain} {n : ℕ} {r' : Chain} → ChainGives r o n r' → (n ≡ 0 → ⊥) → r' ≡ r
chain_refused {r} {o} g h = g.chain ∙ left_refused o r (λ c. c) g.number h

pub fence_refused : {r : Chain} {t : List ℕ} {n : ℕ} {r' : Chain} {t' : List ℕ} → FenceGives r t n r' t' → (n ≡ 0 → ⊥) → (r' ≡ r) × (t' ≡ t)
fence_refused {r} {t} g h =
    let o = fence_call r t in
    (g.chain ∙ left_refused o r (λ c. c) g.number h, g.table ∙ left_refused o t (λ c. fence_bytes r.wiring t) g.number h)

pub copy_refused : {r : Chain} {i : ℕ} {named fresh : List ℕ} {n : ℕ} {r' : Chain} {fresh' : List ℕ} → CopyGives r i named fresh n r' fresh' → (n ≡ 0 → ⊥) → (r' ≡ r) × (fresh' ≡ fresh)
copy_refused {r} {i} {named} {fresh} g h =
    let o = copy_call r i named fresh in
    (g.chain ∙ left_refused o r (λ c. c) g.number h, g.table ∙ left_refused o fresh (λ c. copy_bytes i named fresh) g.number h)

pub enter_refused : {r : Chain} {t : List ℕ} {id : ℕ} {key : List ℕ} {n : ℕ} {t' : List ℕ} → EnterGives r t id key n t' → (n ≡ 0 → ⊥) → t' ≡ t
enter_refused {r} {t} {id} {key} g h = g.table ∙ left_refused (enter_call r t id key) t (λ w. write_bytes w t) g.number h

-- ---- no second outcome fits a promise

pub chain_once : {r : Chain} {o : Out Chain} {m n : ℕ} {r₁ r₂ : Chain} → ChainGives r o m r₁ → ChainGives r o n r₂ → (m ≡ n) × (r₁ ≡ r₂)
chain_once g h = (g.number ∙ sym h.number, g.chain ∙ sym h.chain)

pub fence_once : {r : Chain} {t : List ℕ} {m n : ℕ} {r₁ r₂ : Chain} {t₁ t₂ : List ℕ} → FenceGives r t m r₁ t₁ → FenceGives r t n r₂ t₂ → (m ≡ n) × (r₁ ≡ r₂) × (t₁ ≡ t₂)
fence_once g h = (g.number ∙ sym h.number, g.chain ∙ sym h.chain, g.table ∙ sym h.table)

pub copy_once : {r : Chain} {i : ℕ} {named fresh : List ℕ} {m n : ℕ} {r₁ r₂ : Chain} {t₁ t₂ : List ℕ} → CopyGives r i named fresh m r₁ t₁ → CopyGives r i named fresh n r₂ t₂ → (m ≡ n) × (r₁ ≡ r₂) × (t₁ ≡ t₂)
copy_once g h = (g.number ∙ sym h.number, g.chain ∙ sym h.chain, g.table ∙ sym h.table)

pub enter_once : {r : Chain} {t : List ℕ} {id : ℕ} {key : List ℕ} {m n : ℕ} {t₁ t₂ : List ℕ} → EnterGives r t id key m t₁ → EnterGives r t id key n t₂ → (m ≡ n) × (t₁ ≡ t₂)
enter_once g h = (g.number ∙ sym h.number, g.table ∙ sym h.table)
