-- Document 01, "Controller steps": open, fence, copy, activate, cancel, remove, enter, each over the record and the tables.
use Rattle.std.specs.Prelude.{ℕ, suc, ◌+◌, ◌-◌, ◌<◌, ◌≤◌, ◌≡◌, Bool, true, false, ◌&&◌, ◌||◌, not, ◌⊎◌, length, get_or, ltb, leb, eqb}
use mathlib.Core.List.{List, [], ◌∷◌, Memᴰ as Mem}
use Rattle.be.specs.Be.{put}
use Rattle.wire.specs.Numbers.{Out, ok, number_of, left, judge, test, Test, Case, case, under, pick, broken, no_number_left, change_open, out_of_turn, not_meant, id_used, chain_full, only_node, other_count, key_there, no_free_slot, fence_above}
use Rattle.wire.specs.Version.{last_stamp, next_stamp, last_session, next_session, top_stamp, top_session, less_stamp}
use Rattle.store.specs.Table.{Table, table_of, table_ok, TableRules, find, lowest_free, entered_slot, free_slot, free, Write, keep, set_row, write_bytes, fence_bytes, row, row_at}
use Rattle.std.specs.Prelude.{Option, Some, None}
use Rattle.steps.specs.declared.Joining.{Joining}
use Rattle.steps.specs.declared.Change.{Change}
use Rattle.steps.specs.declared.Change.TheVariants.{Still, Before, After}
use Rattle.steps.specs.declared.Chain.{Chain}
use Rattle.steps.specs.Chain.{most_nodes, members, memb, first_of, last_of, place_of, First, Last, insert_at, remove_at, is_open, when_open, Opened, joining, chain_ok, ChainRules, with_change, with_members}
use Rattle.steps.specs.Node.{Missing, is_nothing}

-- a step on a record: 1 where it breaks the rules, and the step's own rows only where it keeps them
abbrev pub on_record : {A : Type 0} → Chain → Out A → Out A
on_record r y = judge (test broken (not (chain_ok r)) ∷ []) y

abbrev pub record_rows : Chain → List Case → List Case
record_rows r l = case broken (ChainRules r → ⊥) ∷ under (ChainRules r) l

-- what a step on the record alone promises: its number, and the record afterwards
pub record ChainGives (r : Chain) (o : Out Chain) (n : ℕ) (r' : Chain) : Type 0 where
  pub number : ◌≡◌ {A = ℕ} n (number_of o)
  pub chain : r' ≡ left r (λ r'. r') o

-- ---- open (before/after, named id, new id): wiring + 1, highest = new id, unfenced, next slot 0

abbrev pub change_for : Bool → Joining → Change
change_for false j = Before j
change_for true j = After j

unfoldable pub opened : Chain → Bool → ℕ → ℕ → Chain
opened r after named fresh = record {
  length = r.length;
  places = r.places;
  wiring = next_stamp r.wiring;
  session = r.session;
  highest = fresh;
  count = r.count;
  change = change_for after (joining named fresh false 0);
}

abbrev pub open_tests : Chain → Bool → ℕ → ℕ → List Test
open_tests r after named fresh =
    test no_number_left (last_stamp r.wiring)
    ∷ test change_open (is_open r.change)
    ∷ test not_meant (not (memb named (members r)) || (after && not (eqb named (last_of (members r)))))
    ∷ test id_used (leb fresh r.highest)
    ∷ test chain_full (eqb r.length most_nodes)
    ∷ []

unfoldable pub open_step : Chain → Bool → ℕ → ℕ → Out Chain
open_step r after named fresh = judge (open_tests r after named fresh) (ok (opened r after named fresh))

unfoldable pub open_call : Chain → Bool → ℕ → ℕ → Out Chain
open_call r after named fresh = on_record r (open_step r after named fresh)

abbrev pub Open : Change → Type 0
Open ch = (j : Joining) × Opened ch j

abbrev pub open_rows : Chain → Bool → ℕ → ℕ → List Case
open_rows r after named fresh =
    record_rows r
    (case no_number_left (r.wiring.0 ≡ top_stamp)
    ∷ case change_open (Open r.change)
    ∷ case not_meant ((Mem named (members r) → ⊥) ⊎ ((after ≡ true) × (Last named (members r) → ⊥)))
    ∷ case id_used (fresh ≤ r.highest)
    ∷ case chain_full (r.length ≡ most_nodes)
    ∷ [])

-- ---- fence: the named node's fence becomes the wiring number; marked

abbrev pub marked : Joining → Joining
marked j = joining j.named j.fresh true j.next

abbrev pub marked_change : Change → Change
marked_change Still = Still
marked_change (Before j) = Before (marked j)
marked_change (After j) = After (marked j)

abbrev pub fence_tests : Chain → Table → List Test
fence_tests r t =
    test out_of_turn (not (is_open r.change))
    ∷ test not_meant (when_open r.change (λ j. not (eqb t.id j.named)))
    ∷ test other_count (when_open r.change (λ j. not (eqb (length t.slots) r.count)))
    ∷ test fence_above (when_open r.change (λ j. less_stamp r.wiring t.fence))
    ∷ []

unfoldable pub fence_step : Chain → Table → Out Chain
fence_step r t = judge (fence_tests r t) (ok (with_change r (marked_change r.change)))

unfoldable pub fence_call : Chain → List ℕ → Out Chain
fence_call r t = judge (test broken (not (chain_ok r) || not (table_ok t)) ∷ []) (fence_step r (table_of t))

pub record FenceGives (r : Chain) (t : List ℕ) (n : ℕ) (r' : Chain) (t' : List ℕ) : Type 0 where
  pub number : ◌≡◌ {A = ℕ} n (number_of (fence_call r t))
  pub chain : r' ≡ left r (λ r'. r') (fence_call r t)
  pub table : ◌≡◌ {A = List ℕ} t' (left t (λ _. fence_bytes r.wiring t) (fence_call r t))

abbrev pub fence_rows : Chain → List ℕ → List Case
fence_rows r t =
    case broken ((ChainRules r → ⊥) ⊎ (TableRules t → ⊥))
    ∷ under (ChainRules r × TableRules t)
    (case out_of_turn (Open r.change → ⊥)
    ∷ case not_meant ((j : Joining) × Opened r.change j × ((table_of t).id ≡ j.named → ⊥))
    ∷ case other_count (Open r.change × (length (table_of t).slots ≡ r.count → ⊥))
    ∷ case fence_above (Open r.change × (r.wiring.0 < (table_of t).fence.0))
    ∷ [])

-- ---- copy one slot, number i: slot i of the named node's table to slot i of the new one; next slot + 1

abbrev pub advanced : Joining → Joining
advanced j = joining j.named j.fresh j.fenced (j.next + 1)

abbrev pub advanced_change : Change → Change
advanced_change Still = Still
advanced_change (Before j) = Before (advanced j)
advanced_change (After j) = After (advanced j)

abbrev pub copy_tests : Chain → ℕ → Table → Table → List Test
copy_tests r i named fresh =
    test out_of_turn (not (is_open r.change) || when_open r.change (λ j. not j.fenced || (not (eqb i j.next) || eqb j.next r.count)))
    ∷ test not_meant (when_open r.change (λ j. not (eqb named.id j.named) || not (eqb fresh.id j.fresh)))
    ∷ test other_count (when_open r.change (λ j. not (eqb (length named.slots) r.count) || not (eqb (length fresh.slots) r.count)))
    ∷ []

unfoldable pub copy_step : Chain → ℕ → Table → Table → Out Chain
copy_step r i named fresh = judge (copy_tests r i named fresh) (ok (with_change r (advanced_change r.change)))

unfoldable pub copy_call : Chain → ℕ → List ℕ → List ℕ → Out Chain
copy_call r i named fresh =
    judge (test broken (not (chain_ok r) || (not (table_ok named) || not (table_ok fresh))) ∷ [])
    (copy_step r i (table_of named) (table_of fresh))

-- the new node's table afterwards, over slots and over bytes
abbrev pub copy_slot : ℕ → Table → Write
copy_slot i named = set_row i (get_or named.slots i free_slot)

abbrev pub copy_bytes : ℕ → List ℕ → List ℕ → List ℕ
copy_bytes i named fresh = put fresh (row_at i) (row named i)

pub record CopyGives (r : Chain) (i : ℕ) (named fresh : List ℕ) (n : ℕ) (r' : Chain) (fresh' : List ℕ) : Type 0 where
  pub number : ◌≡◌ {A = ℕ} n (number_of (copy_call r i named fresh))
  pub chain : r' ≡ left r (λ r'. r') (copy_call r i named fresh)
  pub table : ◌≡◌ {A = List ℕ} fresh' (left fresh (λ _. copy_bytes i named fresh) (copy_call r i named fresh))

abbrev pub copy_rows : Chain → ℕ → List ℕ → List ℕ → List Case
copy_rows r i named fresh =
    case broken ((ChainRules r → ⊥) ⊎ ((TableRules named → ⊥) ⊎ (TableRules fresh → ⊥)))
    ∷ under (ChainRules r × TableRules named × TableRules fresh)
    (case out_of_turn ((Open r.change → ⊥) ⊎ ((j : Joining) × Opened r.change j × ((j.fenced ≡ false) ⊎ ((i ≡ j.next → ⊥) ⊎ (j.next ≡ r.count)))))
    ∷ case not_meant ((j : Joining) × Opened r.change j × (((table_of named).id ≡ j.named → ⊥) ⊎ ((table_of fresh).id ≡ j.fresh → ⊥)))
    ∷ case other_count (Open r.change × ((length (table_of named).slots ≡ r.count → ⊥) ⊎ (length (table_of fresh).slots ≡ r.count → ⊥)))
    ∷ [])

-- ---- activate (all slots copied): the new id enters before or after the named one, the change is closed. If it is now first, session + 1

-- the new node would be first
abbrev pub becomes_first : Chain → Change → Bool
becomes_first r Still = false
becomes_first r (Before j) = eqb j.named (first_of (members r))
becomes_first r (After j) = false

-- the place that the new node takes
abbrev pub join_place : Chain → Change → ℕ
join_place r Still = 0
join_place r (Before j) = place_of j.named (members r)
join_place r (After j) = suc (place_of j.named (members r))

abbrev pub join_id : Change → ℕ
join_id Still = 0
join_id (Before j) = j.fresh
join_id (After j) = j.fresh

unfoldable pub activated : Chain → Chain
activated r =
    with_members r (r.length + 1)
    (insert_at r.places (join_place r r.change) (join_id r.change))
    (pick (becomes_first r r.change) (next_session r.session) r.session)

abbrev pub activate_tests : Chain → List Test
activate_tests r =
    test no_number_left (becomes_first r r.change && last_session r.session)
    ∷ test out_of_turn (not (is_open r.change) || when_open r.change (λ j. ltb j.next r.count))
    ∷ []

unfoldable pub activate_step : Chain → Out Chain
activate_step r = judge (activate_tests r) (ok (activated r))

unfoldable pub activate_call : Chain → Out Chain
activate_call r = on_record r (activate_step r)

abbrev pub activate_rows : Chain → List Case
activate_rows r =
    record_rows r
    (case no_number_left ((j : Joining) × (r.change ≡ Before j) × First j.named (members r) × (r.session.0 ≡ top_session))
    ∷ case out_of_turn ((Open r.change → ⊥) ⊎ ((j : Joining) × Opened r.change j × (j.next < r.count)))
    ∷ [])

-- ---- cancel: closes the change; wiring and highest stay

unfoldable pub cancel_step : Chain → Out Chain
cancel_step r = judge (test out_of_turn (not (is_open r.change)) ∷ []) (ok (with_change r Still))

unfoldable pub cancel_call : Chain → Out Chain
cancel_call r = on_record r (cancel_step r)

abbrev pub cancel_rows : Chain → List Case
cancel_rows r = record_rows r (case out_of_turn (Open r.change → ⊥) ∷ [])

-- ---- remove an id: places close up. If it was first, session + 1

unfoldable pub removed : Chain → ℕ → Chain
removed r id =
    with_members r (r.length - 1)
    (remove_at r.places (place_of id (members r)))
    (pick (eqb id (first_of (members r))) (next_session r.session) r.session)

abbrev pub remove_tests : Chain → ℕ → List Test
remove_tests r id =
    test no_number_left (eqb id (first_of (members r)) && last_session r.session)
    ∷ test change_open (is_open r.change)
    ∷ test not_meant (not (memb id (members r)))
    ∷ test only_node (eqb r.length 1)
    ∷ []

unfoldable pub remove_step : Chain → ℕ → Out Chain
remove_step r id = judge (remove_tests r id) (ok (removed r id))

unfoldable pub remove_call : Chain → ℕ → Out Chain
remove_call r id = on_record r (remove_step r id)

abbrev pub remove_rows : Chain → ℕ → List Case
remove_rows r id =
    record_rows r
    (case no_number_left (First id (members r) × (r.session.0 ≡ top_session))
    ∷ case change_open (Open r.change)
    ∷ case not_meant (Mem id (members r) → ⊥)
    ∷ case only_node ((r.length ≡ 1) × Mem id (members r))
    ∷ [])

-- ---- enter a key at one chain node: the lowest free slot, state 1

abbrev pub enter_tests : Chain → Table → ℕ → List ℕ → List Test
enter_tests r t id key =
    test change_open (is_open r.change)
    ∷ test not_meant (not (memb id (members r)) || not (eqb t.id id))
    ∷ test other_count (not (eqb (length t.slots) r.count))
    ∷ test key_there (not (is_nothing (find key t.slots)))
    ∷ test no_free_slot (is_nothing (lowest_free t.slots))
    ∷ []

abbrev pub enter_at : List ℕ → Option ℕ → Write
enter_at key None = keep
enter_at key (Some i) = set_row i (entered_slot key)

unfoldable pub enter_step : Chain → Table → ℕ → List ℕ → Out Write
enter_step r t id key = judge (enter_tests r t id key) (ok (enter_at key (lowest_free t.slots)))

unfoldable pub enter_call : Chain → List ℕ → ℕ → List ℕ → Out Write
enter_call r t id key = judge (test broken (not (chain_ok r) || not (table_ok t)) ∷ []) (enter_step r (table_of t) id key)

pub record EnterGives (r : Chain) (t : List ℕ) (id : ℕ) (key : List ℕ) (n : ℕ) (t' : List ℕ) : Type 0 where
  pub number : ◌≡◌ {A = ℕ} n (number_of (enter_call r t id key))
  pub table : ◌≡◌ {A = List ℕ} t' (left t (λ w. write_bytes w t) (enter_call r t id key))

abbrev pub enter_rows : Chain → List ℕ → ℕ → List ℕ → List Case
enter_rows r t id key =
    case broken ((ChainRules r → ⊥) ⊎ (TableRules t → ⊥))
    ∷ under (ChainRules r × TableRules t)
    (case change_open (Open r.change)
    ∷ case not_meant ((Mem id (members r) → ⊥) ⊎ ((table_of t).id ≡ id → ⊥))
    ∷ case other_count (length (table_of t).slots ≡ r.count → ⊥)
    ∷ case key_there (Missing key (table_of t).slots → ⊥)
    ∷ case no_free_slot ((i : ℕ) → i < length (table_of t).slots → (get_or (table_of t).slots i free_slot).state ≡ free → ⊥)
    ∷ [])
