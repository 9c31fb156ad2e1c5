-- The register as C sees it: what each export promises of its number and of all that is lent to it, and under which rows it refuses.
-- The node step promises NodeGives, and making a blank table BlankGives, as in Rattle.
use Rattle.std.specs.Prelude.{ℕ, ◌<◌, ◌≡◌, List, [], ◌∷◌, ◌||◌, not, ◌⊎◌, length, ltb, eqb}
use Rattle.wire.specs.Numbers.{Out, refuse, ok, number_of, left, judge, test, Case, case, under, broken, small_outlet, malformed}
use Rattle.wire.specs.Packet.{Packet, packet, packet_ok, Fit, outlet_size, sent_in, read_call, Formed}
use Rattle.wire.specs.declared.Head.{Head}
use Rattle.store.specs.Table.{table_ok, TableRules, slots, whole_slots, find, Write, write_bytes, fence_bytes}
use Rattle.steps.specs.declared.Chain.{Chain}
use Rattle.steps.specs.Chain.{most_nodes, chain_ok, ChainRules, start_chain}
use Rattle.steps.specs.Relay.{Way, relay_call, relay_rows, packet_sent, outcome_of}
use Rattle.steps.specs.Control.{open_call, open_rows, fence_call, fence_rows, copy_call, copy_rows, copy_bytes, activate_call, activate_rows, cancel_call, cancel_rows, remove_call, remove_rows, enter_call, enter_rows}
use Rattle.numbers.specs.Record.{record_size, kind_before, kind_after, chain_of, record_of, Stands, numbers_of, places_of}
use Rattle.numbers.specs.Fields.{fields_size, fields_fit, head_from, FieldsStand, fields_of}
use Rattle.numbers.specs.Answers.{outcome_code, found_code}

-- ---- a call from C

-- what it leaves: its number, and all that was lent to it, as it was after a refusal, or what the step makes of it
pub record Leaves {A S : Type 0} (code : Out A → ℕ) (make : A → S) (o : Out A) (n : ℕ) (s s' : S) : Type 0 where
  pub number : ◌≡◌ {A = ℕ} n (code o)
  pub lent : s' ≡ left s make o

-- a step on the record that numbers stand for; 1 where they stand for none, which hides everything else
abbrev pub and_then : {A B : Type 0} → Out A → (A → Out B) → Out B
and_then (refuse n) f = refuse n
and_then (ok a) f = f a

abbrev pub stand_rows : List ℕ → (Chain → List Case) → List Case
stand_rows l rows = case broken (Stands l → ⊥) ∷ under (Stands l) (rows (chain_of l))

-- ---- the relay step

unfoldable pub relay_numbers : List ℕ → List ℕ → List ℕ → Out Way
relay_numbers l p out = and_then (record_of l) (λ c. relay_call c p out)

abbrev pub relay_code : Out Way → ℕ
relay_code o = outcome_code (outcome_of o)

abbrev pub RelayLeaves : List ℕ → List ℕ → List ℕ → ℕ → List ℕ → Type 0
RelayLeaves l p out n out' = Leaves relay_code (λ w. sent_in out (packet_sent w)) (relay_numbers l p out) n out out'

abbrev pub relay_numbers_rows : List ℕ → List ℕ → List ℕ → List Case
relay_numbers_rows l p out = stand_rows l (λ c. relay_rows c p out)

-- ---- the controller steps

-- the kind is that of the change: before or after; any other is 1
unfoldable pub open_numbers : List ℕ → ℕ → ℕ → ℕ → Out Chain
open_numbers l kind named fresh =
    judge (test broken (not (eqb kind kind_before || eqb kind kind_after)) ∷ [])
    (and_then (record_of l) (λ c. open_call c (eqb kind kind_after) named fresh))

abbrev pub OpenLeaves : List ℕ → ℕ → ℕ → ℕ → ℕ → List ℕ → Type 0
OpenLeaves l kind named fresh n l' = Leaves number_of numbers_of (open_numbers l kind named fresh) n l l'

abbrev pub Kind : ℕ → Type 0
Kind kind = (kind ≡ kind_before) ⊎ (kind ≡ kind_after)

abbrev pub open_numbers_rows : List ℕ → ℕ → ℕ → ℕ → List Case
open_numbers_rows l kind named fresh =
    case broken (Kind kind → ⊥) ∷ under (Kind kind) (stand_rows l (λ c. open_rows c (eqb kind kind_after) named fresh))

unfoldable pub fence_numbers : List ℕ → List ℕ → Out Chain
fence_numbers l t = and_then (record_of l) (λ c. fence_call c t)

abbrev pub FenceLeaves : List ℕ → List ℕ → ℕ → List ℕ → List ℕ → Type 0
FenceLeaves l t n l' t' = Leaves {S = List ℕ × List ℕ} number_of (λ c. (numbers_of c, fence_bytes (chain_of l).wiring t)) (fence_numbers l t) n (l, t) (l', t')

abbrev pub fence_numbers_rows : List ℕ → List ℕ → List Case
fence_numbers_rows l t = stand_rows l (λ c. fence_rows c t)

unfoldable pub copy_numbers : List ℕ → ℕ → List ℕ → List ℕ → Out Chain
copy_numbers l i named fresh = and_then (record_of l) (λ c. copy_call c i named fresh)

abbrev pub CopyLeaves : List ℕ → ℕ → List ℕ → List ℕ → ℕ → List ℕ → List ℕ → Type 0
CopyLeaves l i named fresh n l' fresh' = Leaves {S = List ℕ × List ℕ} number_of (λ c. (numbers_of c, copy_bytes i named fresh)) (copy_numbers l i named fresh) n (l, fresh) (l', fresh')

abbrev pub copy_numbers_rows : List ℕ → ℕ → List ℕ → List ℕ → List Case
copy_numbers_rows l i named fresh = stand_rows l (λ c. copy_rows c i named fresh)

unfoldable pub activate_numbers : List ℕ → Out Chain
activate_numbers l = and_then (record_of l) activate_call

abbrev pub ActivateLeaves : List ℕ → ℕ → List ℕ → Type 0
ActivateLeaves l n l' = Leaves number_of numbers_of (activate_numbers l) n l l'

abbrev pub activate_numbers_rows : List ℕ → List Case
activate_numbers_rows l = stand_rows l activate_rows

unfoldable pub cancel_numbers : List ℕ → Out Chain
cancel_numbers l = and_then (record_of l) cancel_call

abbrev pub CancelLeaves : List ℕ → ℕ → List ℕ → Type 0
CancelLeaves l n l' = Leaves number_of numbers_of (cancel_numbers l) n l l'

abbrev pub cancel_numbers_rows : List ℕ → List Case
cancel_numbers_rows l = stand_rows l cancel_rows

unfoldable pub remove_numbers : List ℕ → ℕ → Out Chain
remove_numbers l id = and_then (record_of l) (λ c. remove_call c id)

abbrev pub RemoveLeaves : List ℕ → ℕ → ℕ → List ℕ → Type 0
RemoveLeaves l id n l' = Leaves number_of numbers_of (remove_numbers l id) n l l'

abbrev pub remove_numbers_rows : List ℕ → ℕ → List Case
remove_numbers_rows l id = stand_rows l (λ c. remove_rows c id)

unfoldable pub enter_numbers : List ℕ → List ℕ → ℕ → List ℕ → Out Write
enter_numbers l t id key = and_then (record_of l) (λ c. enter_call c t id key)

abbrev pub EnterLeaves : List ℕ → List ℕ → ℕ → List ℕ → ℕ → List ℕ → Type 0
EnterLeaves l t id key n t' = Leaves number_of (λ w. write_bytes w t) (enter_numbers l t id key) n t t'

abbrev pub enter_numbers_rows : List ℕ → List ℕ → ℕ → List ℕ → List Case
enter_numbers_rows l t id key = stand_rows l (λ c. enter_rows c t id key)

-- ---- a starting record

abbrev pub start_of : List ℕ → ℕ → Chain
start_of ids count = start_chain (length ids) (places_of ids) count

-- the ids in chain order: 1 where there are more than eight, there is no room for just the record's numbers, or the record would break the rules
unfoldable pub start_numbers : List ℕ → List ℕ → ℕ → Out Chain
start_numbers l ids count =
    judge
    (test broken (not (eqb (length l) record_size) || (ltb most_nodes (length ids) || not (chain_ok (start_of ids count)))) ∷ [])
    (ok (start_of ids count))

abbrev pub StartLeaves : List ℕ → List ℕ → ℕ → ℕ → List ℕ → Type 0
StartLeaves l ids count n l' = Leaves number_of numbers_of (start_numbers l ids count) n l l'

abbrev pub start_numbers_rows : List ℕ → List ℕ → ℕ → List Case
start_numbers_rows l ids count =
    case broken ((length l ≡ record_size → ⊥) ⊎ ((most_nodes < length ids) ⊎ (ChainRules (start_of ids count) → ⊥))) ∷ []

-- ---- packets

-- reading: 2 where there is no room for just the fields
unfoldable pub read_numbers : List ℕ → List ℕ → Out Head
read_numbers p f = judge (test small_outlet (not (eqb (length f) fields_size)) ∷ []) (read_call p)

abbrev pub ReadLeaves : List ℕ → List ℕ → ℕ → List ℕ → Type 0
ReadLeaves p f n f' = Leaves number_of fields_of (read_numbers p f) n f f'

abbrev pub read_numbers_rows : List ℕ → List ℕ → List Case
read_numbers_rows p f = case small_outlet (length f ≡ fields_size → ⊥) ∷ case malformed (Formed p → ⊥) ∷ []

-- writing: numbers that stand for no fields are no packet
unfoldable pub write_numbers : List ℕ → List ℕ → List ℕ → List ℕ → Out Packet
write_numbers out f key value =
    judge
    (test small_outlet (ltb (length out) outlet_size)
    ∷ test malformed (not (fields_fit f) || not (packet_ok (packet (head_from f) key value)))
    ∷ [])
    (ok (packet (head_from f) key value))

abbrev pub WriteLeaves : List ℕ → List ℕ → List ℕ → List ℕ → ℕ → List ℕ → Type 0
WriteLeaves out f key value n out' = Leaves number_of (sent_in out) (write_numbers out f key value) n out out'

abbrev pub write_numbers_rows : List ℕ → List ℕ → List ℕ → List ℕ → List Case
write_numbers_rows out f key value =
    case small_outlet (length out < outlet_size)
    ∷ case malformed ((FieldsStand f → ⊥) ⊎ (Fit (packet (head_from f) key value) → ⊥))
    ∷ []

-- ---- a table alone

-- 1 where it breaks the rules
unfoldable pub good_call : List ℕ → Out (Unit {0})
good_call t = judge (test broken (not (table_ok t)) ∷ []) (ok tt)

abbrev pub good_rows : List ℕ → List Case
good_rows t = case broken (TableRules t → ⊥) ∷ []

-- the lowest used slot that has the key, of a table or any other slice
unfoldable pub find_number : List ℕ → List ℕ → ℕ
find_number t key = found_code (find key (slots (whole_slots t) t))
