-- Each export gives the first refusal that applies; numbers that stand for nothing hide what the step itself would look at.
use Prim.Native.Nat.{ℕ}
use mathlib.Core.Path.{◌≡◌, refl, subst}
use mathlib.Core.List.{List, [], ◌∷◌}
use mathlib.Core.Bool.{Bool, true, false, not, ◌||◌}
use mathlib.Core.Logic.{inl, inr, ◌↔◌, ⊎_elim}
use lib.ListN.{length}
use lib.Dec.{ltb, eqb}
use Rattle.wire.specs.Numbers.{Out, refuse, ok, guard, test, Case, case, under, Applies, Judged, priority, broken, small_outlet, malformed}
use Rattle.wire.specs.Packet.{packet, packet_ok, outlet_size, well_formed, read_call, head_of}
use Rattle.wire.proofs.Numbers.{Reflects, reflect_eqb, reflect_ltb, reflect_not, reflect_or, first_iff, judged}
use Rattle.wire.proofs.Packet.{reflect_formed, reflect_fit}
use Rattle.store.specs.Table.{table_ok}
use Rattle.store.proofs.Rules.{reflect_table}
use Rattle.steps.specs.declared.Chain.{Chain}
use Rattle.steps.specs.Chain.{most_nodes, chain_ok}
use Rattle.steps.specs.Relay.{relay_call, relay_rows}
use Rattle.steps.specs.Control.{open_call, open_rows, fence_call, fence_rows, copy_call, copy_rows, activate_call, activate_rows, cancel_call, cancel_rows, remove_call, remove_rows, enter_call, enter_rows}
use Rattle.steps.proofs.ChainRules.{reflect_chain}
use Rattle.steps.proofs.Relay.{relay_judged}
use Rattle.steps.proofs.Control.{open_judged, fence_judged, copy_judged, activate_judged, cancel_judged, remove_judged, enter_judged}
use Rattle.numbers.specs.Record.{record_size, kind_before, kind_after, record_fits, chain_of, record_of}
use Rattle.numbers.specs.Fields.{fields_size, fields_fit, head_from}
use Rattle.numbers.proofs.Record.{reflect_stands}
use Rattle.numbers.proofs.Fields.{reflect_fields}
use Rattle.register.specs.Boundary.{and_then, stand_rows, relay_numbers, relay_numbers_rows, open_numbers, open_numbers_rows, fence_numbers, fence_numbers_rows, copy_numbers, copy_numbers_rows, activate_numbers, activate_numbers_rows, cancel_numbers, cancel_numbers_rows, remove_numbers, remove_numbers_rows, enter_numbers, enter_numbers_rows, start_of, start_numbers, start_numbers_rows, read_numbers, read_numbers_rows, write_numbers, write_numbers_rows, good_call, good_rows}

-- ---- a first row that hides the others

under_applies : (W : Type 0) (cs : List Case) (n : ℕ) → W → Applies cs n → Applies (under W cs) n
under_applies W (c ∷ cs) n w (inl h) = inl (h.0, (w, h.1))
under_applies W (c ∷ cs) n w (inr h) = inr (under_applies W cs n w h)
under_applies W [] n w x'' = elim x'' [ ]

applies_under : (W : Type 0) (cs : List Case) (n : ℕ) → Applies (under W cs) n → Applies cs n
applies_under W (c ∷ cs) n (inl h) = inl (h.0, h.1.1)
applies_under W (c ∷ cs) n (inr h) = inr (applies_under W cs n h)
applies_under W [] n x' = elim x' [ ]

-- where it does not apply
beneath : {A : Type 0} {W : Type 0} (cs : List Case) (o : Out A) → W → Judged cs o → Judged (case broken (W → ⊥) ∷ under W cs) o
beneath {A} {W} cs o w = go o
  where
    same : (n : ℕ) → Applies cs n ↔ Applies (case broken (W → ⊥) ∷ under W cs) n
    same n = (λ h. inr (under_applies W cs n w h), ⊎_elim (λ h. absurd (h.1 w)) (applies_under W cs n))

    go : (o : Out A) → Judged cs o → Judged (case broken (W → ⊥) ∷ under W cs) o
    go (refuse n) j = first_iff (Applies cs) (Applies (case broken (W → ⊥) ∷ under W cs)) priority n same j
    go (ok a) j = λ n h. j n ((same n).1 h)

hidden : {A : Type 0} {W : Type 0} (b : Bool) (cs : List Case) (o : Out A) → Reflects b W → Judged cs o → Judged (case broken (W → ⊥) ∷ under W cs) (guard (not b) broken o)
unfolding guard
hidden true cs o r j = beneath cs o (r.0 refl) j
hidden false cs o r j = inl (refl, inl (refl, r.1 refl))

-- ---- the record as numbers

then_guard : {A B : Type 0} (b : Bool) (n : ℕ) (a : A) (f : A → Out B) → guard b n (f a) ≡ and_then (guard b n (ok a)) f
unfolding guard
then_guard true n a f = refl
then_guard false n a f = refl

numbers_judged : {A : Type 0} (l : List ℕ) (rows : Chain → List Case) (f : Chain → Out A) → ((c : Chain) → Judged (rows c) (f c)) → Judged (stand_rows l rows) (and_then (record_of l) f)
unfolding record_of
numbers_judged l rows f j =
    subst (Judged (stand_rows l rows)) (then_guard (not (record_fits l)) broken (chain_of l) f)
    (hidden (record_fits l) (rows (chain_of l)) (f (chain_of l)) (reflect_stands l) (j (chain_of l)))

pub relay_numbers_lem : (l p out : List ℕ) → Judged (relay_numbers_rows l p out) (relay_numbers l p out)
unfolding relay_numbers
relay_numbers_lem l p out = numbers_judged l (λ c. relay_rows c p out) (λ c. relay_call c p out) (λ c. relay_judged c p out)

pub open_numbers_lem : (l : List ℕ) (kind named fresh : ℕ) → Judged (open_numbers_rows l kind named fresh) (open_numbers l kind named fresh)
unfolding open_numbers
open_numbers_lem l kind named fresh =
    hidden (eqb kind kind_before || eqb kind kind_after) (stand_rows l (λ c. open_rows c (eqb kind kind_after) named fresh)) (and_then (record_of l) (λ c. open_call c (eqb kind kind_after) named fresh))
    (reflect_or (reflect_eqb kind kind_before) (reflect_eqb kind kind_after))
    (numbers_judged l (λ c. open_rows c (eqb kind kind_after) named fresh) (λ c. open_call c (eqb kind kind_after) named fresh) (λ c. open_judged c (eqb kind kind_after) named fresh))

pub fence_numbers_lem : (l t : List ℕ) → Judged (fence_numbers_rows l t) (fence_numbers l t)
unfolding fence_numbers
fence_numbers_lem l t = numbers_judged l (λ c. fence_rows c t) (λ c. fence_call c t) (λ c. fence_judged c t)

pub copy_numbers_lem : (l : List ℕ) (i : ℕ) (named fresh : List ℕ) → Judged (copy_numbers_rows l i named fresh) (copy_numbers l i named fresh)
unfolding copy_numbers
copy_numbers_lem l i named fresh = numbers_judged l (λ c. copy_rows c i named fresh) (λ c. copy_call c i named fresh) (λ c. copy_judged c i named fresh)

pub activate_numbers_lem : (l : List ℕ) → Judged (activate_numbers_rows l) (activate_numbers l)
unfolding activate_numbers
activate_numbers_lem l = numbers_judged l activate_rows activate_call activate_judged

pub cancel_numbers_lem : (l : List ℕ) → Judged (cancel_numbers_rows l) (cancel_numbers l)
unfolding cancel_numbers
cancel_numbers_lem l = numbers_judged l cancel_rows cancel_call cancel_judged

pub remove_numbers_lem : (l : List ℕ) (id : ℕ) → Judged (remove_numbers_rows l id) (remove_numbers l id)
unfolding remove_numbers
remove_numbers_lem l id = numbers_judged l (λ c. remove_rows c id) (λ c. remove_call c id) (λ c. remove_judged c id)

pub enter_numbers_lem : (l t : List ℕ) (id : ℕ) (key : List ℕ) → Judged (enter_numbers_rows l t id key) (enter_numbers l t id key)
unfolding enter_numbers
enter_numbers_lem l t id key = numbers_judged l (λ c. enter_rows c t id key) (λ c. enter_call c t id key) (λ c. enter_judged c t id key)

-- ---- the others

pub start_numbers_lem : (l ids : List ℕ) (count : ℕ) → Judged (start_numbers_rows l ids count) (start_numbers l ids count)
unfolding start_numbers
start_numbers_lem l ids count =
    judged
    (test broken (not (eqb (length l) record_size) || (ltb most_nodes (length ids) || not (chain_ok (start_of ids count)))) ∷ [])
    (start_numbers_rows l ids count)
    (refl, reflect_or (reflect_not (reflect_eqb (length l) record_size)) (reflect_or (reflect_ltb most_nodes (length ids)) (reflect_not (reflect_chain (start_of ids count)))), λ _. tt)
    refl (start_of ids count)

pub read_numbers_lem : (p f : List ℕ) → Judged (read_numbers_rows p f) (read_numbers p f)
unfolding read_numbers read_call
read_numbers_lem p f =
    judged
    (test small_outlet (not (eqb (length f) fields_size)) ∷ test malformed (not (well_formed p)) ∷ [])
    (read_numbers_rows p f)
    (refl, reflect_not (reflect_eqb (length f) fields_size), λ _. (refl, reflect_not (reflect_formed p), λ _. tt))
    refl (head_of p)

pub write_numbers_lem : (out f key value : List ℕ) → Judged (write_numbers_rows out f key value) (write_numbers out f key value)
unfolding write_numbers
write_numbers_lem out f key value =
    judged
    (test small_outlet (ltb (length out) outlet_size) ∷ test malformed (not (fields_fit f) || not (packet_ok (packet (head_from f) key value))) ∷ [])
    (write_numbers_rows out f key value)
    (refl, reflect_ltb (length out) outlet_size, λ _. (refl, reflect_or (reflect_not (reflect_fields f)) (reflect_not (reflect_fit (packet (head_from f) key value))), λ _. tt))
    refl (packet (head_from f) key value)

pub good_numbers : (t : List ℕ) → Judged (good_rows t) (good_call t)
unfolding good_call
good_numbers t = judged (test broken (not (table_ok t)) ∷ []) (good_rows t) (refl, reflect_not (reflect_table t), λ _. tt) refl tt
