-- Each export leaves what it promises, from the promise of the step that it calls.
use Prim.Native.Nat.{ℕ, ◌≤◌}
use mathlib.Core.Path.{◌≡◌, refl, sym, ap, ◌∙◌}
use mathlib.Core.List.{List}
use mathlib.Core.Logic.{◌⊎◌, inl, inr}
use mathlib.Core.Bool.{Bool, true, false, ◌||◌, not}
use lib.ListN.{length}
use lib.Dec.{ltb, eqb}
use borrow.Author.Tests.{eqb-true, eq-eqb, ne_eqb, ltb-false, not-false}
use Rattle.std.specs.Prelude.{Result}
use Rattle.wire.specs.Numbers.{refuse, ok, said, code, guard, number_of, left, broken, small_outlet, malformed}
use Rattle.wire.specs.Packet.{packet, packet_ok, head_ok, outlet_size, read_call, write_call, sent_in, WriteGives}
use Rattle.wire.specs.declared.Head.{Head}
use Rattle.wire.specs.declared.Refusal.{Refusal}
use Rattle.wire.proofs.Numbers.{pick_true, ok_inj, past, stop_guard, pass_guard, or_left, or_false, reflects_yes, reflects_no, reflects_cases}
use Rattle.wire.proofs.Answers.{code_said, done_number}
use Rattle.store.specs.Table.{table_ok, fence_bytes}
use Rattle.steps.specs.declared.Chain.{Chain}
use Rattle.steps.specs.Relay.{Outcome, relay_call, RelayGives}
use Rattle.steps.specs.Chain.{most_nodes, chain_ok, start_chain, start_call}
use Rattle.steps.specs.Control.{ChainGives, open_call, open_rows, fence_call, fence_rows, FenceGives, copy_call, copy_rows, copy_bytes, CopyGives, activate_call, activate_rows, cancel_call, cancel_rows, remove_call, remove_rows, enter_call, EnterGives}
use Rattle.steps.proofs.Control.{open_judged, fence_judged, copy_judged, activate_judged, cancel_judged, remove_judged}
use Rattle.numbers.specs.Record.{record_size, places_of, kind_before, kind_after, record_or, Settles}
use Rattle.numbers.specs.Fields.{fields_size, head_from, FieldsStand, no_head, head_or, fields_given}
use Rattle.numbers.specs.Answers.{outcome_code}
use Rattle.numbers.proofs.Fields.{reflect_fields, or_head, or_none}
use Rattle.register.specs.Boundary.{relay_numbers, RelayLeaves, open_numbers, OpenLeaves, fence_numbers, FenceLeaves, copy_numbers, CopyLeaves, activate_numbers, ActivateLeaves, cancel_numbers, CancelLeaves, remove_numbers, RemoveLeaves, enter_numbers, EnterLeaves, start_of, start_numbers, start_numbers_rows, StartLeaves, read_numbers, ReadLeaves, write_numbers, WriteLeaves, good_call}
use Rattle.register.proofs.Judged.{start_numbers_lem}
use Rattle.register.proofs.Laws.{none_breaks, OnNumbers, on_leaves, on_left, settle_leaves, chain_leaves, both, leaves_is, refused, done}

-- ---- tests

or_assoc : (a b c : Bool) → (a || (b || c)) ≡ ((a || b) || c)
or_assoc true b c = refl
or_assoc false b c = refl

-- ---- the relay step

pub relay_leaves : (l : List ℕ) {c : Chain} {p out out' : List ℕ} {o : Outcome} {n : ℕ} → c ≡ record_or l → RelayGives c p out o out' → n ≡ outcome_code o → RelayLeaves l p out n out'
unfolding relay_numbers relay_call
relay_leaves l made g e = on_leaves (record { made = made; none = stop_guard _ _ _ none_breaks }) (e ∙ ap outcome_code g.outcome) g.outlet

-- ---- the controller steps

module _ {l l' : List ℕ} {n g : ℕ} {c r : Chain} (made : c ≡ record_or l) (s : Settles l g r n l') where
  pub open_leaves : (kind named fresh : ℕ) → (eqb kind kind_before || eqb kind kind_after) ≡ true
      → ChainGives c (open_call c (eqb kind kind_after) named fresh) g r → OpenLeaves l kind named fresh n l'
  unfolding open_numbers open_call
  open_leaves kind named fresh k g =
      leaves_is (sym (pass_guard _ _ _ (ap not k)))
      (chain_leaves (record { made = made; none = stop_guard _ _ _ none_breaks }) (open_rows c (eqb kind kind_after) named fresh) (open_judged c (eqb kind kind_after) named fresh) g s)

  pub activate_leaves : ChainGives c (activate_call c) g r → ActivateLeaves l n l'
  unfolding activate_numbers activate_call
  activate_leaves g = chain_leaves (record { made = made; none = stop_guard _ _ _ none_breaks }) (activate_rows c) (activate_judged c) g s

  pub cancel_leaves : ChainGives c (cancel_call c) g r → CancelLeaves l n l'
  unfolding cancel_numbers cancel_call
  cancel_leaves g = chain_leaves (record { made = made; none = stop_guard _ _ _ none_breaks }) (cancel_rows c) (cancel_judged c) g s

  pub remove_leaves : (id : ℕ) → ChainGives c (remove_call c id) g r → RemoveLeaves l id n l'
  unfolding remove_numbers remove_call
  remove_leaves id g = chain_leaves (record { made = made; none = stop_guard _ _ _ none_breaks }) (remove_rows c id) (remove_judged c id) g s

  pub fence_leaves_lem : {t t' : List ℕ} → FenceGives c t g r t' → FenceLeaves l t n l' t'
  unfolding fence_numbers fence_call
  fence_leaves_lem {t} g =
      both (fence_numbers l t) (chain_leaves on (fence_rows c t) (fence_judged c t) (record { number = g.number; chain = g.chain }) s)
      (g.table ∙ on_left on t (λ x _. fence_bytes x.wiring t))
    where
      on : OnNumbers l c (λ x. fence_call x t)
      on = record { made = made; none = stop_guard _ _ _ (or_left _ _ none_breaks) }

  pub copy_leaves_lem : {i : ℕ} {named fresh fresh' : List ℕ} → CopyGives c i named fresh g r fresh' → CopyLeaves l i named fresh n l' fresh'
  unfolding copy_numbers copy_call
  copy_leaves_lem {i} {named} {fresh} g =
      both (copy_numbers l i named fresh)
      (chain_leaves on (copy_rows c i named fresh) (copy_judged c i named fresh) (record { number = g.number; chain = g.chain }) s)
      (g.table ∙ on_left on fresh (λ _ _. copy_bytes i named fresh))
    where
      on : OnNumbers l c (λ x. copy_call x i named fresh)
      on = record { made = made; none = stop_guard _ _ _ (or_left _ _ none_breaks) }

pub open_refused : (l : List ℕ) (kind named fresh : ℕ) {n : ℕ} → (eqb kind kind_before || eqb kind kind_after) ≡ false → n ≡ broken → OpenLeaves l kind named fresh n l
unfolding open_numbers
open_refused l kind named fresh k = refused (stop_guard _ _ _ (ap not k))

pub enter_leaves_lem : (l : List ℕ) {c : Chain} {t t' key : List ℕ} {id m n : ℕ} → c ≡ record_or l → ◌≡◌ {A = ℕ} m n → EnterGives c t id key n t' → EnterLeaves l t id key m t'
unfolding enter_numbers enter_call
enter_leaves_lem l made e g = on_leaves (record { made = made; none = stop_guard _ _ _ (or_left _ _ none_breaks) }) (e ∙ g.number) g.table

-- ---- a starting record

module _ (l ids : List ℕ) (count : ℕ) where
  -- no room for just the numbers, or too many ids
  abbrev wrong : Bool
  wrong = not (eqb (length l) record_size) || ltb most_nodes (length ids)

  pub start_refused : {n : ℕ} → wrong ≡ true → n ≡ broken → StartLeaves l ids count n l
  unfolding start_numbers
  start_refused w = refused (stop_guard _ _ _ (or_assoc (not (eqb (length l) record_size)) (ltb most_nodes (length ids)) _ ∙ or_left wrong _ w))

  -- the tests that the record is made of
  started : wrong ≡ false → start_call (length ids) (places_of ids) count ≡ start_numbers l ids count
  unfolding start_numbers start_call
  started w = ap (λ (b : Bool). guard b broken (ok (start_of ids count))) (sym (or_assoc (not (eqb (length l) record_size)) (ltb most_nodes (length ids)) _ ∙ ap (◌|| not (chain_ok (start_of ids count))) w))

  start_is : {a : Chain} → start_numbers l ids count ≡ ok a → start_of ids count ≡ a
  unfolding start_numbers
  start_is e = ok_inj (past _ _ _ _ e).1

  pub start_leaves : {l' places : List ℕ} {g n : ℕ} {r : Chain} → wrong ≡ false → places ≡ places_of ids → ◌≡◌ {A = ℕ} g (number_of (start_call (length ids) places count))
      → r ≡ start_chain (length ids) places count → Settles l g r n l' → StartLeaves l ids count n l'
  start_leaves w p e f s =
      settle_leaves (start_numbers_rows l ids count) (start_numbers l ids count) (start_numbers_lem l ids count)
      (e ∙ ap (λ (x : List ℕ). number_of (start_call (length ids) x count)) p ∙ ap number_of (started w))
      (λ a o. (
        f ∙ ap (λ (x : List ℕ). start_chain (length ids) x count) p ∙ start_is o,
        eqb-true (length l) record_size (not-false _ (or_false (not (eqb (length l) record_size)) (ltb most_nodes (length ids)) w).0),
      ))
      s

  -- a start that is refused gives that number, and the numbers stay
  pub start_broken : {places : List ℕ} {m n : ℕ} → wrong ≡ false → places ≡ places_of ids → refuse m ≡ start_call (length ids) places count → n ≡ m → StartLeaves l ids count n l
  start_broken w p e = refused (sym (started w) ∙ ap (λ (x : List ℕ). start_call (length ids) x count) (sym p) ∙ sym e)

  -- the ids are few enough for the length's 8 bits
  pub start_short : wrong ≡ false → length ids ≤ most_nodes
  start_short w = ltb-false most_nodes (length ids) (or_false (not (eqb (length l) record_size)) (ltb most_nodes (length ids)) w).1

-- ---- packets

module _ (p f : List ℕ) where
  pub read_small : {n : ℕ} → (length f ≡ fields_size → ⊥) → n ≡ small_outlet → ReadLeaves p f n f
  unfolding read_numbers
  read_small n = refused (stop_guard _ _ _ (ap not (ne_eqb (length f) fields_size n)))

  module _ (size : length f ≡ fields_size) where
    roomy : read_numbers p f ≡ read_call p
    unfolding read_numbers
    roomy = pass_guard _ _ _ (ap not (eq-eqb (length f) fields_size size))

    pub read_leaves : {h : Head} {f' : List ℕ} → read_call p ≡ ok h → f' ≡ fields_given f h → ReadLeaves p f 0 f'
    unfolding fields_given
    read_leaves {h} e g = done (roomy ∙ e) (g ∙ pick_true _ _ _ (eq-eqb (length f) fields_size size))

    pub read_refused : {m n : ℕ} → read_call p ≡ refuse m → n ≡ m → ReadLeaves p f n f
    read_refused e = refused (roomy ∙ e)

no_packet_lem : (key value : List ℕ) → not (packet_ok (packet no_head key value)) ≡ true
unfolding packet_ok head_ok
no_packet_lem key value = refl

module _ (out f key value : List ℕ) where
  -- the packet that the code makes of the numbers is written or refused as document 01 has it
  write_is : write_call out (packet (head_or f) key value) ≡ write_numbers out f key value
  unfolding write_call write_numbers
  write_is = go (reflects_cases (reflect_fields f))
    where
      go : FieldsStand f ⊎ (FieldsStand f → ⊥) → write_call out (packet (head_or f) key value) ≡ write_numbers out f key value
      go (inl s) =
          ap (λ (h : Head). write_call out (packet h key value)) (or_head f s)
          ∙ ap
          (λ (b : Bool). guard (ltb (length out) outlet_size) small_outlet (guard (b || not (packet_ok (packet (head_from f) key value))) malformed (ok (packet (head_from f) key value))))
          (sym (ap not (reflects_yes (reflect_fields f) s)))
      go (inr n) =
          ap (λ (h : Head). write_call out (packet h key value)) (or_none f n)
          ∙ ap (guard (ltb (length out) outlet_size) small_outlet)
          (stop_guard _ _ _ (no_packet_lem key value) ∙ sym (stop_guard _ _ _ (or_left _ _ (ap not (reflects_no (reflect_fields f) n)))))

  pub write_leaves : (w : Result (Unit {0}) Refusal) {h : Head} {n : ℕ} {out' : List ℕ} → h ≡ head_or f → WriteGives out (packet h key value) (said w) out' → n ≡ code w → WriteLeaves out f key value n out'
  write_leaves w {h} e g m =
      let o = ap (λ (x : Head). write_call out (packet x key value)) e ∙ write_is in
      record {
        number = m ∙ code_said w ∙ ap number_of g.answer ∙ done_number (write_call out (packet h key value)) ∙ ap number_of o;
        lent = g.outlet ∙ ap (left out (sent_in out)) o;
      }

-- ---- a table alone

pub table_good : (t : List ℕ) → table_ok t ≡ true → number_of (good_call t) ≡ 0
unfolding good_call
table_good t e = ap number_of (pass_guard _ _ _ (ap not e))

pub table_broken : (t : List ℕ) → table_ok t ≡ false → number_of (good_call t) ≡ broken
unfolding good_call
table_broken t e = ap number_of (stop_guard _ _ _ (ap not e))
