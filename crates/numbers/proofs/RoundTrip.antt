-- Nothing is lost between a record, or the fields of a packet, and its numbers.
use Prim.Native.Nat.{ℕ, zero, suc, ◌+◌, ◌<◌, ◌≤◌}
use mathlib.Core.Path.{◌≡◌, refl, sym, ap, ap₂, ◌∙◌}
use mathlib.Core.List.{List, [], ◌∷◌, ◌++◌}
use mathlib.Core.Bool.{Bool, true, false}
use mathlib.Core.Logic.{◌⊎◌, inl, inr, ⊎_map}
use native.Mathlib.Omega.{arith}
use native.Mathlib.Decide.{ℕ_discrete}
use lib.ListN.{length, get_or, take, replicate}
use lib.Dec.{eqb}
use Rattle.wire.specs.Numbers.{ok}
use Rattle.wire.specs.declared.Head.{Head}
use Rattle.wire.proofs.RoundTrip.{Ranges}
use Rattle.store.specs.Table.{tab}
use Rattle.chain.proofs.Places.{by_place}
use Rattle.steps.specs.declared.Change.{Change}
use Rattle.steps.specs.declared.Change.TheVariants.{Still, Before, After}
use Rattle.steps.specs.declared.Chain.{Chain}
use Rattle.steps.specs.Chain.{most_nodes, joining}
use Rattle.numbers.specs.Record.{record_size, top_id, kind_none, kind_before, kind_after, change_of, chain_of, record_of, ChangeStands, Stands, mark_of, kind_of, joining_of, change_numbers, numbers_of, JoiningSized, ChangeSized, Sized}
use Rattle.numbers.specs.Fields.{fields_size, head_from, FieldsStand, fields_of}
use Rattle.numbers.proofs.Record.{still, before, after, stands_record}

-- ---- a record, its numbers, and the record again

mark_back : (b : Bool) → eqb (mark_of b) 1 ≡ b
mark_back true = refl
mark_back false = refl

change_read : (ch : Change) → change_of (kind_of ch) (joining (joining_of ch).named (joining_of ch).fresh (eqb (mark_of (joining_of ch).fenced) 1) (joining_of ch).next) ≡ ch
change_read Still = still _ refl
change_read (Before j) = before _ refl ∙ ap (λ (b : Bool). Before (joining j.named j.fresh b j.next)) (mark_back j.fenced)
change_read (After j) = after _ (λ e. omega arith) (λ e. omega arith) ∙ ap (λ (b : Bool). After (joining j.named j.fresh b j.next)) (mark_back j.fenced)

mark_small : (b : Bool) → mark_of b ≤ 1
mark_small true = omega arith
mark_small false = omega arith

change_small : (ch : Change) → ChangeSized ch → (kind_of ch ≡ kind_none) ⊎ ((kind_of ch ≤ kind_after) × JoiningSized (joining_of ch))
change_small Still h = inl refl
change_small (Before j) h = inr (omega arith, h)
change_small (After j) h = inr (omega arith, h)

module _ (c : Chain) (s : Sized c) where
  change_stands : (get_or (numbers_of c) 13 0 ≡ kind_none) ⊎ ChangeStands (numbers_of c)
  unfolding numbers_of
  change_stands =
      ⊎_map (λ e. e)
      (λ p. record { kind = p.0; named = p.1.named; fresh = p.1.fresh; fenced = mark_small (joining_of c.change).fenced; next = p.1.next })
      (change_small c.change s.change)

  places_stand : (i : ℕ) → i < most_nodes → get_or (numbers_of c) (1 + i) 0 ≤ top_id
  unfolding numbers_of
  places_stand zero h = s.places 0 h
  places_stand (suc zero) h = s.places 1 h
  places_stand (suc (suc zero)) h = s.places 2 h
  places_stand (suc (suc (suc zero))) h = s.places 3 h
  places_stand (suc (suc (suc (suc zero)))) h = s.places 4 h
  places_stand (suc (suc (suc (suc (suc zero))))) h = s.places 5 h
  places_stand (suc (suc (suc (suc (suc (suc zero)))))) h = s.places 6 h
  places_stand (suc (suc (suc (suc (suc (suc (suc zero))))))) h = s.places 7 h
  places_stand (suc (suc (suc (suc (suc (suc (suc (suc i)))))))) h = absurd (omega arith)

  numbers_stand : Stands (numbers_of c)
  unfolding numbers_of
  numbers_stand = record {
    size = refl;
    length = s.length;
    places = places_stand;
    session = s.session;
    highest = s.highest;
    count = s.count;
    change = change_stands;
  }

  chain_read : chain_of (numbers_of c) ≡ c
  unfolding chain_of numbers_of
  chain_read =
      ap₂
      (λ (p : List ℕ) (ch : Change). record {
        length = c.length;
        places = p;
        wiring = c.wiring;
        session = c.session;
        highest = c.highest;
        count = c.count;
        change = ch;
      })
      (by_place most_nodes c.places (λ i. get_or c.places i 0) s.eight (λ i h. refl))
      (change_read c.change)

  pub record_read : record_of (numbers_of c) ≡ ok c
  record_read = stands_record (numbers_of c) numbers_stand ∙ ap ok chain_read

-- ---- numbers, their record, and the numbers again

mark_read : (n : ℕ) → n ≤ 1 → mark_of (eqb n 1) ≡ n
mark_read zero h = refl
mark_read (suc zero) h = refl
mark_read (suc (suc n)) h = absurd (omega arith)

-- of a list of 18 numbers everything computes
abbrev change_at : (ℕ → ℕ) → Change
change_at f = change_of (f 13) (joining (f 14) (f 15) (eqb (f 16) 1) (f 17))

numbers_tab : (f : ℕ → ℕ) → numbers_of (chain_of (tab record_size f)) ≡ tab 13 f ++ change_numbers (kind_of (change_at f)) (joining_of (change_at f))
unfolding chain_of numbers_of
numbers_tab f = refl

open_tab : (f : ℕ → ℕ) → f 13 ≤ kind_after → (f 13 ≡ kind_none → ⊥) → f 16 ≤ 1 → change_numbers (kind_of (change_at f)) (joining_of (change_at f)) ≡ f 13 ∷ f 14 ∷ f 15 ∷ f 16 ∷ f 17 ∷ []
open_tab f h n m = go (ℕ_discrete (f 13) kind_before)
  where
    go : Dec (f 13 ≡ kind_before) → change_numbers (kind_of (change_at f)) (joining_of (change_at f)) ≡ f 13 ∷ f 14 ∷ f 15 ∷ f 16 ∷ f 17 ∷ []
    go (yes e) = rw (before (joining (f 14) (f 15) (eqb (f 16) 1) (f 17)) e, mark_read (f 16) m, e)
    go (no d) = let e : f 13 ≡ kind_after = omega arith in rw (after (joining (f 14) (f 15) (eqb (f 16) 1) (f 17)) n d, mark_read (f 16) m, e)

still_tab : (f : ℕ → ℕ) → f 13 ≡ kind_none → change_numbers (kind_of (change_at f)) (joining_of (change_at f)) ≡ replicate 5 0
still_tab f e = rw (still (joining (f 14) (f 15) (eqb (f 16) 1) (f 17)) e)

module _ (l : List ℕ) (s : Stands l) where
  by_number_lem : tab record_size (λ i. get_or l i 0) ≡ l
  by_number_lem = by_place record_size l (λ i. get_or l i 0) s.size (λ i h. refl)

  -- with a change open they are the numbers
  pub numbers_read : (get_or l 13 0 ≡ kind_none → ⊥) → numbers_of (chain_of l) ≡ l
  numbers_read n = go s.change
    where
      go : (get_or l 13 0 ≡ kind_none) ⊎ ChangeStands l → numbers_of (chain_of l) ≡ l
      go (inl e) = absurd (n e)
      go (inr c) =
          ap (λ (x : List ℕ). numbers_of (chain_of x)) (sym by_number_lem)
          ∙ numbers_tab (λ i. get_or l i 0)
          ∙ ap (tab 13 (λ i. get_or l i 0) ++◌) (open_tab (λ i. get_or l i 0) c.kind n c.fenced)
          ∙ by_number_lem

  -- with none open those of a change are 0
  pub still_read : get_or l 13 0 ≡ kind_none → numbers_of (chain_of l) ≡ take 13 l ++ replicate 5 0
  still_read e =
      ap (λ (x : List ℕ). numbers_of (chain_of x)) (sym by_number_lem)
      ∙ numbers_tab (λ i. get_or l i 0)
      ∙ ap (tab 13 (λ i. get_or l i 0) ++◌) (still_tab (λ i. get_or l i 0) e)
      ∙ ap (λ (x : List ℕ). take 13 x ++ replicate 5 0) by_number_lem

-- ---- the fields of a packet

pub fields_stand : (h : Head) → Ranges h → FieldsStand (fields_of h)
unfolding fields_of
fields_stand h r = record {
  size = refl;
  op = omega (arith, r.op);
  answer = omega (arith, r.answer);
  from = omega (arith, r.from);
  to = omega (arith, r.to);
  client = omega (arith, r.client);
  session = omega (arith, r.session);
  length = omega (arith, r.length);
}

pub fields_read : (h : Head) → head_from (fields_of h) ≡ h
unfolding head_from fields_of
fields_read h = refl

pub head_read : (f : List ℕ) → length f ≡ fields_size → fields_of (head_from f) ≡ f
unfolding head_from fields_of
head_read f e = by_place fields_size f (λ i. get_or f i 0) e (λ i h. refl)
