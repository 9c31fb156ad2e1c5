-- Document 01, "Bench": parcels are numbered from 1 and never vanish. One that is kept gets the next number, and all others stay.
use Prim.Native.Nat.{ℕ, zero, suc, ◌+◌, ◌-◌, ◌≤◌, ◌<◌}
use mathlib.Core.Path.{◌≡◌, refl, ap, ap₂, sym, ◌∙◌}
use mathlib.Core.List.{List, [], ◌∷◌, map}
use mathlib.Core.Logic.{◌⊎◌, inl, inr}
use native.Mathlib.Omega.{arith}
use lib.ListN.{length, set}
use borrow.Author.Tests.{eq-eqb, ne_eqb}
use Rattle.std.specs.Prelude.{Some, Ok, Err, slice_get}
use Rattle.wire.proofs.Numbers.{pick_true, pick_false, reflects_cases, reflect_eqb}
use Rattle.lines.specs.declared.output.Place.{Place}
use Rattle.parcels.specs.declared.Fault.TheVariants.{Refused, Halted, Unclear}
use Rattle.parcels.specs.declared.Parcel.{Parcel}
use Rattle.parcels.specs.declared.Parcels.{Parcels}
use Rattle.parcels.specs.Sizes.{most_parcels}
use Rattle.parcels.specs.Parcels.{number_of, keep_outcome, count_of, part_in, part_of, place_in, to_of, packet_in, bytes_in, packet_at, parcel, none_yet, placed, kept, KeepGives}
use Rattle.parcels.proofs.Laws.{bounded_fits, count_fits, part_there}

-- an element that was put, and those before it
got_same : (l : List Parcel) (i : ℕ) (x : Parcel) → i < length l → slice_get (set l i x) i ≡ Some x
got_same [] i x h = absurd (omega arith)
got_same (y ∷ l) zero x h = refl
got_same (y ∷ l) (suc i) x h = got_same l i x (omega arith)

got_before : (l : List Parcel) (i j : ℕ) (x : Parcel) → j < i → slice_get (set l i x) j ≡ slice_get l j
got_before [] i j x h = refl
got_before (y ∷ l) zero j x h = absurd (omega arith)
got_before (y ∷ l) (suc i) zero x h = refl
got_before (y ∷ l) (suc i) (suc j) x h = got_before l i j x (omega arith)

-- at first there is none
pub none_counted : count_of none_yet ≡ 0
unfolding count_of
none_counted = bounded_fits 0 (omega arith)

-- one that finds no room is unclear, and any other is kept; 23 for what is halted, 24 for what is unclear
pub keep_full : (a : Parcels) (n : ℕ) (to : Place) (o : List ℕ) → n ≡ count_of a → n ≡ most_parcels → KeepGives a to o (Err Unclear) a
unfolding keep_outcome kept
keep_full a n to o e f =
    let t = eq-eqb (count_of a) most_parcels (sym e ∙ f) in
    record { answer = sym (pick_true _ _ _ t); after = sym (pick_true _ _ _ t) }

pub keep_room : (a a' : Parcels) (n : ℕ) (to : Place) (o : List ℕ) → n ≡ count_of a → (n ≡ most_parcels → ⊥) → a' ≡ placed a n to o → KeepGives a to o (Ok tt) a'
unfolding keep_outcome kept
keep_room a a' n to o e other f =
    let t = ne_eqb (count_of a) most_parcels (λ g. other (e ∙ g)) in
    record { answer = sym (pick_false _ _ _ t); after = f ∙ ap (λ (m : ℕ). placed a m to o) e ∙ sym (pick_false _ _ _ t) }

pub fault_numbers : map number_of (Refused 7 ∷ Halted ∷ Unclear ∷ []) ≡ 7 ∷ 23 ∷ 24 ∷ []
fault_numbers = refl

-- the parcels, and where another goes with its packet
module _ (a : Parcels) (to : Place) (o : List ℕ) (whole : length a.parcels ≡ most_parcels) where
  count_placed : (n : ℕ) → n < most_parcels → count_of (placed a n to o) ≡ n + 1
  unfolding count_of placed
  count_placed n h = bounded_fits (n + 1) (omega arith)

  kept_placed : count_of a < most_parcels → kept a to o ≡ placed a (count_of a) to o
  unfolding kept
  kept_placed h = pick_false _ _ _ (ne_eqb (count_of a) most_parcels (λ e. omega arith))

  kept_full : count_of a ≡ most_parcels → kept a to o ≡ a
  unfolding kept
  kept_full e = pick_true _ _ _ (eq-eqb (count_of a) most_parcels e)

  -- there is one more
  pub kept_count : count_of a < most_parcels → count_of (kept a to o) ≡ count_of a + 1
  kept_count h = ap count_of (kept_placed h) ∙ count_placed (count_of a) h

  -- it has the next number, its destination and its packet
  pub kept_part : count_of a < most_parcels → part_of (kept a to o) (count_of a + 1) ≡ Some (parcel to o)
  unfolding part_of placed
  kept_part h =
      let n = count_of a in
      let at : n + 1 - 1 ≡ n = omega arith in
      ap₂ (λ (ps : Parcels) (m : ℕ). part_in ps.parcels m (n + 1)) (kept_placed h) (kept_count h)
      ∙ part_there (placed a n to o).parcels (n + 1) (n + 1) (omega arith) (omega arith)
      ∙ ap (slice_get (placed a n to o).parcels) at
      ∙ got_same a.parcels n (parcel to o) (omega arith)

  pub kept_to : count_of a < most_parcels → to_of (kept a to o) (count_of a + 1) ≡ to
  unfolding to_of
  kept_to h = ap place_in (kept_part h)

  pub kept_packet : count_of a < most_parcels → packet_at (kept a to o) (count_of a + 1) ≡ packet_in o
  unfolding packet_at
  kept_packet h = ap bytes_in (kept_part h)

  -- no parcel vanishes, whether there is room for another or not
  pub parcels_stay : (p : ℕ) → 0 < p → p ≤ count_of a → part_of (kept a to o) p ≡ part_of a p
  unfolding part_of placed
  parcels_stay p k l = go (reflects_cases (reflect_eqb (count_of a) most_parcels))
    where
      go : (count_of a ≡ most_parcels) ⊎ (count_of a ≡ most_parcels → ⊥) → part_of (kept a to o) p ≡ part_of a p
      go (inl e) = ap (λ (ps : Parcels). part_of ps p) (kept_full e)
      go (inr n) =
          let h : count_of a < most_parcels = omega (arith, count_fits a) in
          ap₂ (λ (ps : Parcels) (m : ℕ). part_in ps.parcels m p) (kept_placed h) (kept_count h)
          ∙ part_there (placed a (count_of a) to o).parcels (count_of a + 1) p k (omega arith)
          ∙ got_before a.parcels (count_of a) (p - 1) (parcel to o) (omega arith)
          ∙ sym (part_there a.parcels (count_of a) p k l)

  pub packets_stay : (p : ℕ) → 0 < p → p ≤ count_of a → packet_at (kept a to o) p ≡ packet_at a p
  unfolding packet_at
  packets_stay p k l = ap bytes_in (parcels_stay p k l)
