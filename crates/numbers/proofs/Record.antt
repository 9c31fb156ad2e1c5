-- The record that the code makes of numbers is the one that they stand for.
use Prim.Native.Nat.{ℕ, zero, suc, ◌+◌, ◌-◌, ◌<◌, ◌≤◌}
use mathlib.Core.Path.{◌≡◌, sym, ap, ◌∙◌}
use mathlib.Core.List.{List, ◌++◌}
use mathlib.Core.Bool.{true, false, not, ◌&&◌}
use mathlib.Core.Logic.{◌⊎◌, ⊎_elim}
use native.Mathlib.Nat.{mod-eq_of_lt}
use native.Mathlib.Omega.{arith}
use native.Mathlib.Decide.{ℕ_discrete, dec_lt}
use lib.ListN.{length, get_or, take, drop, replicate, length-take, length-drop, length-append, length-replicate, get_or-replicate, get_or-append, get_or-eq_default}
use lib.Dec.{leb, eqb}
use lib.Seq.{get_or-take, get_or-drop, get_or-append-add}
use borrow.Author.Tests.{eq-eqb, ne_eqb}
use Rattle.wire.specs.Numbers.{refuse, ok, left, broken}
use Rattle.wire.specs.Version.{session, stamp}
use Rattle.wire.proofs.Numbers.{pick_true, pick_false, pass_guard, stop_guard, Reflects, reflects_yes, reflects_no, reflect_true, reflect_eqb, reflect_leb, reflect_and, reflect_or, reflect_iff}
use Rattle.store.specs.Table.{tab}
use Rattle.chain.proofs.Places.{by_place}
use Rattle.steps.specs.declared.Joining.{Joining}
use Rattle.steps.specs.declared.Change.{Change}
use Rattle.steps.specs.declared.Chain.{Chain}
use Rattle.steps.specs.declared.Change.TheVariants.{Still, Before, After}
use Rattle.steps.specs.Chain.{most_nodes}
use Rattle.numbers.specs.Record.{record_size, top_byte, top_id, kind_none, kind_before, within, low_bits, change_fits, record_fits, change_of, joining_in, places_made, joining_made, chain_of, record_of, record_or, no_record, ChangeStands, Stands, numbers_of, Settles, places_of}

-- ---- one number

pub low_bits_lem : {top n : ℕ} → n ≤ top → low_bits top n ≡ n
low_bits_lem h = mod-eq_of_lt (omega arith)

-- ---- the kind of change

pub still : {kind : ℕ} (j : Joining) → kind ≡ kind_none → change_of kind j ≡ Still
unfolding change_of
still {kind} j e = pick_true _ _ _ (eq-eqb kind kind_none e)

pub before : {kind : ℕ} (j : Joining) → kind ≡ kind_before → change_of kind j ≡ Before j
unfolding change_of
before {kind} j e = pick_false _ _ _ (ne_eqb kind kind_none (λ z. omega arith)) ∙ pick_true _ _ _ (eq-eqb kind kind_before e)

pub after : {kind : ℕ} (j : Joining) → (kind ≡ kind_none → ⊥) → (kind ≡ kind_before → ⊥) → change_of kind j ≡ After j
unfolding change_of
after {kind} j e f = pick_false _ _ _ (ne_eqb kind kind_none e) ∙ pick_false _ _ _ (ne_eqb kind kind_before f)

-- ---- which numbers stand for a record

-- the k numbers from `at` on
pub reflect_within : (top k : ℕ) (l : List ℕ) (at : ℕ) → Reflects (within top k l at) ((i : ℕ) → i < k → get_or l (at + i) 0 ≤ top)
reflect_within top zero l at = reflect_true (λ i h. absurd (omega arith))
reflect_within top (suc k) l at =
    reflect_iff (reflect_and (reflect_within top k l at) (reflect_leb (get_or l (at + k) 0) top))
    (λ p i h. go p i h (ℕ_discrete i k), λ f. (λ i h. f i (omega arith), f k (omega arith)))
  where
    go : ((i : ℕ) → i < k → get_or l (at + i) 0 ≤ top) × (get_or l (at + k) 0 ≤ top) → (i : ℕ) → i < suc k → Dec (i ≡ k) → get_or l (at + i) 0 ≤ top
    go p i h (yes e) = rw e p.1
    go p i h (no n) = p.0 i (omega arith)

reflect_change : (l : List ℕ) → Reflects (change_fits l) ((get_or l 13 0 ≡ kind_none) ⊎ ChangeStands l)
reflect_change l =
    reflect_or (reflect_eqb (get_or l 13 0) kind_none)
    (reflect_iff
    (reflect_and (reflect_leb _ _)
    (reflect_and (reflect_within top_id 2 l 14) (reflect_and (reflect_leb (get_or l 16 0) 1) (reflect_leb (get_or l 17 0) top_id))))
    (λ p. record { kind = p.0; named = p.1.0 0 (omega arith); fresh = p.1.0 1 (omega arith); fenced = p.1.1.0; next = p.1.1.1 }, λ c. (c.kind, (ids c, (c.fenced, c.next)))))
  where
    ids : ChangeStands l → (i : ℕ) → i < 2 → get_or l (14 + i) 0 ≤ top_id
    ids c zero h = c.named
    ids c (suc zero) h = c.fresh
    ids c (suc (suc i)) h = absurd (omega arith)

pub reflect_stands : (l : List ℕ) → Reflects (record_fits l) (Stands l)
unfolding record_fits
reflect_stands l =
    reflect_iff
    (reflect_and (reflect_eqb (length l) record_size)
    (reflect_and (reflect_leb (get_or l 0 0) top_byte)
    (reflect_and (reflect_within top_id 8 l 1) (reflect_and (reflect_within top_id 3 l 10) (reflect_change l)))))
    (to, λ s. (s.size, (s.length, (s.places, (ids s, s.change)))))
  where
    to : (length l ≡ record_size)
        × ((get_or l 0 0 ≤ top_byte)
        × (((i : ℕ) → i < 8 → get_or l (1 + i) 0 ≤ top_id)
        × (((i : ℕ) → i < 3 → get_or l (10 + i) 0 ≤ top_id) × ((get_or l 13 0 ≡ kind_none) ⊎ ChangeStands l))))
        → Stands l
    to p = record {
      size = p.0;
      length = p.1.0;
      places = p.1.1.0;
      session = p.1.1.1.0 0 (omega arith);
      highest = p.1.1.1.0 1 (omega arith);
      count = p.1.1.1.0 2 (omega arith);
      change = p.1.1.1.1;
    }

    ids : Stands l → (i : ℕ) → i < 3 → get_or l (10 + i) 0 ≤ top_id
    ids s zero h = s.session
    ids s (suc zero) h = s.highest
    ids s (suc (suc zero)) h = s.count
    ids s (suc (suc (suc i))) h = absurd (omega arith)

-- the tests of the code: the length first, and the others only of numbers that are there
pub fits_is : (l : List ℕ) → length l ≡ record_size
    → (leb (get_or l 0 0) top_byte && (within top_id 8 l 1 && (within top_id 3 l 10 && change_fits l))) ≡ record_fits l
unfolding record_fits
fits_is l e = rw (eq-eqb (length l) record_size e)

pub stands_record : (l : List ℕ) → Stands l → record_of l ≡ ok (chain_of l)
unfolding record_of
stands_record l s = pass_guard _ _ _ (ap not (reflects_yes (reflect_stands l) s))

pub stands_none : (l : List ℕ) → (Stands l → ⊥) → record_of l ≡ refuse broken
unfolding record_of
stands_none l n = stop_guard _ _ _ (ap not (reflects_no (reflect_stands l) n))

-- what the code makes of them
pub or_record : (l : List ℕ) → Stands l → record_or l ≡ chain_of l
unfolding record_or
or_record l s = ap (left no_record (λ c. c)) (stands_record l s)

pub or_none : (l : List ℕ) → (Stands l → ⊥) → record_or l ≡ no_record
unfolding record_or
or_none l n = ap (left no_record (λ c. c)) (stands_none l n)

-- ---- the parts

module _ (l : List ℕ) (s : Stands l) where
  places_are : places_made l ≡ take most_nodes (drop 1 l)
  places_are =
      by_place most_nodes (take most_nodes (drop 1 l)) (λ i. low_bits top_id (get_or l (1 + i) 0)) (simp (length-take, length-drop) (omega (arith, s.size)))
      (λ i h. get_or-take most_nodes (drop 1 l) i 0 h ∙ get_or-drop 1 l i 0 ∙ sym (low_bits_lem (s.places i h)))

  change_is : change_of (get_or l 13 0) (joining_made l) ≡ change_of (get_or l 13 0) (joining_in l)
  change_is = ⊎_elim (λ e. still _ e ∙ sym (still _ e)) some s.change
    where
      some : ChangeStands l → change_of (get_or l 13 0) (joining_made l) ≡ change_of (get_or l 13 0) (joining_in l)
      some c = rw (low_bits_lem c.named, low_bits_lem c.fresh, low_bits_lem c.next)

  -- made of numbers, each at most as large as its place in the record allows
  pub chain_is : {n s' h k : ℕ} {p : List ℕ} {ch : Change} {j : Joining}
      → n ≡ low_bits top_byte (get_or l 0 0) → p ≡ places_made l → s' ≡ low_bits top_id (get_or l 10 0) → h ≡ low_bits top_id (get_or l 11 0)
      → k ≡ low_bits top_id (get_or l 12 0) → ch ≡ change_of (get_or l 13 0) j → j ≡ joining_made l
      → record { length = n; places = p; wiring = stamp (get_or l 9 0); session = session s'; highest = h; count = k; change = ch } ≡ chain_of l
  unfolding chain_of
  chain_is a b c d e f g = cc (low_bits_lem s.length, places_are, low_bits_lem s.session, low_bits_lem s.highest, low_bits_lem s.count, change_is)

-- ---- going out

-- a step that is done, with room for its record, and any other
pub settled : {l l' : List ℕ} {number n : ℕ} {r : Chain} → n ≡ number → (eqb n 0 && eqb (length l) record_size) ≡ true → l' ≡ numbers_of r → Settles l number r n l'
settled {l} e b f = record { number = e; numbers = f ∙ sym (pick_true _ _ _ (ap (λ m. eqb m 0 && eqb (length l) record_size) (sym e) ∙ b)) }

pub unsettled : {l : List ℕ} {number n : ℕ} {r : Chain} → n ≡ number → (eqb n 0 && eqb (length l) record_size) ≡ false → Settles l number r n l
unsettled {l} e b = record { number = e; numbers = sym (pick_false _ _ _ (ap (λ m. eqb m 0 && eqb (length l) record_size) (sym e) ∙ b)) }

-- ---- ids in chain order

pub places_of_lem : (ids : List ℕ) → tab most_nodes (λ i. get_or ids i 0) ≡ places_of ids
unfolding places_of
places_of_lem ids =
    by_place most_nodes (take most_nodes (ids ++ replicate most_nodes 0)) (λ i. get_or ids i 0) (simp (length-take, length-append, length-replicate) (omega arith))
    (λ i h. get_or-take most_nodes (ids ++ replicate most_nodes 0) i 0 h ∙ go i h (dec_lt i (length ids)))
  where
    go : (i : ℕ) → i < most_nodes → Dec (i < length ids) → get_or (ids ++ replicate most_nodes 0) i 0 ≡ get_or ids i 0
    go i b (yes h) = get_or-append ids (replicate most_nodes 0) 0 i h
    go i b (no n) =
        let e : i ≡ length ids + (i - length ids) = omega arith in
        ap (λ (x : ℕ). get_or (ids ++ replicate most_nodes 0) x 0) e
        ∙ get_or-append-add ids (replicate most_nodes 0) (i - length ids) 0
        ∙ get_or-replicate {A = ℕ} most_nodes (i - length ids) 0 0 (omega arith)
        ∙ sym (get_or-eq_default ids 0 {n = i} (omega arith))
