-- The chain record as numbers, as it crosses to C: which numbers stand for a record, and the numbers of a record.
-- 0 length; 1–8 the places; 9 wiring; 10 session; 11 highest; 12 slot count; 13 kind of change; 14 named; 15 new id; 16 fenced mark; 17 next slot.
use Rattle.std.specs.Prelude.{ℕ, zero, suc, ◌+◌, ◌%◌, ◌<◌, ◌≤◌, ◌≡◌, List, [], ◌∷◌, ◌++◌, Bool, true, false, ◌&&◌, ◌||◌, not, ◌⊎◌, length, get_or, take, drop, replicate, leb, eqb}
use Rattle.wire.specs.Numbers.{Out, left, ok, judge, test, broken, pick}
use Rattle.wire.specs.Version.{session, stamp}
use Rattle.store.specs.Table.{tab}
use Rattle.steps.specs.declared.Joining.{Joining}
use Rattle.steps.specs.declared.Change.{Change}
use Rattle.steps.specs.declared.Change.TheVariants.{Still, Before, After}
use Rattle.steps.specs.declared.Chain.{Chain}
use Rattle.steps.specs.Chain.{most_nodes, joining}

abbrev pub record_size : ℕ
record_size = 18

-- the largest numbers of 8 and of 16 bits
abbrev pub top_byte : ℕ
top_byte = 255

abbrev pub top_id : ℕ
top_id = 65535

-- kinds of change
abbrev pub kind_none : ℕ
kind_none = 0

abbrev pub kind_before : ℕ
kind_before = 1

abbrev pub kind_after : ℕ
kind_after = 2

-- ---- coming in

-- the k numbers from `at` on are at most top
abbrev pub within : ℕ → ℕ → List ℕ → ℕ → Bool
within top zero l at = true
within top (suc k) l at = within top k l at && leb (get_or l (at + k) 0) top

-- with no change open the numbers of a change are ignored
abbrev pub change_fits : List ℕ → Bool
change_fits l =
    eqb (get_or l 13 0) kind_none
    || (leb (get_or l 13 0) kind_after && (within top_id 2 l 14 && (leb (get_or l 16 0) 1 && leb (get_or l 17 0) top_id)))

unfoldable pub record_fits : List ℕ → Bool
record_fits l =
    eqb (length l) record_size
    && (leb (get_or l 0 0) top_byte && (within top_id 8 l 1 && (within top_id 3 l 10 && change_fits l)))

unfoldable pub change_of : ℕ → Joining → Change
change_of kind j = pick (eqb kind kind_none) Still (pick (eqb kind kind_before) (Before j) (After j))

abbrev pub joining_in : List ℕ → Joining
joining_in l = joining (get_or l 14 0) (get_or l 15 0) (eqb (get_or l 16 0) 1) (get_or l 17 0)

unfoldable pub chain_of : List ℕ → Chain
chain_of l = record {
  length = get_or l 0 0;
  places = take most_nodes (drop 1 l);
  wiring = stamp (get_or l 9 0);
  session = session (get_or l 10 0);
  highest = get_or l 11 0;
  count = get_or l 12 0;
  change = change_of (get_or l 13 0) (joining_in l);
}

-- the record that numbers stand for, or 1 where they stand for none
unfoldable pub record_of : List ℕ → Out Chain
record_of l = judge (test broken (not (record_fits l)) ∷ []) (ok (chain_of l))

-- the same as propositions
pub record ChangeStands (l : List ℕ) : Type 0 where
  pub kind : get_or l 13 0 ≤ kind_after
  pub named : get_or l 14 0 ≤ top_id
  pub fresh : get_or l 15 0 ≤ top_id
  pub fenced : get_or l 16 0 ≤ 1
  pub next : get_or l 17 0 ≤ top_id

pub record Stands (l : List ℕ) : Type 0 where
  pub size : length l ≡ record_size
  pub length : get_or l 0 0 ≤ top_byte
  pub places : (i : ℕ) → i < most_nodes → get_or l (1 + i) 0 ≤ top_id
  pub session : get_or l 10 0 ≤ top_id
  pub highest : get_or l 11 0 ≤ top_id
  pub count : get_or l 12 0 ≤ top_id
  pub change : (get_or l 13 0 ≡ kind_none) ⊎ ChangeStands l

-- in the code only the low bits of a number count, which are all where it is at most top, and numbers that stand for no record give one that breaks the rules
abbrev pub low_bits : ℕ → ℕ → ℕ
low_bits top n = n % (top + 1)

abbrev pub places_made : List ℕ → List ℕ
places_made l = tab most_nodes (λ i. low_bits top_id (get_or l (1 + i) 0))

abbrev pub joining_made : List ℕ → Joining
joining_made l = joining (low_bits top_id (get_or l 14 0)) (low_bits top_id (get_or l 15 0)) (eqb (get_or l 16 0) 1) (low_bits top_id (get_or l 17 0))

abbrev pub no_record : Chain
no_record = record {
  length = 0;
  places = replicate most_nodes 0;
  wiring = stamp 0;
  session = session 0;
  highest = 0;
  count = 0;
  change = Still;
}

unfoldable pub record_or : List ℕ → Chain
record_or l = left no_record (λ c. c) (record_of l)

-- ---- going out

abbrev pub mark_of : Bool → ℕ
mark_of false = 0
mark_of true = 1

abbrev pub kind_of : Change → ℕ
kind_of Still = kind_none
kind_of (Before j) = kind_before
kind_of (After j) = kind_after

-- with no change open all is 0
abbrev pub joining_of : Change → Joining
joining_of Still = joining 0 0 false 0
joining_of (Before j) = j
joining_of (After j) = j

abbrev pub change_numbers : ℕ → Joining → List ℕ
change_numbers kind j = kind ∷ j.named ∷ j.fresh ∷ mark_of j.fenced ∷ j.next ∷ []

abbrev pub front_numbers : ℕ → List ℕ → List ℕ
front_numbers n places = n ∷ tab most_nodes (λ i. get_or places i 0)

unfoldable pub numbers_of : Chain → List ℕ
numbers_of c =
    front_numbers c.length c.places
    ++ (c.wiring.0 ∷ c.session.0 ∷ c.highest ∷ c.count ∷ [])
    ++ change_numbers (kind_of c.change) (joining_of c.change)

-- a record whose numbers have the bits that its struct gives them
pub record JoiningSized (j : Joining) : Type 0 where
  pub named : j.named ≤ top_id
  pub fresh : j.fresh ≤ top_id
  pub next : j.next ≤ top_id

abbrev pub ChangeSized : Change → Type 0
ChangeSized Still = Unit {0}
ChangeSized (Before j) = JoiningSized j
ChangeSized (After j) = JoiningSized j

pub record Sized (c : Chain) : Type 0 where
  pub eight : length c.places ≡ most_nodes
  pub length : c.length ≤ top_byte
  pub places : (i : ℕ) → i < most_nodes → get_or c.places i 0 ≤ top_id
  pub session : c.session.0 ≤ top_id
  pub highest : c.highest ≤ top_id
  pub count : c.count ≤ top_id
  pub change : ChangeSized c.change

-- what is made of a step on the record: its number, and the numbers of its record where it is done and the list has room for just them
pub record Settles (l : List ℕ) (given : ℕ) (r : Chain) (n : ℕ) (l' : List ℕ) : Type 0 where
  pub number : ◌≡◌ {A = ℕ} n given
  pub numbers : ◌≡◌ {A = List ℕ} l' (pick (eqb given 0 && eqb (length l) record_size) (numbers_of r) l)

-- ---- ids in chain order

-- the eight places that they take, unused ones 0
unfoldable pub places_of : List ℕ → List ℕ
places_of ids = take most_nodes (ids ++ replicate most_nodes 0)
