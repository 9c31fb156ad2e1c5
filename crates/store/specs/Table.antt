-- Document 01, "Table of one node": the bytes of a table, its slots, its rules, and the slot that has a key.
use Rattle.std.specs.Prelude.{ℕ, zero, suc, ◌+◌, ◌*◌, ◌-◌, ◌/◌, ◌<◌, ◌≤◌, ◌≡◌, List, [], ◌∷◌, ◌++◌, Bool, true, ◌&&◌, ◌||◌, not, ◌⊎◌, length, get_or, take, drop, set, replicate, ltb, leb, eqb}
use Rattle.be.specs.Be.{be, digits, put}
use Rattle.wire.specs.Numbers.{Out, ok, number_of, left, judge, test, Case, case, broken, pick, eqs}
use Rattle.wire.specs.Version.{version, stamp, is_zero, is_given, zero_version}
use Rattle.wire.specs.Packet.{key_size, value_size}
use Rattle.wire.specs.declared.Version.{Version}
use Rattle.wire.specs.declared.Stamp.{Stamp}
use Rattle.std.specs.Prelude.{Option, Some, None}

-- ---- sizes

-- the head: fence, node id, slot count
abbrev pub head_size : ℕ
head_size = 8

-- a slot: key 16, state 1, length 1, session 2, sequence 4, value 128
abbrev pub row_size : ℕ
row_size = 152

-- where a slot's state, its length and its value stand
abbrev pub state_at : ℕ
state_at = 16

abbrev pub size_at : ℕ
size_at = 17

abbrev pub value_at : ℕ
value_at = 24

abbrev pub most_slots : ℕ
most_slots = 256

-- ---- states

abbrev pub free : ℕ
free = 0

abbrev pub entered : ℕ
entered = 1

abbrev pub valued : ℕ
valued = 2

abbrev pub deleted : ℕ
deleted = 3

-- ---- a slot and its bytes

pub record Slot : Type 0 where
  pub key : List ℕ
  pub state : ℕ
  pub version : Version
  pub value : List ℕ

abbrev pub slot : List ℕ → ℕ → Version → List ℕ → Slot
slot k st v x = record { key = k; state = st; version = v; value = x }

unfoldable pub slot_of : List ℕ → Slot
slot_of r = record {
  key = take key_size r;
  state = get_or r state_at 0;
  version = version (be 2 r 18) (be 4 r 20);
  value = take (get_or r size_at 0) (drop value_at r);
}

unfoldable pub row_of : Slot → List ℕ
row_of s =
    s.key
    ++ (s.state ∷ [])
    ++ (length s.value ∷ [])
    ++ digits 2 s.version.session.0
    ++ digits 4 s.version.sequence.0
    ++ s.value
    ++ replicate (value_size - length s.value) 0

-- a free slot, and one that is entered and never written
abbrev pub free_slot : Slot
free_slot = slot (replicate key_size 0) free zero_version []

abbrev pub entered_slot : List ℕ → Slot
entered_slot k = slot k entered zero_version []

-- ---- a table and its bytes

-- where slot i starts, and its bytes
abbrev pub row_at : ℕ → ℕ
row_at i = head_size + row_size * i

abbrev pub row : List ℕ → ℕ → List ℕ
row t i = take row_size (drop (row_at i) t)

-- f 0, f 1, .. f (n - 1)
abbrev pub tab : {A : Type 0} → ℕ → (ℕ → A) → List A
tab zero f = []
tab (suc n) f = f 0 ∷ tab n (λ i. f (suc i))

-- the first n slots
unfoldable pub slots : ℕ → List ℕ → List Slot
slots n t = tab n (λ i. slot_of (row t i))

abbrev pub fence_of : List ℕ → Stamp
fence_of t = stamp (be 4 t 0)

abbrev pub id_of : List ℕ → ℕ
id_of t = be 2 t 4

abbrev pub count_of : List ℕ → ℕ
count_of t = be 2 t 6

pub record Table : Type 0 where
  pub fence : Stamp
  pub id : ℕ
  pub slots : List Slot

unfoldable pub table_of : List ℕ → Table
table_of t = record { fence = fence_of t; id = id_of t; slots = slots (count_of t) t }

-- ---- the rules

abbrev pub all_zero : List ℕ → Bool
all_zero [] = true
all_zero (x ∷ l) = eqb x 0 && all_zero l

-- state, length and version of a used slot
abbrev pub used_ok : ℕ → ℕ → Version → Bool
used_ok state n v =
    (eqb state entered && (eqb n 0 && is_zero v))
    || ((eqb state valued && is_given v) || (eqb state deleted && (eqb n 0 && is_given v)))

unfoldable pub row_ok : List ℕ → Bool
row_ok r =
    leb (get_or r size_at 0) value_size
    && ((eqb (get_or r state_at 0) free && all_zero r)
    || (used_ok (get_or r state_at 0) (get_or r size_at 0) (version (be 2 r 18) (be 4 r 20)) && all_zero (drop (value_at + get_or r size_at 0) r)))

-- k rows from row i on
abbrev pub rows_ok : ℕ → ℕ → List ℕ → Bool
rows_ok zero i t = true
rows_ok (suc k) i t = row_ok (row t i) && rows_ok k (suc i) t

-- id, slot count and length
unfoldable pub frame_ok : List ℕ → Bool
frame_ok t =
    leb head_size (length t)
    && (not (eqb (id_of t) 0)
    && ((ltb 0 (count_of t) && leb (count_of t) most_slots) && eqb (length t) (row_at (count_of t))))

unfoldable pub table_ok : List ℕ → Bool
table_ok t = frame_ok t && rows_ok (count_of t) 0 t

-- the same as propositions
abbrev pub Zero : List ℕ → Type 0
Zero l = (i : ℕ) → i < length l → get_or l i 0 ≡ 0

pub data Used (state n : ℕ) (v : Version) : Type 0 where
  never_written : state ≡ entered → n ≡ 0 → v ≡ zero_version → Used state n v
  has_value : state ≡ valued → 0 < v.session.0 → 0 < v.sequence.0 → Used state n v
  was_deleted : state ≡ deleted → n ≡ 0 → 0 < v.session.0 → 0 < v.sequence.0 → Used state n v

pub data RowRules (r : List ℕ) : Type 0 where
  is_free : Zero r → RowRules r
  is_used : get_or r size_at 0 ≤ value_size → Used (slot_of r).state (get_or r size_at 0) (slot_of r).version → Zero (drop (value_at + get_or r size_at 0) r) → RowRules r

pub record TableRules (t : List ℕ) : Type 0 where
  pub size : length t ≡ row_at (count_of t)
  pub id : id_of t ≡ 0 → ⊥
  pub some : 0 < count_of t
  pub few : count_of t ≤ most_slots
  pub rows : (i : ℕ) → i < count_of t → RowRules (row t i)

-- ---- the slot that has a key: where a key stands in two used slots the lower counts

-- a slot that is used and has the key
unfoldable pub has : List ℕ → Slot → Bool
has k s = not (eqb s.state free) && eqs s.key k

unfoldable pub is_free_slot : Slot → Bool
is_free_slot s = eqb s.state free

-- the first slot of a list that passes a test, counted from i
abbrev pub first_from : (Slot → Bool) → ℕ → List Slot → Option ℕ
first_from f i [] = None
first_from f i (s ∷ l) = pick (f s) (Some i) (first_from f (suc i) l)

unfoldable pub find : List ℕ → List Slot → Option ℕ
find k l = first_from (has k) 0 l

unfoldable pub lowest_free : List Slot → Option ℕ
lowest_free l = first_from is_free_slot 0 l

-- the whole slots that any slice has, a table or not
abbrev pub whole_slots : List ℕ → ℕ
whole_slots t = (length t - head_size) / row_size

-- ---- what a step may write: nothing, or one slot

pub data Write : Type 0 where
  keep : Write
  set_row : ℕ → Slot → Write

-- in the bytes, and in the slots
abbrev pub write_bytes : Write → List ℕ → List ℕ
write_bytes keep t = t
write_bytes (set_row i s) t = put t (row_at i) (row_of s)

abbrev pub write_slots : Write → List Slot → List Slot
write_slots keep l = l
write_slots (set_row i s) l = set l i s

abbrev pub write_table : Write → Table → Table
write_table w t = record { fence = t.fence; id = t.id; slots = write_slots w t.slots }

-- the fence, in the bytes
abbrev pub fence_bytes : Stamp → List ℕ → List ℕ
fence_bytes n t = put t 0 (digits 4 n.0)

abbrev pub fence_table : Stamp → Table → Table
fence_table n t = record { fence = n; id = t.id; slots = t.slots }

-- ---- blank: fence 0, all slots free

unfoldable pub blank_table : ℕ → ℕ → Table
blank_table id n = record { fence = stamp 0; id = id; slots = replicate n free_slot }

unfoldable pub blank_bytes : ℕ → ℕ → List ℕ
blank_bytes id n = digits 4 0 ++ digits 2 id ++ digits 2 n ++ replicate (row_size * n) 0

-- making a blank table in a slice: 1 where the id or the count is none, or the slice has another length
unfoldable pub blank_call : List ℕ → ℕ → ℕ → Out (List ℕ)
blank_call t id n =
    judge (test broken (eqb id 0 || (eqb n 0 || (ltb most_slots n || not (eqb (length t) (row_at n))))) ∷ [])
    (ok (blank_bytes id n))

abbrev pub blank_rows : List ℕ → ℕ → ℕ → List Case
blank_rows t id n = case broken ((id ≡ 0) ⊎ ((n ≡ 0) ⊎ ((most_slots < n) ⊎ (length t ≡ row_at n → ⊥)))) ∷ []

-- what a call promises: its number, and the table afterwards
pub record BlankGives (t : List ℕ) (id count n : ℕ) (t' : List ℕ) : Type 0 where
  pub number : ◌≡◌ {A = ℕ} n (number_of (blank_call t id count))
  pub table : ◌≡◌ {A = List ℕ} t' (left t (λ b. b) (blank_call t id count))
