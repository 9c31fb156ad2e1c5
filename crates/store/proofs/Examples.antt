-- Bytes written out by the offsets of document 01 and what they stand for, and tables with one rule broken each.
use Prim.Native.Nat.{ℕ}
use mathlib.Core.Path.{◌≡◌, refl}
use mathlib.Core.List.{List, [], ◌∷◌, ◌++◌}
use mathlib.Core.Bool.{true, false}
use lib.ListN.{replicate}
use Rattle.wire.specs.Numbers.{pick}
use Rattle.wire.specs.Version.{version, stamp, zero_version}
use Rattle.std.specs.Prelude.{Option, Some, None}
use Rattle.store.specs.Table.{Slot, slot, slot_of, row_of, free_slot, free, entered, valued, deleted, slots, fence_of, id_of, count_of, Table, table_of, row_ok, frame_ok, table_ok, has, is_free_slot, find, lowest_free}

-- ---- what bytes stand for

pub data Example : Type 0 where
  a_slot : List ℕ → Slot → Example
  a_head : List ℕ → ℕ → ℕ → ℕ → Example
  a_table : List ℕ → Table → Example
  a_find : List ℕ → List Slot → Option ℕ → Option ℕ → Example

abbrev pub Holds : Example → Type 0
Holds (a_slot r s) = (slot_of r ≡ s) × (row_of s ≡ r) × (row_ok r ≡ true)
Holds (a_head h fence id count) = (fence_of h ≡ stamp fence) × (id_of h ≡ id) × (count_of h ≡ count)
Holds (a_table t x) = (table_of t ≡ x) × (table_ok t ≡ true)
Holds (a_find k l at empty) = (find k l ≡ at) × (lowest_free l ≡ empty)

abbrev pub All : {A : Type 0} → (A → Type 0) → List A → Type 0
All P [] = Unit {0}
All P (x ∷ l) = P x × All P l

abbrev key : List ℕ
key = 101 ∷ 102 ∷ 103 ∷ 104 ∷ 105 ∷ 106 ∷ 107 ∷ 108 ∷ 109 ∷ 110 ∷ 111 ∷ 112 ∷ 113 ∷ 114 ∷ 115 ∷ 116 ∷ []

-- key, then state, length, session (2), sequence (4), then value and zeros
abbrev valued_row : List ℕ
valued_row = key ++ (2 ∷ 3 ∷ 1 ∷ 4 ∷ 5 ∷ 6 ∷ 7 ∷ 8 ∷ 201 ∷ 202 ∷ 203 ∷ []) ++ replicate 125 0

abbrev valued_slot : Slot
valued_slot = slot key valued (version 260 84281096) (201 ∷ 202 ∷ 203 ∷ [])

abbrev pub examples : List Example
examples =
    a_slot (replicate 152 0) free_slot
    ∷ a_slot (key ++ (1 ∷ 0 ∷ 0 ∷ 0 ∷ 0 ∷ 0 ∷ 0 ∷ 0 ∷ []) ++ replicate 128 0) (slot key entered zero_version [])
    ∷ a_slot valued_row valued_slot
    ∷ a_slot (key ++ (2 ∷ 0 ∷ 1 ∷ 4 ∷ 5 ∷ 6 ∷ 7 ∷ 8 ∷ []) ++ replicate 128 0) (slot key valued (version 260 84281096) [])
    ∷ a_slot (key ++ (2 ∷ 128 ∷ 1 ∷ 4 ∷ 5 ∷ 6 ∷ 7 ∷ 8 ∷ []) ++ replicate 128 77) (slot key valued (version 260 84281096) (replicate 128 77))
    ∷ a_slot (key ++ (3 ∷ 0 ∷ 1 ∷ 4 ∷ 5 ∷ 6 ∷ 7 ∷ 8 ∷ []) ++ replicate 128 0) (slot key deleted (version 260 84281096) [])
    ∷ a_head (9 ∷ 10 ∷ 11 ∷ 12 ∷ 13 ∷ 14 ∷ 15 ∷ 16 ∷ []) 151653132 3342 3856
    ∷ a_table ((9 ∷ 10 ∷ 11 ∷ 12 ∷ 13 ∷ 14 ∷ 0 ∷ 2 ∷ []) ++ replicate 152 0 ++ valued_row) (record { fence = stamp 151653132; id = 3342; slots = free_slot ∷ valued_slot ∷ [] })
    ∷ a_find key (free_slot ∷ slot (replicate 16 9) valued (version 1 2) [] ∷ valued_slot ∷ slot key deleted (version 3 4) [] ∷ free_slot ∷ []) (Some 2) (Some 0)
    ∷ a_find key (slot key free zero_version [] ∷ slot (replicate 16 9) valued (version 1 2) [] ∷ []) None (Some 0)
    ∷ a_find key (valued_slot ∷ []) (Some 0) None
    ∷ []

pub examples_hold : All Holds examples
unfolding slot_of row_of row_ok slots table_of table_ok frame_ok has is_free_slot find lowest_free pick
examples_hold = (
  (refl, refl, refl),
  (
    (refl, refl, refl),
    (
      (refl, refl, refl),
      (
        (refl, refl, refl),
        (
          (refl, refl, refl),
          (
            (refl, refl, refl),
            (
              (refl, refl, refl),
              (
                (refl, refl),
                (
                  (refl, refl),
                  (
                    (refl, refl),
                    (
                      (refl, refl),
                      tt,
                    ),
                  ),
                ),
              ),
            ),
          ),
        ),
      ),
    ),
  ),
)

-- ---- broken tables

-- a table of one slot, and of one whose key is followed by the bytes given and by zeros
abbrev one : List ℕ → List ℕ
one r = (9 ∷ 10 ∷ 11 ∷ 12 ∷ 13 ∷ 14 ∷ 0 ∷ 1 ∷ []) ++ r

abbrev keyed : List ℕ → List ℕ
keyed fields = one (key ++ fields ++ replicate 128 0)

abbrev pub damaged : List (List ℕ)
damaged =
    -- a free slot with a byte that is not zero: the first, the last, the length
    one (1 ∷ replicate 151 0)
    ∷ one (replicate 151 0 ++ (1 ∷ []))
    ∷ one (replicate 17 0 ++ (1 ∷ []) ++ replicate 134 0)
    -- a state that there is not
    ∷ keyed (4 ∷ 0 ∷ 1 ∷ 4 ∷ 5 ∷ 6 ∷ 7 ∷ 8 ∷ [])
    -- a length over 128
    ∷ one (key ++ (2 ∷ 129 ∷ 1 ∷ 4 ∷ 5 ∷ 6 ∷ 7 ∷ 8 ∷ []) ++ replicate 128 77)
    -- entered, with a session, with a sequence, with a length
    ∷ keyed (1 ∷ 0 ∷ 1 ∷ 4 ∷ 0 ∷ 0 ∷ 0 ∷ 0 ∷ [])
    ∷ keyed (1 ∷ 0 ∷ 0 ∷ 0 ∷ 5 ∷ 6 ∷ 7 ∷ 8 ∷ [])
    ∷ keyed (1 ∷ 3 ∷ 0 ∷ 0 ∷ 0 ∷ 0 ∷ 0 ∷ 0 ∷ [])
    -- a value without a session, without a sequence
    ∷ keyed (2 ∷ 0 ∷ 0 ∷ 0 ∷ 5 ∷ 6 ∷ 7 ∷ 8 ∷ [])
    ∷ keyed (2 ∷ 0 ∷ 1 ∷ 4 ∷ 0 ∷ 0 ∷ 0 ∷ 0 ∷ [])
    -- deleted, without a session, without a sequence, with a length
    ∷ keyed (3 ∷ 0 ∷ 0 ∷ 0 ∷ 5 ∷ 6 ∷ 7 ∷ 8 ∷ [])
    ∷ keyed (3 ∷ 0 ∷ 1 ∷ 4 ∷ 0 ∷ 0 ∷ 0 ∷ 0 ∷ [])
    ∷ keyed (3 ∷ 3 ∷ 1 ∷ 4 ∷ 5 ∷ 6 ∷ 7 ∷ 8 ∷ [])
    -- entered, and deleted, with a value byte that is not zero: the first, the last
    ∷ one (key ++ (1 ∷ 0 ∷ 0 ∷ 0 ∷ 0 ∷ 0 ∷ 0 ∷ 0 ∷ 1 ∷ []) ++ replicate 127 0)
    ∷ one (key ++ (1 ∷ 0 ∷ 0 ∷ 0 ∷ 0 ∷ 0 ∷ 0 ∷ 0 ∷ []) ++ replicate 127 0 ++ (1 ∷ []))
    ∷ one (key ++ (3 ∷ 0 ∷ 1 ∷ 4 ∷ 5 ∷ 6 ∷ 7 ∷ 8 ∷ 1 ∷ []) ++ replicate 127 0)
    ∷ one (key ++ (3 ∷ 0 ∷ 1 ∷ 4 ∷ 5 ∷ 6 ∷ 7 ∷ 8 ∷ []) ++ replicate 127 0 ++ (1 ∷ []))
    -- a byte behind the value that is not zero: the next, the last
    ∷ one (key ++ (2 ∷ 2 ∷ 1 ∷ 4 ∷ 5 ∷ 6 ∷ 7 ∷ 8 ∷ 201 ∷ 202 ∷ 203 ∷ []) ++ replicate 125 0)
    ∷ one (key ++ (2 ∷ 3 ∷ 1 ∷ 4 ∷ 5 ∷ 6 ∷ 7 ∷ 8 ∷ 201 ∷ 202 ∷ 203 ∷ []) ++ replicate 124 0 ++ (1 ∷ []))
    -- the second slot of two
    ∷ ((9 ∷ 10 ∷ 11 ∷ 12 ∷ 13 ∷ 14 ∷ 0 ∷ 2 ∷ []) ++ valued_row ++ (1 ∷ replicate 151 0))
    -- no id, no slot, more slots than 256
    ∷ ((9 ∷ 10 ∷ 11 ∷ 12 ∷ 0 ∷ 0 ∷ 0 ∷ 1 ∷ []) ++ valued_row)
    ∷ (9 ∷ 10 ∷ 11 ∷ 12 ∷ 13 ∷ 14 ∷ 0 ∷ 0 ∷ [])
    ∷ ((9 ∷ 10 ∷ 11 ∷ 12 ∷ 13 ∷ 14 ∷ 1 ∷ 1 ∷ []) ++ replicate 39064 0)
    -- a byte less, a byte more, a slot more, not even a head
    ∷ one (replicate 151 0)
    ∷ one (replicate 153 0)
    ∷ one (replicate 304 0)
    ∷ (9 ∷ 10 ∷ 11 ∷ 12 ∷ 13 ∷ 14 ∷ 0 ∷ [])
    ∷ []

pub damaged_refused : All (λ t. table_ok t ≡ false) damaged
unfolding row_ok table_ok frame_ok
damaged_refused = (
  refl,
  (
    refl,
    (
      refl,
      (
        refl,
        (
          refl,
          (
            refl,
            (
              refl,
              (
                refl,
                (
                  refl,
                  (
                    refl,
                    (
                      refl,
                      (
                        refl,
                        (
                          refl,
                          (
                            refl,
                            (
                              refl,
                              (
                                refl,
                                (
                                  refl,
                                  (
                                    refl,
                                    (
                                      refl,
                                      (
                                        refl,
                                        (
                                          refl,
                                          (
                                            refl,
                                            (
                                              refl,
                                              (
                                                refl,
                                                (
                                                  refl,
                                                  (
                                                    refl,
                                                    (
                                                      refl,
                                                      tt,
                                                    ),
                                                  ),
                                                ),
                                              ),
                                            ),
                                          ),
                                        ),
                                      ),
                                    ),
                                  ),
                                ),
                              ),
                            ),
                          ),
                        ),
                      ),
                    ),
                  ),
                ),
              ),
            ),
          ),
        ),
      ),
    ),
  ),
)
