-- The fields of a packet as numbers, as they cross to C.
-- 0 op; 1 answer; 2 from; 3 to; 4 client; 5 request; 6 stamp; 7 session; 8 sequence; 9 length.
use Rattle.std.specs.Prelude.{ℕ, ◌≤◌, ◌≡◌, List, [], ◌∷◌, Bool, ◌&&◌, length, get_or, leb, eqb}
use Rattle.wire.specs.Numbers.{pick}
use Rattle.wire.specs.Version.{version, stamp, zero_version}
use Rattle.wire.specs.declared.Head.{Head}
use Rattle.numbers.specs.Record.{top_byte, top_id, within}

abbrev pub fields_size : ℕ
fields_size = 10

unfoldable pub fields_fit : List ℕ → Bool
fields_fit f =
    eqb (length f) fields_size
    && (within top_byte 2 f 0 && (within top_id 3 f 2 && (leb (get_or f 7 0) top_id && leb (get_or f 9 0) top_byte)))

unfoldable pub head_from : List ℕ → Head
head_from f = record {
  op = get_or f 0 0;
  answer = get_or f 1 0;
  from = get_or f 2 0;
  to = get_or f 3 0;
  client = get_or f 4 0;
  request = get_or f 5 0;
  stamp = stamp (get_or f 6 0);
  version = version (get_or f 7 0) (get_or f 8 0);
  length = get_or f 9 0;
}

-- the same as propositions
pub record FieldsStand (f : List ℕ) : Type 0 where
  pub size : length f ≡ fields_size
  pub op : get_or f 0 0 ≤ top_byte
  pub answer : get_or f 1 0 ≤ top_byte
  pub from : get_or f 2 0 ≤ top_id
  pub to : get_or f 3 0 ≤ top_id
  pub client : get_or f 4 0 ≤ top_id
  pub session : get_or f 7 0 ≤ top_id
  pub length : get_or f 9 0 ≤ top_byte

-- in the code numbers that stand for no fields give these, which are no packet's
abbrev pub no_head : Head
no_head = record {
  op = 0;
  answer = 0;
  from = 0;
  to = 0;
  client = 0;
  request = 0;
  stamp = stamp 0;
  version = zero_version;
  length = 0;
}

unfoldable pub head_or : List ℕ → Head
head_or f = pick (fields_fit f) (head_from f) no_head

unfoldable pub fields_of : Head → List ℕ
fields_of h =
    h.op
    ∷ h.answer
    ∷ h.from
    ∷ h.to
    ∷ h.client
    ∷ h.request
    ∷ h.stamp.0
    ∷ h.version.session.0
    ∷ h.version.sequence.0
    ∷ h.length
    ∷ []

-- the numbers after a reading: only where there is room for just them
unfoldable pub fields_given : List ℕ → Head → List ℕ
fields_given f h = pick (eqb (length f) fields_size) (fields_of h) f
