-- The fields that the code makes of numbers are those that they stand for.
use Prim.Native.Nat.{ℕ, zero, suc, ◌+◌, ◌<◌, ◌≤◌}
use mathlib.Core.Path.{◌≡◌}
use mathlib.Core.List.{List}
use mathlib.Core.Bool.{◌&&◌}
use native.Mathlib.Omega.{arith}
use lib.ListN.{length, get_or}
use lib.Dec.{leb}
use borrow.Author.Tests.{eq-eqb, ne_eqb}
use Rattle.wire.specs.Version.{stamp, version}
use Rattle.wire.specs.declared.Head.{Head}
use Rattle.wire.specs.declared.Version.{Version}
use Rattle.wire.proofs.Numbers.{pick_true, pick_false, Reflects, reflects_yes, reflects_no, reflect_eqb, reflect_leb, reflect_and, reflect_iff}
use Rattle.numbers.specs.Record.{top_byte, top_id, within, low_bits}
use Rattle.numbers.specs.Fields.{fields_size, fields_fit, head_from, FieldsStand, no_head, head_or, fields_of, fields_given}
use Rattle.numbers.proofs.Record.{low_bits_lem, reflect_within}

-- ---- which numbers stand for fields

pub reflect_fields : (f : List ℕ) → Reflects (fields_fit f) (FieldsStand f)
unfolding fields_fit
reflect_fields f =
    reflect_iff
    (reflect_and (reflect_eqb (length f) fields_size)
    (reflect_and (reflect_within top_byte 2 f 0)
    (reflect_and (reflect_within top_id 3 f 2) (reflect_and (reflect_leb (get_or f 7 0) top_id) (reflect_leb (get_or f 9 0) top_byte)))))
    (to, λ s. (s.size, (bytes s, (ids s, (s.session, s.length)))))
  where
    to : (length f ≡ fields_size)
        × (((i : ℕ) → i < 2 → get_or f (0 + i) 0 ≤ top_byte)
        × (((i : ℕ) → i < 3 → get_or f (2 + i) 0 ≤ top_id) × ((get_or f 7 0 ≤ top_id) × (get_or f 9 0 ≤ top_byte))))
        → FieldsStand f
    to p = record {
      size = p.0;
      op = p.1.0 0 (omega arith);
      answer = p.1.0 1 (omega arith);
      from = p.1.1.0 0 (omega arith);
      to = p.1.1.0 1 (omega arith);
      client = p.1.1.0 2 (omega arith);
      session = p.1.1.1.0;
      length = p.1.1.1.1;
    }

    bytes : FieldsStand f → (i : ℕ) → i < 2 → get_or f (0 + i) 0 ≤ top_byte
    bytes s zero h = s.op
    bytes s (suc zero) h = s.answer
    bytes s (suc (suc i)) h = absurd (omega arith)

    ids : FieldsStand f → (i : ℕ) → i < 3 → get_or f (2 + i) 0 ≤ top_id
    ids s zero h = s.from
    ids s (suc zero) h = s.to
    ids s (suc (suc zero)) h = s.client
    ids s (suc (suc (suc i))) h = absurd (omega arith)

-- the tests of the code: the length first, and the others only of numbers that are there
pub fits_is : (f : List ℕ) → length f ≡ fields_size
    → (within top_byte 2 f 0 && (within top_id 3 f 2 && (leb (get_or f 7 0) top_id && leb (get_or f 9 0) top_byte))) ≡ fields_fit f
unfolding fields_fit
fits_is f e = rw (eq-eqb (length f) fields_size e)

-- what the code makes of them
pub or_head : (f : List ℕ) → FieldsStand f → head_or f ≡ head_from f
unfolding head_or
or_head f s = pick_true _ _ _ (reflects_yes (reflect_fields f) s)

pub or_none : (f : List ℕ) → (FieldsStand f → ⊥) → head_or f ≡ no_head
unfolding head_or
or_none f n = pick_false _ _ _ (reflects_no (reflect_fields f) n)

-- made of numbers, each at most as large as its field allows
pub head_is : (f : List ℕ) → FieldsStand f → {a b c d e l : ℕ} {v : Version} {s : ℕ}
    → a ≡ low_bits top_byte (get_or f 0 0) → b ≡ low_bits top_byte (get_or f 1 0) → c ≡ low_bits top_id (get_or f 2 0) → d ≡ low_bits top_id (get_or f 3 0) → e ≡ low_bits top_id (get_or f 4 0)
    → s ≡ low_bits top_id (get_or f 7 0) → v ≡ version s (get_or f 8 0) → l ≡ low_bits top_byte (get_or f 9 0)
    → record { op = a; answer = b; from = c; to = d; client = e; request = get_or f 5 0; stamp = stamp (get_or f 6 0); version = v; length = l } ≡ head_from f
unfolding head_from
head_is f s a b c d e g v l = cc (low_bits_lem s.op, low_bits_lem s.answer, low_bits_lem s.from, low_bits_lem s.to, low_bits_lem s.client, low_bits_lem s.session, low_bits_lem s.length)

-- ---- going out

pub given : (f : List ℕ) (h : Head) → length f ≡ fields_size → fields_given f h ≡ fields_of h
unfolding fields_given
given f h e = pick_true _ _ _ (eq-eqb (length f) fields_size e)

pub not_given : (f : List ℕ) (h : Head) → (length f ≡ fields_size → ⊥) → fields_given f h ≡ f
unfolding fields_given
not_given f h n = pick_false _ _ _ (ne_eqb (length f) fields_size n)
