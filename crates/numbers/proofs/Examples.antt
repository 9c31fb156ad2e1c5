-- Records, fields and answers as numbers, typed by the positions of decisions 15 and 25: what they stand for, and that it goes out as it came in.
use Prim.Native.Nat.{ℕ}
use mathlib.Core.Path.{◌≡◌, refl}
use mathlib.Core.List.{List, [], ◌∷◌, map}
use mathlib.Core.Bool.{true, false}
use lib.ListN.{take}
use Rattle.wire.specs.Numbers.{Out, refuse, ok, guard, pick}
use Rattle.wire.specs.Version.{session, stamp, version}
use Rattle.wire.specs.declared.Head.{Head}
use Rattle.std.specs.Prelude.{Some, None}
use Rattle.steps.specs.declared.Change.{Change}
use Rattle.steps.specs.declared.Change.TheVariants.{Still, Before, After}
use Rattle.steps.specs.declared.Chain.{Chain}
use Rattle.steps.specs.declared.Destination.TheVariants.{ToNode, ToClient}
use Rattle.steps.specs.Chain.{joining}
use Rattle.numbers.specs.Record.{record_fits, change_of, chain_of, record_of, numbers_of}
use Rattle.numbers.specs.Fields.{fields_fit, head_from, fields_of}
use Rattle.numbers.specs.Answers.{outcome_code, found_code}

-- ---- records: length; the eight places; wiring, session, highest, slot count; kind, named, new id, mark, next slot

-- the chain 7 5 9 and a change
abbrev numbers : List ℕ → List ℕ
numbers change = 3 ∷ 7 ∷ 5 ∷ 9 ∷ 0 ∷ 0 ∷ 0 ∷ 0 ∷ 0 ∷ 70000 ∷ 10 ∷ 11 ∷ 12 ∷ change

abbrev chain : Change → Chain
chain change = record {
  length = 3;
  places = 7 ∷ 5 ∷ 9 ∷ 0 ∷ 0 ∷ 0 ∷ 0 ∷ 0 ∷ [];
  wiring = stamp 70000;
  session = session 10;
  highest = 11;
  count = 12;
  change = change;
}

pub record Sample : Type 0 where
  pub numbers : List ℕ
  pub gives : Out Chain

abbrev sample : List ℕ → Out Chain → Sample
sample l gives = record { numbers = l; gives = gives }

abbrev pub samples : List Sample
samples =
    sample (numbers (0 ∷ 0 ∷ 0 ∷ 0 ∷ 0 ∷ [])) (ok (chain Still))
    ∷ sample (numbers (1 ∷ 5 ∷ 11 ∷ 0 ∷ 0 ∷ [])) (ok (chain (Before (joining 5 11 false 0))))
    ∷ sample (numbers (2 ∷ 9 ∷ 11 ∷ 1 ∷ 4 ∷ [])) (ok (chain (After (joining 9 11 true 4))))
    -- with no change open the last four are ignored
    ∷ sample (numbers (0 ∷ 65536 ∷ 65536 ∷ 2 ∷ 65536 ∷ [])) (ok (chain Still))
    -- a number too few, too many; a kind over 2, an id and a next slot over their widths, a mark over 1
    ∷ sample (numbers (0 ∷ 0 ∷ 0 ∷ 0 ∷ [])) (refuse 1)
    ∷ sample (numbers (0 ∷ 0 ∷ 0 ∷ 0 ∷ 0 ∷ 0 ∷ [])) (refuse 1)
    ∷ sample (numbers (3 ∷ 5 ∷ 11 ∷ 0 ∷ 0 ∷ [])) (refuse 1)
    ∷ sample (numbers (1 ∷ 65536 ∷ 11 ∷ 0 ∷ 0 ∷ [])) (refuse 1)
    ∷ sample (numbers (1 ∷ 5 ∷ 65536 ∷ 0 ∷ 0 ∷ [])) (refuse 1)
    ∷ sample (numbers (1 ∷ 5 ∷ 11 ∷ 2 ∷ 0 ∷ [])) (refuse 1)
    ∷ sample (numbers (1 ∷ 5 ∷ 11 ∷ 1 ∷ 65536 ∷ [])) (refuse 1)
    -- a length, a place, a session, a highest id, a slot count over their widths
    ∷ sample (256 ∷ 7 ∷ 5 ∷ 9 ∷ 0 ∷ 0 ∷ 0 ∷ 0 ∷ 0 ∷ 6 ∷ 10 ∷ 11 ∷ 12 ∷ 0 ∷ 0 ∷ 0 ∷ 0 ∷ 0 ∷ []) (refuse 1)
    ∷ sample (3 ∷ 7 ∷ 5 ∷ 9 ∷ 0 ∷ 0 ∷ 0 ∷ 0 ∷ 65536 ∷ 6 ∷ 10 ∷ 11 ∷ 12 ∷ 0 ∷ 0 ∷ 0 ∷ 0 ∷ 0 ∷ []) (refuse 1)
    ∷ sample (3 ∷ 7 ∷ 5 ∷ 9 ∷ 0 ∷ 0 ∷ 0 ∷ 0 ∷ 0 ∷ 6 ∷ 65536 ∷ 11 ∷ 12 ∷ 0 ∷ 0 ∷ 0 ∷ 0 ∷ 0 ∷ []) (refuse 1)
    ∷ sample (3 ∷ 7 ∷ 5 ∷ 9 ∷ 0 ∷ 0 ∷ 0 ∷ 0 ∷ 0 ∷ 6 ∷ 10 ∷ 65536 ∷ 12 ∷ 0 ∷ 0 ∷ 0 ∷ 0 ∷ 0 ∷ []) (refuse 1)
    ∷ sample (3 ∷ 7 ∷ 5 ∷ 9 ∷ 0 ∷ 0 ∷ 0 ∷ 0 ∷ 0 ∷ 6 ∷ 10 ∷ 11 ∷ 65536 ∷ 0 ∷ 0 ∷ 0 ∷ 0 ∷ 0 ∷ []) (refuse 1)
    ∷ []

pub record_samples : map (λ (x : Sample). record_of x.numbers) samples ≡ map (λ (x : Sample). x.gives) samples
unfolding record_of record_fits chain_of change_of guard pick
record_samples = refl

pub record_out : map numbers_of (chain Still ∷ chain (Before (joining 5 11 false 0)) ∷ chain (After (joining 9 11 true 4)) ∷ [])
    ≡ numbers (0 ∷ 0 ∷ 0 ∷ 0 ∷ 0 ∷ []) ∷ numbers (1 ∷ 5 ∷ 11 ∷ 0 ∷ 0 ∷ []) ∷ numbers (2 ∷ 9 ∷ 11 ∷ 1 ∷ 4 ∷ []) ∷ []
unfolding numbers_of
record_out = refl

-- ---- fields: op, answer, from, to, client, request, stamp, session, sequence, length

abbrev fields : List ℕ
fields = 1 ∷ 2 ∷ 3 ∷ 4 ∷ 5 ∷ 70006 ∷ 70007 ∷ 8 ∷ 70009 ∷ 10 ∷ []

abbrev head : Head
head = record {
  op = 1;
  answer = 2;
  from = 3;
  to = 4;
  client = 5;
  request = 70006;
  stamp = stamp 70007;
  version = version 8 70009;
  length = 10;
}

pub fields_in : head_from fields ≡ head
unfolding head_from
fields_in = refl

pub fields_out : fields_of head ≡ fields
unfolding fields_of
fields_out = refl

-- ten numbers; one too few, and an op, a client, a session and a length over their widths
pub fields_fit_lem : map fields_fit
    (fields ∷ take 9 fields ∷ (256 ∷ 2 ∷ 3 ∷ 4 ∷ 5 ∷ 6 ∷ 7 ∷ 8 ∷ 9 ∷ 10 ∷ []) ∷ (1 ∷ 2 ∷ 3 ∷ 4 ∷ 65536 ∷ 6 ∷ 7 ∷ 8 ∷ 9 ∷ 10 ∷ [])
    ∷ (1 ∷ 2 ∷ 3 ∷ 4 ∷ 5 ∷ 6 ∷ 7 ∷ 65536 ∷ 9 ∷ 10 ∷ []) ∷ (1 ∷ 2 ∷ 3 ∷ 4 ∷ 5 ∷ 6 ∷ 7 ∷ 8 ∷ 9 ∷ 256 ∷ []) ∷ [])
    ≡ true ∷ false ∷ false ∷ false ∷ false ∷ false ∷ []
unfolding fields_fit
fields_fit_lem = refl

-- ---- answers: to the client, to nodes 1 and 65,535, dropped; slots 0 and 255, and none

pub outcome_codes : map outcome_code (ok ToClient ∷ ok (ToNode 1) ∷ ok (ToNode 65535) ∷ refuse 6 ∷ []) ≡ 65536 ∷ 65537 ∷ 131071 ∷ 6 ∷ []
outcome_codes = refl

pub found_codes : map found_code (Some 0 ∷ Some 255 ∷ None ∷ []) ≡ 0 ∷ 255 ∷ 65536 ∷ []
unfolding pick
found_codes = refl
