-- Records typed out: those that keep the rules, twins with one rule broken each, and what a start makes of ids.
use Prim.Native.Nat.{ℕ}
use mathlib.Core.Path.{◌≡◌, refl}
use mathlib.Core.List.{List, [], ◌∷◌, map}
use mathlib.Core.Bool.{true, false}
use Rattle.wire.specs.Numbers.{Out, refuse, ok, pick, guard}
use Rattle.wire.specs.Version.{session, stamp}
use Rattle.steps.specs.declared.Change.{Change}
use Rattle.steps.specs.declared.Change.TheVariants.{Still, Before, After}
use Rattle.steps.specs.declared.Chain.{Chain}
use Rattle.steps.specs.Chain.{joining, memb, last_of, apart, none_above, joining_ok, chain_ok, largest, start_chain, start_call}

-- length, places, wiring, session, highest, slot count, change
abbrev pub chain_of : ℕ → List ℕ → ℕ → ℕ → ℕ → ℕ → Change → Chain
chain_of n places w s highest count change = record {
  length = n;
  places = places;
  wiring = stamp w;
  session = session s;
  highest = highest;
  count = count;
  change = change;
}

abbrev three : List ℕ
three = 7 ∷ 5 ∷ 9 ∷ 0 ∷ 0 ∷ 0 ∷ 0 ∷ 0 ∷ []

abbrev seven : List ℕ
seven = 1 ∷ 2 ∷ 3 ∷ 4 ∷ 5 ∷ 6 ∷ 7 ∷ 0 ∷ []

abbrev eight : List ℕ
eight = 1 ∷ 2 ∷ 3 ∷ 4 ∷ 5 ∷ 6 ∷ 7 ∷ 65535 ∷ []

-- ---- records: one node and eight, wiring 0 and the last, one slot and 256; a change at every node, unfenced, fenced, and with all slots copied

pub good : List Chain
good =
    chain_of 1 (5 ∷ 0 ∷ 0 ∷ 0 ∷ 0 ∷ 0 ∷ 0 ∷ 0 ∷ []) 0 1 5 1 Still
    ∷ chain_of 8 eight 4294967295 65535 65535 256 Still
    ∷ chain_of 3 three 1 1 30 2 Still
    ∷ chain_of 3 three 1 1 10 2 (Before (joining 7 10 false 0))
    ∷ chain_of 3 three 1 1 10 2 (Before (joining 5 10 true 1))
    ∷ chain_of 3 three 1 1 10 2 (Before (joining 9 10 true 0))
    ∷ chain_of 3 three 1 1 10 2 (After (joining 9 10 false 0))
    ∷ chain_of 7 seven 1 1 8 2 (After (joining 7 8 true 2))
    ∷ []

pub good_records : map chain_ok good ≡ map (λ (r : Chain). true) good
unfolding good chain_ok apart memb none_above joining_ok last_of
good_records = refl

-- ---- damaged twins: one rule broken in each

pub damaged : List Chain
damaged =
    -- no node; more than eight; a place too few, a place too many
    chain_of 0 (0 ∷ 0 ∷ 0 ∷ 0 ∷ 0 ∷ 0 ∷ 0 ∷ 0 ∷ []) 1 1 9 2 Still
    ∷ chain_of 9 eight 1 1 65535 2 Still
    ∷ chain_of 3 (7 ∷ 5 ∷ 9 ∷ 0 ∷ 0 ∷ 0 ∷ 0 ∷ []) 1 1 9 2 Still
    ∷ chain_of 3 (7 ∷ 5 ∷ 9 ∷ 0 ∷ 0 ∷ 0 ∷ 0 ∷ 0 ∷ 0 ∷ []) 1 1 9 2 Still
    -- an id twice, the id 0, an id behind the last
    ∷ chain_of 3 (7 ∷ 5 ∷ 7 ∷ 0 ∷ 0 ∷ 0 ∷ 0 ∷ 0 ∷ []) 1 1 9 2 Still
    ∷ chain_of 3 (7 ∷ 0 ∷ 9 ∷ 0 ∷ 0 ∷ 0 ∷ 0 ∷ 0 ∷ []) 1 1 9 2 Still
    ∷ chain_of 3 (7 ∷ 5 ∷ 9 ∷ 0 ∷ 0 ∷ 0 ∷ 0 ∷ 4 ∷ []) 1 1 9 2 Still
    -- session 0; an id above the highest; no slot, more than 256
    ∷ chain_of 3 three 1 0 9 2 Still
    ∷ chain_of 3 three 1 1 8 2 Still
    ∷ chain_of 3 three 1 1 9 0 Still
    ∷ chain_of 3 three 1 1 9 257 Still
    -- a named node outside the chain; a new one inside, below the highest, above it
    ∷ chain_of 3 three 1 1 10 2 (Before (joining 8 10 true 1))
    ∷ chain_of 3 three 1 1 9 2 (Before (joining 5 9 true 1))
    ∷ chain_of 3 three 1 1 11 2 (Before (joining 5 10 true 1))
    ∷ chain_of 3 three 1 1 10 2 (Before (joining 5 11 true 1))
    -- a change of eight nodes
    ∷ chain_of 8 (1 ∷ 2 ∷ 3 ∷ 4 ∷ 5 ∷ 6 ∷ 7 ∷ 8 ∷ []) 1 1 9 2 (Before (joining 5 9 true 1))
    -- the next slot above the slot count; over 0 while unfenced
    ∷ chain_of 3 three 1 1 10 2 (Before (joining 5 10 true 3))
    ∷ chain_of 3 three 1 1 10 2 (Before (joining 5 10 false 1))
    -- "after", and the named node not the last, or outside the chain
    ∷ chain_of 3 three 1 1 10 2 (After (joining 5 10 true 1))
    ∷ chain_of 3 three 1 1 10 2 (After (joining 8 10 true 1))
    ∷ []

pub damaged_records : map chain_ok damaged ≡ map (λ (r : Chain). false) damaged
unfolding damaged chain_ok apart memb none_above joining_ok last_of
damaged_records = refl

-- ---- starts: wiring 1, session 1, highest the largest id, no change; and places that are no chain

pub record Start : Type 0 where
  pub length : ℕ
  pub places : List ℕ
  pub count : ℕ
  pub gives : Out Chain

abbrev starting : ℕ → List ℕ → ℕ → Out Chain → Start
starting n places count gives = record { length = n; places = places; count = count; gives = gives }

pub starts : List Start
starts =
    starting 3 three 256 (ok (chain_of 3 three 1 1 9 256 Still))
    ∷ starting 8 eight 1 (ok (chain_of 8 eight 1 1 65535 1 Still))
    ∷ starting 3 (9 ∷ 5 ∷ 7 ∷ 0 ∷ 0 ∷ 0 ∷ 0 ∷ 0 ∷ []) 2 (ok (chain_of 3 (9 ∷ 5 ∷ 7 ∷ 0 ∷ 0 ∷ 0 ∷ 0 ∷ 0 ∷ []) 1 1 9 2 Still))
    ∷ starting 0 (0 ∷ 0 ∷ 0 ∷ 0 ∷ 0 ∷ 0 ∷ 0 ∷ 0 ∷ []) 2 (refuse 1)
    ∷ starting 9 eight 2 (refuse 1)
    ∷ starting 2 three 2 (refuse 1)
    ∷ starting 4 three 2 (refuse 1)
    ∷ starting 3 (7 ∷ 5 ∷ 7 ∷ 0 ∷ 0 ∷ 0 ∷ 0 ∷ 0 ∷ []) 2 (refuse 1)
    ∷ starting 3 three 0 (refuse 1)
    ∷ starting 3 three 257 (refuse 1)
    ∷ []

pub started : map (λ (x : Start). start_call x.length x.places x.count) starts ≡ map (λ (x : Start). x.gives) starts
unfolding starts start_call start_chain largest pick guard chain_ok apart memb none_above joining_ok last_of
started = refl
