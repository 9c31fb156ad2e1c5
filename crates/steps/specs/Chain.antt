-- Document 01, "Chain record": the eight places, the state of change, and all rules of a record.
use Rattle.std.specs.Prelude.{ℕ, suc, ◌+◌, ◌-◌, ◌<◌, ◌≤◌, ◌≡◌, Bool, true, false, ◌&&◌, ◌||◌, not, length, take, drop, ltb, leb, eqb, Option, Some, None}
use mathlib.Core.List.{List, [], ◌∷◌, ◌++◌, Memᴰ as Mem}
use Rattle.wire.specs.Numbers.{Out, ok, judge, test, Case, case, broken, pick}
use Rattle.wire.specs.Version.{session, stamp}
use Rattle.wire.specs.declared.Session.{Session}
use Rattle.store.specs.Table.{all_zero, Zero, most_slots}
use Rattle.steps.specs.declared.Joining.{Joining}
use Rattle.steps.specs.declared.Change.{Change}
use Rattle.steps.specs.declared.Change.TheVariants.{Still, Before, After}
use Rattle.steps.specs.declared.Chain.{Chain}

-- ---- the chain: the ids of the first `length` places

abbrev pub most_nodes : ℕ
most_nodes = 8

abbrev pub members : Chain → List ℕ
members r = take r.length r.places

unfoldable pub memb : ℕ → List ℕ → Bool
memb j [] = false
memb j (x ∷ l) = eqb x j || memb j l

-- the first, the last, and the one after j; 0 is none
unfoldable pub first_of : List ℕ → ℕ
first_of [] = 0
first_of (x ∷ l) = x

unfoldable pub last_of : List ℕ → ℕ
last_of [] = 0
last_of (x ∷ []) = x
last_of (x ∷ (y ∷ l)) = last_of (y ∷ l)

unfoldable pub next_of : ℕ → List ℕ → ℕ
next_of j [] = 0
next_of j (x ∷ l) = pick (eqb x j) (first_of l) (next_of j l)

-- the place of j, or the length where it is not there
unfoldable pub place_of : ℕ → List ℕ → ℕ
place_of j [] = 0
place_of j (x ∷ l) = pick (eqb x j) 0 (suc (place_of j l))

-- the same as propositions
abbrev pub First : ℕ → List ℕ → Type 0
First j l = (m : List ℕ) × (l ≡ j ∷ m)

abbrev pub Last : ℕ → List ℕ → Type 0
Last j l = (m : List ℕ) × (l ≡ m ++ (j ∷ []))

abbrev pub Follows : ℕ → ℕ → List ℕ → Type 0
Follows i j l = (a : List ℕ) × (b : List ℕ) × (l ≡ a ++ (i ∷ (j ∷ b)))

abbrev pub Distinct : List ℕ → Type 0
Distinct [] = Unit {0}
Distinct (x ∷ l) = (Mem x l → ⊥) × Distinct l

-- ---- the eight places with one id inserted or removed

-- id at a place, the later ones one place on; nothing changes from place 8 on
unfoldable pub insert_at : List ℕ → ℕ → ℕ → List ℕ
insert_at l at id = pick (ltb at most_nodes) (take at l ++ (id ∷ take (7 - at) (drop at l))) l

-- without a place, the later ones one place back, and 0 last
unfoldable pub remove_at : List ℕ → ℕ → List ℕ
remove_at l at = pick (ltb at most_nodes) (take at l ++ drop (at + 1) l ++ (0 ∷ [])) l

-- ---- the state of change

abbrev pub is_open : Change → Bool
is_open Still = false
is_open (Before j) = true
is_open (After j) = true

-- the node that joins, on either side
abbrev pub joined : Change → Option Joining
joined Still = None
joined (Before j) = Some j
joined (After j) = Some j

-- a test of an open change; none holds of no change
abbrev pub when_open : Change → (Joining → Bool) → Bool
when_open Still f = false
when_open (Before j) f = f j
when_open (After j) f = f j

-- the open change
pub data Opened : Change → Joining → Type 0 where
  before : {j : Joining} → Opened (Before j) j
  after : {j : Joining} → Opened (After j) j

abbrev pub joining : ℕ → ℕ → Bool → ℕ → Joining
joining named fresh fenced next = record { named = named; fresh = fresh; fenced = fenced; next = next }

-- ---- the rules

-- ids distinct and not 0
unfoldable pub apart : List ℕ → Bool
apart [] = true
apart (x ∷ l) = not (eqb x 0) && (not (memb x l) && apart l)

-- none above h
unfoldable pub none_above : ℕ → List ℕ → Bool
none_above h [] = true
none_above h (x ∷ l) = leb x h && none_above h l

unfoldable pub joining_ok : Chain → Joining → Bool
joining_ok r j =
    memb j.named (members r)
    && (not (memb j.fresh (members r))
    && (eqb j.fresh r.highest
    && (ltb r.length most_nodes && (leb j.next r.count && (j.fenced || eqb j.next 0)))))

abbrev pub change_ok : Chain → Change → Bool
change_ok r Still = true
change_ok r (Before j) = joining_ok r j
change_ok r (After j) = joining_ok r j && eqb j.named (last_of (members r))

unfoldable pub chain_ok : Chain → Bool
chain_ok r =
    (ltb 0 r.length && leb r.length most_nodes)
    && (eqb (length r.places) most_nodes
    && (apart (members r)
    && (all_zero (drop r.length r.places)
    && (not (eqb r.session.0 0)
    && (none_above r.highest (members r)
    && ((ltb 0 r.count && leb r.count most_slots) && change_ok r r.change))))))

-- the same as propositions
pub record JoiningRules (r : Chain) (j : Joining) : Type 0 where
  pub named : Mem j.named (members r)
  pub outside : Mem j.fresh (members r) → ⊥
  pub highest : j.fresh ≡ r.highest
  pub room : r.length < most_nodes
  pub next : j.next ≤ r.count
  pub unfenced : j.fenced ≡ false → j.next ≡ 0

abbrev pub ChangeRules : Chain → Change → Type 0
ChangeRules r Still = Unit {0}
ChangeRules r (Before j) = JoiningRules r j
ChangeRules r (After j) = JoiningRules r j × Last j.named (members r)

pub record ChainRules (r : Chain) : Type 0 where
  pub some : 0 < r.length
  pub few : r.length ≤ most_nodes
  pub eight : length r.places ≡ most_nodes
  pub distinct : Distinct (members r)
  pub nonzero : Mem 0 (members r) → ⊥
  pub unused : Zero (drop r.length r.places)
  pub session : r.session.0 ≡ 0 → ⊥
  pub highest : (j : ℕ) → Mem j (members r) → j ≤ r.highest
  pub count_some : 0 < r.count
  pub count_few : r.count ≤ most_slots
  pub change : ChangeRules r r.change

-- ---- a record changed in part

abbrev pub with_change : Chain → Change → Chain
with_change r ch = record {
  length = r.length;
  places = r.places;
  wiring = r.wiring;
  session = r.session;
  highest = r.highest;
  count = r.count;
  change = ch;
}

abbrev pub with_members : Chain → ℕ → List ℕ → Session → Chain
with_members r n l s = record {
  length = n;
  places = l;
  wiring = r.wiring;
  session = s;
  highest = r.highest;
  count = r.count;
  change = Still;
}

-- ---- at the start: wiring 1, session 1, highest the largest id, no change

unfoldable pub largest : List ℕ → ℕ
largest [] = 0
largest (x ∷ l) = pick (ltb (largest l) x) x (largest l)

unfoldable pub start_chain : ℕ → List ℕ → ℕ → Chain
start_chain n places count = record {
  length = n;
  places = places;
  wiring = stamp 1;
  session = session 1;
  highest = largest (take n places);
  count = count;
  change = Still;
}

-- a starting record: 1 where it would break the rules
unfoldable pub start_call : ℕ → List ℕ → ℕ → Out Chain
start_call n places count = judge (test broken (not (chain_ok (start_chain n places count))) ∷ []) (ok (start_chain n places count))

abbrev pub start_rows : ℕ → List ℕ → ℕ → List Case
start_rows n places count = case broken (ChainRules (start_chain n places count) → ⊥) ∷ []
