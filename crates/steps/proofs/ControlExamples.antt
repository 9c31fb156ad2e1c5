-- Examples of the controller steps: each step done with the whole record and tables, and every number, each with what is nearest to it.
use Prim.Native.Nat.{ℕ}
use mathlib.Core.Path.{◌≡◌, refl}
use mathlib.Core.List.{List, [], ◌∷◌, ◌++◌, map}
use mathlib.Core.Bool.{Bool, true, false}
use lib.ListN.{length, drop}
use Rattle.be.specs.Be.{digits, put}
use Rattle.wire.specs.Numbers.{Out, refuse, ok, number_of, left, pick, guard}
use Rattle.wire.specs.Version.{version, next_session, next_stamp}
use Rattle.store.specs.Table.{Slot, slot, slot_of, row_of, free_slot, slots, table_of, row_ok, frame_ok, table_ok, has, is_free_slot, find, lowest_free, write_bytes, fence_bytes}
use Rattle.steps.specs.declared.Change.{Change}
use Rattle.steps.specs.declared.Change.TheVariants.{Still, Before, After}
use Rattle.steps.specs.declared.Chain.{Chain}
use Rattle.steps.specs.Chain.{joining, memb, first_of, last_of, place_of, insert_at, remove_at, apart, none_above, joining_ok, chain_ok}
use Rattle.steps.specs.Control.{opened, open_step, open_call, fence_step, fence_call, copy_step, copy_call, copy_bytes, activated, activate_step, activate_call, cancel_step, cancel_call, removed, remove_step, remove_call, enter_step, enter_call}
use Rattle.steps.specs.Marked.{key, the_key}
use Rattle.steps.proofs.ChainExamples.{chain_of}

-- ---- records of two slots a table: wiring, session, highest, change

-- the chain 7 5 9, a chain of eight and one of seven, the node 7 alone, and the places of 7 5 9 with one id more
abbrev chain : ℕ → ℕ → ℕ → Change → Chain
chain w s highest change = chain_of 3 (7 ∷ 5 ∷ 9 ∷ 0 ∷ 0 ∷ 0 ∷ 0 ∷ 0 ∷ []) w s highest 2 change

abbrev full : ℕ → ℕ → ℕ → Change → Chain
full w s highest change = chain_of 8 (1 ∷ 2 ∷ 3 ∷ 4 ∷ 5 ∷ 6 ∷ 7 ∷ 8 ∷ []) w s highest 2 change

abbrev seven : ℕ → ℕ → ℕ → Change → Chain
seven w s highest change = chain_of 7 (1 ∷ 2 ∷ 3 ∷ 4 ∷ 5 ∷ 6 ∷ 7 ∷ 0 ∷ []) w s highest 2 change

abbrev alone : ℕ → ℕ → ℕ → Change → Chain
alone w s highest change = chain_of 1 (7 ∷ 0 ∷ 0 ∷ 0 ∷ 0 ∷ 0 ∷ 0 ∷ 0 ∷ []) w s highest 2 change

abbrev four : List ℕ → ℕ → ℕ → ℕ → Change → Chain
four ids w s highest change = chain_of 4 (ids ++ (0 ∷ 0 ∷ 0 ∷ 0 ∷ [])) w s highest 2 change

abbrev two : List ℕ → ℕ → ℕ → ℕ → Change → Chain
two ids w s highest change = chain_of 2 (ids ++ (0 ∷ 0 ∷ 0 ∷ 0 ∷ 0 ∷ 0 ∷ [])) w s highest 2 change

-- session 0 breaks the rules
abbrev broken_chain : Change → Chain
broken_chain change = chain 6 0 12 change

-- node 12 joins before 5, and after 9: mark and next slot
abbrev before5 : Bool → ℕ → Change
before5 fenced next = Before (joining 5 12 fenced next)

abbrev after9 : Bool → ℕ → Change
after9 fenced next = After (joining 9 12 fenced next)

-- ---- open

pub record Opening : Type 0 where
  pub chain : Chain
  pub after : Bool
  pub named : ℕ
  pub fresh : ℕ
  pub gives : Out Chain

abbrev opening : Chain → Bool → ℕ → ℕ → Out Chain → Opening
opening r after named fresh gives = record { chain = r; after = after; named = named; fresh = fresh; gives = gives }

abbrev pub openings : List Opening
openings =
    opening (chain 6 3 9 Still) false 5 12 (ok (chain 7 3 12 (before5 false 0)))
    ∷ opening (chain 6 3 9 Still) true 9 12 (ok (chain 7 3 12 (after9 false 0)))
    ∷ opening (chain 4294967294 3 9 Still) false 9 10 (ok (chain 4294967295 3 10 (Before (joining 9 10 false 0))))
    -- before the first of several; before and after the only node; on seven nodes, at either end
    ∷ opening (chain 6 3 9 Still) false 7 12 (ok (chain 7 3 12 (Before (joining 7 12 false 0))))
    ∷ opening (alone 6 3 7 Still) false 7 12 (ok (alone 7 3 12 (Before (joining 7 12 false 0))))
    ∷ opening (alone 6 3 7 Still) true 7 12 (ok (alone 7 3 12 (After (joining 7 12 false 0))))
    ∷ opening (seven 6 3 7 Still) false 1 8 (ok (seven 7 3 8 (Before (joining 1 8 false 0))))
    ∷ opening (seven 6 3 7 Still) true 7 8 (ok (seven 7 3 8 (After (joining 7 8 false 0))))
    ∷ opening (broken_chain Still) false 8 12 (refuse 1)
    -- 11 before 13; 13 before 15; 15, and before 16; 16, and before 17; 17
    ∷ opening (chain 4294967295 3 9 Still) false 5 12 (refuse 11)
    ∷ opening (chain 4294967295 3 12 (before5 false 0)) false 8 12 (refuse 11)
    ∷ opening (chain 6 3 12 (before5 false 0)) false 8 13 (refuse 13)
    ∷ opening (chain 6 3 9 Still) false 8 12 (refuse 15)
    ∷ opening (chain 6 3 9 Still) true 7 12 (refuse 15)
    ∷ opening (chain 6 3 9 Still) true 5 9 (refuse 15)
    ∷ opening (chain 6 3 9 Still) false 5 9 (refuse 16)
    ∷ opening (chain 6 3 9 Still) false 5 8 (refuse 16)
    ∷ opening (chain 6 3 9 Still) false 5 0 (refuse 16)
    ∷ opening (full 6 3 8 Still) false 5 8 (refuse 16)
    ∷ opening (full 6 3 8 Still) false 5 9 (refuse 17)
    ∷ opening (full 6 3 8 Still) true 8 9 (refuse 17)
    ∷ []

-- ---- activate, cancel, remove

pub record Ruling : Type 0 where
  pub chain : Chain
  pub gives : Out Chain

abbrev ruling : Chain → Out Chain → Ruling
ruling r gives = record { chain = r; gives = gives }

abbrev pub activations : List Ruling
activations =
    ruling (chain 6 3 12 (before5 true 2)) (ok (four (7 ∷ 12 ∷ 5 ∷ 9 ∷ []) 6 3 12 Still))
    ∷ ruling (chain 6 3 12 (after9 true 2)) (ok (four (7 ∷ 5 ∷ 9 ∷ 12 ∷ []) 6 3 12 Still))
    ∷ ruling (chain 6 65534 12 (Before (joining 7 12 true 2))) (ok (four (12 ∷ 7 ∷ 5 ∷ 9 ∷ []) 6 65535 12 Still))
    ∷ ruling (alone 6 65535 12 (After (joining 7 12 true 2))) (ok (two (7 ∷ 12 ∷ []) 6 65535 12 Still))
    ∷ ruling (chain_of 7 (1 ∷ 2 ∷ 3 ∷ 4 ∷ 5 ∷ 6 ∷ 7 ∷ 0 ∷ []) 6 3 8 2 (After (joining 7 8 true 2))) (ok (full 6 3 8 Still))
    ∷ ruling (broken_chain Still) (refuse 1)
    -- 11, also before all slots are copied; 14
    ∷ ruling (chain 6 65535 12 (Before (joining 7 12 true 2))) (refuse 11)
    ∷ ruling (chain 6 65535 12 (Before (joining 7 12 false 0))) (refuse 11)
    ∷ ruling (chain 6 65535 12 (before5 true 2)) (ok (four (7 ∷ 12 ∷ 5 ∷ 9 ∷ []) 6 65535 12 Still))
    ∷ ruling (chain 6 3 12 Still) (refuse 14)
    ∷ ruling (chain 6 3 12 (before5 false 0)) (refuse 14)
    ∷ ruling (chain 6 3 12 (before5 true 1)) (refuse 14)
    ∷ ruling (chain 6 65535 12 Still) (refuse 14)
    ∷ []

abbrev pub cancellings : List Ruling
cancellings =
    ruling (chain 6 3 12 (before5 false 0)) (ok (chain 6 3 12 Still))
    ∷ ruling (chain 6 3 12 (after9 true 2)) (ok (chain 6 3 12 Still))
    ∷ ruling (broken_chain Still) (refuse 1)
    ∷ ruling (chain 6 3 12 Still) (refuse 14)
    ∷ []

pub record Removal : Type 0 where
  pub chain : Chain
  pub id : ℕ
  pub gives : Out Chain

abbrev removal : Chain → ℕ → Out Chain → Removal
removal r id gives = record { chain = r; id = id; gives = gives }

abbrev pub removals : List Removal
removals =
    removal (chain 6 3 12 Still) 5 (ok (two (7 ∷ 9 ∷ []) 6 3 12 Still))
    ∷ removal (chain 6 3 12 Still) 9 (ok (two (7 ∷ 5 ∷ []) 6 3 12 Still))
    ∷ removal (chain 6 65534 12 Still) 7 (ok (two (5 ∷ 9 ∷ []) 6 65535 12 Still))
    ∷ removal (chain 6 65535 12 Still) 9 (ok (two (7 ∷ 5 ∷ []) 6 65535 12 Still))
    ∷ removal (full 6 3 8 Still) 8 (ok (chain_of 7 (1 ∷ 2 ∷ 3 ∷ 4 ∷ 5 ∷ 6 ∷ 7 ∷ 0 ∷ []) 6 3 8 2 Still))
    ∷ removal (two (7 ∷ 5 ∷ []) 6 3 12 Still) 5 (ok (alone 6 3 12 Still))
    ∷ removal (two (5 ∷ 7 ∷ []) 6 3 12 Still) 5 (ok (alone 6 4 12 Still))
    ∷ removal (broken_chain Still) 8 (refuse 1)
    -- 11, also with a change open and of the only node; 13, and before 15; 15, of one node too; 18
    ∷ removal (chain 6 65535 12 Still) 7 (refuse 11)
    ∷ removal (chain 6 65535 12 (before5 false 0)) 7 (refuse 11)
    ∷ removal (alone 6 65535 12 Still) 7 (refuse 11)
    ∷ removal (chain 6 3 12 (before5 false 0)) 9 (refuse 13)
    ∷ removal (chain 6 3 12 (before5 false 0)) 12 (refuse 13)
    ∷ removal (chain 6 3 12 Still) 12 (refuse 15)
    ∷ removal (alone 6 3 12 Still) 12 (refuse 15)
    ∷ removal (alone 6 3 12 Still) 7 (refuse 18)
    ∷ []

-- ---- tables of two slots: fence, id

-- a slot with a value, one that was deleted, and one that is entered
abbrev value_slot : Slot
value_slot = slot the_key 2 (version 3 4) (66 ∷ 67 ∷ [])

abbrev deleted_slot : Slot
deleted_slot = slot (key 108) 3 (version 2 9) []

abbrev entered_slot : ℕ → Slot
entered_slot letter = slot (key letter) 1 (version 0 0) []

abbrev rows : List Slot → List ℕ
rows [] = []
rows (s ∷ l) = row_of s ++ rows l

abbrev table : ℕ → ℕ → List Slot → List ℕ
table fence id l = digits 4 fence ++ digits 2 id ++ digits 2 (length l) ++ rows l

abbrev two_slots : List Slot
two_slots = value_slot ∷ deleted_slot ∷ []

-- ---- fence: number, record, and the named table

pub record Fencing : Type 0 where
  pub chain : Chain
  pub table : List ℕ
  pub number : ℕ
  pub chain' : Chain
  pub table' : List ℕ

abbrev fenced : Chain → List ℕ → Chain → List ℕ → Fencing
fenced r t r' t' = record { chain = r; table = t; number = 0; chain' = r'; table' = t' }

abbrev unfenced : Chain → List ℕ → ℕ → Fencing
unfenced r t n = record { chain = r; table = t; number = n; chain' = r; table' = t }

abbrev pub fencings : List Fencing
fencings =
    fenced (chain 6 3 12 (before5 false 0)) (table 2 5 two_slots) (chain 6 3 12 (before5 true 0)) (table 6 5 two_slots)
    ∷ fenced (chain 6 3 12 (after9 false 0)) (table 6 9 two_slots) (chain 6 3 12 (after9 true 0)) (table 6 9 two_slots)
    -- again, with a slot copied
    ∷ fenced (chain 6 3 12 (before5 true 1)) (table 6 5 two_slots) (chain 6 3 12 (before5 true 1)) (table 6 5 two_slots)
    -- 1: record, table, and a table with no change open
    ∷ unfenced (broken_chain Still) (table 2 5 two_slots) 1
    ∷ unfenced (chain 6 3 12 (before5 false 0)) (drop 1 (table 2 5 two_slots)) 1
    ∷ unfenced (chain 6 3 12 Still) (drop 1 (table 2 5 two_slots)) 1
    -- 14 with a wrong table too; 15 of the new node's table, and before 19; 19 before 22; 22
    ∷ unfenced (chain 6 3 12 Still) (table 7 8 (value_slot ∷ [])) 14
    ∷ unfenced (chain 6 3 12 (before5 false 0)) (table 2 12 two_slots) 15
    ∷ unfenced (chain 6 3 12 (before5 false 0)) (table 7 9 (value_slot ∷ [])) 15
    ∷ unfenced (chain 6 3 12 (before5 false 0)) (table 7 5 (value_slot ∷ [])) 19
    ∷ unfenced (chain 6 3 12 (before5 false 0)) (table 7 5 two_slots) 22
    ∷ []

-- ---- copy: number, record, and the new table

pub record Copying : Type 0 where
  pub chain : Chain
  pub place : ℕ
  pub named : List ℕ
  pub fresh : List ℕ
  pub number : ℕ
  pub chain' : Chain
  pub fresh' : List ℕ

abbrev copied : Chain → ℕ → List ℕ → List ℕ → Chain → List ℕ → Copying
copied r i named fresh r' fresh' = record { chain = r; place = i; named = named; fresh = fresh; number = 0; chain' = r'; fresh' = fresh' }

abbrev uncopied : Chain → ℕ → List ℕ → List ℕ → ℕ → Copying
uncopied r i named fresh n = record { chain = r; place = i; named = named; fresh = fresh; number = n; chain' = r; fresh' = fresh }

abbrev blank : List ℕ
blank = table 0 12 (free_slot ∷ free_slot ∷ [])

abbrev pub copyings : List Copying
copyings =
    -- one slot, the place asked for; over what stands there, and a free one too
    copied (chain 6 3 12 (before5 true 0)) 0 (table 6 5 two_slots) blank (chain 6 3 12 (before5 true 1)) (table 0 12 (value_slot ∷ free_slot ∷ []))
    ∷ copied (chain 6 3 12 (before5 true 1)) 1 (table 6 5 two_slots) blank (chain 6 3 12 (before5 true 2)) (table 0 12 (free_slot ∷ deleted_slot ∷ []))
    ∷ copied (chain 6 3 12 (after9 true 1)) 1 (table 6 9 (value_slot ∷ free_slot ∷ [])) (table 0 12 (value_slot ∷ deleted_slot ∷ [])) (chain 6 3 12 (after9 true 2)) (table 0 12 (value_slot ∷ free_slot ∷ []))
    -- the named table's fence under the wiring number, and above it
    ∷ copied (chain 6 3 12 (before5 true 0)) 0 (table 2 5 two_slots) blank (chain 6 3 12 (before5 true 1)) (table 0 12 (value_slot ∷ free_slot ∷ []))
    ∷ copied (chain 6 3 12 (before5 true 0)) 0 (table 9 5 two_slots) blank (chain 6 3 12 (before5 true 1)) (table 0 12 (value_slot ∷ free_slot ∷ []))
    -- 1: record, either table, and with no change open
    ∷ uncopied (broken_chain Still) 0 (table 6 5 two_slots) blank 1
    ∷ uncopied (chain 6 3 12 (before5 true 0)) 0 (drop 1 (table 6 5 two_slots)) blank 1
    ∷ uncopied (chain 6 3 12 (before5 true 0)) 0 (table 6 5 two_slots) (drop 1 blank) 1
    ∷ uncopied (chain 6 3 12 Still) 0 (table 6 5 two_slots) (drop 1 blank) 1
    -- 14: no change, unfenced, a slot before and a slot behind the next, none left; with wrong tables too
    ∷ uncopied (chain 6 3 12 Still) 0 (table 6 5 two_slots) blank 14
    ∷ uncopied (chain 6 3 12 (before5 false 0)) 0 (table 6 5 two_slots) blank 14
    ∷ uncopied (chain 6 3 12 (before5 true 1)) 0 (table 6 5 two_slots) blank 14
    ∷ uncopied (chain 6 3 12 (before5 true 0)) 1 (table 6 5 two_slots) blank 14
    ∷ uncopied (chain 6 3 12 (before5 true 2)) 2 (table 6 5 two_slots) blank 14
    ∷ uncopied (chain 6 3 12 (before5 false 0)) 0 blank (table 6 5 two_slots) 14
    -- 15: either table, and before 19; 19: either table
    ∷ uncopied (chain 6 3 12 (before5 true 0)) 0 (table 6 9 two_slots) blank 15
    ∷ uncopied (chain 6 3 12 (before5 true 0)) 0 (table 6 5 two_slots) (table 0 9 (free_slot ∷ free_slot ∷ [])) 15
    ∷ uncopied (chain 6 3 12 (before5 true 0)) 0 (table 6 9 (value_slot ∷ [])) blank 15
    ∷ uncopied (chain 6 3 12 (before5 true 0)) 0 (table 6 5 (value_slot ∷ [])) blank 19
    ∷ uncopied (chain 6 3 12 (before5 true 0)) 0 (table 6 5 two_slots) (table 0 12 (free_slot ∷ [])) 19
    ∷ []

-- ---- enter: number and table

pub record Entering : Type 0 where
  pub chain : Chain
  pub table : List ℕ
  pub id : ℕ
  pub key : List ℕ
  pub number : ℕ
  pub table' : List ℕ

abbrev entered : List ℕ → ℕ → List ℕ → Entering
entered t letter t' = record { chain = chain 6 3 12 Still; table = t; id = 5; key = key letter; number = 0; table' = t' }

abbrev unentered : Chain → List ℕ → ℕ → ℕ → ℕ → Entering
unentered r t id letter n = record { chain = r; table = t; id = id; key = key letter; number = n; table' = t }

abbrev pub enterings : List Entering
enterings =
    -- the lowest free slot
    entered (table 2 5 (free_slot ∷ free_slot ∷ [])) 109 (table 2 5 (entered_slot 109 ∷ free_slot ∷ []))
    ∷ entered (table 2 5 (free_slot ∷ value_slot ∷ [])) 109 (table 2 5 (entered_slot 109 ∷ value_slot ∷ []))
    ∷ entered (table 2 5 (deleted_slot ∷ free_slot ∷ [])) 109 (table 2 5 (deleted_slot ∷ entered_slot 109 ∷ []))
    -- 1; 13 before 15; 15 of an id outside the chain, of another table, and before 19
    ∷ unentered (broken_chain Still) (table 2 5 two_slots) 5 109 1
    ∷ unentered (chain 6 3 12 Still) (drop 1 (table 2 5 two_slots)) 5 109 1
    ∷ unentered (chain 6 3 12 (before5 false 0)) (table 2 5 (free_slot ∷ free_slot ∷ [])) 5 109 13
    ∷ unentered (chain 6 3 12 (before5 false 0)) (table 2 8 (free_slot ∷ free_slot ∷ [])) 8 109 13
    ∷ unentered (chain 6 3 12 Still) (table 2 8 (free_slot ∷ free_slot ∷ [])) 8 109 15
    ∷ unentered (chain 6 3 12 Still) (table 2 7 (free_slot ∷ free_slot ∷ [])) 5 109 15
    ∷ unentered (chain 6 3 12 Still) (table 2 7 (free_slot ∷ [])) 5 109 15
    -- 19 before 20; 20 of a value, of a deleted key, and before 21; 21
    ∷ unentered (chain 6 3 12 Still) (table 2 5 (value_slot ∷ [])) 5 107 19
    ∷ unentered (chain 6 3 12 Still) (table 2 5 (value_slot ∷ free_slot ∷ [])) 5 107 20
    ∷ unentered (chain 6 3 12 Still) (table 2 5 (free_slot ∷ deleted_slot ∷ [])) 5 108 20
    ∷ unentered (chain 6 3 12 Still) (table 2 5 two_slots) 5 107 20
    ∷ unentered (chain 6 3 12 Still) (table 2 5 two_slots) 5 109 21
    ∷ []

-- ---- each is as the step has it

on_records : Unit {0}
unfolding pick guard next_session next_stamp memb first_of last_of place_of insert_at remove_at apart none_above joining_ok chain_ok opened open_step open_call activated activate_step activate_call cancel_step cancel_call removed remove_step remove_call
on_records = tt

on_tables : Unit {0}
unfolding on_records put slot_of row_of slots table_of row_ok frame_ok table_ok has is_free_slot find lowest_free fence_step fence_call copy_step copy_call enter_step enter_call
on_tables = tt

pub open_examples : map (λ (x : Opening). open_call x.chain x.after x.named x.fresh) openings ≡ map (λ (x : Opening). x.gives) openings
unfolding on_records
open_examples = refl

pub activate_examples : map (λ (x : Ruling). activate_call x.chain) activations ≡ map (λ (x : Ruling). x.gives) activations
unfolding on_records
activate_examples = refl

pub cancel_examples : map (λ (x : Ruling). cancel_call x.chain) cancellings ≡ map (λ (x : Ruling). x.gives) cancellings
unfolding on_records
cancel_examples = refl

pub remove_examples : map (λ (x : Removal). remove_call x.chain x.id) removals ≡ map (λ (x : Removal). x.gives) removals
unfolding on_records
remove_examples = refl

-- number, record and table of a call, and of its example
abbrev Left : Type 0
Left = ℕ × Chain × List ℕ

abbrev fence_leaves : Fencing → Left
fence_leaves x =
    let o = fence_call x.chain x.table in
    (number_of o, left x.chain (λ r. r) o, left x.table (λ _. fence_bytes x.chain.wiring x.table) o)

pub fence_examples : map fence_leaves fencings ≡ map (λ (x : Fencing). (x.number, x.chain', x.table')) fencings
unfolding on_tables
fence_examples = refl

abbrev copy_leaves : Copying → Left
copy_leaves x =
    let o = copy_call x.chain x.place x.named x.fresh in
    (number_of o, left x.chain (λ r. r) o, left x.fresh (λ _. copy_bytes x.place x.named x.fresh) o)

pub copy_examples : map copy_leaves copyings ≡ map (λ (x : Copying). (x.number, x.chain', x.fresh')) copyings
unfolding on_tables
copy_examples = refl

abbrev LeftTable : Type 0
LeftTable = ℕ × List ℕ

abbrev enter_leaves : Entering → LeftTable
enter_leaves x = let o = enter_call x.chain x.table x.id x.key in (number_of o, left x.table (λ w. write_bytes w x.table) o)

pub enter_examples : map enter_leaves enterings ≡ map (λ (x : Entering). (x.number, x.table')) enterings
unfolding on_tables
enter_examples = refl
