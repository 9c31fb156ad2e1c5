-- States that demand 3 shuts out, one for each thing that it demands: none of them is reachable.
use Prim.Native.Nat.{ℕ}
use mathlib.Core.Path.{◌≡◌, refl, sym}
use mathlib.Core.List.Memᴰ.{head as here}
use mathlib.Core.List.Memᴰ.{tail as there}
use mathlib.Core.List.{List, [], ◌∷◌, Memᴰ as Mem}
use mathlib.Core.Bool.{true, false}
use mathlib.Core.Logic.{◌⊎◌, inl, inr}
use native.Mathlib.Omega.{arith}
use lib.Dec.{eqb}
use Rattle.wire.specs.Numbers.{pick, guard}
use Rattle.wire.specs.Version.{version, stamp, session, zero_version, next_session, AtMost, Below}
use Rattle.wire.specs.Packet.{Packet}
use Rattle.wire.specs.declared.Version.{Version}
use Rattle.wire.proofs.Versions.{below_irreflexive, below_atmost}
use Rattle.store.specs.Table.{Table, slot, has, blank_table}
use Rattle.store.specs.Held.{held, Content, wrote, gone, nothing, content_of}
use Rattle.steps.specs.declared.Change.{Change}
use Rattle.steps.specs.declared.Change.TheVariants.{Still, Before}
use Rattle.steps.specs.Chain.{joining, first_of, place_of, insert_at}
use Rattle.steps.specs.Control.{activated, activate_step}
use Rattle.protocol.specs.System.{State, Ghost, numbered, acked, shown, carried, activates, exec, stay, more}
use Rattle.protocol.specs.Demand.{Demand3, in_history, in_slot, in_packet, by_read, by_ack}
use Rattle.protocol.specs.Runs.{the_key, parcel, value_a, value_b, write_a, write_b}
use Rattle.protocol.proofs.Prims.{at_most_same}
use Rattle.protocol.proofs.Ghosts.{other_kind}

-- ---- states of nodes 1 and 2, one slot each

-- the value under 1.1 at a node
abbrev holding : ℕ → List ℕ → Table
holding j x = record { fence = stamp 0; id = j; slots = slot the_key 2 (version 1 1) x ∷ [] }

-- the tables of nodes 1 and 2; others are as 2's
abbrev tables : Table → Table → ℕ → Table
tables a b j = pick (eqb j 1) a b

abbrev state_of : Change → (ℕ → Table) → List Packet → List Ghost → State
state_of change t packets history = record {
  chain = record {
    length = 2;
    places = 1 ∷ 2 ∷ 0 ∷ 0 ∷ 0 ∷ 0 ∷ 0 ∷ 0 ∷ [];
    wiring = stamp 1;
    session = session 1;
    highest = 3;
    count = 1;
    change = change;
  };
  table = t;
  halted = λ j. false;
  packets = packets;
  trace = [];
  origin = history;
}

-- version 1.1 given to A, acknowledged, and shown
abbrev gave_a : Ghost
gave_a = numbered the_key (version 1 1) (wrote value_a) 1 zero_version (write_a 0 1 1 (version 1 0))

abbrev acked_a : Ghost
acked_a = acked the_key (version 1 1) (write_a 0 0 0 (version 1 1))

abbrev shows : Version → Ghost
shows v = shown the_key v (write_a 0 0 0 v)

pub not_over : AtMost (version 1 1) zero_version → ⊥
not_over (inl h) = omega arith
not_over (inr h) = let e = h.0 in omega arith

pub at_least : {A : Type 0} {u v : Version} → ((u ≡ v) × A) ⊎ Below v u → AtMost v u
at_least (inl e) = at_most_same (sym e.0)
at_least (inr b) = below_atmost _ _ b

pub apart : wrote value_a ≡ wrote value_b → ⊥
apart e = let z : ◌≡◌ {A = ℕ} 65 66 = cc in omega arith

pub valueless : {x : List ℕ} → wrote x ≡ nothing → ⊥
valueless e = let z : ◌≡◌ {A = ℕ} 0 1 = cc in omega arith

kept : {x : List ℕ} → wrote x ≡ gone → ⊥
kept e = let z : ◌≡◌ {A = ℕ} 0 1 = cc in omega arith

something : gone ≡ nothing → ⊥
something e = let z : ◌≡◌ {A = ℕ} 0 1 = cc in omega arith

nowhere : {g : Ghost} → Mem g [] → ⊥
nowhere m = elim m [ ]

-- what a state computes with: to unfold this is to unfold them
computing : Unit {0}
unfolding pick held has blank_table content_of carried
computing = tt

-- ---- 1: the second node holds a version that the first has not

pub order_shut : Demand3 (state_of Still (tables (blank_table 1 1) (holding 2 value_a)) [] []) the_key → ⊥
unfolding computing
order_shut d = not_over (d.order 0 1 (omega arith) (omega arith))

-- ---- 2: one version stands for A and for B: in two slots, in a slot and a packet, in the history and a packet

pub slots_shut : Demand3 (state_of Still (tables (holding 1 value_a) (holding 2 value_b)) [] []) the_key → ⊥
unfolding computing
slots_shut d =
    apart (d.one_content (version 1 1) (wrote value_a) (wrote value_b)
    (in_slot 1 0 (slot the_key 2 (version 1 1) value_a) (omega arith) refl refl refl refl valueless)
    (in_slot 2 0 (slot the_key 2 (version 1 1) value_b) (omega arith) refl refl refl refl valueless))

pub slot_packet_shut : Demand3 (state_of Still (tables (holding 1 value_a) (holding 2 value_a)) (write_b 1 0 1 (version 1 1) ∷ []) []) the_key → ⊥
unfolding computing
slot_packet_shut d =
    apart (d.one_content (version 1 1) (wrote value_a) (wrote value_b)
    (in_slot 1 0 (slot the_key 2 (version 1 1) value_a) (omega arith) refl refl refl refl valueless)
    (in_packet (write_b 1 0 1 (version 1 1)) (here refl) refl refl refl valueless))

pub history_packet_shut : Demand3 (state_of Still (tables (blank_table 1 1) (blank_table 2 1)) (write_b 1 0 1 (version 1 1) ∷ []) (gave_a ∷ [])) the_key → ⊥
unfolding computing
history_packet_shut d =
    apart (d.one_content (version 1 1) (wrote value_a) (wrote value_b)
    (in_history 1 zero_version (write_a 0 1 1 (version 1 0)) (here refl))
    (in_packet (write_b 1 0 1 (version 1 1)) (here refl) refl refl refl valueless))

-- and in a slot and an answer, and for A and a deletion
pub slot_answer_shut : Demand3 (state_of Still (tables (holding 1 value_a) (holding 2 value_a)) (parcel 1 1 2 0 3 1 (version 1 1) value_b ∷ []) []) the_key → ⊥
unfolding computing
slot_answer_shut d =
    apart (d.one_content (version 1 1) (wrote value_a) (wrote value_b)
    (in_slot 1 0 (slot the_key 2 (version 1 1) value_a) (omega arith) refl refl refl refl valueless)
    (in_packet (parcel 1 1 2 0 3 1 (version 1 1) value_b) (here refl) refl refl refl valueless))

pub slot_deletion_shut : Demand3 (state_of Still (tables (holding 1 value_a) (holding 2 value_a)) (parcel 1 2 2 0 3 1 (version 1 1) [] ∷ []) []) the_key → ⊥
unfolding computing
slot_deletion_shut d =
    kept (d.one_content (version 1 1) (wrote value_a) gone
    (in_slot 1 0 (slot the_key 2 (version 1 1) value_a) (omega arith) refl refl refl refl valueless)
    (in_packet (parcel 1 2 2 0 3 1 (version 1 1) []) (here refl) refl refl refl something))

-- a slot holds what no node gave a number
pub unnumbered_shut : Demand3 (state_of Still (tables (holding 1 value_a) (holding 2 value_a)) [] []) the_key → ⊥
unfolding computing
unnumbered_shut d =
    nowhere (d.all_numbered (version 1 1) (wrote value_a) (in_slot 1 0 (slot the_key 2 (version 1 1) value_a) (omega arith) refl refl refl refl valueless)).3

-- one version is given twice
pub growing_shut : Demand3 (state_of Still (tables (holding 1 value_a) (holding 2 value_a)) [] (gave_a ∷ gave_a ∷ [])) the_key → ⊥
growing_shut d = below_irreflexive (version 1 1) (d.growing.0 refl (version 1 1) (wrote value_a) 1 zero_version (write_a 0 1 1 (version 1 0)) (here refl))

-- ---- 3: a write was acknowledged, and a node does not hold it: now, and after the next event

pub acked_shut : Demand3 (state_of Still (tables (holding 1 value_a) (blank_table 2 1)) [] (acked_a ∷ gave_a ∷ [])) the_key → ⊥
unfolding computing
acked_shut d = not_over (at_least ((d.acked_held (version 1 1) (write_a 0 0 0 (version 1 1)) (here refl)).held _ stay 2 (there (here refl))))

-- node 3 joins before 1 and holds nothing
abbrev unheld : ℕ → Table
unheld j = pick (eqb j 3) (blank_table 3 1) (holding j value_a)

pub acked_later_shut : Demand3 (state_of (Before (joining 1 3 true 1)) unheld [] (acked_a ∷ gave_a ∷ [])) the_key → ⊥
unfolding computing guard next_session first_of place_of insert_at activated activate_step exec
acked_later_shut d = not_over (at_least ((d.acked_held (version 1 1) (write_a 0 0 0 (version 1 1)) (here refl)).held _ (more stay activates tt) 3 (here refl)))

-- and what was acknowledged was never given a number
pub ungiven_shut : Demand3 (state_of Still (tables (holding 1 value_a) (holding 2 value_a)) [] (acked_a ∷ [])) the_key → ⊥
ungiven_shut d = none (d.acked_held (version 1 1) (write_a 0 0 0 (version 1 1)) (here refl)).given
  where
    none : {c : Content} → (j : ℕ) × (before : Version) × (origin : Packet) × Mem (numbered the_key (version 1 1) c j before origin) (acked_a ∷ []) → ⊥
    none g = nowhere (other_kind (λ (e : ◌≡◌ {A = ℕ} 0 1). omega arith) g.3)

-- ---- 4: a read shows less than an earlier read showed, and less than was acknowledged

pub reads_shut : Demand3 (state_of Still (tables (holding 1 value_a) (holding 2 value_a)) [] (shows zero_version ∷ shows (version 1 1) ∷ [])) the_key → ⊥
reads_shut d = not_over (d.reads_rise.0 refl (version 1 1) (by_read (write_a 0 0 0 (version 1 1)) (here refl)))

pub read_acked_shut : Demand3 (state_of Still (tables (holding 1 value_a) (holding 2 value_a)) [] (shows zero_version ∷ acked_a ∷ [])) the_key → ⊥
read_acked_shut d = not_over (d.reads_rise.0 refl (version 1 1) (by_ack (write_a 0 0 0 (version 1 1)) (here refl)))
