-- States over bytes that demand 3 shuts out, one for each thing that it demands: none of them is reachable.
use Prim.Native.Nat.{ℕ}
use mathlib.Core.Path.{refl}
use mathlib.Core.List.Memᴰ.{head as here}
use mathlib.Core.List.Memᴰ.{tail as there}
use mathlib.Core.List.{List, [], ◌∷◌, ◌++◌}
use mathlib.Core.Bool.{true, false}
use mathlib.Core.Logic.{inl, inr}
use native.Mathlib.Omega.{arith}
use lib.ListN.{length, replicate}
use lib.Dec.{eqb}
use Rattle.wire.specs.Numbers.{pick, guard}
use Rattle.wire.specs.Version.{version, stamp, session, zero_version, next_session}
use Rattle.wire.specs.Packet.{head_of, key_of, value_of, packet_of}
use Rattle.wire.proofs.Versions.{below_irreflexive}
use Rattle.store.specs.Table.{slot, slot_of, slots, table_of, has, blank_bytes}
use Rattle.store.specs.Held.{held, wrote, content_of}
use Rattle.steps.specs.declared.Change.{Change}
use Rattle.steps.specs.declared.Change.TheVariants.{Still, Before}
use Rattle.steps.specs.Chain.{joining, memb, first_of, place_of, insert_at, apart, none_above, joining_ok, chain_ok}
use Rattle.steps.specs.Control.{activated, activate_step, activate_call}
use Rattle.protocol.specs.System.{carried}
use Rattle.protocol.specs.Runs.{the_key, value_a, value_b}
use Rattle.protocol.proofs.Shut.{not_over, at_least, apart as apart_values, valueless}
use Rattle.claims.specs.Bytes.{relaying, stepping, activating, EntryB, StateB, exec_b, stay_b, more_b}
use Rattle.claims.specs.Headline.{Acks, Shows, Numbers, in_history, in_slot, in_packet, Demand3B}

-- ---- states of nodes 1 and 2, one slot each

-- a packet without addresses: op, answer, S.Q, value
abbrev packet_at : ℕ → ℕ → ℕ → ℕ → List ℕ → List ℕ
packet_at op answer s q value = (op ∷ answer ∷ replicate 14 0) ++ (0 ∷ s ∷ length value ∷ 0 ∷ 0 ∷ 0 ∷ 0 ∷ q ∷ []) ++ the_key ++ value

-- a node's table with one letter under 1.1, and one that is blank
abbrev holding : ℕ → ℕ → List ℕ
holding j letter = (0 ∷ 0 ∷ 0 ∷ 0 ∷ 0 ∷ j ∷ 0 ∷ 1 ∷ []) ++ the_key ++ (2 ∷ 1 ∷ 0 ∷ 1 ∷ 0 ∷ 0 ∷ 0 ∷ 1 ∷ letter ∷ []) ++ replicate 127 0

-- the tables of nodes 1 and 2; others are as 2's
abbrev tables : List ℕ → List ℕ → ℕ → List ℕ
tables a b j = pick (eqb j 1) a b

abbrev both_a : ℕ → List ℕ
both_a = tables (holding 1 65) (holding 2 65)

abbrev state_of : Change → (ℕ → List ℕ) → List (List ℕ) → List EntryB → StateB
state_of change t packets trace = record {
  chain = record {
    length = 2;
    places = 1 ∷ 2 ∷ 0 ∷ 0 ∷ 0 ∷ 0 ∷ 0 ∷ 0 ∷ [];
    wiring = stamp 1;
    session = session 1;
    highest = 3;
    count = 1;
    change = change;
  };
  table = t;
  halted = λ j. false;
  packets = packets;
  trace = trace;
  origin = [];
}

-- ---- what happened: 1.1 given to A by node 1, acknowledged; a read answered without a value under S.Q

abbrev gave_a : EntryB
gave_a = record { event = stepping 1 (packet_at 2 0 1 0 value_a) []; number = 0; made = packet_at 2 0 1 1 value_a ∷ []; before = zero_version }

abbrev acked_a : EntryB
acked_a = record { event = relaying (packet_at 2 0 1 1 value_a) []; number = 0; made = packet_at 2 4 1 1 [] ∷ []; before = zero_version }

abbrev showed : ℕ → ℕ → EntryB
showed s q = record { event = stepping 2 (packet_at 1 0 0 0 []) []; number = 0; made = packet_at 1 2 s q [] ∷ []; before = zero_version }

-- what states and packets compute with: to unfold this is to unfold them
computing : Unit {0}
unfolding pick head_of key_of value_of packet_of slot_of slots table_of has held blank_bytes content_of carried
computing = tt

gives : Numbers gave_a 1 the_key (version 1 1) (wrote value_a)
unfolding computing
gives = record {
  delivered = packet_at 2 0 1 0 value_a;
  outlet = [];
  event = refl;
  unnumbered = (λ e. omega arith, refl);
  packet = packet_at 2 0 1 1 value_a;
  made = refl;
  asks = refl;
  key = refl;
  version = refl;
  content = refl;
}

acks : Acks acked_a the_key (version 1 1)
unfolding computing
acks = record {
  delivered = packet_at 2 0 1 1 value_a;
  outlet = [];
  event = inr refl;
  asks = refl;
  packet = packet_at 2 4 1 1 [];
  made = refl;
  answer = refl;
  key = refl;
  version = refl;
}

shows_none : Shows (showed 0 0) the_key zero_version
unfolding computing
shows_none = record {
  node = 2;
  delivered = packet_at 1 0 0 0 [];
  outlet = [];
  event = refl;
  packet = packet_at 1 2 0 0 [];
  made = refl;
  op = refl;
  answers = λ e. omega arith;
  key = refl;
  version = refl;
}

shows_A : Shows (showed 1 1) the_key (version 1 1)
unfolding computing
shows_A = record {
  node = 2;
  delivered = packet_at 1 0 0 0 [];
  outlet = [];
  event = refl;
  packet = packet_at 1 2 1 1 [];
  made = refl;
  op = refl;
  answers = λ e. omega arith;
  key = refl;
  version = refl;
}

-- ---- 1: the second node holds a version that the first has not

pub order_shut : Demand3B (state_of Still (tables (blank_bytes 1 1) (holding 2 65)) [] []) the_key → ⊥
unfolding computing
order_shut d = not_over (d.order 0 1 (omega arith) (omega arith))

-- ---- 2: one version stands for A and for B: in two slots, in a slot and a packet, in the history and a packet

pub slots_shut : Demand3B (state_of Still (tables (holding 1 65) (holding 2 66)) [] []) the_key → ⊥
unfolding computing
slots_shut d =
    apart_values (d.one_content (version 1 1) (wrote value_a) (wrote value_b)
    (in_slot 1 0 (slot the_key 2 (version 1 1) value_a) (omega arith, omega arith) (omega arith) refl refl refl refl valueless)
    (in_slot 2 0 (slot the_key 2 (version 1 1) value_b) (omega arith, omega arith) (omega arith) refl refl refl refl valueless))

pub slot_packet_shut : Demand3B (state_of Still both_a (packet_at 2 0 1 1 value_b ∷ []) []) the_key → ⊥
unfolding computing
slot_packet_shut d =
    apart_values (d.one_content (version 1 1) (wrote value_a) (wrote value_b)
    (in_slot 1 0 (slot the_key 2 (version 1 1) value_a) (omega arith, omega arith) (omega arith) refl refl refl refl valueless)
    (in_packet (packet_at 2 0 1 1 value_b) (here refl) refl refl refl valueless))

pub history_packet_shut : Demand3B (state_of Still both_a (packet_at 2 0 1 1 value_b ∷ []) (gave_a ∷ [])) the_key → ⊥
unfolding computing
history_packet_shut d =
    apart_values (d.one_content (version 1 1) (wrote value_a) (wrote value_b)
    (in_history gave_a 1 (here refl) gives)
    (in_packet (packet_at 2 0 1 1 value_b) (here refl) refl refl refl valueless))

-- one version is given twice
pub numbers_shut : Demand3B (state_of Still both_a [] (gave_a ∷ gave_a ∷ [])) the_key → ⊥
numbers_shut d = below_irreflexive (version 1 1) (d.numbers_rise [] (gave_a ∷ []) gave_a gave_a refl (here refl) 1 1 (version 1 1) (version 1 1) (wrote value_a) (wrote value_a) gives gives)

-- ---- 3: a write was acknowledged, and a node does not hold it: now, and after the next event

pub acked_shut : Demand3B (state_of Still (tables (holding 1 65) (blank_bytes 2 1)) [] (acked_a ∷ gave_a ∷ [])) the_key → ⊥
unfolding computing
acked_shut d = not_over (at_least ((d.acked_held acked_a (version 1 1) (here refl) acks).held _ stay_b 2 (there (here refl))))

-- node 3 joins before 1 and holds nothing
abbrev unheld : ℕ → List ℕ
unheld j = pick (eqb j 3) (blank_bytes 3 1) (holding 1 65)

pub acked_later_shut : Demand3B (state_of (Before (joining 1 3 true 1)) unheld [] (acked_a ∷ gave_a ∷ [])) the_key → ⊥
unfolding computing guard next_session memb first_of place_of insert_at apart none_above joining_ok chain_ok activated activate_step activate_call exec_b
acked_later_shut d = not_over (at_least ((d.acked_held acked_a (version 1 1) (here refl) acks).held _ (more_b stay_b activating tt) 3 (here refl)))

-- ---- 4: a read shows less than an earlier read showed, and less than was acknowledged

pub reads_shut : Demand3B (state_of Still both_a [] (showed 0 0 ∷ showed 1 1 ∷ [])) the_key → ⊥
reads_shut d = not_over (d.reads_rise [] (showed 1 1 ∷ []) (showed 0 0) (showed 1 1) refl (here refl) (version 1 1) zero_version shows_none (inl shows_A))

pub read_acked_shut : Demand3B (state_of Still both_a [] (showed 0 0 ∷ acked_a ∷ [])) the_key → ⊥
read_acked_shut d = not_over (d.reads_rise [] (acked_a ∷ []) (showed 0 0) acked_a refl (here refl) (version 1 1) zero_version shows_none (inr acks))
