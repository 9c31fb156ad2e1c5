-- Examples of the node step beyond the marked ones: every way of a node, and every number that it gives, each with what is nearest to it.
use Prim.Native.Nat.{ℕ}
use mathlib.Core.Path.{◌≡◌, refl}
use mathlib.Core.List.{List, [], ◌∷◌, map}
use mathlib.Core.Bool.{true}
use lib.ListN.{drop, replicate}
use Rattle.be.specs.Be.{put}
use Rattle.wire.specs.Numbers.{Out, ok, number_of, pick, guard}
use Rattle.wire.specs.Version.{version, next_sequence, newer}
use Rattle.wire.specs.Packet.{head_of, key_of, value_of, packet_of, front_of, back_of, bytes_of, head_ok, well_formed}
use Rattle.store.specs.Table.{Slot, slot, slot_of, row_of, slots, table_of, row_ok, frame_ok, table_ok, has, find}
use Rattle.steps.specs.Node.{reply, absent, answered, given, version_for, stored as stored_slot, taken, at_slot, node_step, node_call}
use Rattle.steps.specs.Marked.{the_key, stored, entered, keyless, table_bytes, packet_bytes, Asked, numbered, unnumbered, read, Done, takes, Example, at_node, holds, all_hold}

-- ---- what is asked and what comes of it

-- a slot whose key was deleted under S.Q
abbrev deleted_slot : ℕ → ℕ → Slot
deleted_slot s q = slot the_key 3 (version s q) []

abbrev asked : ℕ → ℕ → ℕ → List ℕ → Asked
asked op s q value = record { op = op; version = version s q; value = value }

abbrev delete : ℕ → ℕ → Asked
delete s q = asked 3 s q []

-- the slot is left, and an answer is sent
abbrev answers : Slot → ℕ → Asked → Out Done
answers kept answer a = ok (record { slot = kept; answer = answer; sent = a })

-- the delete is stored under S.Q and goes on under it
abbrev deletes : ℕ → ℕ → Out Done
deletes s q = ok (record { slot = deleted_slot s q; answer = 0; sent = delete s q })

-- ---- the ways of a node: fence, slot, stamp, packet; then slot, answer and packet afterwards

abbrev pub ways : List Example
ways =
    -- a read: a value, an empty value, never written, deleted, no such key
    at_node 3 (stored 1 4) 8 (read 0 0) (answers (stored 1 4) 1 (asked 1 1 4 (66 ∷ 67 ∷ [])))
    ∷ at_node 3 (slot the_key 2 (version 6 7) []) 8 (read 0 0) (answers (slot the_key 2 (version 6 7) []) 1 (asked 1 6 7 []))
    ∷ at_node 3 entered 8 (read 0 0) (answers entered 2 (asked 1 0 0 []))
    ∷ at_node 3 (deleted_slot 6 7) 8 (read 0 0) (answers (deleted_slot 6 7) 2 (asked 1 6 7 []))
    ∷ at_node 3 keyless 8 (read 0 0) (answers keyless 3 (asked 1 0 0 []))
    -- without a number: no such key; the first number, the next, the first of a higher session; after a delete the numbers go on
    ∷ at_node 3 keyless 8 (unnumbered 1) (answers keyless 3 (asked 2 0 0 []))
    ∷ at_node 3 keyless 8 (delete 1 0) (answers keyless 3 (asked 3 0 0 []))
    ∷ at_node 3 entered 8 (unnumbered 1) (takes 1 1)
    ∷ at_node 3 entered 8 (unnumbered 5) (takes 5 1)
    ∷ at_node 3 (stored 1 4) 8 (unnumbered 1) (takes 1 5)
    ∷ at_node 3 (stored 1 4294967294) 8 (unnumbered 1) (takes 1 4294967295)
    ∷ at_node 3 (deleted_slot 1 4) 8 (unnumbered 1) (takes 1 5)
    ∷ at_node 3 (stored 1 4) 8 (delete 1 0) (deletes 1 5)
    ∷ at_node 3 (stored 1 4) 8 (delete 3 0) (deletes 3 1)
    ∷ at_node 3 entered 8 (delete 1 0) (deletes 1 1)
    -- numbered: newer by its sequence, by its session; an empty value; a delete
    ∷ at_node 3 (stored 1 4) 8 (numbered 1 9) (takes 1 9)
    ∷ at_node 3 (stored 1 9) 8 (numbered 3 4) (takes 3 4)
    ∷ at_node 3 entered 8 (numbered 1 1) (takes 1 1)
    ∷ at_node 3 (stored 1 4) 8 (asked 2 1 5 []) (ok (record { slot = slot the_key 2 (version 1 5) []; answer = 0; sent = asked 2 1 5 [] }))
    ∷ at_node 3 (stored 1 4) 8 (delete 1 5) (deletes 1 5)
    ∷ []

all_steps : Unit {0}
unfolding put pick guard next_sequence newer head_of key_of value_of packet_of front_of back_of bytes_of head_ok well_formed slot_of row_of slots table_of row_ok frame_ok table_ok has find reply absent answered given version_for stored_slot taken at_slot node_step node_call holds all_hold
all_steps = tt

pub node_ways : all_hold ways ≡ true
unfolding all_steps
node_ways = refl

-- ---- the numbers: a call, and what it gives

pub record Call : Type 0 where
  pub table : List ℕ
  pub packet : List ℕ
  pub outlet : ℕ
  pub number : ℕ

-- table, packet, size of the outlet
abbrev call : List ℕ → List ℕ → ℕ → ℕ → Call
call t p out n = record { table = t; packet = p; outlet = out; number = n }

-- a packet to node 1 with stamp 8
abbrev to1 : Asked → List ℕ
to1 a = packet_bytes 0 1 0 8 a

abbrev pub calls : List Call
calls =
    -- 1, also with an outlet too small and no packet
    call (table_bytes 3 (stored 1 4)) (to1 (numbered 1 5)) 168 0
    ∷ call (drop 1 (table_bytes 3 (stored 1 4))) (to1 (numbered 1 5)) 168 1
    ∷ call (drop 1 (table_bytes 3 (stored 1 4))) [] 0 1
    -- 2, also with no packet
    ∷ call (table_bytes 3 (stored 1 4)) (to1 (numbered 1 5)) 167 2
    ∷ call (table_bytes 3 (stored 1 4)) [] 167 2
    -- 3
    ∷ call (table_bytes 3 (stored 1 4)) (drop 1 (to1 (numbered 1 5))) 168 3
    -- 4: to another node, to none, from a node, an answer; also below the fence
    ∷ call (table_bytes 3 (stored 1 4)) (packet_bytes 0 2 0 8 (numbered 1 5)) 168 4
    ∷ call (table_bytes 3 (stored 1 4)) (packet_bytes 0 0 0 8 (numbered 1 5)) 168 4
    ∷ call (table_bytes 3 (stored 1 4)) (packet_bytes 7 1 0 8 (numbered 1 5)) 168 4
    ∷ call (table_bytes 3 (stored 1 4)) (packet_bytes 0 1 4 8 (delete 1 5)) 168 4
    ∷ call (table_bytes 3 (stored 1 4)) (packet_bytes 0 2 0 2 (numbered 1 5)) 168 4
    -- 7: a write and a read, one below the fence; also with session 0
    ∷ call (table_bytes 3 (stored 1 4)) (packet_bytes 0 1 0 2 (numbered 1 5)) 168 7
    ∷ call (table_bytes 3 (stored 1 4)) (packet_bytes 0 1 0 3 (numbered 1 5)) 168 0
    ∷ call (table_bytes 3 (stored 1 4)) (packet_bytes 0 1 0 2 (read 0 0)) 168 7
    ∷ call (table_bytes 3 (stored 1 4)) (packet_bytes 0 1 0 2 (unnumbered 0)) 168 7
    -- 8: a write and a delete, the key missing too
    ∷ call (table_bytes 3 (stored 1 4)) (to1 (unnumbered 0)) 168 8
    ∷ call (table_bytes 3 (stored 1 4)) (to1 (delete 0 0)) 168 8
    ∷ call (table_bytes 3 keyless) (to1 (unnumbered 0)) 168 8
    -- 9: a write and a delete
    ∷ call (table_bytes 3 keyless) (to1 (numbered 1 5)) 168 9
    ∷ call (table_bytes 3 keyless) (to1 (delete 1 5)) 168 9
    -- 10: the stored session one higher; also of a delete, and with no number left
    ∷ call (table_bytes 3 (stored 2 3)) (to1 (unnumbered 1)) 168 10
    ∷ call (table_bytes 3 (deleted_slot 2 3)) (to1 (delete 1 0)) 168 10
    ∷ call (table_bytes 3 (stored 2 4294967295)) (to1 (unnumbered 1)) 168 10
    -- 11: of a delete too
    ∷ call (table_bytes 3 (stored 1 4294967295)) (to1 (delete 1 0)) 168 11
    -- 12: older by its sequence, by its session alone, equal; also of a delete
    ∷ call (table_bytes 3 (stored 2 5)) (to1 (numbered 2 4)) 168 12
    ∷ call (table_bytes 3 (stored 2 5)) (to1 (numbered 1 6)) 168 12
    ∷ call (table_bytes 3 (deleted_slot 2 5)) (to1 (delete 2 5)) 168 12
    ∷ []

pub node_numbers : map (λ (c : Call). number_of (node_call c.table c.packet (replicate c.outlet 255))) calls ≡ map (λ (c : Call). c.number) calls
unfolding all_steps
node_numbers = refl
