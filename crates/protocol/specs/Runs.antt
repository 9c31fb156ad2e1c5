-- Runs that are computed: how a run goes, document 01's bench example, the incident that fences are for, a first node replaced, a last node replaced, a delete, every event.
use Rattle.std.specs.Prelude.{ℕ, List, [], ◌∷◌, ◌++◌, Bool, true, false, ◌&&◌, ◌||◌, not, length, replicate, eqb}
use Rattle.wire.specs.Numbers.{eqs}
use Rattle.wire.specs.Version.{version, stamp, zero_version}
use Rattle.wire.specs.Packet.{Packet, packet, packet_ok, key_size, query, op_read, op_write, op_delete, answer_value, answer_no_value, answer_no_key, answer_written}
use Rattle.wire.specs.declared.Version.{Version}
use Rattle.store.specs.Table.{blank_table}
use Rattle.steps.specs.Chain.{start_chain}
use Rattle.protocol.specs.System.{State, Event, from_client, no_packet, at_relay, at_node, opens, fences, copies, activates, cancels, removes, enters, halts, Entry, exec}

-- ---- how a run goes

-- a starting record, every table blank, nothing sent
abbrev pub start_state : ℕ → List ℕ → ℕ → State
start_state n places count = record {
  chain = start_chain n places count;
  table = λ j. blank_table j count;
  halted = λ j. false;
  packets = [];
  trace = [];
  origin = [];
}

unfoldable pub run : List Event → State → State
run [] s = s
run (e ∷ l) s = run l (exec e s)

-- the number that an event gave, and the packets that it made
pub record Outcome : Type 0 where
  pub number : ℕ
  pub made : List Packet

abbrev pub outcome : ℕ → List Packet → Outcome
outcome n q = record { number = n; made = q }

-- of a trace, oldest first
unfoldable pub outcomes : List Entry → List Outcome → List Outcome
outcomes [] l = l
outcomes (x ∷ t) l = outcomes t (outcome x.number x.made ∷ l)

-- ---- which runs there are, as a test

unfoldable pub same_packet : Packet → Packet → Bool
same_packet p q =
    (eqb p.head.op q.head.op && (eqb p.head.answer q.head.answer
    && (eqb p.head.from q.head.from && (eqb p.head.to q.head.to
    && (eqb p.head.client q.head.client && (eqb p.head.request q.head.request
    && (eqb p.head.stamp.0 q.head.stamp.0 && (eqb p.head.version.session.0 q.head.version.session.0
    && (eqb p.head.version.sequence.0 q.head.version.sequence.0 && (eqb p.head.length q.head.length
    && (eqs p.key q.key && eqs p.value q.value)))))))))))

unfoldable pub was_made : Packet → List Packet → Bool
was_made p [] = false
was_made p (q ∷ l) = same_packet p q || was_made p l

unfoldable pub enabled : Event → State → Bool
enabled (from_client p) s = eqb p.head.from 0 && packet_ok p
enabled no_packet s = true
enabled (at_relay p) s = was_made p s.packets
enabled (at_node j p) s = was_made p s.packets && not (s.halted j)
enabled (opens after named fresh) s = true
enabled (fences j) s = true
enabled (copies i a b) s = true
enabled activates s = true
enabled cancels s = true
enabled (removes j) s = s.halted j
enabled (enters j id key) s = eqb (length key) key_size
enabled (halts j) s = true

unfoldable pub allowed : List Event → State → Bool
allowed [] s = true
allowed (e ∷ l) s = enabled e s && allowed l (exec e s)

-- ---- packets of the examples: one client, one key, and another that is entered nowhere

-- the keys `k` and `m`, padded with zeros
abbrev pub the_key : List ℕ
the_key = 107 ∷ replicate 15 0

abbrev pub other_key : List ℕ
other_key = 109 ∷ replicate 15 0

-- key, op, answer, from, to, request, stamp, version, value
abbrev pub parcel_of : List ℕ → ℕ → ℕ → ℕ → ℕ → ℕ → ℕ → Version → List ℕ → Packet
parcel_of key op answer from to request st v x = packet
    (record {
      op = op;
      answer = answer;
      from = from;
      to = to;
      client = 1;
      request = request;
      stamp = stamp st;
      version = v;
      length = length x;
    })
    key
    x

abbrev pub parcel : ℕ → ℕ → ℕ → ℕ → ℕ → ℕ → Version → List ℕ → Packet
parcel op answer from to request st v x = packet
    (record {
      op = op;
      answer = answer;
      from = from;
      to = to;
      client = 1;
      request = request;
      stamp = stamp st;
      version = v;
      length = length x;
    })
    the_key
    x

-- the letters A and B
abbrev pub value_a : List ℕ
value_a = 65 ∷ []

abbrev pub value_b : List ℕ
value_b = 66 ∷ []

-- the write of A, request 1, and of B, request 2, from a node to a node: stamp and version
abbrev pub write_a : ℕ → ℕ → ℕ → Version → Packet
write_a from to st v = parcel op_write query from to 1 st v value_a

abbrev pub write_b : ℕ → ℕ → ℕ → Version → Packet
write_b from to st v = parcel op_write query from to 2 st v value_b

-- answer 4 to a request; a read, of any request and of request 3, from a node to a node
abbrev pub written_answer : ℕ → Version → Packet
written_answer request v = parcel op_write answer_written 0 0 request 0 v []

abbrev pub read_k : ℕ → ℕ → ℕ → ℕ → Packet
read_k request from to st = parcel op_read query from to request st zero_version []

abbrev pub the_read : ℕ → ℕ → ℕ → Packet
the_read from to st = parcel op_read query from to 3 st zero_version []

-- ---- document 01's bench example: nodes 1, 2, 3, one write

abbrev pub bench_start : State
bench_start = start_state 3 (1 ∷ 2 ∷ 3 ∷ 0 ∷ 0 ∷ 0 ∷ 0 ∷ 0 ∷ []) 8

abbrev pub bench_enters : List Event
bench_enters = enters 1 1 the_key ∷ enters 2 2 the_key ∷ enters 3 3 the_key ∷ []

-- the write to the relay, to 1, to the relay; node 2 halts and is removed; the write to the relay again, to 3, to the relay, to 3 again
abbrev pub bench_events : List Event
bench_events =
    bench_enters
    ++ (from_client (write_a 0 0 0 zero_version)
    ∷ at_node 1 (write_a 0 1 1 (version 1 0))
    ∷ at_relay (write_a 1 0 1 (version 1 1))
    ∷ halts 2
    ∷ removes 2
    ∷ at_relay (write_a 1 0 1 (version 1 1))
    ∷ at_node 3 (write_a 0 3 1 (version 1 1))
    ∷ at_relay (write_a 3 0 1 (version 1 1))
    ∷ at_node 3 (write_a 0 3 1 (version 1 1))
    ∷ [])

-- as document 01's output has it, but for line 4, which makes the client's packet, and line 9, which is no step
abbrev pub bench_outcomes : List Outcome
bench_outcomes =
    outcome 0 []
    ∷ outcome 0 []
    ∷ outcome 0 []
    ∷ outcome 0 (write_a 0 1 1 (version 1 0) ∷ [])
    ∷ outcome 0 (write_a 1 0 1 (version 1 1) ∷ [])
    ∷ outcome 0 (write_a 0 2 1 (version 1 1) ∷ [])
    ∷ outcome 0 []
    ∷ outcome 0 []
    ∷ outcome 0 (write_a 0 3 1 (version 1 1) ∷ [])
    ∷ outcome 0 (write_a 3 0 1 (version 1 1) ∷ [])
    ∷ outcome 0 (written_answer 1 (version 1 1) ∷ [])
    ∷ outcome 12 []
    ∷ []

-- ---- the incident: a node is replaced while a packet to its neighbour is on the wire

abbrev pub incident_start : State
incident_start = start_state 3 (1 ∷ 2 ∷ 3 ∷ 0 ∷ 0 ∷ 0 ∷ 0 ∷ 0 ∷ []) 1

abbrev pub incident_events : List Event
incident_events =
    bench_enters
    -- A is written at 1, 2, 3 and acknowledged
    ++ (from_client (write_a 0 0 0 zero_version)
    ∷ at_node 1 (write_a 0 1 1 (version 1 0))
    ∷ at_relay (write_a 1 0 1 (version 1 1))
    ∷ at_node 2 (write_a 0 2 1 (version 1 1))
    ∷ at_relay (write_a 2 0 1 (version 1 1))
    ∷ at_node 3 (write_a 0 3 1 (version 1 1))
    ∷ at_relay (write_a 3 0 1 (version 1 1))
    -- B is written at 1 and 2, and its packet to 3 is on the wire
    ∷ from_client (write_b 0 0 0 zero_version)
    ∷ at_node 1 (write_b 0 1 1 (version 1 0))
    ∷ at_relay (write_b 1 0 1 (version 1 2))
    ∷ at_node 2 (write_b 0 2 1 (version 1 2))
    ∷ at_relay (write_b 2 0 1 (version 1 2))
    -- node 2 halts and is removed, and node 4 joins before 3
    ∷ halts 2
    ∷ removes 2
    ∷ opens false 3 4
    ∷ fences 3
    ∷ copies 0 3 4
    ∷ activates
    -- the late packet, and then a read
    ∷ at_node 3 (write_b 0 3 1 (version 1 2))
    ∷ from_client (the_read 0 0 0)
    ∷ at_node 3 (the_read 0 3 2)
    ∷ [])

-- the late packet is refused, and the read shows what was acknowledged
abbrev pub incident_outcomes : List Outcome
incident_outcomes =
    outcome 0 []
    ∷ outcome 0 []
    ∷ outcome 0 []
    ∷ outcome 0 (write_a 0 1 1 (version 1 0) ∷ [])
    ∷ outcome 0 (write_a 1 0 1 (version 1 1) ∷ [])
    ∷ outcome 0 (write_a 0 2 1 (version 1 1) ∷ [])
    ∷ outcome 0 (write_a 2 0 1 (version 1 1) ∷ [])
    ∷ outcome 0 (write_a 0 3 1 (version 1 1) ∷ [])
    ∷ outcome 0 (write_a 3 0 1 (version 1 1) ∷ [])
    ∷ outcome 0 (written_answer 1 (version 1 1) ∷ [])
    ∷ outcome 0 (write_b 0 1 1 (version 1 0) ∷ [])
    ∷ outcome 0 (write_b 1 0 1 (version 1 2) ∷ [])
    ∷ outcome 0 (write_b 0 2 1 (version 1 2) ∷ [])
    ∷ outcome 0 (write_b 2 0 1 (version 1 2) ∷ [])
    ∷ outcome 0 (write_b 0 3 1 (version 1 2) ∷ [])
    ∷ outcome 0 []
    ∷ outcome 0 []
    ∷ outcome 0 []
    ∷ outcome 0 []
    ∷ outcome 0 []
    ∷ outcome 0 []
    ∷ outcome 7 []
    ∷ outcome 0 (the_read 0 3 2 ∷ [])
    ∷ outcome 0 (parcel op_read answer_value 3 0 3 2 (version 1 1) value_a ∷ [])
    ∷ []

-- ---- a first node and a last node replaced: A is written at 1 and 2 and acknowledged, the node fails, a new one takes its place, B is written

abbrev pub two_start : State
two_start = start_state 2 (1 ∷ 2 ∷ 0 ∷ 0 ∷ 0 ∷ 0 ∷ 0 ∷ 0 ∷ []) 1

abbrev pub two_events : List Event
two_events =
    enters 1 1 the_key
    ∷ enters 2 2 the_key
    ∷ from_client (write_a 0 0 0 zero_version)
    ∷ at_node 1 (write_a 0 1 1 (version 1 0))
    ∷ at_relay (write_a 1 0 1 (version 1 1))
    ∷ at_node 2 (write_a 0 2 1 (version 1 1))
    ∷ at_relay (write_a 2 0 1 (version 1 1))
    ∷ []

abbrev pub two_outcomes : List Outcome
two_outcomes =
    outcome 0 []
    ∷ outcome 0 []
    ∷ outcome 0 (write_a 0 1 1 (version 1 0) ∷ [])
    ∷ outcome 0 (write_a 1 0 1 (version 1 1) ∷ [])
    ∷ outcome 0 (write_a 0 2 1 (version 1 1) ∷ [])
    ∷ outcome 0 (write_a 2 0 1 (version 1 1) ∷ [])
    ∷ outcome 0 (written_answer 1 (version 1 1) ∷ [])
    ∷ []

-- node 3 joins before 2, the only one left: it numbers in a new session
abbrev pub head_events : List Event
head_events =
    two_events
    ++ (halts 1
    ∷ removes 1
    ∷ opens false 2 3
    ∷ fences 2
    ∷ copies 0 2 3
    ∷ activates
    ∷ from_client (write_b 0 0 0 zero_version)
    ∷ at_node 3 (write_b 0 3 2 (version 3 0))
    ∷ at_relay (write_b 3 0 2 (version 3 1))
    ∷ at_node 2 (write_b 0 2 2 (version 3 1))
    ∷ at_relay (write_b 2 0 2 (version 3 1))
    ∷ [])

abbrev pub head_outcomes : List Outcome
head_outcomes =
    two_outcomes
    ++ (outcome 0 []
    ∷ outcome 0 []
    ∷ outcome 0 []
    ∷ outcome 0 []
    ∷ outcome 0 []
    ∷ outcome 0 []
    ∷ outcome 0 (write_b 0 3 2 (version 3 0) ∷ [])
    ∷ outcome 0 (write_b 3 0 2 (version 3 1) ∷ [])
    ∷ outcome 0 (write_b 0 2 2 (version 3 1) ∷ [])
    ∷ outcome 0 (write_b 2 0 2 (version 3 1) ∷ [])
    ∷ outcome 0 (written_answer 2 (version 3 1) ∷ [])
    ∷ [])

-- node 3 joins after 1, the only one left: a read is stopped until it has joined, and shows A; B goes on in the session
abbrev pub tail_events : List Event
tail_events =
    two_events
    ++ (halts 2
    ∷ removes 2
    ∷ opens true 1 3
    ∷ from_client (the_read 0 0 0)
    ∷ fences 1
    ∷ copies 0 1 3
    ∷ activates
    ∷ from_client (the_read 0 0 0)
    ∷ at_node 3 (the_read 0 3 2)
    ∷ from_client (write_b 0 0 0 zero_version)
    ∷ at_node 1 (write_b 0 1 2 (version 1 0))
    ∷ at_relay (write_b 1 0 2 (version 1 2))
    ∷ at_node 3 (write_b 0 3 2 (version 1 2))
    ∷ at_relay (write_b 3 0 2 (version 1 2))
    ∷ [])

abbrev pub tail_outcomes : List Outcome
tail_outcomes =
    two_outcomes
    ++ (outcome 0 []
    ∷ outcome 0 []
    ∷ outcome 0 []
    ∷ outcome 6 []
    ∷ outcome 0 []
    ∷ outcome 0 []
    ∷ outcome 0 []
    ∷ outcome 0 (the_read 0 3 2 ∷ [])
    ∷ outcome 0 (parcel op_read answer_value 3 0 3 2 (version 1 1) value_a ∷ [])
    ∷ outcome 0 (write_b 0 1 2 (version 1 0) ∷ [])
    ∷ outcome 0 (write_b 1 0 2 (version 1 2) ∷ [])
    ∷ outcome 0 (write_b 0 3 2 (version 1 2) ∷ [])
    ∷ outcome 0 (write_b 3 0 2 (version 1 2) ∷ [])
    ∷ outcome 0 (written_answer 2 (version 1 2) ∷ [])
    ∷ [])

-- ---- a delete, and what has no value: a key that was never written, one that is not there, one that was deleted

-- a delete of a request, from a node to a node: stamp and version
abbrev pub delete_k : ℕ → ℕ → ℕ → ℕ → Version → Packet
delete_k request from to st v = parcel op_delete query from to request st v []

-- a read's answers, from a node: a value, and none
abbrev pub value_shown : ℕ → ℕ → ℕ → Version → List ℕ → Packet
value_shown request from st v x = parcel op_read answer_value from 0 request st v x

abbrev pub none_shown : ℕ → ℕ → ℕ → Version → Packet
none_shown request from st v = parcel op_read answer_no_value from 0 request st v []

-- the other key: a query by its op, and a node's answer 3 to it
abbrev pub ask_m : ℕ → ℕ → ℕ → ℕ → ℕ → Version → List ℕ → Packet
ask_m op request from to st v x = parcel_of other_key op query from to request st v x

abbrev pub no_key_m : ℕ → ℕ → ℕ → ℕ → Packet
no_key_m op request from st = parcel_of other_key op answer_no_key from 0 request st zero_version []

-- requests 1 and 2 write A and B; 3, 7, 9, 10 read; 8 deletes; 4, 5, 6 read, write and delete the other key
abbrev pub delete_events : List Event
delete_events =
    enters 1 1 the_key
    ∷ enters 2 2 the_key
    -- the key was never written
    ∷ from_client (the_read 0 0 0)
    ∷ at_node 2 (the_read 0 2 1)
    ∷ at_relay (none_shown 3 2 1 zero_version)
    -- the other is not there
    ∷ from_client (ask_m op_read 4 0 0 0 zero_version [])
    ∷ at_node 2 (ask_m op_read 4 0 2 1 zero_version [])
    ∷ at_relay (no_key_m op_read 4 2 1)
    ∷ from_client (ask_m op_write 5 0 0 0 zero_version value_a)
    ∷ at_node 1 (ask_m op_write 5 0 1 1 (version 1 0) value_a)
    ∷ at_relay (no_key_m op_write 5 1 1)
    ∷ from_client (ask_m op_delete 6 0 0 0 zero_version [])
    ∷ at_node 1 (ask_m op_delete 6 0 1 1 (version 1 0) [])
    ∷ at_relay (no_key_m op_delete 6 1 1)
    -- A is written and read
    ∷ from_client (write_a 0 0 0 zero_version)
    ∷ at_node 1 (write_a 0 1 1 (version 1 0))
    ∷ at_relay (write_a 1 0 1 (version 1 1))
    ∷ at_node 2 (write_a 0 2 1 (version 1 1))
    ∷ at_relay (write_a 2 0 1 (version 1 1))
    ∷ from_client (read_k 7 0 0 0)
    ∷ at_node 2 (read_k 7 0 2 1)
    ∷ at_relay (value_shown 7 2 1 (version 1 1) value_a)
    -- it is deleted
    ∷ from_client (delete_k 8 0 0 0 zero_version)
    ∷ at_node 1 (delete_k 8 0 1 1 (version 1 0))
    ∷ at_relay (delete_k 8 1 0 1 (version 1 2))
    ∷ at_node 2 (delete_k 8 0 2 1 (version 1 2))
    ∷ at_relay (delete_k 8 2 0 1 (version 1 2))
    ∷ from_client (read_k 9 0 0 0)
    ∷ at_node 2 (read_k 9 0 2 1)
    ∷ at_relay (none_shown 9 2 1 (version 1 2))
    -- B is written and read
    ∷ from_client (write_b 0 0 0 zero_version)
    ∷ at_node 1 (write_b 0 1 1 (version 1 0))
    ∷ at_relay (write_b 1 0 1 (version 1 3))
    ∷ at_node 2 (write_b 0 2 1 (version 1 3))
    ∷ at_relay (write_b 2 0 1 (version 1 3))
    ∷ from_client (read_k 10 0 0 0)
    ∷ at_node 2 (read_k 10 0 2 1)
    ∷ at_relay (value_shown 10 2 1 (version 1 3) value_b)
    ∷ []

-- each packet made is the one that is delivered next, or the client's answer
abbrev pub delete_outcomes : List Outcome
delete_outcomes =
    outcome 0 []
    ∷ outcome 0 []
    ∷ outcome 0 (the_read 0 2 1 ∷ [])
    ∷ outcome 0 (none_shown 3 2 1 zero_version ∷ [])
    ∷ outcome 0 (none_shown 3 0 0 zero_version ∷ [])
    ∷ outcome 0 (ask_m op_read 4 0 2 1 zero_version [] ∷ [])
    ∷ outcome 0 (no_key_m op_read 4 2 1 ∷ [])
    ∷ outcome 0 (no_key_m op_read 4 0 0 ∷ [])
    ∷ outcome 0 (ask_m op_write 5 0 1 1 (version 1 0) value_a ∷ [])
    ∷ outcome 0 (no_key_m op_write 5 1 1 ∷ [])
    ∷ outcome 0 (no_key_m op_write 5 0 0 ∷ [])
    ∷ outcome 0 (ask_m op_delete 6 0 1 1 (version 1 0) [] ∷ [])
    ∷ outcome 0 (no_key_m op_delete 6 1 1 ∷ [])
    ∷ outcome 0 (no_key_m op_delete 6 0 0 ∷ [])
    ∷ outcome 0 (write_a 0 1 1 (version 1 0) ∷ [])
    ∷ outcome 0 (write_a 1 0 1 (version 1 1) ∷ [])
    ∷ outcome 0 (write_a 0 2 1 (version 1 1) ∷ [])
    ∷ outcome 0 (write_a 2 0 1 (version 1 1) ∷ [])
    ∷ outcome 0 (written_answer 1 (version 1 1) ∷ [])
    ∷ outcome 0 (read_k 7 0 2 1 ∷ [])
    ∷ outcome 0 (value_shown 7 2 1 (version 1 1) value_a ∷ [])
    ∷ outcome 0 (value_shown 7 0 0 (version 1 1) value_a ∷ [])
    ∷ outcome 0 (delete_k 8 0 1 1 (version 1 0) ∷ [])
    ∷ outcome 0 (delete_k 8 1 0 1 (version 1 2) ∷ [])
    ∷ outcome 0 (delete_k 8 0 2 1 (version 1 2) ∷ [])
    ∷ outcome 0 (delete_k 8 2 0 1 (version 1 2) ∷ [])
    ∷ outcome 0 (parcel op_delete answer_written 0 0 8 0 (version 1 2) [] ∷ [])
    ∷ outcome 0 (read_k 9 0 2 1 ∷ [])
    ∷ outcome 0 (none_shown 9 2 1 (version 1 2) ∷ [])
    ∷ outcome 0 (none_shown 9 0 0 (version 1 2) ∷ [])
    ∷ outcome 0 (write_b 0 1 1 (version 1 0) ∷ [])
    ∷ outcome 0 (write_b 1 0 1 (version 1 3) ∷ [])
    ∷ outcome 0 (write_b 0 2 1 (version 1 3) ∷ [])
    ∷ outcome 0 (write_b 2 0 1 (version 1 3) ∷ [])
    ∷ outcome 0 (written_answer 2 (version 1 3) ∷ [])
    ∷ outcome 0 (read_k 10 0 2 1 ∷ [])
    ∷ outcome 0 (value_shown 10 2 1 (version 1 3) value_b ∷ [])
    ∷ outcome 0 (value_shown 10 0 0 (version 1 3) value_b ∷ [])
    ∷ []

-- ---- every event: those that the other runs have not, each done and refused

abbrev pub every_events : List Event
every_events =
    no_packet
    ∷ enters 1 1 the_key
    ∷ enters 2 2 the_key
    ∷ enters 1 2 the_key
    -- node 3 is to join before 2, and the change is given up: its id is spent
    ∷ opens false 2 3
    ∷ fences 3
    ∷ fences 2
    ∷ copies 0 3 2
    ∷ copies 0 2 3
    ∷ cancels
    ∷ cancels
    ∷ activates
    ∷ opens false 2 3
    -- A is written; its packets go astray, come twice and come back
    ∷ from_client (write_a 0 0 0 zero_version)
    ∷ at_node 2 (write_a 0 1 2 (version 1 0))
    ∷ at_node 3 (write_a 0 1 2 (version 1 0))
    ∷ at_relay (write_a 0 1 2 (version 1 0))
    ∷ at_node 1 (write_a 0 1 2 (version 1 0))
    ∷ at_node 1 (write_a 0 1 2 (version 1 0))
    ∷ at_relay (write_a 1 0 2 (version 1 2))
    ∷ at_relay (write_a 1 0 2 (version 1 1))
    ∷ at_node 2 (write_a 0 2 2 (version 1 2))
    ∷ at_node 2 (write_a 0 2 2 (version 1 1))
    ∷ at_relay (write_a 2 0 2 (version 1 2))
    ∷ at_relay (written_answer 1 (version 1 2))
    -- node 1 halts, twice, and is removed, once; then 2 is the only node
    ∷ halts 1
    ∷ halts 1
    ∷ removes 1
    ∷ removes 1
    ∷ at_relay (write_a 1 0 2 (version 1 1))
    ∷ halts 2
    ∷ removes 2
    ∷ []

abbrev pub every_outcomes : List Outcome
every_outcomes =
    outcome 3 []
    ∷ outcome 0 []
    ∷ outcome 0 []
    ∷ outcome 15 []
    ∷ outcome 0 []
    ∷ outcome 15 []
    ∷ outcome 0 []
    ∷ outcome 15 []
    ∷ outcome 0 []
    ∷ outcome 0 []
    ∷ outcome 14 []
    ∷ outcome 14 []
    ∷ outcome 16 []
    ∷ outcome 0 (write_a 0 1 2 (version 1 0) ∷ [])
    ∷ outcome 4 []
    ∷ outcome 4 []
    ∷ outcome 4 []
    ∷ outcome 0 (write_a 1 0 2 (version 1 1) ∷ [])
    ∷ outcome 0 (write_a 1 0 2 (version 1 2) ∷ [])
    ∷ outcome 0 (write_a 0 2 2 (version 1 2) ∷ [])
    ∷ outcome 0 (write_a 0 2 2 (version 1 1) ∷ [])
    ∷ outcome 0 (write_a 2 0 2 (version 1 2) ∷ [])
    ∷ outcome 12 []
    ∷ outcome 0 (written_answer 1 (version 1 2) ∷ [])
    ∷ outcome 4 []
    ∷ outcome 0 []
    ∷ outcome 0 []
    ∷ outcome 0 []
    ∷ outcome 15 []
    ∷ outcome 5 []
    ∷ outcome 0 []
    ∷ outcome 18 []
    ∷ []
