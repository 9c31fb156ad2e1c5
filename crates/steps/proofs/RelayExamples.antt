-- Examples of the relay step: every way of a packet, every stop, and every number that it gives, each with what is nearest to it.
use Prim.Native.Nat.{ℕ}
use mathlib.Core.Path.{◌≡◌, refl}
use mathlib.Core.List.{List, [], ◌∷◌, map}
use mathlib.Core.Bool.{true, false}
use lib.ListN.{drop, replicate}
use Rattle.be.specs.Be.{put}
use Rattle.wire.specs.Numbers.{ok, refuse, left, pick, guard}
use Rattle.wire.specs.Version.{version}
use Rattle.wire.specs.Packet.{head_of, key_of, value_of, packet_of, front_of, back_of, bytes_of, head_ok, well_formed, sent_in}
use Rattle.steps.specs.declared.Change.{Change}
use Rattle.steps.specs.declared.Change.TheVariants.{Still, Before, After}
use Rattle.steps.specs.declared.Chain.{Chain}
use Rattle.steps.specs.declared.Destination.TheVariants.{ToNode, ToClient}
use Rattle.steps.specs.Chain.{joining, memb, first_of, last_of, next_of, apart, none_above, joining_ok, chain_ok}
use Rattle.steps.specs.Relay.{Outcome, to_node, to_client, from_client, onward, from_node, way_of, relay_step, relay_call, packet_sent, outcome_of}
use Rattle.steps.specs.Marked.{packet_bytes, Asked}
use Rattle.steps.proofs.ChainExamples.{chain_of}

-- ---- what is asked and what comes of it

-- the chain 7 5 9 with wiring 6 and session 3, and the node 7 alone
abbrev three : Change → Chain
three change = chain_of 3 (7 ∷ 5 ∷ 9 ∷ 0 ∷ 0 ∷ 0 ∷ 0 ∷ 0 ∷ []) 6 3 10 2 change

abbrev one : Change → Chain
one change = chain_of 1 (7 ∷ 0 ∷ 0 ∷ 0 ∷ 0 ∷ 0 ∷ 0 ∷ 0 ∷ []) 6 3 10 2 change

-- node 10 joins at a named one
abbrev before : ℕ → Change
before named = Before (joining named 10 false 0)

abbrev after : ℕ → Change
after named = After (joining named 10 true 2)

-- op, S.Q, value
abbrev asked : ℕ → ℕ → ℕ → List ℕ → Asked
asked op s q value = record { op = op; version = version s q; value = value }

abbrev read_query : Asked
read_query = asked 1 0 0 []

abbrev write : ℕ → ℕ → Asked
write s q = asked 2 s q (65 ∷ 66 ∷ [])

abbrev delete : ℕ → ℕ → Asked
delete s q = asked 3 s q []

-- a packet from a client, and from a node with stamp 4, which is not the wiring number: its answer
abbrev of_client : Asked → List ℕ
of_client a = packet_bytes 0 0 0 0 a

abbrev of_node : ℕ → ℕ → Asked → List ℕ
of_node j answer a = packet_bytes j 0 answer 4 a

abbrev outlet : ℕ → List ℕ
outlet n = replicate n 255

pub record Call : Type 0 where
  pub chain : Chain
  pub packet : List ℕ
  pub size : ℕ
  pub outcome : Outcome
  pub outlet : List ℕ

-- sent to a node, to the client, or dropped: record, packet, and what is sent
abbrev to_node_sent : Chain → List ℕ → ℕ → Asked → Call
to_node_sent r p j a = record { chain = r; packet = p; size = 168; outcome = ok (ToNode j); outlet = put (outlet 168) 0 (packet_bytes 0 j 0 6 a) }

abbrev to_client_sent : Chain → List ℕ → ℕ → Asked → Call
to_client_sent r p answer a = record { chain = r; packet = p; size = 168; outcome = ok ToClient; outlet = put (outlet 168) 0 (packet_bytes 0 0 answer 0 a) }

abbrev dropped_at : Chain → List ℕ → ℕ → ℕ → Call
dropped_at r p size n = record { chain = r; packet = p; size = size; outcome = refuse n; outlet = outlet size }

abbrev dropped : Chain → List ℕ → ℕ → Call
dropped r p n = dropped_at r p 168 n

-- ---- the ways

abbrev pub ways : List Call
ways =
    -- from a client: a read to the last, a write or delete with the record's session to the first
    to_node_sent (three Still) (of_client read_query) 9 read_query
    ∷ to_node_sent (three Still) (of_client (write 0 0)) 7 (write 3 0)
    ∷ to_node_sent (three Still) (of_client (delete 0 0)) 7 (delete 3 0)
    ∷ to_node_sent (one Still) (of_client read_query) 7 read_query
    ∷ to_node_sent (one Still) (of_client (write 0 0)) 7 (write 3 0)
    -- from a node: a numbered write or delete to the next, of an older session too
    ∷ to_node_sent (three Still) (of_node 7 0 (write 2 8)) 5 (write 2 8)
    ∷ to_node_sent (three Still) (of_node 5 0 (delete 3 8)) 9 (delete 3 8)
    -- from the last: answer 4 with length 0
    ∷ to_client_sent (three Still) (of_node 9 0 (write 3 8)) 4 (asked 2 3 8 [])
    ∷ to_client_sent (three Still) (of_node 9 0 (delete 3 8)) 4 (delete 3 8)
    ∷ to_client_sent (one Still) (of_node 7 0 (write 3 8)) 4 (asked 2 3 8 [])
    -- an answer, of any node, as it is
    ∷ to_client_sent (three Still) (of_node 9 1 (asked 1 3 8 (65 ∷ 66 ∷ []))) 1 (asked 1 3 8 (65 ∷ 66 ∷ []))
    ∷ to_client_sent (three Still) (of_node 5 2 (asked 1 3 8 [])) 2 (asked 1 3 8 [])
    ∷ to_client_sent (three Still) (of_node 7 3 (delete 0 0)) 3 (delete 0 0)
    ∷ to_client_sent (three Still) (of_node 7 4 (delete 3 8)) 4 (delete 3 8)
    ∷ []

-- ---- the stops: before and after a node, what is addressed to it and what is not

abbrev pub stopping : List Call
stopping =
    -- before 7, the first: new writes; reads, and writes between others, go on
    dropped (three (before 7)) (of_client (write 0 0)) 6
    ∷ dropped (three (before 7)) (of_client (delete 0 0)) 6
    ∷ to_node_sent (three (before 7)) (of_client read_query) 9 read_query
    ∷ to_node_sent (three (before 7)) (of_node 7 0 (write 3 8)) 5 (write 3 8)
    -- before 5: what 7 sends
    ∷ to_node_sent (three (before 5)) (of_client (write 0 0)) 7 (write 3 0)
    ∷ dropped (three (before 5)) (of_node 7 0 (write 3 8)) 6
    ∷ to_node_sent (three (before 5)) (of_node 5 0 (write 3 8)) 9 (write 3 8)
    -- before 9, the last: reads go on
    ∷ dropped (three (before 9)) (of_node 5 0 (delete 3 8)) 6
    ∷ to_node_sent (three (before 9)) (of_client read_query) 9 read_query
    ∷ to_client_sent (three (before 9)) (of_node 9 0 (delete 3 8)) 4 (delete 3 8)
    -- after 9, the last: reads too; what 9 sends becomes an answer, and its answers go on
    ∷ dropped (three (after 9)) (of_client read_query) 6
    ∷ dropped (three (after 9)) (of_node 5 0 (write 3 8)) 6
    ∷ to_node_sent (three (after 9)) (of_client (write 0 0)) 7 (write 3 0)
    ∷ to_node_sent (three (after 9)) (of_node 7 0 (write 3 8)) 5 (write 3 8)
    ∷ to_client_sent (three (after 9)) (of_node 9 0 (write 3 8)) 4 (asked 2 3 8 [])
    ∷ to_client_sent (three (after 9)) (of_node 9 1 (asked 1 3 8 [])) 1 (asked 1 3 8 [])
    -- at the only node
    ∷ to_node_sent (one (before 7)) (of_client read_query) 7 read_query
    ∷ dropped (one (before 7)) (of_client (write 0 0)) 6
    ∷ dropped (one (after 7)) (of_client read_query) 6
    ∷ dropped (one (after 7)) (of_client (write 0 0)) 6
    ∷ []

-- ---- the numbers

abbrev pub drops : List Call
drops =
    -- 1: session 0, also with an outlet too small and no packet
    dropped (chain_of 1 (7 ∷ 0 ∷ 0 ∷ 0 ∷ 0 ∷ 0 ∷ 0 ∷ 0 ∷ []) 6 0 10 2 Still) (of_client read_query) 1
    ∷ dropped_at (chain_of 1 (7 ∷ 0 ∷ 0 ∷ 0 ∷ 0 ∷ 0 ∷ 0 ∷ 0 ∷ []) 6 0 10 2 Still) [] 0 1
    -- 2, also with no packet; 3
    ∷ dropped_at (three Still) (of_client read_query) 167 2
    ∷ dropped_at (three Still) [] 167 2
    ∷ dropped (three Still) (drop 1 (of_client read_query)) 3
    -- 4, from a client: "to", a stamp, an answer, a session, a session and a number; also where it would be stopped
    ∷ dropped (three Still) (packet_bytes 0 9 0 0 read_query) 4
    ∷ dropped (three Still) (packet_bytes 0 0 0 6 read_query) 4
    ∷ dropped (three Still) (packet_bytes 0 0 3 0 read_query) 4
    ∷ dropped (three Still) (of_client (write 3 0)) 4
    ∷ dropped (three Still) (of_client (write 3 8)) 4
    ∷ dropped (three (before 7)) (packet_bytes 0 0 0 6 (write 0 0)) 4
    -- 4, from a node: "to", a read query, an unnumbered query; also from outside the chain, and where it would be stopped
    ∷ dropped (three Still) (packet_bytes 7 5 0 4 (write 3 8)) 4
    ∷ dropped (three Still) (packet_bytes 7 5 2 4 read_query) 4
    ∷ dropped (three Still) (of_node 7 0 read_query) 4
    ∷ dropped (three Still) (of_node 7 0 (write 3 0)) 4
    ∷ dropped (three Still) (of_node 7 0 (delete 3 0)) 4
    ∷ dropped (three Still) (of_node 8 0 (write 3 0)) 4
    ∷ dropped (three (before 5)) (of_node 7 0 (write 3 0)) 4
    -- 5: a query and an answer from outside the chain, from the node that joins too
    ∷ dropped (three Still) (of_node 8 0 (write 3 8)) 5
    ∷ dropped (three Still) (of_node 8 3 read_query) 5
    ∷ dropped (three (after 9)) (of_node 10 0 (write 3 8)) 5
    ∷ []

abbrev Seen : Type 0
Seen = Outcome × List ℕ

-- outcome and outlet of a call, and of its example
abbrev given : Call → Seen
given c =
    let o = relay_call c.chain c.packet (outlet c.size) in
    (outcome_of o, left (outlet c.size) (λ w. sent_in (outlet c.size) (packet_sent w)) o)

abbrev wanted : Call → Seen
wanted c = (c.outcome, c.outlet)

all_steps : Unit {0}
unfolding put pick guard head_of key_of value_of packet_of front_of back_of bytes_of head_ok well_formed memb first_of last_of next_of apart none_above joining_ok chain_ok to_node to_client from_client onward from_node way_of relay_step relay_call
all_steps = tt

pub relay_ways : map given ways ≡ map wanted ways
unfolding all_steps
relay_ways = refl

pub relay_stops : map given stopping ≡ map wanted stopping
unfolding all_steps
relay_stops = refl

pub relay_drops : map given drops ≡ map wanted drops
unfolding all_steps
relay_drops = refl
