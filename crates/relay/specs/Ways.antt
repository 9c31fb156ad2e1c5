-- What the parts of the relay step promise each other: a packet that was read, its way past the stops, and what is sent there.
use Rattle.std.specs.Prelude.{ℕ, List, [], ◌∷◌, ◌&&◌, not, eqb, take}
use Rattle.wire.specs.Numbers.{Out, ok, judge, test, stopped, pick}
use Rattle.wire.specs.Version.{sequence}
use Rattle.wire.specs.Packet.{Packet, packet, key_of, value_of, query, answer_written}
use Rattle.wire.specs.declared.Head.{Head}
use Rattle.wire.specs.declared.Version.{Version}
use Rattle.steps.specs.declared.Chain.{Chain}
use Rattle.steps.specs.declared.Destination.{Destination}
use Rattle.steps.specs.declared.Destination.TheVariants.{ToNode, ToClient}
use Rattle.steps.specs.Node.{is_read}
use Rattle.steps.specs.Relay.{Way, to_node, to_client, stops_way}

-- the packet of bytes whose head was read
abbrev pub read_as : Head → List ℕ → Packet
read_as h p = packet h (key_of p) (value_of p)

-- a way, unless it is stopped
unfoldable pub unless_stopped : Chain → Packet → Way → Out Way
unless_stopped r p w = judge (test stopped (stops_way r.change (is_read p) w) ∷ []) (ok w)

-- what goes to a node: a client's write or delete with the record's session put in, all else under its own version
unfoldable pub version_to : Chain → Packet → Version
version_to r p = pick (eqb p.head.from 0 && not (is_read p)) (record { session = r.session; sequence = sequence 0 }) p.head.version

abbrev pub for_node : Chain → ℕ → Packet → Packet
for_node r j p = to_node r j (version_to r p) p

-- what goes to a client: a query as answer 4 with length 0, an answer as it is
unfoldable pub for_client : Packet → Packet
for_client p = pick (eqb p.head.answer query) (to_client answer_written [] p) (to_client p.head.answer p.value p)

-- the head for where a packet goes
abbrev pub head_to : Chain → Packet → Destination → Head
head_to r p (ToNode j) = (for_node r j p).head
head_to r p ToClient = (for_client p).head

-- a packet under another head: its key, and as much of its value as the head says
abbrev pub under_head : Head → List ℕ → Packet
under_head g p = packet g (key_of p) (take g.length (value_of p))
