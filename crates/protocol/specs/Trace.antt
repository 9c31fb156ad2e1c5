-- What each ghost says of the trace: the entry that it stands for.
use Rattle.std.specs.Prelude.{ℕ, ◌≡◌, List, ◌∷◌, ◌⊎◌}
use Rattle.wire.specs.Packet.{Packet, query, op_read, answer_written}
use Rattle.wire.specs.declared.Version.{Version}
use Rattle.store.specs.Held.{Content}
use Rattle.steps.specs.Node.{Unnumbered}
use Rattle.protocol.specs.System.{from_client, at_relay, at_node, Entry, carried}

-- an acknowledgement: a query delivered to the relay, which made answer 4 with that key and version
pub record Acks (x : Entry) (k : List ℕ) (v : Version) (q : Packet) : Type 0 where
  pub delivered : Packet
  pub others : List Packet
  pub event : (x.event ≡ from_client delivered) ⊎ (x.event ≡ at_relay delivered)
  pub asks : delivered.head.answer ≡ query
  pub made : x.made ≡ q ∷ others
  pub answer : q.head.answer ≡ answer_written
  pub key : q.key ≡ k
  pub version : q.head.version ≡ v

-- a read answered: a read delivered to a node, which made a packet with that key and version
pub record Shows (x : Entry) (k : List ℕ) (v : Version) (q : Packet) : Type 0 where
  pub node : ℕ
  pub delivered : Packet
  pub others : List Packet
  pub event : x.event ≡ at_node node delivered
  pub reads : delivered.head.op ≡ op_read
  pub made : x.made ≡ q ∷ others
  pub key : q.key ≡ k
  pub version : q.head.version ≡ v

-- a number given: a write or delete without a number delivered to node j, which made of it a query with that key, version and content
pub record Gives (x : Entry) (k : List ℕ) (v : Version) (c : Content) (j : ℕ) (b : Version) (p : Packet) : Type 0 where
  pub sent : Packet
  pub others : List Packet
  pub event : x.event ≡ at_node j p
  pub unnumbered : Unnumbered p
  pub made : x.made ≡ sent ∷ others
  pub asks : sent.head.answer ≡ query
  pub key : sent.key ≡ k
  pub version : sent.head.version ≡ v
  pub content : carried sent ≡ c
  pub before : x.before ≡ b
