-- A query of a node: the table that it asks, the packet that was read, and how the two settle what is sent.
use Rattle.std.specs.Prelude.{ℕ, ◌≡◌, Option, Result, get_or}
use Rattle.wire.specs.Numbers.{ok}
use Rattle.wire.specs.Packet.{Packet}
use Rattle.wire.specs.declared.Version.{Version}
use Rattle.wire.specs.declared.Refusal.{Refusal}
use Rattle.store.specs.Table.{Table, table_of, free_slot}
use Rattle.steps.specs.Node.{node_step}
use Rattle.node.specs.Ways.{sent_by, outcome, asked, behind}
use Rattle.node.specs.declared.Query.{Query}
use Rattle.node.specs.declared.Reply.{Reply}

abbrev pub table_asked : Query → Table
table_asked q = table_of q.table.now

abbrev pub asked_by : Query → Packet
asked_by q = asked q.head q.packet.now

-- the version that stands in slot i
abbrev pub StoredAt : ℕ → Query → Version → Type 0
StoredAt i q v = (get_or (table_asked q).slots i free_slot).version ≡ v

-- where the key was found so
abbrev pub Settles : Query → Option ℕ → Result Reply Refusal → Type 0
Settles q f w = behind (table_asked q) (asked_by q) f ≡ outcome (table_asked q) (asked_by q) w

-- the step comes to a reply
abbrev pub Gives : Query → Reply → Type 0
Gives q r = node_step (table_asked q) (asked_by q) ≡ ok (sent_by (table_asked q) (asked_by q) r)
