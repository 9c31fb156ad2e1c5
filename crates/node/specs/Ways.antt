-- What a node does with a packet, as the step settles it before it writes: it refuses under a number, or sends a reply.
use Rattle.std.specs.Prelude.{ℕ, ◌≡◌, List, [], get_or, drop, Option, Result, Ok, Err}
use Rattle.wire.specs.Numbers.{Out, refuse, ok, refusal_number, judge}
use Rattle.wire.specs.Version.{zero_version}
use Rattle.wire.specs.Packet.{Packet, packet, head_of, key_of, value_of, Formed, query, answer_value, answer_no_value, answer_no_key}
use Rattle.wire.specs.declared.Head.{Head}
use Rattle.wire.specs.declared.Version.{Version}
use Rattle.wire.specs.declared.Refusal.{Refusal}
use Rattle.store.specs.Table.{Table, table_of, TableRules, free_slot, Write, keep, set_row}
use Rattle.steps.specs.Node.{Sent, sent, reply, stored, node_tests, node_does, node_step}
use Rattle.node.specs.declared.Reply.{Reply}
use Rattle.node.specs.declared.Reply.TheVariants.{Taken, Value, NoValue, NoKey}

-- ---- what each case stands for

-- what is taken goes on as a query
abbrev pub answer_of : Reply → ℕ
answer_of (Taken v i) = query
answer_of (Value v i) = answer_value
answer_of (NoValue v) = answer_no_value
answer_of NoKey = answer_no_key

abbrev pub version_of : Reply → Version
version_of (Taken v i) = v
version_of (Value v i) = v
version_of (NoValue v) = v
version_of NoKey = zero_version

-- a query that goes on carries the packet's value, answer 1 the slot's, and the other answers none
abbrev pub carried : Table → List ℕ → Reply → List ℕ
carried t x (Taken v i) = x
carried t x (Value v i) = (get_or t.slots i free_slot).value
carried t x (NoValue v) = []
carried t x NoKey = []

-- a query that goes on is stored
abbrev pub kept : Packet → Reply → Write
kept p (Taken v i) = set_row i (stored p v)
kept p (Value v i) = keep
kept p (NoValue v) = keep
kept p NoKey = keep

unfoldable pub sent_by : Table → Packet → Reply → Sent
sent_by t p r = sent (kept p r) (reply t.id p (answer_of r) (version_of r) (carried t p.value r))

abbrev pub outcome : Table → Packet → Result Reply Refusal → Out Sent
outcome t p (Err n) = refuse (refusal_number n)
outcome t p (Ok r) = ok (sent_by t p r)

-- a write or delete that finds its key in slot i: what is taken is stored there
abbrev pub taken_at : ℕ → Result Version Refusal → Result Reply Refusal
taken_at i (Err n) = Err n
taken_at i (Ok v) = Ok (Taken v i)

-- ---- how it is settled

-- the packet whose fields were read: its key and its value are parts of the bytes
abbrev pub asked : Head → List ℕ → Packet
asked h p = packet h (key_of p) (value_of p)

-- what is left of the step behind the rows 4, 7 and 8
abbrev pub behind : Table → Packet → Option ℕ → Out Sent
behind t p f = judge (drop 3 (node_tests t p f)) (ok (node_does t p f))

-- what the step comes to, on a table and a packet as they should be
pub record Comes (t p : List ℕ) (h : Head) (r : Reply) : Type 0 where
  pub rules : TableRules t
  pub formed : Formed p
  pub fields : h ≡ head_of p
  pub step : node_step (table_of t) (asked h p) ≡ ok (sent_by (table_of t) (asked h p) r)
