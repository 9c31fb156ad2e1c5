-- Document 01, "Relay step": where a packet is sent, and under which numbers it is dropped.
use Rattle.std.specs.Prelude.{ℕ, ◌<◌, ◌≡◌, Bool, false, ◌&&◌, ◌||◌, not, ◌⊎◌, length, ltb, eqb}
use mathlib.Core.List.{List, [], ◌∷◌, Memᴰ as Mem}
use Rattle.wire.specs.Numbers.{Out, refuse, ok, number_of, left, judge, test, Test, Case, case, under, pick, broken, small_outlet, malformed, misaddressed, stranger, stopped}
use Rattle.wire.specs.Version.{sequence, stamp, is_zero, zero_version}
use Rattle.wire.specs.Packet.{Packet, packet, packet_of, sent_in, well_formed, Formed, outlet_size, op_read, query, answer_written}
use Rattle.wire.specs.declared.Version.{Version}
use Rattle.steps.specs.declared.Change.{Change}
use Rattle.steps.specs.declared.Change.TheVariants.{Still, Before, After}
use Rattle.steps.specs.declared.Chain.{Chain}
use Rattle.steps.specs.declared.Joining.{Joining}
use Rattle.steps.specs.declared.Destination.{Destination}
use Rattle.steps.specs.declared.Destination.TheVariants.{ToNode, ToClient}
use Rattle.steps.specs.Chain.{members, memb, first_of, last_of, next_of, First, Last, Follows, Opened, chain_ok, ChainRules}
use Rattle.steps.specs.Node.{is_read, is_unnumbered, Alters, Unnumbered}

-- ---- where a packet goes

pub data Way : Type 0 where
  node : ℕ → Packet → Way
  client : Packet → Way

-- to a node: from 0, to its id, stamp = wiring number
unfoldable pub to_node : Chain → ℕ → Version → Packet → Packet
to_node r j v p = packet
    (record {
      op = p.head.op;
      answer = query;
      from = 0;
      to = j;
      client = p.head.client;
      request = p.head.request;
      stamp = r.wiring;
      version = v;
      length = p.head.length;
    })
    p.key
    p.value

-- to a client: from, to and stamp are 0
unfoldable pub to_client : ℕ → List ℕ → Packet → Packet
to_client answer value p = packet
    (record {
      op = p.head.op;
      answer = answer;
      from = 0;
      to = 0;
      client = p.head.client;
      request = p.head.request;
      stamp = stamp 0;
      version = p.head.version;
      length = length value;
    })
    p.key
    value

-- from a client: a read goes to the last node; a write or delete, the record's session put in, to the first
unfoldable pub from_client : Chain → Packet → Way
from_client r p =
    pick (is_read p)
    (node (last_of (members r)) (to_node r (last_of (members r)) p.head.version p))
    (node (first_of (members r)) (to_node r (first_of (members r)) (record { session = r.session; sequence = sequence 0 }) p))

-- a numbered write or delete goes to the next node, or from the last becomes answer 4 with length 0
unfoldable pub onward : Chain → Packet → Way
onward r p =
    pick (eqb p.head.from (last_of (members r)))
    (client (to_client answer_written [] p))
    (node (next_of p.head.from (members r)) (to_node r (next_of p.head.from (members r)) p.head.version p))

-- from a node: an answer goes to the client
unfoldable pub from_node : Chain → Packet → Way
from_node r p = pick (eqb p.head.answer query) (onward r p) (client (to_client p.head.answer p.value p))

unfoldable pub way_of : Chain → Packet → Way
way_of r p = pick (eqb p.head.from 0) (from_client r p) (from_node r p)

-- ---- stops

-- while a change is open, writes and deletes addressed to the named node are stopped; if the change is "after", reads too
abbrev pub stops : Change → Bool → ℕ → Bool
stops Still read j = false
stops (Before c) read j = eqb j c.named && not read
stops (After c) read j = eqb j c.named

abbrev pub stops_way : Change → Bool → Way → Bool
stops_way ch read (node j q) = stops ch read j
stops_way ch read (client q) = false

-- ---- the refusals

-- no client's packet: to, stamp, answer or version not 0
abbrev pub stray_client : Packet → Bool
stray_client p =
    not (eqb p.head.to 0)
    || (not (eqb p.head.stamp.0 0) || (not (eqb p.head.answer query) || not (is_zero p.head.version)))

-- no node's packet: "to" not 0, a read query, or an unnumbered query
abbrev pub stray_node : Packet → Bool
stray_node p = not (eqb p.head.to 0) || (eqb p.head.answer query && (is_read p || is_unnumbered p))

abbrev pub relay_tests : Chain → Packet → List Test
relay_tests r p =
    test misaddressed (pick (eqb p.head.from 0) (stray_client p) (stray_node p))
    ∷ test stranger (not (eqb p.head.from 0) && not (memb p.head.from (members r)))
    ∷ test stopped (stops_way r.change (is_read p) (way_of r p))
    ∷ []

-- ---- the step, over fields

unfoldable pub relay_step : Chain → Packet → Out Way
relay_step r p = judge (relay_tests r p) (ok (way_of r p))

-- ---- the step, over bytes

unfoldable pub relay_call : Chain → List ℕ → List ℕ → Out Way
relay_call r p out =
    judge
    (test broken (not (chain_ok r))
    ∷ test small_outlet (ltb (length out) outlet_size)
    ∷ test malformed (not (well_formed p))
    ∷ [])
    (relay_step r (packet_of p))

abbrev pub packet_sent : Way → Packet
packet_sent (node j q) = q
packet_sent (client q) = q

-- sent to a node, sent to the client, or dropped under a number
abbrev pub Outcome : Type 0
Outcome = Out Destination

abbrev pub outcome_of : Out Way → Outcome
outcome_of (refuse n) = refuse n
outcome_of (ok (node j q)) = ok (ToNode j)
outcome_of (ok (client q)) = ok ToClient

-- document 01's number of each case
abbrev pub outcome_number : Outcome → ℕ
outcome_number o = number_of o

-- what a call of the relay step promises: its outcome, and the outlet afterwards
pub record RelayGives (r : Chain) (p out : List ℕ) (o : Outcome) (out' : List ℕ) : Type 0 where
  pub outcome : o ≡ outcome_of (relay_call r p out)
  pub outlet : ◌≡◌ {A = List ℕ} out' (left out (λ w. sent_in out (packet_sent w)) (relay_call r p out))

-- ---- the refusals, as document 01 has them

abbrev pub StrayClient : Packet → Type 0
StrayClient p =
    (p.head.to ≡ 0 → ⊥) ⊎ ((p.head.stamp.0 ≡ 0 → ⊥) ⊎ ((p.head.answer ≡ query → ⊥) ⊎ (p.head.version ≡ zero_version → ⊥)))

abbrev pub StrayNode : Packet → Type 0
StrayNode p =
    (p.head.to ≡ 0 → ⊥) ⊎ ((p.head.answer ≡ query) × ((p.head.op ≡ op_read) ⊎ Unnumbered p))

-- a packet that the relay is to send to node j
pub data Addressed (r : Chain) (p : Packet) (j : ℕ) : Type 0 where
  read_from : p.head.from ≡ 0 → p.head.op ≡ op_read → Last j (members r) → Addressed r p j
  write_from : p.head.from ≡ 0 → Alters p → First j (members r) → Addressed r p j
  passed_on : p.head.answer ≡ query → Follows p.head.from j (members r) → Addressed r p j

pub data Stops (ch : Change) (p : Packet) (j : ℕ) : Type 0 where
  changing : (c : Joining) → Opened ch c → j ≡ c.named → Alters p → Stops ch p j
  tail : (c : Joining) → ch ≡ After c → j ≡ c.named → Stops ch p j

abbrev pub relay_step_rows : Chain → Packet → List Case
relay_step_rows r p =
    case misaddressed (((p.head.from ≡ 0) × StrayClient p) ⊎ ((p.head.from ≡ 0 → ⊥) × StrayNode p))
    ∷ case stranger ((p.head.from ≡ 0 → ⊥) × (Mem p.head.from (members r) → ⊥))
    ∷ case stopped ((j : ℕ) × Addressed r p j × Stops r.change p j)
    ∷ []

abbrev pub relay_rows : Chain → List ℕ → List ℕ → List Case
relay_rows r p out =
    case broken (ChainRules r → ⊥)
    ∷ case small_outlet (length out < outlet_size)
    ∷ case malformed (Formed p → ⊥)
    ∷ under (ChainRules r × Formed p) (relay_step_rows r (packet_of p))
