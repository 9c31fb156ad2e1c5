-- Document 01, "Node step": what a node does with a packet, and under which numbers it refuses.
use Rattle.std.specs.Prelude.{ℕ, ◌<◌, ◌≡◌, List, [], ◌∷◌, Bool, true, false, ◌&&◌, ◌||◌, not, ◌⊎◌, length, get_or, ltb, eqb}
use Rattle.wire.specs.Numbers.{Out, ok, number_of, left, judge, test, Test, Case, case, under, pick, broken, small_outlet, malformed, misaddressed, below_fence, sessionless, key_missing, session_over, no_number_left, not_newer}
use Rattle.wire.specs.Version.{sequence, zero_version, less_session, same_session, last_sequence, next_sequence, top_sequence, less_stamp, newer, Below}
use Rattle.wire.specs.Packet.{Packet, packet, packet_of, sent_in, well_formed, Formed, outlet_size, op_read, op_write, query, answer_value, answer_no_value, answer_no_key}
use Rattle.wire.specs.declared.Version.{Version}
use Rattle.store.specs.Table.{Slot, slot, Table, table_of, table_ok, TableRules, find, free_slot, free, valued, deleted, Write, keep, set_row, write_bytes}
use Rattle.std.specs.Prelude.{Option, Some, None}

-- ---- kinds of queries

abbrev pub is_read : Packet → Bool
is_read p = eqb p.head.op op_read

-- a write or delete that has no number yet, and one that has
abbrev pub is_unnumbered : Packet → Bool
is_unnumbered p = not (is_read p) && eqb p.head.version.sequence.0 0

abbrev pub is_numbered : Packet → Bool
is_numbered p = not (is_read p) && not (eqb p.head.version.sequence.0 0)

-- ---- what a node sends

-- outgoing: from own id, to 0; op, client, request, stamp and key kept
unfoldable pub reply : ℕ → Packet → ℕ → Version → List ℕ → Packet
reply id p answer v value = packet
    (record {
      op = p.head.op;
      answer = answer;
      from = id;
      to = 0;
      client = p.head.client;
      request = p.head.request;
      stamp = p.head.stamp;
      version = v;
      length = length value;
    })
    p.key
    value

-- what a node step does: it writes at most one slot, and sends one packet
pub record Sent : Type 0 where
  pub write : Write
  pub packet : Packet

abbrev pub sent : Write → Packet → Sent
sent w q = record { write = w; packet = q }

-- ---- the ways of a node

-- a missing key: answer 3, version 0.0
unfoldable pub absent : Table → Packet → Sent
absent t p = sent keep (reply t.id p answer_no_key zero_version [])

-- a read answers from the slot: state 2 answer 1 with the value; state 1 or 3 answer 2 with the stored version
unfoldable pub answered : Table → Packet → Slot → Sent
answered t p s =
    pick (eqb s.state valued)
    (sent keep (reply t.id p answer_value s.version s.value))
    (sent keep (reply t.id p answer_no_value s.version []))

-- the number that a head gives: stored sequence + 1 if the sessions are equal, or S.1
unfoldable pub given : Packet → Slot → Version
given p s =
    pick (same_session p.head.version.session s.version.session)
    (record { session = p.head.version.session; sequence = next_sequence s.version.sequence })
    (record { session = p.head.version.session; sequence = sequence 1 })

-- the version under which a write or delete is taken
unfoldable pub version_for : Packet → Slot → Version
version_for p s = pick (is_unnumbered p) (given p s) p.head.version

-- a taken write or delete stores content and version, and the packet goes on with that version
unfoldable pub stored : Packet → Version → Slot
stored p v = slot p.key (pick (eqb p.head.op op_write) valued deleted) v p.value

unfoldable pub taken : Table → Packet → ℕ → Version → Sent
taken t p i v = sent (set_row i (stored p v)) (reply t.id p query v p.value)

unfoldable pub at_slot : Table → Packet → ℕ → Slot → Sent
at_slot t p i s = pick (is_read p) (answered t p s) (taken t p i (version_for p s))

abbrev pub node_does : Table → Packet → Option ℕ → Sent
node_does t p None = absent t p
node_does t p (Some i) = at_slot t p i (get_or t.slots i free_slot)

-- ---- the refusals

-- a test of the slot found; none holds of a missing key
abbrev pub when_found : Table → Option ℕ → (Slot → Bool) → Bool
when_found t None f = false
when_found t (Some i) f = f (get_or t.slots i free_slot)

abbrev pub is_nothing : Option ℕ → Bool
is_nothing None = true
is_nothing (Some i) = false

abbrev pub node_tests : Table → Packet → Option ℕ → List Test
node_tests t p f =
    test misaddressed (not (eqb p.head.to t.id) || (not (eqb p.head.from 0) || not (eqb p.head.answer query)))
    ∷ test below_fence (less_stamp p.head.stamp t.fence)
    ∷ test sessionless (not (is_read p) && eqb p.head.version.session.0 0)
    ∷ test key_missing (is_numbered p && is_nothing f)
    ∷ test session_over (is_unnumbered p && when_found t f (λ s. less_session p.head.version.session s.version.session))
    ∷ test no_number_left (is_unnumbered p && when_found t f (λ s. same_session p.head.version.session s.version.session && last_sequence s.version.sequence))
    ∷ test not_newer (is_numbered p && when_found t f (λ s. not (newer p.head.version s.version)))
    ∷ []

-- ---- the step, over slots and fields

unfoldable pub node_step : Table → Packet → Out Sent
node_step t p = judge (node_tests t p (find p.key t.slots)) (ok (node_does t p (find p.key t.slots)))

-- ---- the step, over bytes

unfoldable pub node_call : List ℕ → List ℕ → List ℕ → Out Sent
node_call t p out =
    judge
    (test broken (not (table_ok t))
    ∷ test small_outlet (ltb (length out) outlet_size)
    ∷ test malformed (not (well_formed p))
    ∷ [])
    (node_step (table_of t) (packet_of p))

-- what a call of the node step promises: its number, the table and the outlet afterwards
pub record NodeGives (t p out : List ℕ) (n : ℕ) (t' out' : List ℕ) : Type 0 where
  pub number : ◌≡◌ {A = ℕ} n (number_of (node_call t p out))
  pub table : ◌≡◌ {A = List ℕ} t' (left t (λ s. write_bytes s.write t) (node_call t p out))
  pub outlet : ◌≡◌ {A = List ℕ} out' (left out (λ s. sent_in out s.packet) (node_call t p out))

-- ---- the refusals, as document 01 has them

-- a write or delete, numbered or not
abbrev pub Alters : Packet → Type 0
Alters p = p.head.op ≡ op_read → ⊥

abbrev pub Numbered : Packet → Type 0
Numbered p = Alters p × (p.head.version.sequence.0 ≡ 0 → ⊥)

abbrev pub Unnumbered : Packet → Type 0
Unnumbered p = Alters p × (p.head.version.sequence.0 ≡ 0)

-- slot i is the lowest used slot that has the key; no used slot has the key
pub record Stands (k : List ℕ) (l : List Slot) (i : ℕ) (s : Slot) : Type 0 where
  pub below : i < length l
  pub at : get_or l i free_slot ≡ s
  pub used : s.state ≡ free → ⊥
  pub key : s.key ≡ k
  pub lowest : (j : ℕ) → j < i → (get_or l j free_slot).key ≡ k → (get_or l j free_slot).state ≡ free

abbrev pub Missing : List ℕ → List Slot → Type 0
Missing k l = (j : ℕ) → j < length l → (get_or l j free_slot).key ≡ k → (get_or l j free_slot).state ≡ free

-- a fact about the slot that has the packet's key
abbrev pub AtKey : Table → Packet → (Slot → Type 0) → Type 0
AtKey t p P = (i : ℕ) × (s : Slot) × Stands p.key t.slots i s × P s

-- the rows of the step over slots and fields
abbrev pub node_step_rows : Table → Packet → List Case
node_step_rows t p =
    case misaddressed ((p.head.to ≡ t.id → ⊥) ⊎ ((p.head.from ≡ 0 → ⊥) ⊎ (p.head.answer ≡ query → ⊥)))
    ∷ case below_fence (p.head.stamp.0 < t.fence.0)
    ∷ case sessionless (Alters p × (p.head.version.session.0 ≡ 0))
    ∷ case key_missing (Numbered p × Missing p.key t.slots)
    ∷ case session_over (Unnumbered p × AtKey t p (λ s. p.head.version.session.0 < s.version.session.0))
    ∷ case no_number_left (Unnumbered p × AtKey t p (λ s. (s.version.session ≡ p.head.version.session) × (s.version.sequence.0 ≡ top_sequence)))
    ∷ case not_newer (Numbered p × AtKey t p (λ s. Below s.version p.head.version → ⊥))
    ∷ []

-- the rows of the call: a broken table or packet hides what it holds
abbrev pub node_rows : List ℕ → List ℕ → List ℕ → List Case
node_rows t p out =
    case broken (TableRules t → ⊥)
    ∷ case small_outlet (length out < outlet_size)
    ∷ case malformed (Formed p → ⊥)
    ∷ under (TableRules t × Formed p) (node_step_rows (table_of t) (packet_of p))
