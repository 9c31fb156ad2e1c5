-- Document 01, "Marked examples (P)": the thirteen examples in its order, each with its whole answer, and what it is for one to hold.
use Rattle.std.specs.Prelude.{ℕ, ◌-◌, List, [], ◌∷◌, ◌++◌, Bool, true, false, ◌&&◌, not, length, replicate, eqb}
use Rattle.be.specs.Be.{digits, put}
use Rattle.wire.specs.Numbers.{Out, refuse, ok, number_of, left, eqs}
use Rattle.wire.specs.Version.{version, session, stamp}
use Rattle.wire.specs.Packet.{packet, bytes_of, sent_in, outlet_size, op_read, op_write, query}
use Rattle.wire.specs.declared.Version.{Version}
use Rattle.store.specs.Table.{Slot, slot, row_of, entered_slot, valued, write_bytes}
use Rattle.steps.specs.declared.Change.{Change}
use Rattle.steps.specs.declared.Change.TheVariants.{Still, Before}
use Rattle.steps.specs.declared.Chain.{Chain}
use Rattle.steps.specs.Chain.{most_nodes, is_open, joining}
use Rattle.steps.specs.Node.{node_call}
use Rattle.steps.specs.Control.{open_call, remove_call, activate_call}

-- ---- the table of node 1: two slots, of which the first has another key

abbrev pub key : ℕ → List ℕ
key letter = letter ∷ replicate 15 0

abbrev pub the_key : List ℕ
the_key = key 107

-- a slot with a value under S.Q, one that is entered, and one that has not the key
abbrev pub value_slot : List ℕ → Version → Slot
value_slot value v = slot the_key valued v value

abbrev pub stored : ℕ → ℕ → Slot
stored s q = value_slot (66 ∷ 67 ∷ []) (version s q)

abbrev pub entered : Slot
entered = entered_slot the_key

abbrev pub keyless : Slot
keyless = entered_slot (key 108)

abbrev pub table_bytes : ℕ → Slot → List ℕ
table_bytes fence s = digits 4 fence ++ digits 2 1 ++ digits 2 2 ++ row_of (entered_slot (key 106)) ++ row_of s

abbrev pub outlet : List ℕ
outlet = replicate outlet_size 255

-- ---- packets of client 9, its request 5

pub record Asked : Type 0 where
  pub op : ℕ
  pub version : Version
  pub value : List ℕ

abbrev pub numbered : ℕ → ℕ → Asked
numbered s q = record { op = op_write; version = version s q; value = 65 ∷ [] }

abbrev pub unnumbered : ℕ → Asked
unnumbered s = numbered s 0

abbrev pub read : ℕ → ℕ → Asked
read s q = record { op = op_read; version = version s q; value = [] }

abbrev pub packet_bytes : ℕ → ℕ → ℕ → ℕ → Asked → List ℕ
packet_bytes from to answer n a =
    bytes_of
    (packet
    (record {
      op = a.op;
      answer = answer;
      from = from;
      to = to;
      client = 9;
      request = 5;
      stamp = stamp n;
      version = a.version;
      length = length a.value;
    })
    the_key
    a.value)

-- what a node does: the key's slot afterwards, and the packet sent
pub record Done : Type 0 where
  pub slot : Slot
  pub answer : ℕ
  pub sent : Asked

-- the write is stored under S.Q and goes on under it; a read is answered without a value
abbrev pub takes : ℕ → ℕ → Out Done
takes s q = ok (record { slot = value_slot (65 ∷ []) (version s q); answer = query; sent = numbered s q })

abbrev pub answers : ℕ → ℕ → ℕ → Slot → Out Done
answers answer s q kept = ok (record { slot = kept; answer = answer; sent = read s q })

-- ---- records: wiring 1, two slots a table

abbrev pub chain : List ℕ → ℕ → ℕ → Change → Chain
chain ids s highest change = record {
  length = length ids;
  places = ids ++ replicate (most_nodes - length ids) 0;
  wiring = stamp 1;
  session = session s;
  highest = highest;
  count = 2;
  change = change;
}

-- a node that is fully copied before a named one
abbrev pub copied : ℕ → ℕ → Change
copied fresh named = Before (joining named fresh true 2)

abbrev pub same_chain : Chain → Chain → Bool
same_chain a b =
    eqb a.length b.length
    && (eqs a.places b.places
    && (eqb a.wiring.0 b.wiring.0
    && (eqb a.session.0 b.session.0
    && (eqb a.highest b.highest
    && (eqb a.count b.count
    && (not (is_open a.change) && not (is_open b.change)))))))

-- ---- an example: what there is, what is asked, and the answer

pub data Example : Type 0 where
  at_node : (fence : ℕ) → Slot → (stamp : ℕ) → Asked → Out Done → Example
  opening : Chain → (after : Bool) → (named fresh : ℕ) → Out Chain → Example
  removing : Chain → (id : ℕ) → Out Chain → Example
  activating : Chain → Out Chain → Example

-- a record is answered: the same number, and after success the same record
abbrev pub ruled : Out Chain → Out Chain → Bool
ruled (ok a) (ok b) = same_chain a b
ruled (ok a) (refuse n) = false
ruled (refuse m) (ok b) = false
ruled (refuse m) (refuse n) = eqb m n

-- number, table and outlet after the call are those of the answer
unfoldable pub holds : Example → Bool
holds (at_node fence s n a x) =
    let t = table_bytes fence s in
    let o = node_call t (packet_bytes 0 1 query n a) outlet in
    eqb (number_of o) (number_of x)
    && (eqs (left t (λ d. write_bytes d.write t) o) (left t (λ d. table_bytes fence d.slot) x)
    && eqs (left outlet (λ d. sent_in outlet d.packet) o) (left outlet (λ d. put outlet 0 (packet_bytes 1 0 d.answer n d.sent)) x))
holds (opening r after named fresh x) = ruled (open_call r after named fresh) x
holds (removing r id x) = ruled (remove_call r id) x
holds (activating r x) = ruled (activate_call r) x

unfoldable pub all_hold : List Example → Bool
all_hold [] = true
all_hold (e ∷ l) = holds e && all_hold l

-- fence, slot, stamp, packet and answer of a node; record, request and answer of the controller
abbrev pub examples : List Example
examples =
    at_node 0 (stored 1 4294967295) 0 (unnumbered 1) (refuse 11)
    ∷ at_node 0 (stored 1 4294967295) 0 (unnumbered 2) (takes 2 1)
    ∷ at_node 0 (stored 2 3) 0 (unnumbered 1) (refuse 10)
    ∷ at_node 0 (stored 1 9) 0 (numbered 2 1) (takes 2 1)
    ∷ at_node 0 (stored 2 1) 0 (numbered 1 9) (refuse 12)
    ∷ at_node 0 (stored 1 5) 0 (numbered 1 5) (refuse 12)
    ∷ at_node 7 keyless 6 (numbered 1 5) (refuse 7)
    ∷ at_node 7 (stored 1 5) 7 (numbered 1 6) (takes 1 6)
    ∷ at_node 0 entered 0 (read 0 0) (answers 2 0 0 entered)
    ∷ opening (chain (1 ∷ 2 ∷ 3 ∷ []) 1 3 Still) true 2 4 (refuse 15)
    ∷ removing (chain (1 ∷ []) 1 1 Still) 1 (refuse 18)
    ∷ removing (chain (1 ∷ 2 ∷ 3 ∷ []) 1 3 Still) 1 (ok (chain (2 ∷ 3 ∷ []) 2 3 Still))
    ∷ activating (chain (2 ∷ 3 ∷ []) 2 4 (copied 4 2)) (ok (chain (4 ∷ 2 ∷ 3 ∷ []) 3 4 Still))
    ∷ []
