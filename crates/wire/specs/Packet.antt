-- Document 01, "Packet": the bytes of a packet, its fields, and which are well-formed.
use Rattle.std.specs.Prelude.{ℕ, ◌+◌, ◌<◌, ◌≤◌, ◌≡◌, List, [], ◌∷◌, ◌++◌, Bool, ◌&&◌, ◌||◌, not, ◌⊎◌, length, get_or, take, drop, ltb, leb, eqb}
use Rattle.be.specs.Be.{be, digits, put}
use Rattle.wire.specs.Numbers.{Out, ok, done, judge, test, Case, case, left, small_outlet, malformed, pick}
use Rattle.wire.specs.Version.{version, stamp, is_zero, is_given, is_orderly, zero_version}
use Rattle.wire.specs.declared.Version.{Version}
use Rattle.wire.specs.declared.Head.{Head}

-- ---- sizes

-- all of a packet but its value
abbrev pub front_size : ℕ
front_size = 40

abbrev pub key_size : ℕ
key_size = 16

-- the most bytes of a value
abbrev pub value_size : ℕ
value_size = 128

-- what an outlet must hold
abbrev pub outlet_size : ℕ
outlet_size = 168

-- where the key starts, and the place of the length
abbrev pub key_at : ℕ
key_at = 24

abbrev pub length_at : ℕ
length_at = 18

abbrev pub zero_at : ℕ
zero_at = 19

-- ---- ops and answers

abbrev pub op_read : ℕ
op_read = 1

abbrev pub op_write : ℕ
op_write = 2

abbrev pub op_delete : ℕ
op_delete = 3

abbrev pub query : ℕ
query = 0

abbrev pub answer_value : ℕ
answer_value = 1

abbrev pub answer_no_value : ℕ
answer_no_value = 2

abbrev pub answer_no_key : ℕ
answer_no_key = 3

abbrev pub answer_written : ℕ
answer_written = 4

-- ---- bytes and fields

pub record Packet : Type 0 where
  pub head : Head
  pub key : List ℕ
  pub value : List ℕ

abbrev pub packet : Head → List ℕ → List ℕ → Packet
packet h k v = record { head = h; key = k; value = v }

-- 0 op; 1 answer; 2–3 from; 4–5 to; 6–7 client; 8–11 request; 12–15 stamp; 16–17 session; 18 length; 19 zero; 20–23 sequence
unfoldable pub head_of : List ℕ → Head
head_of p = record {
  op = get_or p 0 0;
  answer = get_or p 1 0;
  from = be 2 p 2;
  to = be 2 p 4;
  client = be 2 p 6;
  request = be 4 p 8;
  stamp = stamp (be 4 p 12);
  version = version (be 2 p 16) (be 4 p 20);
  length = get_or p length_at 0;
}

-- 24–39 key
unfoldable pub key_of : List ℕ → List ℕ
key_of p = take key_size (drop key_at p)

-- then the value
unfoldable pub value_of : List ℕ → List ℕ
value_of p = take (get_or p length_at 0) (drop front_size p)

unfoldable pub packet_of : List ℕ → Packet
packet_of p = packet (head_of p) (key_of p) (value_of p)

-- the bytes of a packet: op to stamp, and session to value
unfoldable pub front_of : Head → List ℕ
front_of h =
    (h.op ∷ h.answer ∷ [])
    ++ digits 2 h.from
    ++ digits 2 h.to
    ++ digits 2 h.client
    ++ digits 4 h.request
    ++ digits 4 h.stamp.0

unfoldable pub back_of : Head → List ℕ → List ℕ → List ℕ
back_of h k v =
    digits 2 h.version.session.0
    ++ (h.length ∷ 0 ∷ [])
    ++ digits 4 h.version.sequence.0
    ++ k
    ++ v

unfoldable pub bytes_of : Packet → List ℕ
bytes_of p = front_of p.head ++ back_of p.head p.key p.value

-- ---- well-formed

-- one table of cases: answer, op, length, version
abbrev pub shape_ok : ℕ → ℕ → ℕ → Version → Bool
shape_ok answer op n v =
    (eqb answer query && (eqb op op_read && (eqb n 0 && is_zero v)))
    || ((eqb answer query && (eqb op op_write && is_orderly v))
    || ((eqb answer query && (eqb op op_delete && (eqb n 0 && is_orderly v)))
    || ((eqb answer answer_value && (eqb op op_read && is_given v))
    || ((eqb answer answer_no_value && (eqb op op_read && (eqb n 0 && (is_zero v || is_given v))))
    || ((eqb answer answer_no_key && ((ltb 0 op && leb op op_delete) && (eqb n 0 && is_zero v)))
    || (eqb answer answer_written && ((eqb op op_write || eqb op op_delete) && (eqb n 0 && is_given v))))))))

-- the fields of a head
unfoldable pub head_ok : Head → Bool
head_ok h = leb h.length value_size && shape_ok h.answer h.op h.length h.version

-- the bytes of a packet
unfoldable pub well_formed : List ℕ → Bool
well_formed p =
    leb front_size (length p)
    && (eqb (length p) (front_size + get_or p length_at 0) && (eqb (get_or p zero_at 0) 0 && head_ok (head_of p)))

-- a head, a key and a value that together are a packet
unfoldable pub packet_ok : Packet → Bool
packet_ok p = head_ok p.head && (eqb (length p.key) key_size && eqb (length p.value) p.head.length)

-- the same as propositions: the cases of a head, and the bytes
pub data Shape (answer op n : ℕ) (v : Version) : Type 0 where
  read : answer ≡ query → op ≡ op_read → n ≡ 0 → v ≡ zero_version → Shape answer op n v
  write : answer ≡ query → op ≡ op_write → (0 < v.sequence.0 → 0 < v.session.0) → Shape answer op n v
  delete : answer ≡ query → op ≡ op_delete → n ≡ 0 → (0 < v.sequence.0 → 0 < v.session.0) → Shape answer op n v
  value : answer ≡ answer_value → op ≡ op_read → 0 < v.session.0 → 0 < v.sequence.0 → Shape answer op n v
  never_written : answer ≡ answer_no_value → op ≡ op_read → n ≡ 0 → v ≡ zero_version → Shape answer op n v
  deleted : answer ≡ answer_no_value → op ≡ op_read → n ≡ 0 → 0 < v.session.0 → 0 < v.sequence.0 → Shape answer op n v
  no_key : answer ≡ answer_no_key → 1 ≤ op → op ≤ 3 → n ≡ 0 → v ≡ zero_version → Shape answer op n v
  written : answer ≡ answer_written → (op ≡ op_write) ⊎ (op ≡ op_delete) → n ≡ 0 → 0 < v.session.0 → 0 < v.sequence.0 → Shape answer op n v

pub record Formed (p : List ℕ) : Type 0 where
  pub size : length p ≡ front_size + (head_of p).length
  pub small : (head_of p).length ≤ value_size
  pub zero : get_or p zero_at 0 ≡ 0
  pub shape : Shape (head_of p).answer (head_of p).op (head_of p).length (head_of p).version

pub record Fit (p : Packet) : Type 0 where
  pub shape : Shape p.head.answer p.head.op p.head.length p.head.version
  pub small : p.head.length ≤ value_size
  pub key : length p.key ≡ key_size
  pub value : length p.value ≡ p.head.length

-- ---- reading

unfoldable pub read_call : List ℕ → Out Head
read_call p = judge (test malformed (not (well_formed p)) ∷ []) (ok (head_of p))

abbrev pub read_rows : List ℕ → List Case
read_rows p = case malformed (Formed p → ⊥) ∷ []

-- the parts that show the key and the value; nothing of what is no packet
unfoldable pub key_part : List ℕ → List ℕ
key_part p = pick (well_formed p) (key_of p) []

unfoldable pub value_part : List ℕ → List ℕ
value_part p = pick (well_formed p) (value_of p) []

-- ---- writing

unfoldable pub write_call : List ℕ → Packet → Out Packet
write_call out p = judge (test small_outlet (ltb (length out) outlet_size) ∷ test malformed (not (packet_ok p)) ∷ []) (ok p)

abbrev pub write_rows : List ℕ → Packet → List Case
write_rows out p = case small_outlet (length out < outlet_size) ∷ case malformed (Fit p → ⊥) ∷ []

-- an outlet with a packet in it: its first bytes are the packet, and the others stay
abbrev pub sent_in : List ℕ → Packet → List ℕ
sent_in out p = put out 0 (bytes_of p)

-- what a call of packet writing promises: its answer, and the outlet afterwards
pub record WriteGives (out : List ℕ) (p : Packet) (w : Out (Unit {0})) (out' : List ℕ) : Type 0 where
  pub answer : w ≡ done (write_call out p)
  pub outlet : ◌≡◌ {A = List ℕ} out' (left out (sent_in out) (write_call out p))
