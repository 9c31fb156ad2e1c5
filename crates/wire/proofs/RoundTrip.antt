-- Reading and writing a packet undo each other: over the definitions, and over the calls of packet reading and writing.
use Prim.Native.Nat.{ℕ, suc, ◌+◌, ◌^◌, ◌<◌, ◌≤◌}
use mathlib.Core.Path.{◌≡◌, refl, sym, ap, ap₂, ◌∙◌}
use mathlib.Core.Bool.{true}
use mathlib.Core.List.{List, [], ◌∷◌, ◌++◌}
use native.Mathlib.Omega.{arith}
use native.Mathlib.Numerals.{add-one}
use lib.ListN.{length, get_or, take, drop, length-append, length-take, length-drop}
use lib.Seq.{take_at, drop_at, take_all, take-add, drop-drop, drop-cons}
use Rattle.be.specs.Be.{be, digits, put, Bytes}
use Rattle.be.proofs.Laws.{be_at, digits_be, bound, bytes_nil, bytes_cons, bytes_append, take_start, drop_start, length_put}
use Rattle.wire.specs.Packet.{Packet, packet, front_size, key_size, length_at, key_at, zero_at, outlet_size, head_of, key_of, value_of, packet_of, front_of, back_of, bytes_of, well_formed, Formed, Fit, sent_in, read_call, write_call, key_part, value_part, WriteGives}
use Rattle.wire.specs.Numbers.{Out, refuse, ok, done, left}
use Rattle.wire.specs.declared.Head.{Head}
use Rattle.wire.proofs.Numbers.{reflects_yes, refuse_ok}
use Rattle.wire.proofs.Packet.{reflect_formed, read_view, read_done, write_view, write_done, key_part_lem, value_part_lem}

-- ---- the ranges of a head's fields

pub record Ranges (h : Head) : Type 0 where
  pub op : h.op < 256
  pub answer : h.answer < 256
  pub from : h.from < 256 ^ 2
  pub to : h.to < 256 ^ 2
  pub client : h.client < 256 ^ 2
  pub request : h.request < 256 ^ 4
  pub stamp : h.stamp.0 < 256 ^ 4
  pub session : h.version.session.0 < 256 ^ 2
  pub sequence : h.version.sequence.0 < 256 ^ 4
  pub length : h.length < 256

-- the fields of bytes are in them
pub ranges : (p : List ℕ) → Bytes p → front_size ≤ length p → Ranges (head_of p)
unfolding head_of
ranges p b h = record {
  op = b 0 (omega arith);
  answer = b 1 (omega arith);
  from = bound 2 p 2 b (omega arith);
  to = bound 2 p 4 b (omega arith);
  client = bound 2 p 6 b (omega arith);
  request = bound 4 p 8 b (omega arith);
  stamp = bound 4 p 12 b (omega arith);
  session = bound 2 p 16 b (omega arith);
  sequence = bound 4 p 20 b (omega arith);
  length = b length_at (omega arith);
}

-- ---- the bytes of a packet

pub length_bytes : (p : Packet) → length p.key ≡ key_size → length (bytes_of p) ≡ front_size + length p.value
unfolding bytes_of front_of back_of
length_bytes p e = omega (arith, length-append p.key p.value)

abbrev All : List ℕ → Type 0
All [] = Unit {0}
All (x ∷ s) = (x < 256) × All s

all_bytes : (s : List ℕ) → All s → Bytes s
all_bytes [] a = bytes_nil
all_bytes (x ∷ s) a = bytes_cons x s a.0 (all_bytes s a.1)

bytes_front : (h : Head) → Ranges h → Bytes (front_of h)
unfolding front_of
bytes_front h r = all_bytes (front_of h) (omega arith)

bytes_back : (h : Head) (k v : List ℕ) → Ranges h → Bytes k → Bytes v → Bytes (back_of h k v)
unfolding back_of
bytes_back h k v r bk bv =
    let m : List ℕ = digits 2 h.version.session.0 ++ (h.length ∷ 0 ∷ []) ++ digits 4 h.version.sequence.0 in
    bytes_append (m ++ k) v (bytes_append m k (all_bytes m (omega arith)) bk) bv

-- what is written is bytes
pub bytes_of_lem : (p : Packet) → Ranges p.head → Bytes p.key → Bytes p.value → Bytes (bytes_of p)
unfolding bytes_of
bytes_of_lem p r bk bv =
    bytes_append (front_of p.head) (back_of p.head p.key p.value) (bytes_front p.head r) (bytes_back p.head p.key p.value r bk bv)

-- ---- what was written is read again

head_bytes : (p : Packet) → Ranges p.head → head_of (bytes_of p) ≡ p.head
unfolding head_of bytes_of front_of back_of
head_bytes p r =
    let h = p.head in
    let t = p.key ++ p.value in
    let b6 : List ℕ = (h.length ∷ 0 ∷ []) ++ digits 4 h.version.sequence.0 ++ t in
    let b5 = digits 2 h.version.session.0 ++ b6 in
    let b4 = digits 4 h.stamp.0 ++ b5 in
    let b3 = digits 4 h.request ++ b4 in
    let b2 = digits 2 h.client ++ b3 in
    let b1 = digits 2 h.to ++ b2 in
    let a1 : List ℕ = h.op ∷ h.answer ∷ [] in
    let a2 = a1 ++ digits 2 h.from in
    let a3 = a2 ++ digits 2 h.to in
    let a4 = a3 ++ digits 2 h.client in
    let a5 = a4 ++ digits 4 h.request in
    let a6 = a5 ++ digits 4 h.stamp.0 in
    let a7 = a6 ++ digits 2 h.version.session.0 ++ (h.length ∷ 0 ∷ []) in
    λ i. record {
      op = h.op;
      answer = h.answer;
      from = be_at 2 h.from a1 b1 2 refl r.from i;
      to = be_at 2 h.to a2 b2 4 refl r.to i;
      client = be_at 2 h.client a3 b3 6 refl r.client i;
      request = be_at 4 h.request a4 b4 8 refl r.request i;
      stamp = record { 0 = be_at 4 h.stamp.0 a5 b5 12 refl r.stamp i };
      version = record {
        session = record { 0 = be_at 2 h.version.session.0 a6 b6 16 refl r.session i };
        sequence = record { 0 = be_at 4 h.version.sequence.0 a7 t 20 refl r.sequence i };
      };
      length = h.length;
    }

key_bytes : (p : Packet) → Fit p → key_of (bytes_of p) ≡ p.key
unfolding key_of bytes_of front_of back_of
key_bytes p f = take_at p.key p.value key_size f.key

value_bytes : (p : Packet) → Fit p → value_of (bytes_of p) ≡ p.value
unfolding value_of bytes_of front_of back_of
value_bytes p f = rw (drop_at p.key p.value key_size f.key) (take_all p.head.length p.value (let e = f.value in omega arith))

pub read_write : (p : Packet) → Fit p → Ranges p.head → packet_of (bytes_of p) ≡ p
unfolding packet_of
read_write p f r = λ i. record { head = head_bytes p r i; key = key_bytes p f i; value = value_bytes p f i }

-- and is well-formed
pub formed_bytes : (p : Packet) → Fit p → Ranges p.head → Formed (bytes_of p)
formed_bytes p f r =
    let e : head_of (bytes_of p) ≡ p.head = head_bytes p r in
    record {
      size = length_bytes p f.key ∙ rw (e, f.value);
      small = rw e f.small;
      zero = zero_bytes p;
      shape = rw e f.shape;
    }
  where
    zero_bytes : (p : Packet) → get_or (bytes_of p) zero_at 0 ≡ 0
    zero_bytes p = unfold bytes_of front_of back_of in refl

pub well_formed_bytes : (p : Packet) → Fit p → Ranges p.head → well_formed (bytes_of p) ≡ true
well_formed_bytes p f r = reflects_yes (reflect_formed (bytes_of p)) (formed_bytes p f r)

-- ---- what was read is written again

pub fit_packet : (b : List ℕ) → Formed b → Fit (packet_of b)
unfolding packet_of key_of value_of head_of
fit_packet b f =
    let s = f.size in
    record {
      shape = f.shape;
      small = f.small;
      key = simp (length-take, length-drop) (omega arith);
      value = simp (length-take, length-drop) (omega arith);
    }

-- a part and the part behind it are one part
join : (b l x : List ℕ) (at n m : ℕ) → l ≡ take n (drop at b) → x ≡ take m (drop (at + n) b) → l ++ x ≡ take (n + m) (drop at b)
join b l x at n m e f = ap₂ (λ (p q : List ℕ). p ++ q) e f ∙ sym (take-add n m (drop at b) ∙ rw drop-drop)

pair : (b : List ℕ) (at : ℕ) → at + 2 ≤ length b → get_or b at 0 ∷ get_or b (at + 1) 0 ∷ [] ≡ take 2 (drop at b)
pair b at h = rw (drop-cons b at 0 (omega arith), add-one at, drop-cons b (suc at) 0 (omega arith))

pub write_read : (b : List ℕ) → Bytes b → Formed b → bytes_of (packet_of b) ≡ b
unfolding packet_of bytes_of front_of back_of head_of key_of value_of
write_read b bs f =
    let s = f.size in
    let n = get_or b length_at 0 in
    let d2 : (at : ℕ) → at + 2 ≤ length b → digits 2 (be 2 b at) ≡ take 2 (drop at b) = λ at k. digits_be 2 b at bs k in
    let d4 : (at : ℕ) → at + 4 ≤ length b → digits 4 (be 4 b at) ≡ take 4 (drop at b) = λ at k. digits_be 4 b at bs k in
    let f0 : get_or b 0 0 ∷ get_or b 1 0 ∷ [] ≡ take 2 (drop 0 b) = pair b 0 (omega arith) in
    let f1 = join b _ _ 0 2 2 f0 (d2 2 (omega arith)) in
    let f2 = join b _ _ 0 4 2 f1 (d2 4 (omega arith)) in
    let f3 = join b _ _ 0 6 2 f2 (d2 6 (omega arith)) in
    let f4 = join b _ _ 0 8 4 f3 (d4 8 (omega arith)) in
    let f5 = join b _ _ 0 12 4 f4 (d4 12 (omega arith)) in
    let z : n ∷ 0 ∷ [] ≡ take 2 (drop length_at b) = ap (λ (x : ℕ). n ∷ x ∷ []) (sym f.zero) ∙ pair b length_at (omega arith) in
    let g1 = join b _ _ 16 2 2 (d2 16 (omega arith)) z in
    let g2 = join b _ _ 16 4 4 g1 (d4 20 (omega arith)) in
    let g3 = join b _ (take key_size (drop key_at b)) 16 8 key_size g2 refl in
    let g4 = join b _ (take n (drop front_size b)) 16 (8 + key_size) n g3 refl in
    join b _ _ 0 16 (8 + key_size + n) f5 g4 ∙ take_all (16 + (8 + key_size + n)) b (omega arith)

-- ---- a packet in an outlet

pub take_sent : (out : List ℕ) (p : Packet) → Fit p → take (front_size + length p.value) (sent_in out p) ≡ bytes_of p
take_sent out p f = rw (← length_bytes p f.key) (take_start out (bytes_of p))

pub drop_sent : (out : List ℕ) (p : Packet) → Fit p → drop (front_size + length p.value) (sent_in out p) ≡ drop (front_size + length p.value) out
drop_sent out p f = rw (← length_bytes p f.key) (drop_start out (bytes_of p))

pub length_sent : (out : List ℕ) (p : Packet) → Fit p → outlet_size ≤ length out → length (sent_in out p) ≡ length out
length_sent out p f h =
    length_put out 0 (bytes_of p) (let e = length_bytes p f.key in let v = f.value in let s = f.small in omega arith)

-- ---- the same over the calls

wrote : (o : Out Packet) → ok tt ≡ done o → (q : Packet) × (o ≡ ok q)
wrote (refuse n) e = absurd (refuse_ok (sym e))
wrote (ok q) e = (q, refl)

-- what bytes are when they are read
pub record ReadsAs (b : List ℕ) (p : Packet) : Type 0 where
  pub head : read_call b ≡ ok p.head
  pub key : key_part b ≡ p.key
  pub value : value_part b ≡ p.value

-- the first bytes of the outlet, after a packet was written, read as that packet
pub read_written : (out out' : List ℕ) (p : Packet) → Ranges p.head → WriteGives out p (ok tt) out' → ReadsAs (take (front_size + length p.value) out') p
read_written out out' p r g =
    let w = wrote (write_call out p) g.answer in
    let v = write_view out p w.0 w.1 in
    let f = v.fit in
    let d = formed_bytes p f r in
    let e : out' ≡ sent_in out p = g.outlet ∙ ap (left out (sent_in out)) w.1 ∙ ap (sent_in out) v.is in
    let b : take (front_size + length p.value) out' ≡ bytes_of p = rw e (take_sent out p f) in
    rw b (record {
      head = read_done (bytes_of p) d ∙ ap ok (head_bytes p r);
      key = key_part_lem (bytes_of p) d ∙ key_bytes p f;
      value = value_part_lem (bytes_of p) d ∙ value_bytes p f;
    })

-- what an outlet is after bytes were written to it: these bytes, and the others as before
pub record Rewritten (b out : List ℕ) (w : Out (Unit {0})) (out' : List ℕ) : Type 0 where
  pub answer : w ≡ ok tt
  pub first : take (length b) out' ≡ b
  pub others : drop (length b) out' ≡ drop (length b) out

-- what was read, written: byte for byte
pub written_read : (b out out' : List ℕ) (h : Head) (w : Out (Unit {0})) → Bytes b → read_call b ≡ ok h → outlet_size ≤ length out
    → WriteGives out (packet h (key_part b) (value_part b)) w out'
    → Rewritten b out w out'
unfolding packet_of
written_read b out out' h w bs e room g =
    let v = read_view b h e in
    let f = v.formed in
    let p = packet h (key_part b) (value_part b) in
    let is : p ≡ packet_of b = λ i. packet (v.head i) (key_part_lem b f i) (value_part_lem b f i) in
    let c : write_call out p ≡ ok (packet_of b) = rw is (write_done out (packet_of b) room (fit_packet b f)) in
    let o : out' ≡ put out 0 b = g.outlet ∙ ap (left out (sent_in out)) c ∙ ap (put out 0) (write_read b bs f) in
    record {
      answer = g.answer ∙ ap done c;
      first = rw o (take_start out b);
      others = rw o (drop_start out b);
    }
