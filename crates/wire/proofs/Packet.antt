-- Laws of packets: what the tests of a packet say, and that reading and writing refuse as document 01 has it.
use Prim.Native.Nat.{ℕ, ◌+◌, ◌<◌, ◌≤◌}
use mathlib.Core.Path.{◌≡◌, refl, sym, ap, ◌∙◌}
use mathlib.Core.Bool.{not}
use mathlib.Core.Logic.{◌⊎◌, inl, inr, ⊎_elim}
use mathlib.Core.List.{List, [], ◌∷◌}
use native.Mathlib.Omega.{arith}
use lib.ListN.{length, get_or}
use lib.Dec.{ltb}
use borrow.Author.Tests.{ltb-false, lt-ltb, le-ltb, not-false}
use Rattle.wire.specs.Numbers.{ok, refuse, Judged, test, small_outlet, malformed}
use Rattle.wire.specs.Version.{is_zero, is_given, is_orderly, zero_version}
use Rattle.wire.specs.Packet.{Packet, packet, front_size, value_size, length_at, key_at, zero_at, outlet_size, op_read, op_write, op_delete, query, answer_value, answer_no_value, answer_no_key, answer_written, head_of, shape_ok, head_ok, well_formed, packet_ok, Shape, read, write, delete, value, never_written, deleted, no_key, written, Formed, Fit, read_call, read_rows, write_call, write_rows, key_of, value_of, key_part, value_part}
use Rattle.wire.specs.declared.Version.{Version}
use Rattle.wire.specs.declared.Head.{Head}
use Rattle.wire.specs.declared.Stamp.{Stamp}
use Rattle.wire.proofs.Numbers.{Reflects, reflect_eqb, reflect_ltb, reflect_leb, reflect_not, reflect_and, reflect_or, reflect_iff, reflects_cases, reflects_yes, reflects_no, judged, past, pass_guard, stop_guard, ok_inj, pick_true, pick_false}
use Rattle.wire.proofs.Versions.{version_is}

-- ---- versions

pub reflect_zero : (v : Version) → Reflects (is_zero v) (v ≡ zero_version)
reflect_zero v =
    reflect_iff (reflect_and (reflect_eqb _ _) (reflect_eqb _ _))
    (λ h. version_is v zero_version h.0 h.1, λ e. (ap (λ (u : Version). u.session.0) e, ap (λ (u : Version). u.sequence.0) e))

pub reflect_given : (v : Version) → Reflects (is_given v) ((0 < v.session.0) × (0 < v.sequence.0))
reflect_given v = reflect_and (reflect_ltb _ _) (reflect_ltb _ _)

pub reflect_orderly : (v : Version) → Reflects (is_orderly v) (0 < v.sequence.0 → 0 < v.session.0)
reflect_orderly v = reflect_iff (reflect_or (reflect_eqb v.sequence.0 0) (reflect_ltb 0 v.session.0)) (to, from (reflects_cases (reflect_eqb v.sequence.0 0)))
  where
    to : (v.sequence.0 ≡ 0) ⊎ (0 < v.session.0) → 0 < v.sequence.0 → 0 < v.session.0
    to (inl e) h = omega arith
    to (inr l) h = l

    from : ((v.sequence.0 ≡ 0) ⊎ (v.sequence.0 ≡ 0 → ⊥)) → (0 < v.sequence.0 → 0 < v.session.0) → (v.sequence.0 ≡ 0) ⊎ (0 < v.session.0)
    from (inl e) f = inl e
    from (inr n) f = inr (f (omega arith))

-- ---- the table of cases

-- the cases of a head, as the test has them
abbrev Cases : ℕ → ℕ → ℕ → Version → Type 0
Cases answer op n v =
    ((answer ≡ query) × ((op ≡ op_read) × ((n ≡ 0) × (v ≡ zero_version))))
    ⊎ (((answer ≡ query) × ((op ≡ op_write) × (0 < v.sequence.0 → 0 < v.session.0)))
    ⊎ (((answer ≡ query) × ((op ≡ op_delete) × ((n ≡ 0) × (0 < v.sequence.0 → 0 < v.session.0))))
    ⊎ (((answer ≡ answer_value) × ((op ≡ op_read) × ((0 < v.session.0) × (0 < v.sequence.0))))
    ⊎ (((answer ≡ answer_no_value) × ((op ≡ op_read) × ((n ≡ 0) × ((v ≡ zero_version) ⊎ ((0 < v.session.0) × (0 < v.sequence.0))))))
    ⊎ (((answer ≡ answer_no_key) × (((0 < op) × (op ≤ op_delete)) × ((n ≡ 0) × (v ≡ zero_version))))
    ⊎ ((answer ≡ answer_written) × (((op ≡ op_write) ⊎ (op ≡ op_delete)) × ((n ≡ 0) × ((0 < v.session.0) × (0 < v.sequence.0))))))))))

reflect_cases : (answer op n : ℕ) (v : Version) → Reflects (shape_ok answer op n v) (Cases answer op n v)
reflect_cases answer op n v =
    let zero = reflect_zero v in
    let given = reflect_given v in
    let orderly = reflect_orderly v in
    let empty = reflect_eqb n 0 in
    reflect_or (reflect_and (reflect_eqb _ _) (reflect_and (reflect_eqb _ _) (reflect_and empty zero)))
    (reflect_or (reflect_and (reflect_eqb _ _) (reflect_and (reflect_eqb _ _) orderly))
    (reflect_or (reflect_and (reflect_eqb _ _) (reflect_and (reflect_eqb _ _) (reflect_and empty orderly)))
    (reflect_or (reflect_and (reflect_eqb _ _) (reflect_and (reflect_eqb _ _) given))
    (reflect_or (reflect_and (reflect_eqb _ _) (reflect_and (reflect_eqb _ _) (reflect_and empty (reflect_or zero given))))
    (reflect_or (reflect_and (reflect_eqb _ _) (reflect_and (reflect_and (reflect_ltb _ _) (reflect_leb _ _)) (reflect_and empty zero)))
    (reflect_and (reflect_eqb _ _) (reflect_and (reflect_or (reflect_eqb _ _) (reflect_eqb _ _)) (reflect_and empty given))))))))

cases_shape : (answer op n : ℕ) (v : Version) → Cases answer op n v → Shape answer op n v
cases_shape answer op n v (inl h) = read h.0 h.1.0 h.1.1.0 h.1.1.1
cases_shape answer op n v (inr (inl h)) = write h.0 h.1.0 h.1.1
cases_shape answer op n v (inr (inr (inl h))) = delete h.0 h.1.0 h.1.1.0 h.1.1.1
cases_shape answer op n v (inr (inr (inr (inl h)))) = value h.0 h.1.0 h.1.1.0 h.1.1.1
cases_shape answer op n v (inr (inr (inr (inr (inl h))))) =
    ⊎_elim (never_written h.0 h.1.0 h.1.1.0) (λ g. deleted h.0 h.1.0 h.1.1.0 g.0 g.1) h.1.1.1
cases_shape answer op n v (inr (inr (inr (inr (inr (inl h)))))) = no_key h.0 h.1.0.0 h.1.0.1 h.1.1.0 h.1.1.1
cases_shape answer op n v (inr (inr (inr (inr (inr (inr h)))))) = written h.0 h.1.0 h.1.1.0 h.1.1.1.0 h.1.1.1.1

shape_cases : (answer op n : ℕ) (v : Version) → Shape answer op n v → Cases answer op n v
shape_cases answer op n v (read a o e z) = inl (a, (o, (e, z)))
shape_cases answer op n v (write a o f) = inr (inl (a, (o, f)))
shape_cases answer op n v (delete a o e f) = inr (inr (inl (a, (o, (e, f)))))
shape_cases answer op n v (value a o s q) = inr (inr (inr (inl (a, (o, (s, q))))))
shape_cases answer op n v (never_written a o e z) = inr (inr (inr (inr (inl (a, (o, (e, inl z)))))))
shape_cases answer op n v (deleted a o e s q) = inr (inr (inr (inr (inl (a, (o, (e, inr (s, q))))))))
shape_cases answer op n v (no_key a l m e z) = inr (inr (inr (inr (inr (inl (a, ((l, m), (e, z))))))))
shape_cases answer op n v (written a o e s q) = inr (inr (inr (inr (inr (inr (a, (o, (e, (s, q)))))))))

pub reflect_shape : (answer op n : ℕ) (v : Version) → Reflects (shape_ok answer op n v) (Shape answer op n v)
reflect_shape answer op n v = reflect_iff (reflect_cases answer op n v) (cases_shape answer op n v, shape_cases answer op n v)

pub reflect_head : (h : Head) → Reflects (head_ok h) ((h.length ≤ value_size) × Shape h.answer h.op h.length h.version)
unfolding head_ok
reflect_head h = reflect_and (reflect_leb _ _) (reflect_shape _ _ _ _)

-- ---- the bytes of a packet, and a head, a key and a value that together are one

pub reflect_formed : (p : List ℕ) → Reflects (well_formed p) (Formed p)
unfolding well_formed head_of
reflect_formed p =
    reflect_iff
    (reflect_and (reflect_leb front_size (length p))
    (reflect_and (reflect_eqb (length p) (front_size + get_or p length_at 0)) (reflect_and (reflect_eqb (get_or p zero_at 0) 0) (reflect_head (head_of p))))) (
      λ h. record { size = h.1.0; small = h.1.1.1.0; zero = h.1.1.0; shape = h.1.1.1.1 },
      λ f. (let s = f.size in omega arith, (f.size, (f.zero, (f.small, f.shape)))),
    )

pub reflect_fit : (p : Packet) → Reflects (packet_ok p) (Fit p)
unfolding packet_ok
reflect_fit p =
    reflect_iff (reflect_and (reflect_head p.head) (reflect_and (reflect_eqb _ _) (reflect_eqb _ _))) (
      λ h. record { shape = h.0.1; small = h.0.0; key = h.1.0; value = h.1.1 },
      λ f. ((f.small, f.shape), (f.key, f.value)),
    )

-- ---- what well-formedness does not look at: any value of it will do

-- a head with others of from, to, client, request and stamp
abbrev pub renamed : ℕ → ℕ → ℕ → ℕ → Stamp → Head → Head
renamed from to client request n h = record {
  op = h.op;
  answer = h.answer;
  from = from;
  to = to;
  client = client;
  request = request;
  stamp = n;
  version = h.version;
  length = h.length;
}

-- these five fields, and what key and value hold
pub fit_any : (p : Packet) (from to client request : ℕ) (n : Stamp) (k v : List ℕ) → length k ≡ length p.key → length v ≡ length p.value
    → Fit p → Fit (packet (renamed from to client request n p.head) k v)
fit_any p from to client request n k v e g f = record { shape = f.shape; small = f.small; key = e ∙ f.key; value = g ∙ f.value }

-- all bytes but 0, 1 and 16 to 23
pub formed_any : (p q : List ℕ) → length q ≡ length p → ((i : ℕ) → (i < 2) ⊎ ((16 ≤ i) × (i < key_at)) → get_or q i 0 ≡ get_or p i 0) → Formed p → Formed q
unfolding head_of
formed_any p q l same f =
    let size = middle length_at (omega arith) in
    record {
      size = rw size (l ∙ f.size);
      small = rw size f.small;
      zero = middle zero_at (omega arith) ∙ f.zero;
      shape = rw (start 1 (omega arith), start 0 (omega arith), size, version_is _ _ session sequence) f.shape;
    }
  where
    start : (i : ℕ) → i < 2 → get_or q i 0 ≡ get_or p i 0
    start i h = same i (inl h)

    middle : (i : ℕ) → (16 ≤ i) × (i < key_at) → get_or q i 0 ≡ get_or p i 0
    middle i h = same i (inr h)

    session : (head_of q).version.session.0 ≡ (head_of p).version.session.0
    session = omega (arith, middle 16 (omega arith), middle 17 (omega arith))

    sequence : (head_of q).version.sequence.0 ≡ (head_of p).version.sequence.0
    sequence = omega (arith, middle 20 (omega arith), middle 21 (omega arith), middle 22 (omega arith), middle 23 (omega arith))

-- ---- the refusals are document 01's

pub judged_read : (p : List ℕ) → Judged (read_rows p) (read_call p)
unfolding read_call
judged_read p =
    judged (test malformed (not (well_formed p)) ∷ []) (read_rows p) (refl, reflect_not (reflect_formed p), λ _. tt) refl (head_of p)

pub judged_write : (out : List ℕ) (p : Packet) → Judged (write_rows out p) (write_call out p)
unfolding write_call
judged_write out p =
    judged (test small_outlet (ltb (length out) outlet_size) ∷ test malformed (not (packet_ok p)) ∷ []) (write_rows out p)
    (refl, reflect_ltb _ _, λ _. (refl, reflect_not (reflect_fit p), λ _. tt)) refl p

-- ---- the calls: what a call that was done says, and when it is done

pub record ReadView (p : List ℕ) (h : Head) : Type 0 where
  pub formed : Formed p
  pub head : h ≡ head_of p

pub read_view : (p : List ℕ) (h : Head) → read_call p ≡ ok h → ReadView p h
unfolding read_call
read_view p h e =
    let g = past _ _ _ _ e in
    record { formed = (reflect_formed p).0 (not-false (well_formed p) g.0); head = sym (ok_inj g.1) }

pub read_done : (p : List ℕ) → Formed p → read_call p ≡ ok (head_of p)
unfolding read_call
read_done p f = pass_guard _ _ _ (reflects_no (reflect_not (reflect_formed p)) (λ n. n f))

pub read_refused : (p : List ℕ) → (Formed p → ⊥) → read_call p ≡ refuse malformed
unfolding read_call
read_refused p n = stop_guard _ _ _ (reflects_yes (reflect_not (reflect_formed p)) n)

pub record WriteView (out : List ℕ) (p q : Packet) : Type 0 where
  pub room : outlet_size ≤ length out
  pub fit : Fit p
  pub is : q ≡ p

pub write_view : (out : List ℕ) (p q : Packet) → write_call out p ≡ ok q → WriteView out p q
unfolding write_call
write_view out p q e =
    let g = past _ _ _ _ e in
    let k = past _ _ _ _ g.1 in
    record {
      room = ltb-false _ _ g.0;
      fit = (reflect_fit p).0 (not-false (packet_ok p) k.0);
      is = sym (ok_inj k.1);
    }

pub write_done : (out : List ℕ) (p : Packet) → outlet_size ≤ length out → Fit p → write_call out p ≡ ok p
unfolding write_call
write_done out p h f =
    pass_guard _ _ _ (le-ltb _ _ h) ∙ pass_guard _ _ _ (reflects_no (reflect_not (reflect_fit p)) (λ n. n f))

pub write_small : (out : List ℕ) (p : Packet) → length out < outlet_size → write_call out p ≡ refuse small_outlet
unfolding write_call
write_small out p h = stop_guard _ _ _ (lt-ltb _ _ h)

pub write_refused : (out : List ℕ) (p : Packet) → outlet_size ≤ length out → (Fit p → ⊥) → write_call out p ≡ refuse malformed
unfolding write_call
write_refused out p h n = pass_guard _ _ _ (le-ltb _ _ h) ∙ stop_guard _ _ _ (reflects_yes (reflect_not (reflect_fit p)) n)

-- the parts of a packet, and of what is none
pub key_part_lem : (p : List ℕ) → Formed p → key_part p ≡ key_of p
unfolding key_part
key_part_lem p f = pick_true _ _ _ (reflects_yes (reflect_formed p) f)

pub value_part_lem : (p : List ℕ) → Formed p → value_part p ≡ value_of p
unfolding value_part
value_part_lem p f = pick_true _ _ _ (reflects_yes (reflect_formed p) f)

pub no_parts : (p : List ℕ) → (Formed p → ⊥) → (key_part p ≡ []) × (value_part p ≡ [])
unfolding key_part value_part
no_parts p n =
    let e = reflects_no (reflect_formed p) n in
    (pick_false _ _ _ e, pick_false _ _ _ e)
