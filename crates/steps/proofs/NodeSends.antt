-- What a node sends is a packet, and what it writes keeps the table's rules: well-formed, in range, made of bytes.
use Prim.Native.Nat.{ℕ, ◌^◌, ◌<◌, ◌≤◌}
use mathlib.Core.Path.{◌≡◌, refl, sym, ap, ◌∙◌, subst}
use mathlib.Core.List.{List, []}
use mathlib.Core.Logic.{inl, inr}
use native.Mathlib.Omega.{arith}
use native.Mathlib.Decide.{ℕ_discrete}
use lib.ListN.{length, get_or, set}
use lib.Seq.{get_or-set_same, get_or-set_other}
use Rattle.be.specs.Be.{Bytes}
use Rattle.be.proofs.Laws.{bytes_nil}
use Rattle.wire.specs.Numbers.{ok}
use Rattle.wire.specs.Version.{zero_version}
use Rattle.wire.specs.Packet.{Packet, packet_of, Shape, read as is_read, write as is_write, delete as is_delete, value as is_value, never_written as is_never, deleted as is_deleted, no_key as is_no_key, written as is_written, value_size, op_read, op_write, op_delete, query, answer_no_key, answer_written}
use Rattle.wire.specs.declared.Session.{Session}
use Rattle.wire.specs.declared.Version.{Version}
use Rattle.store.specs.Table.{Slot, Table, table_of, TableRules, free_slot, Used, never_written as used_never, has_value as used_value, was_deleted as used_deleted, Write, keep, set_row, write_bytes, write_table}
use Rattle.store.specs.Held.{Held, holds, held, held_version, version_at}
use Rattle.store.proofs.Slot.{SlotFits, SlotBytes}
use Rattle.store.proofs.Rows.{WriteFits, table_write}
use Rattle.store.proofs.Rules.{SlotRules, slot_used, OfWrite, rules_write, bytes_write, length_table}
use Rattle.steps.specs.Node.{Sent, reply, stored, node_step, node_call, Alters}
use Rattle.steps.proofs.Node.{found_stands, NodeCalled, node_called}
use Rattle.steps.proofs.NodeView.{Accepted, Tells, no_key as tells_no_key, has_value as tells_value, never_written as tells_never, was_deleted as tells_deleted, Stores, NodeCase, answered, nokey, took, gave, node_view, stored_valued, stored_deleted}
use Rattle.steps.proofs.NodeSound.{Sound, sound_packet, SoundTable, sound_table, SoundSlot, sound_slot}

-- ---- the shapes of what is sent

op_some : {a o n : ℕ} {v : Version} → Shape a o n v → (1 ≤ o) × (o ≤ 3)
op_some (is_read a o n z) = (omega arith, omega arith)
op_some (is_write a o f) = (omega arith, omega arith)
op_some (is_delete a o n f) = (omega arith, omega arith)
op_some (is_value a o s q) = (omega arith, omega arith)
op_some (is_never a o n z) = (omega arith, omega arith)
op_some (is_deleted a o n s q) = (omega arith, omega arith)
op_some (is_no_key a l m n z) = (l, m)
op_some (is_written a (inl o) n s q) = (omega arith, omega arith)
op_some (is_written a (inr o) n s q) = (omega arith, omega arith)

-- a query that is no read is a write, or a delete, which has no value
pub data Altering (o n : ℕ) : Type 0 where
  writes : o ≡ op_write → Altering o n
  deletes : o ≡ op_delete → n ≡ 0 → Altering o n

pub altering : {a o n : ℕ} {v : Version} → a ≡ query → (o ≡ op_read → ⊥) → Shape a o n v → Altering o n
altering q r (is_read a o n z) = absurd (r o)
altering q r (is_write a o f) = writes o
altering q r (is_delete a o n f) = deletes o n
altering q r (is_value a o s z) = absurd (r o)
altering q r (is_never a o n z) = absurd (r o)
altering q r (is_deleted a o n s z) = absurd (r o)
altering q r (is_no_key a l m n z) = absurd (omega arith)
altering q r (is_written a o n s z) = absurd (omega arith)

-- it keeps its shape under every version that has a session where it has a sequence
pub altered : {o n : ℕ} {v : Version} → (0 < v.sequence.0 → 0 < v.session.0) → Altering o n → Shape query o n v
altered h (writes o) = is_write refl o h
altered h (deletes o n) = is_delete refl o n h

-- ---- what is sent is a packet

sound_reply : (id : ℕ) (p : Packet) (answer : ℕ) (v : Version) (value : List ℕ) → id < 256 ^ 2 → Sound p → answer ≤ 4
    → v.session.0 < 256 ^ 2 → v.sequence.0 < 256 ^ 4 → Bytes value → length value ≤ value_size → Shape answer p.head.op (length value) v
    → Sound (reply id p answer v value)
unfolding reply
sound_reply id p answer v value hid s ha hs hq b n shape =
    let g = s.ranges in
    record {
      fit = record { shape = shape; small = n; key = s.fit.key; value = refl };
      ranges = record {
        op = g.op;
        answer = omega arith;
        from = hid;
        to = omega arith;
        client = g.client;
        request = g.request;
        stamp = g.stamp;
        session = hs;
        sequence = hq;
        length = omega arith;
      };
      key = s.key;
      value = b;
    }

module _ (t : Table) (p : Packet) (g : SoundTable t) (s : Sound p) where
  -- no key: answer 3, version 0.0
  reply_nokey : Sound (reply t.id p answer_no_key zero_version [])
  reply_nokey =
      let o = op_some s.fit.shape in
      sound_reply t.id p answer_no_key zero_version [] g.id s (omega arith) (omega arith) (omega arith) bytes_nil (omega arith) (is_no_key refl o.0 o.1 refl refl)

  -- an answer under the version of the slot held
  reply_slot : (c : Slot) → held p.key t.slots ≡ holds c → (answer : ℕ) (value : List ℕ) → answer ≤ 4 → Bytes value → length value ≤ value_size
      → Shape answer p.head.op (length value) c.version → Sound (reply t.id p answer (version_at p.key t.slots) value)
  reply_slot c h answer value a b n shape =
      let f = (sound_slot t p.key c g h).fits in
      subst (λ (v : Version). Sound (reply t.id p answer v value)) (sym (ap held_version h))
      (sound_reply t.id p answer c.version value g.id s a f.session f.sequence b n shape)

  -- an answer to a read
  reply_read : (answer : ℕ) (value : List ℕ) → p.head.op ≡ op_read → Tells (held p.key t.slots) answer value → Sound (reply t.id p answer (version_at p.key t.slots) value)
  reply_read answer value o (tells_no_key h a n) =
      subst (λ (v : Version). Sound (reply t.id p answer v value)) (sym (ap held_version h))
      (subst (λ (l : List ℕ). Sound (reply t.id p answer zero_version l)) (sym n) (subst (λ (m : ℕ). Sound (reply t.id p m zero_version [])) (sym a) reply_nokey))
  reply_read answer value o (tells_value c h e v w a) =
      let k = sound_slot t p.key c g h in
      reply_slot c h answer value (omega arith) (subst Bytes (sym v) k.bytes.value) (omega (arith, ap length v, k.fits.value)) (shape k.used)
    where
      shape : Used c.state (length c.value) c.version → Shape answer p.head.op (length value) c.version
      shape (used_never z n y) = absurd (omega arith)
      shape (used_value z y q) = is_value a o y q
      shape (used_deleted z n y q) = absurd (omega arith)
  reply_read answer value o (tells_never c h v d w a n) =
      let k = sound_slot t p.key c g h in
      reply_slot c h answer value (omega arith) (subst Bytes (sym n) bytes_nil) (omega (arith, ap length n)) (shape k.used)
    where
      shape : Used c.state (length c.value) c.version → Shape answer p.head.op (length value) c.version
      shape (used_never z m y) = is_never a o (ap length n) y
      shape (used_value z y q) = absurd (v z)
      shape (used_deleted z m y q) = absurd (d z)
  reply_read answer value o (tells_deleted c h d w a n) =
      let k = sound_slot t p.key c g h in
      reply_slot c h answer value (omega arith) (subst Bytes (sym n) bytes_nil) (omega (arith, ap length n)) (shape k.used)
    where
      shape : Used c.state (length c.value) c.version → Shape answer p.head.op (length value) c.version
      shape (used_never z m y) = absurd (omega arith)
      shape (used_value z y q) = absurd (omega arith)
      shape (used_deleted z m y q) = is_deleted a o (ap length n) y q

-- ---- what is stored keeps the rules

sound_stored : (p : Packet) (v : Version) → Sound p → Altering p.head.op (length p.value) → 0 < v.session.0 → v.session.0 < 256 ^ 2
    → 0 < v.sequence.0 → v.sequence.0 < 256 ^ 4 → SoundSlot (stored p v)
unfolding stored
sound_stored p v s a hs bs hq bq =
    let f = s.fit in
    record {
      used = used a;
      fits = record { key = f.key; value = omega arith; session = bs; sequence = bq };
      bytes = record { key = s.key; state = small a; value = s.value };
    }
  where
    used : Altering p.head.op (length p.value) → Used (stored p v).state (length p.value) v
    used (writes o) = used_value (stored_valued p v o) hs hq
    used (deletes o n) = used_deleted (stored_deleted p v o) n hs hq

    small : Altering p.head.op (length p.value) → (stored p v).state < 256
    small (writes o) = omega (arith, stored_valued p v o)
    small (deletes o n) = omega (arith, stored_deleted p v o)

-- what is written: nothing, or one slot of the table that keeps the rules
pub data Writes (t : Table) (w : Write) : Type 0 where
  none : w ≡ keep → Writes t w
  one : (i : ℕ) (s : Slot) → w ≡ set_row i s → i < length t.slots → SoundSlot s → Writes t w

-- so the table stays sound
pub sound_write : (t : Table) (w : Write) → SoundTable t → Writes t w → SoundTable (write_table w t)
sound_write t w g (none e) = subst (λ (k : Write). SoundTable (write_table k t)) (sym e) g
sound_write t w g (one i s e h f) =
    subst (λ (k : Write). SoundTable (write_table k t)) (sym e)
    (record {
      id = g.id;
      rules = all SlotRules g.rules (slot_used f.fits.key f.fits.value f.used);
      fits = all SlotFits g.fits f.fits;
      bytes = all SlotBytes g.bytes f.bytes;
    })
  where
    all : (P : Slot → Type 0) → ((j : ℕ) → P (get_or t.slots j free_slot)) → P s → (j : ℕ) → P (get_or (set t.slots i s) j free_slot)
    all P old new j = go (ℕ_discrete j i)
      where
        go : Dec (j ≡ i) → P (get_or (set t.slots i s) j free_slot)
        go (yes d) = rw (d, get_or-set_same t.slots i s free_slot h) new
        go (no d) = rw (get_or-set_other t.slots i j s free_slot d) (old j)

pub record Sends (t : Table) (x : Sent) : Type 0 where
  pub packet : Sound x.packet
  pub writes : Writes t x.write

module _ (t : Table) (p : Packet) (x : Sent) (g : SoundTable t) (s : Sound p) where
  -- a write or delete that is stored, under a version of the packet's session
  sends_stored : (before : Slot) (v : Version) → Accepted t p → Alters p → Stores t p x before v → v.session.0 ≡ p.head.version.session.0
      → 0 < v.sequence.0 → v.sequence.0 < 256 ^ 4 → Sends t x
  sends_stored before v a r c e some fits =
      record {
        packet = subst Sound (sym c.sends) (sound_reply t.id p query v p.value g.id s (omega arith) (omega arith) fits s.value (omega arith) (altered (λ _. session) kind));
        writes = one c.place (stored p v) c.sets (found_stands _ _ _ c.found).below (sound_stored p v s kind session (omega arith) some fits);
      }
    where
      kind : Altering p.head.op (length p.value)
      kind = subst (Altering p.head.op) (sym s.fit.value) (altering a.asks r s.fit.shape)

      session : 0 < v.session.0
      session = let n = c.session in omega arith

  pub node_sends : node_step t p ≡ ok x → Sends t x
  node_sends e = go (node_view t p x e).case
    where
      a : Accepted t p
      a = (node_view t p x e).accepted

      go : NodeCase t p x → Sends t x
      go (answered c) = record { packet = subst Sound (sym c.sends) (reply_read t p g s c.answer c.value c.read c.tells); writes = none c.keeps }
      go (nokey c) = record { packet = subst Sound (sym c.sends) (reply_nokey t p g s); writes = none c.keeps }
      go (took c) = sends_stored c.before p.head.version a c.numbered.0 c.stores refl (let n = c.numbered.1 in omega arith) s.ranges.sequence
      go (gave c) =
          let q = (sound_slot t p.key c.before g c.stores.holding).fits.sequence in
          sends_stored c.before c.version a c.unnumbered.0 c.stores (ap (λ (z : Session). z.0) c.session) c.some
          (let h = c.fits (omega arith) in omega arith)

-- no node makes answer 4
pub never_acks : (t : Table) (p : Packet) (x : Sent) → node_step t p ≡ ok x → x.packet.head.answer ≡ answer_written → ⊥
unfolding reply
never_acks t p x e w = go (node_view t p x e).case
  where
    told : {h : Held} {answer : ℕ} {value : List ℕ} → Tells h answer value → answer ≡ answer_written → ⊥
    told (tells_no_key h a n) w = omega arith
    told (tells_value c h v z k a) w = omega arith
    told (tells_never c h v d k a n) w = omega arith
    told (tells_deleted c h d k a n) w = omega arith

    go : NodeCase t p x → ⊥
    go (answered c) = told c.tells (sym (ap (λ (q : Packet). q.head.answer) c.sends) ∙ w)
    go (nokey c) = omega (arith, ap (λ (q : Packet). q.head.answer) c.sends)
    go (took c) = omega (arith, ap (λ (q : Packet). q.head.answer) c.stores.sends)
    go (gave c) = omega (arith, ap (λ (q : Packet). q.head.answer) c.stores.sends)

-- ---- over bytes

-- what a call that is done leaves: a table that keeps the rules, and a packet
pub record NodeLeaves (t : List ℕ) (x : Sent) : Type 0 where
  pub packet : Sound x.packet
  pub rules : TableRules (write_bytes x.write t)
  pub bytes : Bytes (write_bytes x.write t)
  pub decoded : table_of (write_bytes x.write t) ≡ write_table x.write (table_of t)

pub node_leaves : (t p out : List ℕ) (x : Sent) → Bytes t → Bytes p → node_call t p out ≡ ok x → NodeLeaves t x
node_leaves t p out x bt bp e =
    record {
      packet = d.packet;
      rules = rules_write x.write t c.rules fits (of SlotRules (λ s f. slot_used f.fits.key f.fits.value f.used));
      bytes = bytes_write x.write t bt fits (of SlotBytes (λ s f. f.bytes));
      decoded = table_write x.write t c.rules fits;
    }
  where
    c : NodeCalled t p out x
    c = node_called t p out x e

    d : Sends (table_of t) x
    d = node_sends (table_of t) (packet_of p) x (sound_table t bt c.rules) (sound_packet p bp c.formed) c.step

    fits : WriteFits x.write t
    fits = go d.writes
      where
        go : Writes (table_of t) x.write → WriteFits x.write t
        go (none k) = subst (λ (w : Write). WriteFits w t) (sym k) tt
        go (one i s k h f) = subst (λ (w : Write). WriteFits w t) (sym k) (omega (arith, length_table t), f.fits)

    of : (P : Slot → Type 0) → ((s : Slot) → SoundSlot s → P s) → OfWrite P x.write
    of P f = go d.writes
      where
        go : Writes (table_of t) x.write → OfWrite P x.write
        go (none k) = subst (OfWrite P) (sym k) tt
        go (one i s k h q) = subst (OfWrite P) (sym k) (f s q)
