-- What a node takes is read back, what it did not take is as before, and a refusal changes nothing.
use Prim.Native.Nat.{ℕ, ◌≤◌}
use mathlib.Core.Path.{◌≡◌, refl, sym, ap, ◌∙◌}
use mathlib.Core.List.{List, []}
use mathlib.Core.Bool.{true}
use mathlib.Core.Logic.{inl, inr}
use native.Mathlib.Omega.{arith}
use lib.ListN.{length, get_or, set, length-set}
use lib.Seq.{get_or-set_other}
use Rattle.wire.specs.Numbers.{ok, below_fence, Applies}
use Rattle.be.specs.Be.{Bytes}
use Rattle.wire.specs.Version.{zero_version}
use Rattle.wire.specs.Packet.{Packet, packet_of, head_of, key_of, value_of, op_read, op_write, op_delete, query, answer_value, answer_no_value, answer_no_key}
use Rattle.wire.specs.declared.Version.{Version}
use Rattle.wire.proofs.Numbers.{pick_case, reflects_yes, judged_done}
use Rattle.store.specs.Table.{Slot, Table, table_of, table_ok, has, find, free_slot, free, valued, Write, keep, set_row, write_bytes, write_table}
use Rattle.store.specs.Held.{Held, missing, holds, held, wrote, gone, held_version, held_content, version_at, content_at}
use Rattle.std.specs.Prelude.{Option, Some, None}
use Rattle.store.proofs.Rules.{reflect_table}
use Rattle.store.proofs.Find.{find_at, reflect_has, has_other, first_skip, held_set, held_other}
use Rattle.steps.specs.Node.{Sent, reply, stored, absent, answered as answer_of, taken, at_slot, node_step, node_call, node_rows, Alters}
use Rattle.steps.proofs.Node.{found_stands, node_judged, node_called}
use Rattle.steps.proofs.NodeView.{Tells, no_key, has_value, never_written, was_deleted, Stores, NodeCase, answered, nokey, took, gave, node_view, stored_valued, stored_deleted, content_written, content_deleted}
use Rattle.steps.proofs.NodeDone.{holds_inj, holds_missing}
use Rattle.steps.proofs.NodeSends.{node_leaves}

-- ---- over slots

-- a slot that a write or delete leaves is used, and has its key
stored_used : (p : Packet) (v : Version) → (stored p v).state ≡ free → ⊥
unfolding stored
stored_used p v = pick_case (λ (n : ℕ). n ≡ free → ⊥) _ _ _ (λ _ e. omega arith) (λ _ e. omega arith)

stored_key : (p : Packet) (v : Version) → (stored p v).key ≡ p.key
unfolding stored
stored_key p v = refl

module _ {t : Table} {p : Packet} {x : Sent} {before : Slot} {v : Version} (c : Stores t p x before v) where
  slots_after : (write_table x.write t).slots ≡ set t.slots c.place (stored p v)
  slots_after = ap (λ (w : Write). (write_table w t).slots) c.sets

  -- the key's slot is the one stored
  pub held_stored : held p.key (write_table x.write t).slots ≡ holds (stored p v)
  held_stored =
      ap (held p.key) slots_after
      ∙ held_set p.key t.slots c.place (stored p v) c.found (reflects_yes (reflect_has p.key (stored p v)) (stored_used p v, stored_key p v))

  -- so its version is the one that the packet goes on with, and its content what the packet carries
  pub version_stored : version_at p.key (write_table x.write t).slots ≡ v
  unfolding stored
  version_stored = ap held_version held_stored

  pub content_stored : (p.head.op ≡ op_write → content_at p.key (write_table x.write t).slots ≡ wrote p.value)
      × (p.head.op ≡ op_delete → content_at p.key (write_table x.write t).slots ≡ gone)
  content_stored = (λ o. ap held_content held_stored ∙ content_written p v o, λ o. ap held_content held_stored ∙ content_deleted p v o)

  -- every other key's slot stays, and its place
  pub held_others : (k : List ℕ) → (k ≡ p.key → ⊥) → held k (write_table x.write t).slots ≡ held k t.slots
  held_others k n = ap (held k) slots_after ∙ held_other p.key k t.slots c.place (stored p v) c.found (stored_key p v) n

  find_others : (k : List ℕ) → (k ≡ p.key → ⊥) → find k (write_table x.write t).slots ≡ find k t.slots
  unfolding find
  find_others k n =
      let old = ((reflect_has p.key (get_or t.slots c.place free_slot)).0 (find_at p.key t.slots c.place c.found).passes).1 in
      ap (find k) slots_after
      ∙ first_skip (has k) 0 t.slots c.place (stored p v) (has_other k _ (λ q. n (sym q ∙ old))) (has_other k _ (λ q. n (sym q ∙ stored_key p v)))

-- the same of every step that is done, and the table has as many slots as before
pub held_apart : (t : Table) (p : Packet) (x : Sent) → node_step t p ≡ ok x → (k : List ℕ) → (k ≡ p.key → ⊥) → held k (write_table x.write t).slots ≡ held k t.slots
held_apart t p x e k n = go (node_view t p x e).case
  where
    kept : x.write ≡ keep → held k (write_table x.write t).slots ≡ held k t.slots
    kept h = ap (λ (w : Write). held k (write_table w t).slots) h

    go : NodeCase t p x → held k (write_table x.write t).slots ≡ held k t.slots
    go (answered c) = kept c.keeps
    go (nokey c) = kept c.keeps
    go (took c) = held_others c.stores k n
    go (gave c) = held_others c.stores k n

pub length_after : (w : Write) (t : Table) → length (write_table w t).slots ≡ length t.slots
length_after keep t = refl
length_after (set_row i s) t = length-set t.slots i s

-- a step looks at a table's fence and id, and at the slot that has the key
module _ (t u : Table) (q : Packet) (fence : t.fence ≡ u.fence) (id : t.id ≡ u.id) where
  step_same : (f : Option ℕ) → ((i : ℕ) → f ≡ Some i → get_or t.slots i free_slot ≡ get_or u.slots i free_slot) → find q.key t.slots ≡ f → find q.key u.slots ≡ f
      → node_step t q ≡ node_step u q
  unfolding node_step absent at_slot answer_of taken
  step_same (Some i) same e d = rw (e, d, same i refl, fence, id)
  step_same None same e d = rw (e, d, fence, id)

-- what a node does with every other key stays
pub step_others : {t : Table} {p : Packet} {x : Sent} {before : Slot} {v : Version} → Stores t p x before v → (q : Packet) → (q.key ≡ p.key → ⊥)
    → node_step (write_table x.write t) q ≡ node_step t q
step_others {t} {p} {x} {before} {v} c q n = step_same (write_table x.write t) t q refl refl (find q.key t.slots) same (find_others c q.key n) refl
  where
    same : (i : ℕ) → find q.key t.slots ≡ Some i → get_or (write_table x.write t).slots i free_slot ≡ get_or t.slots i free_slot
    same i e =
        ap (λ (l : List Slot). get_or l i free_slot) (slots_after c)
        ∙ get_or-set_other t.slots c.place i (stored p v) free_slot
        (λ d. n (sym (found_stands _ _ _ e).key ∙ (ap (λ (j : ℕ). (get_or t.slots j free_slot).key) d ∙ (found_stands _ _ _ c.found).key)))

-- ---- reads

-- a call of a read that is done: what it answers
pub record Reads (t q out : List ℕ) (answer : ℕ) (v : Version) (value : List ℕ) : Type 0 where
  pub sent : Sent
  pub done : node_call t q out ≡ ok sent
  pub keeps : sent.write ≡ keep
  pub answers : sent.packet.head.answer ≡ answer
  pub under : sent.packet.head.version ≡ v
  pub shows : sent.packet.value ≡ value

-- none of the rows 1 to 7 applies
abbrev pub Admitted : List ℕ → List ℕ → List ℕ → Type 0
Admitted t q out = (n : ℕ) → n ≤ below_fence → Applies (node_rows t q out) n → ⊥

module _ (t q out : List ℕ) (o : (head_of q).op ≡ op_read) (h : Admitted t q out) where
  -- a read is answered where none of them does
  read_done : (x : Sent) × (node_call t q out ≡ ok x)
  unfolding packet_of
  read_done = (judged_done (node_rows t q out) _ (node_judged t q out)).1 none
    where
      none : (n : ℕ) → Applies (node_rows t q out) n → ⊥
      none n (inl a) = h n (let e = a.0 in omega arith) (inl a)
      none n (inr (inl a)) = h n (let e = a.0 in omega arith) (inr (inl a))
      none n (inr (inr (inl a))) = h n (let e = a.0 in omega arith) (inr (inr (inl a)))
      none n (inr (inr (inr (inl a)))) = h n (let e = a.0 in omega arith) (inr (inr (inr (inl a))))
      none n (inr (inr (inr (inr (inl a))))) = h n (let e = a.0 in omega arith) (inr (inr (inr (inr (inl a)))))
      none n (inr (inr (inr (inr (inr (inl a)))))) = a.1.1.0 o
      none n (inr (inr (inr (inr (inr (inr (inl a))))))) = a.1.1.0.0 o
      none n (inr (inr (inr (inr (inr (inr (inr (inl a)))))))) = a.1.1.0.0 o
      none n (inr (inr (inr (inr (inr (inr (inr (inr (inl a))))))))) = a.1.1.0.0 o
      none n (inr (inr (inr (inr (inr (inr (inr (inr (inr (inl a)))))))))) = a.1.1.0.0 o
      none n (inr (inr (inr (inr (inr (inr (inr (inr (inr (inr x10)))))))))) = elim x10 [ ]

  -- with what the table holds of the key
  pub read_tells : (answer : ℕ) × (value : List ℕ) × Tells (held (key_of q) (table_of t).slots) answer value × Reads t q out answer (version_at (key_of q) (table_of t).slots) value
  unfolding packet_of reply
  read_tells = go (node_view (table_of t) (packet_of q) d.0 (node_called t q out d.0 d.1).step).case
    where
      d : (x : Sent) × (node_call t q out ≡ ok x)
      d = read_done

      go : NodeCase (table_of t) (packet_of q) d.0
          → (answer : ℕ) × (value : List ℕ) × Tells (held (key_of q) (table_of t).slots) answer value × Reads t q out answer (version_at (key_of q) (table_of t).slots) value
      go (answered c) = (
        c.answer,
        c.value,
        c.tells,
        record {
          sent = d.0;
          done = d.1;
          keeps = c.keeps;
          answers = ap (λ (p : Packet). p.head.answer) c.sends;
          under = ap (λ (p : Packet). p.head.version) c.sends;
          shows = ap (λ (p : Packet). p.value) c.sends;
        },
      )
      go (nokey c) = absurd (c.unnumbered.0 o)
      go (took c) = absurd (c.numbered.0 o)
      go (gave c) = absurd (c.unnumbered.0 o)

-- the same, said otherwise
reads_as : {t q out : List ℕ} {answer a : ℕ} {v w : Version} {value l : List ℕ} → answer ≡ a → v ≡ w → value ≡ l → Reads t q out answer v value → Reads t q out a w l
reads_as e f g c = record {
  sent = c.sent;
  done = c.done;
  keeps = c.keeps;
  answers = c.answers ∙ e;
  under = c.under ∙ f;
  shows = c.shows ∙ g;
}

-- what is told of a slot that has a value, and of one that has none
tells_value : {h : Held} {answer : ℕ} {value : List ℕ} (s : Slot) → h ≡ holds s → s.state ≡ valued → Tells h answer value → (answer ≡ answer_value) × (value ≡ s.value)
tells_value s e z (no_key m a n) = absurd (holds_missing (sym e ∙ m))
tells_value s e z (has_value c m y w k a) = (a, w ∙ ap (λ (b : Slot). b.value) (holds_inj (sym m ∙ e)))
tells_value s e z (never_written c m v d k a n) = absurd (v (ap (λ (b : Slot). b.state) (holds_inj (sym m ∙ e)) ∙ z))
tells_value s e z (was_deleted c m d k a n) = absurd (omega (arith, ap (λ (b : Slot). b.state) (holds_inj (sym m ∙ e))))

tells_none : {h : Held} {answer : ℕ} {value : List ℕ} (s : Slot) → h ≡ holds s → (s.state ≡ valued → ⊥) → Tells h answer value → (answer ≡ answer_no_value) × (value ≡ [])
tells_none s e z (no_key m a n) = absurd (holds_missing (sym e ∙ m))
tells_none s e z (has_value c m y w k a) = absurd (z (ap (λ (b : Slot). b.state) (holds_inj (sym e ∙ m)) ∙ y))
tells_none s e z (never_written c m v d k a n) = (a, n)
tells_none s e z (was_deleted c m d k a n) = (a, n)

tells_missing : {h : Held} {answer : ℕ} {value : List ℕ} → h ≡ missing → Tells h answer value → (answer ≡ answer_no_key) × (value ≡ [])
tells_missing e (no_key m a n) = (a, n)
tells_missing e (has_value c m y w k a) = absurd (holds_missing (sym m ∙ e))
tells_missing e (never_written c m v d k a n) = absurd (holds_missing (sym m ∙ e))
tells_missing e (was_deleted c m d k a n) = absurd (holds_missing (sym m ∙ e))

module _ (t q out : List ℕ) (o : (head_of q).op ≡ op_read) (h : Admitted t q out) where
  -- a written key: answer 1 with its value; a key without a value: answer 2; a missing key: answer 3
  pub read_value : (s : Slot) → held (key_of q) (table_of t).slots ≡ holds s → s.state ≡ valued → Reads t q out answer_value s.version s.value
  read_value s e z =
      let r = read_tells t q out o h in
      let g = tells_value s e z r.2 in
      reads_as g.0 (ap held_version e) g.1 r.3

  pub read_none : (s : Slot) → held (key_of q) (table_of t).slots ≡ holds s → (s.state ≡ valued → ⊥) → Reads t q out answer_no_value s.version []
  read_none s e z =
      let r = read_tells t q out o h in
      let g = tells_none s e z r.2 in
      reads_as g.0 (ap held_version e) g.1 r.3

  pub read_missing : held (key_of q) (table_of t).slots ≡ missing → Reads t q out answer_no_key zero_version []
  read_missing e =
      let r = read_tells t q out o h in
      let g = tells_missing e r.2 in
      reads_as g.0 (ap held_version e) g.1 r.3

-- ---- what is taken is read back

-- a write or delete that a node took: it goes on as a query
pub record Takes (t p out : List ℕ) (x : Sent) : Type 0 where
  pub bytes : Bytes t
  pub packet : Bytes p
  pub done : node_call t p out ≡ ok x
  pub alters : Alters (packet_of p)
  pub asks : x.packet.head.answer ≡ query

module _ (t p out : List ℕ) (x : Sent) (k : Takes t p out x) where
  -- it is stored under the version that it goes on with
  taken_stores : (before : Slot) × (v : Version) × Stores (table_of t) (packet_of p) x before v × (x.packet.head.version ≡ v)
  unfolding reply
  taken_stores = go (node_view (table_of t) (packet_of p) x (node_called t p out x k.done).step).case
    where
      go : NodeCase (table_of t) (packet_of p) x → (before : Slot) × (v : Version) × Stores (table_of t) (packet_of p) x before v × (x.packet.head.version ≡ v)
      go (answered c) = absurd (k.alters c.read)
      go (nokey c) = let a = k.asks in absurd (omega (arith, ap (λ (q : Packet). q.head.answer) c.sends))
      go (took c) = (c.before, (packet_of p).head.version, c.stores, ap (λ (q : Packet). q.head.version) c.stores.sends)
      go (gave c) = (c.before, c.version, c.stores, ap (λ (q : Packet). q.head.version) c.stores.sends)

  -- the slots of the table afterwards
  slots_left : (table_of (write_bytes x.write t)).slots ≡ (write_table x.write (table_of t)).slots
  slots_left = ap (λ (u : Table). u.slots) (node_leaves t p out x k.bytes k.packet k.done).decoded

  held_left : held (key_of p) (table_of (write_bytes x.write t)).slots ≡ holds (stored (packet_of p) x.packet.head.version)
  unfolding packet_of
  held_left =
      let c = taken_stores in
      ap (held (key_of p)) slots_left ∙ (held_stored c.2 ∙ ap (λ (v : Version). holds (stored (packet_of p) v)) (sym c.3))

  module _ (q out' : List ℕ) (o : (head_of q).op ≡ op_read) (e : key_of q ≡ key_of p) (h : Admitted (write_bytes x.write t) q out') where
    held_asked : held (key_of q) (table_of (write_bytes x.write t)).slots ≡ holds (stored (packet_of p) x.packet.head.version)
    held_asked = ap (λ (i : List ℕ). held i (table_of (write_bytes x.write t)).slots) e ∙ held_left

    -- after a write: answer 1 with its value and its version
    pub written_read : (head_of p).op ≡ op_write → Reads (write_bytes x.write t) q out' answer_value x.packet.head.version (value_of p)
    unfolding stored packet_of
    written_read w = read_value (write_bytes x.write t) q out' o h (stored (packet_of p) x.packet.head.version) held_asked (stored_valued (packet_of p) x.packet.head.version w)

    -- after a delete: answer 2 with its version
    pub deleted_read : (head_of p).op ≡ op_delete → Reads (write_bytes x.write t) q out' answer_no_value x.packet.head.version []
    unfolding stored packet_of
    deleted_read w =
        read_none (write_bytes x.write t) q out' o h (stored (packet_of p) x.packet.head.version) held_asked
        (λ z. omega (arith, stored_deleted (packet_of p) x.packet.head.version w))

  -- every other key's answer stays, to a read and to a write
  pub others_stay : (q out' : List ℕ) → (key_of q ≡ key_of p → ⊥) → node_call (write_bytes x.write t) q out' ≡ node_call t q out'
  unfolding node_call packet_of
  others_stay q out' n =
      let l = node_leaves t p out x k.bytes k.packet k.done in
      let before : table_ok t ≡ true = reflects_yes (reflect_table t) (node_called t p out x k.done).rules in
      let after : table_ok (write_bytes x.write t) ≡ true = reflects_yes (reflect_table (write_bytes x.write t)) l.rules in
      let step : node_step (table_of (write_bytes x.write t)) (packet_of q) ≡ node_step (table_of t) (packet_of q) =
      ap (λ (u : Table). node_step u (packet_of q)) l.decoded ∙ step_others taken_stores.2 (packet_of q) n in
      rw (before, after, step)
