-- What a node reads of the table, what a reply sends and stores, and what the promise says of the outcome.
use Prim.Native.Nat.{ℕ, ◌<◌, ◌≤◌}
use mathlib.Core.Path.{◌≡◌, refl, sym, ap, ◌∙◌, subst}
use mathlib.Core.Bool.{true, false, not}
use mathlib.Core.List.{List, []}
use native.Mathlib.Omega.{arith}
use native.Mathlib.Decide.{dec_lt}
use lib.ListN.{length, get_or, get_or-eq_default, length-take, length-drop}
use lib.Dec.{eqb}
use borrow.Author.Tests.{lt-ltb, le-ltb}
use Rattle.be.specs.Be.{Bytes}
use Rattle.wire.specs.Numbers.{Out, refuse, ok, number_of, left, pick, broken, small_outlet, malformed}
use Rattle.wire.specs.Packet.{packet, packet_of, key_of, value_of, well_formed, Formed, Fit, sent_in, outlet_size, op_write, value_size}
use Rattle.wire.specs.declared.Head.{Head}
use Rattle.wire.specs.declared.Version.{Version}
use Rattle.wire.specs.declared.Stamp.{Stamp}
use Rattle.wire.proofs.Numbers.{pass_guard, stop_guard, reflects_yes, reflect_not, reflect_eqb, pick_case, pick_false}
use Rattle.wire.proofs.Packet.{reflect_formed, ReadView}
use Rattle.wire.proofs.RoundTrip.{fit_packet}
use Rattle.store.specs.Table.{Slot, slot, slot_of, row_size, table_of, table_ok, TableRules, count_of, find, slots, whole_slots, free_slot, valued, deleted, set_row, write_bytes}
use Rattle.std.specs.Prelude.{Option}
use Rattle.store.proofs.Rules.{reflect_table, length_table, whole_table, slots_table}
use Rattle.store.proofs.Slot.{SlotFits}
use Rattle.packet.specs.Emit.{emitted}
use Rattle.packet.proofs.Laws.{emit_done}
use Rattle.table.specs.Parts.{fence_part, id_part, row_part, state_part, version_part, value_part, slot_stored}
use Rattle.table.proofs.Tables.{id_table, fence_table_lem, state_table, version_table, value_table, store_table}
use Rattle.steps.specs.Node.{Sent, reply, stored, node_step, node_call, NodeGives}
use Rattle.steps.proofs.Node.{call_step}
use Rattle.steps.proofs.NodeView.{node_view}
use Rattle.steps.proofs.NodeSound.{Sound, sound_packet, sound_table}
use Rattle.steps.proofs.NodeSends.{Writes, none, one, Sends as SoundSends, node_sends}
use Rattle.node.specs.Ways.{answer_of, version_of, carried, sent_by, asked, Comes}
use Rattle.node.specs.Queries.{table_asked, asked_by, Gives}
use Rattle.node.specs.declared.Query.{Query}
use Rattle.node.specs.declared.Reply.{Reply}
use Rattle.node.specs.declared.Reply.TheVariants.{Taken, Value, NoValue, NoKey}

-- ---- looking for the key

-- the rules of a table that the check passed
pub rules_of : {t : List ℕ} → table_ok t ≡ true → TableRules t
rules_of {t} e = (reflect_table t).0 e

-- what the search found
pub is_found : {t : List ℕ} (g : TableRules t) (p : List ℕ) {k : List ℕ} {f w : Option ℕ} → k ≡ key_of p → f ≡ find k (slots (whole_slots t) t) → f ≡ w → find (key_of p) (table_of t).slots ≡ w
is_found {t} g p ek ef ew = (λ j. find (sym ek j) (sym (slots_table t g) j)) ∙ (sym ef ∙ ew)

-- the parts of any row are the fields of the slot: of one that is not there they are those of a free slot
module _ {t : List ℕ} (g : TableRules t) (i : ℕ) where
  by_row : {A : Type 0} (part : List ℕ → A) (field : Slot → A) → (i < count_of t → part (row_part t i) ≡ field (get_or (table_of t).slots i free_slot)) → part [] ≡ field free_slot
      → part (row_part t i) ≡ field (get_or (table_of t).slots i free_slot)
  unfolding row_part
  by_row part field there empty = go (dec_lt i (count_of t))
    where
      no_row : count_of t ≤ i → row_part t i ≡ []
      no_row h = pick_false _ _ _ (le-ltb i (whole_slots t) (omega (arith, whole_table t g)))

      go : Dec (i < count_of t) → part (row_part t i) ≡ field (get_or (table_of t).slots i free_slot)
      go (yes h) = there h
      go (no h) = ap part (no_row (omega arith)) ∙ (empty ∙ ap field (sym (get_or-eq_default (table_of t).slots free_slot (omega (arith, length_table t)))))

  any_state : state_part (row_part t i) ≡ (get_or (table_of t).slots i free_slot).state
  unfolding state_part pick
  any_state = by_row state_part (λ s. s.state) (state_table t g i) refl

  any_version : version_part (row_part t i) ≡ (get_or (table_of t).slots i free_slot).version
  unfolding version_part pick
  any_version = by_row version_part (λ s. s.version) (version_table t g i) refl

  pub any_value : value_part (row_part t i) ≡ (get_or (table_of t).slots i free_slot).value
  unfolding value_part pick
  any_value = by_row value_part (λ s. s.value) (value_table t g i) refl

  -- what was read of its row
  pub state_at : {r : List ℕ} {n : ℕ} → r ≡ row_part t i → n ≡ state_part r → (get_or (table_of t).slots i free_slot).state ≡ n
  state_at e f = sym (f ∙ (ap state_part e ∙ any_state))

  pub version_at : {r : List ℕ} {v : Version} → r ≡ row_part t i → v ≡ version_part r → (get_or (table_of t).slots i free_slot).version ≡ v
  version_at e f = sym (f ∙ (ap version_part e ∙ any_version))

-- the value of a row has no more than there is room for
part_fits : (r : List ℕ) → length (value_part r) ≤ value_size
unfolding value_part slot_of
part_fits r = pick_case (λ (x : List ℕ). length x ≤ value_size) _ _ _ (λ e. let n = (reflect_eqb (length r) row_size).0 e in simp (length-take, length-drop) (omega arith)) (λ e. omega arith)

-- what was read of the head
module _ (q : Query) where
  pub id_asked : {n : ℕ} → n ≡ id_part q.table.now → n ≡ (table_asked q).id
  id_asked e = e ∙ id_table q.table.now (rules_of q.rules)

  pub fence_asked : {n : Stamp} → n ≡ fence_part q.table.now → n ≡ (table_asked q).fence
  fence_asked e = e ∙ fence_table_lem q.table.now (rules_of q.rules)

-- ---- a reply

module _ (q : Query) where
  -- its packet fits
  read_fit : Fit (packet_of q.packet.now)
  read_fit = fit_packet q.packet.now ((reflect_formed q.packet.now).0 q.formed)

  -- no reply carries more than a packet has room for
  pub carried_fits : (r : Reply) → length (carried (table_asked q) (asked_by q).value r) ≤ value_size
  unfolding packet_of
  carried_fits (Taken v i) = omega (arith, read_fit.value, read_fit.small)
  carried_fits (Value v i) = subst (λ (x : List ℕ). length x ≤ value_size) (any_value (rules_of q.rules) i) (part_fits _)
  carried_fits (NoValue v) = omega arith
  carried_fits NoKey = omega arith

  -- own id is the one that the packet was sent to
  module _ (r : Reply) (does : Gives q r) where
    own_id : q.head.to ≡ (table_asked q).id
    own_id = (node_view (table_asked q) (asked_by q) (sent_by (table_asked q) (asked_by q) r) does).accepted.mine

    pub is_sent : (out : List ℕ) {a : ℕ} {v : Version} {k x out' : List ℕ} → outlet_size ≤ length out → a ≡ answer_of r → v ≡ version_of r → k ≡ key_of q.packet.now
        → x ≡ carried (table_asked q) (asked_by q).value r → out' ≡ emitted out (reply q.head.to (packet q.head k (asked_by q).value) a v x)
        → out' ≡ sent_in out (sent_by (table_asked q) (asked_by q) r).packet
    unfolding sent_by reply packet_of
    is_sent out room ea ev ek ex e =
        e
        ∙ ((λ j. emitted out (reply (own_id j) (packet q.head (ek j) (asked_by q).value) (ea j) (ev j) (ex j)))
        ∙ emit_done out (sent_by (table_asked q) (asked_by q) r).packet room read_fit.key (carried_fits r))

-- what is taken
module _ {t p : List ℕ} {h : Head} {v : Version} {i : ℕ} (c : Comes t p h (Taken v i)) (bt : Bytes t) (bp : Bytes p) where
  -- what the step comes to keeps the rules
  sound : SoundSends (table_of t) (sent_by (table_of t) (asked h p) (Taken v i))
  unfolding packet_of
  sound =
      node_sends (table_of t) (asked h p) (sent_by (table_of t) (asked h p) (Taken v i)) (sound_table t bt c.rules)
      (subst (λ (k : Head). Sound (asked k p)) (sym c.fields) (sound_packet p bp c.formed)) c.step

  -- its slot is there, and has room for it
  slot_fits : (i < count_of t) × SlotFits (stored (asked h p) v)
  unfolding sent_by
  slot_fits = go sound.writes
    where
      go : Writes (table_of t) (set_row i (stored (asked h p) v)) → (i < count_of t) × SlotFits (stored (asked h p) v)
      go (none e) = absurd (let z : ◌≡◌ {A = ℕ} 0 1 = cc in omega arith)
      go (one j s e l f) =
          let same : i ≡ j = cc in
          let is : s ≡ stored (asked h p) v = cc in
          (omega (arith, length_table t), subst SlotFits is f.fits)

  pub is_stored : {st : ℕ} {k x t' : List ℕ} → k ≡ key_of p → st ≡ pick (eqb h.op op_write) valued deleted → x ≡ value_of p
      → t' ≡ slot_stored t i (slot k st v x) → t' ≡ write_bytes (sent_by (table_of t) (asked h p) (Taken v i)).write t
  unfolding sent_by stored
  is_stored ek es ex e =
      e
      ∙ ((λ j. slot_stored t i (slot (ek j) (es j) v (ex j)))
      ∙ store_table t c.rules i slot_fits.0 (stored (asked h p) v) slot_fits.1.key slot_fits.1.value)

-- any other reply writes nothing
pub is_kept : (t p : List ℕ) (h : Head) (r : Reply) → ((v : Version) (i : ℕ) → r ≡ Taken v i → ⊥) → t ≡ write_bytes (sent_by (table_of t) (asked h p) r).write t
unfolding sent_by
is_kept t p h (Taken v i) n = absurd (n v i refl)
is_kept t p h (Value v i) n = refl
is_kept t p h (NoValue v) n = refl
is_kept t p h NoKey n = refl

-- ---- the promise

-- what was read is well-formed
pub formed_read : {p : List ℕ} {h : Head} → ReadView p h → well_formed p ≡ true
formed_read {p} v = reflects_yes (reflect_formed p) v.formed

-- a packet that was read: the call comes to what the step does
comes : (t p out : List ℕ) {h : Head} → table_ok t ≡ true → outlet_size ≤ length out → ReadView p h → node_call t p out ≡ node_step (table_of t) (asked h p)
unfolding packet_of
comes t p out g room v = call_step t p out (rules_of g) room v.formed ∙ ap (λ (k : Head). node_step (table_of t) (asked k p)) (sym v.head)

module _ {t p out : List ℕ} where
  -- the promise, by what the call comes to
  gives : {n : ℕ} {t' out' : List ℕ} (o : Out Sent) → node_call t p out ≡ o → n ≡ number_of o
      → t' ≡ left t (λ s. write_bytes s.write t) o → out' ≡ left out (λ s. sent_in out s.packet) o → NodeGives t p out n t' out'
  gives o e n a b = record {
    number = n ∙ ap number_of (sym e);
    table = a ∙ ap (left t (λ s. write_bytes s.write t)) (sym e);
    outlet = b ∙ ap (left out (λ s. sent_in out s.packet)) (sym e);
  }

  -- a refusal leaves all as it was
  refused : (n : ℕ) → node_call t p out ≡ refuse n → NodeGives t p out n t out
  refused n e = gives (refuse n) e refl refl refl

  pub gives_broken : table_ok t ≡ false → NodeGives t p out broken t out
  unfolding node_call
  gives_broken g = refused broken (stop_guard _ _ _ (ap not g))

  module _ (g : table_ok t ≡ true) where
    pub gives_small : length out < outlet_size → NodeGives t p out small_outlet t out
    unfolding node_call
    gives_small h = refused small_outlet (pass_guard _ _ _ (ap not g) ∙ stop_guard _ _ _ (lt-ltb _ _ h))

    module _ (room : outlet_size ≤ length out) where
      pub gives_malformed : {n : ℕ} → (n ≡ malformed) × (Formed p → ⊥) → NodeGives t p out n t out
      unfolding node_call
      gives_malformed {n} f =
          refused n (pass_guard _ _ _ (ap not g) ∙ (pass_guard _ _ _ (le-ltb _ _ room) ∙ (stop_guard _ _ _ (reflects_yes (reflect_not (reflect_formed p)) f.1) ∙ ap refuse (sym f.0))))

      module _ {h : Head} (v : ReadView p h) where
        pub gives_refused : (n : ℕ) → node_step (table_of t) (asked h p) ≡ refuse n → NodeGives t p out n t out
        gives_refused n e = refused n (comes t p out g room v ∙ e)

        pub gives_sent : {t' out' : List ℕ} (r : Reply) → node_step (table_of t) (asked h p) ≡ ok (sent_by (table_of t) (asked h p) r)
            → t' ≡ write_bytes (sent_by (table_of t) (asked h p) r).write t → out' ≡ sent_in out (sent_by (table_of t) (asked h p) r).packet → NodeGives t p out 0 t' out'
        gives_sent r e a b = gives (ok (sent_by (table_of t) (asked h p) r)) (comes t p out g room v ∙ e) refl a b
