-- What each event over bytes is in the decoded system, and that it leaves a sound record, sound tables and sound packets.
use Prim.Native.Nat.{ℕ, ◌^◌, ◌<◌, ◌≤◌}
use mathlib.Core.Path.{◌≡◌, refl, sym, ap, ap₂, ◌∙◌, subst}
use mathlib.Core.Bool.{Bool, true, not}
use mathlib.Core.List.Memᴰ.{append_cases}
use mathlib.Core.List.Memᴰ.{head as here}
use mathlib.Core.List.Memᴰ.{tail as there}
use mathlib.Core.List.{List, [], ◌∷◌, ◌++◌, map, Memᴰ as Mem}
use mathlib.Core.Logic.{⊎_elim}
use native.Mathlib.Omega.{arith}
use lib.ListN.{length}
use borrow.Author.Tests.{lt-ltb, le-ltb}
use Rattle.be.specs.Be.{Bytes}
use Rattle.wire.specs.Numbers.{Out, refuse, ok, number_of, left, Case, Judged, small_outlet, malformed}
use Rattle.wire.specs.Version.{zero_version}
use Rattle.wire.specs.Packet.{Packet, packet_of, key_of, bytes_of, Formed, sent_in, outlet_size}
use Rattle.wire.proofs.Numbers.{refuse_ok, pick_true, pick_false, pass_guard, stop_guard, reflects_yes, reflects_no}
use Rattle.wire.proofs.Packet.{reflect_formed}
use Rattle.wire.proofs.RoundTrip.{read_write, formed_bytes, bytes_of_lem}
use Rattle.store.specs.Table.{Table, table_of, TableRules, Write, write_bytes, write_table, fence_bytes, fence_table, blank_bytes, blank_table}
use Rattle.store.specs.Held.{version_at}
use Rattle.store.proofs.Rules.{reflect_table}
use Rattle.steps.specs.declared.Chain.{Chain}
use Rattle.steps.specs.Chain.{ChainRules}
use Rattle.steps.specs.Node.{Sent, node_step, node_call, node_rows}
use Rattle.steps.specs.Relay.{Way, relay_call, relay_rows, packet_sent}
use Rattle.steps.specs.Control.{on_record, open_step, open_call, fence_step, fence_call, copy_step, copy_call, copy_slot, copy_bytes, activate_step, activate_call, cancel_step, cancel_call, remove_step, remove_call, enter_step, enter_call}
use Rattle.steps.proofs.ChainRules.{reflect_chain}
use Rattle.steps.proofs.ControlViews.{open_view}
use Rattle.steps.proofs.Node.{node_judged, call_step as node_call_step}
use Rattle.steps.proofs.Relay.{relay_judged, call_step}
use Rattle.steps.proofs.NodeGives.{done_at_0}
use Rattle.steps.proofs.NodeSound.{Sound}
use Rattle.steps.proofs.NodeSends.{node_leaves}
use Rattle.steps.proofs.RelaySends.{SoundChain, relay_leaves}
use Rattle.protocol.specs.System.{State, Event, from_client, no_packet, at_relay, at_node, opens, fences, copies, activates, cancels, removes, enters, halts, exec, relayed, stepped, ruled, ruled_table, upd}
use Rattle.protocol.proofs.Upd.{upd_case, upd_back}
use Rattle.claims.specs.Bytes.{IsNode, EventB, asking, relaying, stepping, opening, fencing, copying, activating, cancelling, removing, entering, halting, StateB, holds_version, made_in, after_relay, after_node, after_control, after_control_at, exec_b, EnabledB}
use Rattle.claims.proofs.Decode.{tables_of, events_of, decode, table_of_lem, tables_put, seen, unseen, roomy_yes, roomy_no, made_none, made_one}
use Rattle.claims.proofs.Calls.{record_step, fence_step_lem, copy_step_lem, enter_step_lem, LeavesChain, open_leaves, fence_leaves_lem, copy_leaves_lem, activate_leaves, cancel_leaves, remove_leaves, LeavesTable, blank_left, fence_left, copy_left, enter_left}

-- ---- what is true of every reachable state

pub record SoundB (s : StateB) : Type 0 where
  pub chain : SoundChain s.chain
  pub tables : (j : ℕ) → IsNode j → TableRules (s.table j) × Bytes (s.table j)
  pub packets : (p : List ℕ) → Mem p s.packets → Formed p × Bytes p

-- a state afterwards is sound, and the decoded system sees it so
pub record Becomes (s : StateB) (d : State) : Type 0 where
  pub sound : SoundB s
  pub image : decode s ≡ d

-- 0 is no refusal
pub refused : {A : Type 0} (cs : List Case) (o : Out A) (n : ℕ) → Judged cs o → o ≡ refuse n → n ≡ 0 → ⊥
refused cs o n j e z = let d = done_at_0 cs o j (ap number_of e ∙ z) in refuse_ok (sym e ∙ d.1)

-- a packet that is sent: its bytes, which read as it
sent : (out : List ℕ) (q : Packet) → Sound q → map packet_of (made_in 0 (sent_in out q)) ≡ q ∷ []
sent out q g = ap (map packet_of) (made_one out q g.fit) ∙ ap (λ (p : Packet). p ∷ []) (read_write q g.fit g.ranges)

sent_sound : (out : List ℕ) (q : Packet) → Sound q → (p : List ℕ) → Mem p (made_in 0 (sent_in out q)) → Formed p × Bytes p
sent_sound out q g p m = go (subst (Mem p) (made_one out q g.fit) m)
  where
    is : Formed (bytes_of q) × Bytes (bytes_of q)
    is = (formed_bytes q g.fit g.ranges, bytes_of_lem q g.ranges g.key g.value)

    go : Mem p (bytes_of q ∷ []) → Formed p × Bytes p
    go (here e) = subst (λ (b : List ℕ). Formed b × Bytes b) (sym e) is
    go (there m) = elim m [ ]

module _ (s : StateB) (g : SoundB s) where
  -- packets that were there, and made ones
  with_made : (q : List (List ℕ)) → ((p : List ℕ) → Mem p q → Formed p × Bytes p) → (p : List ℕ) → Mem p (q ++ s.packets) → Formed p × Bytes p
  with_made q h p m = ⊎_elim (h p) (g.packets p) (append_cases q m)

  with_none : (n : ℕ) (out : List ℕ) → (n ≡ 0 → ⊥) → (p : List ℕ) → Mem p (made_in n out ++ s.packets) → Formed p × Bytes p
  with_none n out h p m = g.packets p (subst (λ (q : List (List ℕ)). Mem p (q ++ s.packets)) (made_none n out h) m)

  -- a node's table that is stored
  with_table : (j : ℕ) (b : List ℕ) → TableRules b × Bytes b → (i : ℕ) → IsNode i → TableRules (upd s.table j b i) × Bytes (upd s.table j b i)
  with_table j b h i n = upd_case (λ (t : List ℕ). TableRules t × Bytes t) s.table j b i (λ _. h) (λ _. g.tables i n)

  -- a table that stays as it was
  stays : (j : ℕ) → tables_of s.chain.count (upd s.table j (s.table j)) ≡ upd (decode s).table j ((decode s).table j)
  stays j = ap (tables_of s.chain.count) (upd_back s.table j) ∙ sym (upd_back (decode s).table j)

  stays_sound : (j : ℕ) (i : ℕ) → IsNode i → TableRules (upd s.table j (s.table j) i) × Bytes (upd s.table j (s.table j) i)
  stays_sound j i n = subst (λ (t : ℕ → List ℕ). TableRules (t i) × Bytes (t i)) (sym (upd_back s.table j)) (g.tables i n)

  -- ---- the relay

  relay_becomes : (e : EventB) (d : Event) (p out : List ℕ) → events_of e ≡ d ∷ [] → Bytes p → (o : Out Way) → relay_call s.chain p out ≡ o
      → Becomes (after_relay e s (number_of o) (left out (λ w. sent_in out (packet_sent w)) o)) (relayed d (decode s) o)
  relay_becomes e d p out is b (refuse n) c =
      let some = refused (relay_rows s.chain p out) _ n (relay_judged s.chain p out) c in
      record {
        sound = record { chain = g.chain; tables = g.tables; packets = with_none n out some };
        image = seen s s.chain s.table s.halted (made_in n out) e n zero_version is refl (ap (map packet_of) (made_none n out some)) refl;
      }
  relay_becomes e d p out is b (ok w) c =
      let q = relay_leaves s.chain p out w b g.chain.wiring g.chain.session g.chain.highest c in
      record {
        sound = record { chain = g.chain; tables = g.tables; packets = with_made _ (sent_sound out (packet_sent w) q) };
        image = seen s s.chain s.table s.halted (made_in 0 (sent_in out (packet_sent w))) e 0 zero_version is refl (sent out (packet_sent w) q) refl;
      }

  -- ---- a node

  -- the version that it held before
  before : (j : ℕ) (p : List ℕ) → IsNode j → holds_version s j (key_of p) ≡ version_at (packet_of p).key ((decode s).table j).slots
  unfolding packet_of
  before j p h = ap (λ (t : Table). version_at (key_of p) t.slots) (sym (table_of_lem s.chain.count s.table j h))

  node_becomes : (j : ℕ) (p out : List ℕ) → IsNode j → events_of (stepping j p out) ≡ at_node j (packet_of p) ∷ [] → Bytes p → (o : Out Sent) → node_call (s.table j) p out ≡ o
      → Becomes (after_node j p out s (number_of o) (left (s.table j) (λ x. write_bytes x.write (s.table j)) o) (left out (λ x. sent_in out x.packet) o)) (stepped j (packet_of p) (decode s) o)
  unfolding packet_of
  node_becomes j p out h is b (refuse n) c =
      let some = refused (node_rows (s.table j) p out) _ n (node_judged (s.table j) p out) c in
      record {
        sound = record { chain = g.chain; tables = stays_sound j; packets = with_none n out some };
        image = seen s s.chain (upd s.table j (s.table j)) s.halted (made_in n out) (stepping j p out) n _ is (stays j) (ap (map packet_of) (made_none n out some)) (before j p h);
      }
  node_becomes j p out h is b (ok x) c =
      let q = node_leaves (s.table j) p out x (g.tables j h).1 b c in
      record {
        sound = record { chain = g.chain; tables = with_table j _ (q.rules, q.bytes); packets = with_made _ (sent_sound out x.packet q.packet) };
        image = seen s s.chain (upd s.table j (write_bytes x.write (s.table j))) s.halted (made_in 0 (sent_in out x.packet)) (stepping j p out) 0 _ is
            (tables_put s.chain.count s.table j _ h ∙ ap (upd (decode s).table j) (q.decoded ∙ ap (write_table x.write) (sym (table_of_lem s.chain.count s.table j h))))
            (sent out x.packet q.packet) (before j p h);
      }

  -- ---- the controller: with one table, and on the record alone

  control_becomes : {A : Type 0} (e : EventB) (d : Event) (f : A → Chain) (j : ℕ) (b : A → List ℕ) (t : A → Table) → events_of e ≡ d ∷ [] → (o : Out A)
      → ((a : A) → o ≡ ok a → IsNode j × LeavesChain s.chain (f a) × LeavesTable (b a) (t a))
      → Becomes (after_control_at e s (number_of o) (left s.chain f o) j (left (s.table j) b o)) (ruled_table d (decode s) f j t o)
  control_becomes e d f j b t is (refuse n) h = record {
    sound = record { chain = g.chain; tables = stays_sound j; packets = g.packets };
    image = seen s s.chain (upd s.table j (s.table j)) s.halted [] e n zero_version is (stays j) refl refl;
  }
  control_becomes e d f j b t is (ok a) h =
      let (node, chain, table) = h a refl in
      record {
        sound = record { chain = chain.sound; tables = with_table j (b a) (table.rules, table.bytes); packets = g.packets };
        image = seen s (f a) (upd s.table j (b a)) s.halted [] e 0 zero_version is
            (ap (λ (n : ℕ). tables_of n (upd s.table j (b a))) chain.count ∙ tables_put s.chain.count s.table j (b a) node ∙ ap (upd (decode s).table j) table.reads) refl refl;
      }

  record_becomes : (e : EventB) (d : Event) → events_of e ≡ d ∷ [] → (o : Out Chain) → ((r : Chain) → o ≡ ok r → LeavesChain s.chain r)
      → Becomes (after_control e s (number_of o) (left s.chain (λ r. r) o)) (ruled d (decode s) o)
  record_becomes e d is (refuse n) h = record { sound = record { chain = g.chain; tables = g.tables; packets = g.packets }; image = seen s s.chain s.table s.halted [] e n zero_version is refl refl refl }
  record_becomes e d is (ok r) h =
      let chain = h r refl in
      record {
        sound = record { chain = chain.sound; tables = g.tables; packets = g.packets };
        image = seen s r s.table s.halted [] e 0 zero_version is (ap (λ (n : ℕ). tables_of n s.table) chain.count) refl refl;
      }

-- ---- every event

-- seen otherwise
likewise : {s : StateB} {d d' : State} → d ≡ d' → Becomes s d → Becomes s d'
likewise e b = record { sound = b.sound; image = b.image ∙ e }

module _ (s : StateB) (g : SoundB s) where
  rules : ChainRules s.chain
  rules = g.chain.rules

  -- ---- the relay

  pub relay_small : (p out : List ℕ) → length out < outlet_size → relay_call s.chain p out ≡ refuse small_outlet
  unfolding relay_call
  relay_small p out h = pass_guard _ _ _ (ap not (reflects_yes (reflect_chain s.chain) rules)) ∙ stop_guard _ _ _ (lt-ltb _ _ h)

  relay_malformed : (p out : List ℕ) → outlet_size ≤ length out → (Formed p → ⊥) → relay_call s.chain p out ≡ refuse malformed
  unfolding relay_call
  relay_malformed p out h n =
      pass_guard _ _ _ (ap not (reflects_yes (reflect_chain s.chain) rules))
      ∙ (pass_guard _ _ _ (le-ltb _ _ h) ∙ stop_guard _ _ _ (ap not (reflects_no (reflect_formed p) n)))

  -- an outlet that is too small
  relay_hidden : (e : EventB) (p out : List ℕ) → events_of e ≡ [] → length out < outlet_size
      → Becomes (after_relay e s (number_of (relay_call s.chain p out)) (left out (λ w. sent_in out (packet_sent w)) (relay_call s.chain p out))) (decode s)
  relay_hidden e p out is h =
      rw (relay_small p out h)
      (record {
        sound = record { chain = g.chain; tables = g.tables; packets = with_none s g small_outlet out (λ z. omega arith) };
        image = unseen s s.table (made_in small_outlet out) e small_outlet zero_version is refl (made_none small_outlet out (λ z. omega arith));
      })

  pub asking_hidden : (p out : List ℕ) → length out < outlet_size → Becomes (exec_b (asking p out) s) (decode s)
  unfolding exec_b
  asking_hidden p out h = relay_hidden (asking p out) p out (roomy_no out _ h) h

  pub relaying_hidden : (p out : List ℕ) → length out < outlet_size → Becomes (exec_b (relaying p out) s) (decode s)
  unfolding exec_b
  relaying_hidden p out h = relay_hidden (relaying p out) p out (roomy_no out _ h) h

  -- a client's packet, what is none, and a packet that was made
  pub asking_becomes : (p out : List ℕ) → Bytes p → Formed p → outlet_size ≤ length out → Becomes (exec_b (asking p out) s) (exec (from_client (packet_of p)) (decode s))
  unfolding exec_b exec
  asking_becomes p out b f h =
      likewise (ap (relayed (from_client (packet_of p)) (decode s)) (call_step s.chain p out rules h f))
      (relay_becomes s g (asking p out) (from_client (packet_of p)) p out
      (roomy_yes out _ h ∙ ap (λ (d : Event). d ∷ []) (pick_true _ _ _ (reflects_yes (reflect_formed p) f))) b _ refl)

  pub malformed_becomes : (p out : List ℕ) → Bytes p → (Formed p → ⊥) → outlet_size ≤ length out → Becomes (exec_b (asking p out) s) (exec no_packet (decode s))
  unfolding exec_b exec
  malformed_becomes p out b n h =
      likewise (ap (relayed no_packet (decode s)) (relay_malformed p out h n))
      (relay_becomes s g (asking p out) no_packet p out
      (roomy_yes out _ h ∙ ap (λ (d : Event). d ∷ []) (pick_false _ _ _ (reflects_no (reflect_formed p) n))) b _ refl)

  pub relaying_becomes : (p out : List ℕ) → Mem p s.packets → outlet_size ≤ length out → Becomes (exec_b (relaying p out) s) (exec (at_relay (packet_of p)) (decode s))
  unfolding exec_b exec
  relaying_becomes p out m h =
      let (f, b) = g.packets p m in
      likewise (ap (relayed (at_relay (packet_of p)) (decode s)) (call_step s.chain p out rules h f))
      (relay_becomes s g (relaying p out) (at_relay (packet_of p)) p out (roomy_yes out _ h) b _ refl)

  -- ---- a node

  pub node_small : (j : ℕ) (p out : List ℕ) → IsNode j → length out < outlet_size → node_call (s.table j) p out ≡ refuse small_outlet
  unfolding node_call
  node_small j p out i h = pass_guard _ _ _ (ap not (reflects_yes (reflect_table (s.table j)) (g.tables j i).0)) ∙ stop_guard _ _ _ (lt-ltb _ _ h)

  pub stepping_becomes : (j : ℕ) (p out : List ℕ) → IsNode j → Mem p s.packets → outlet_size ≤ length out
      → Becomes (exec_b (stepping j p out) s) (exec (at_node j (packet_of p)) (decode s))
  unfolding exec_b exec
  stepping_becomes j p out i m h =
      let (f, b) = g.packets p m in
      let step = node_call_step (s.table j) p out (g.tables j i).0 h f ∙ ap (λ (t : Table). node_step t (packet_of p)) (sym (table_of_lem s.chain.count s.table j i)) in
      likewise (ap (stepped j (packet_of p) (decode s)) step) (node_becomes s g j p out i (roomy_yes out _ h) b _ refl)

  pub stepping_hidden : (j : ℕ) (p out : List ℕ) → IsNode j → length out < outlet_size → Becomes (exec_b (stepping j p out) s) (decode s)
  unfolding exec_b
  stepping_hidden j p out i h =
      rw (node_small j p out i h)
      (record {
        sound = record { chain = g.chain; tables = stays_sound s g j; packets = with_none s g small_outlet out (λ z. omega arith) };
        image = unseen s (upd s.table j (s.table j)) (made_in small_outlet out) (stepping j p out) small_outlet (holds_version s j (key_of p)) (roomy_no out _ h) (upd_back s.table j) (made_none small_outlet out (λ z. omega arith));
      })

  -- ---- the controller

  -- the table of a node, as the decoded system has it
  at : (j : ℕ) → IsNode j → table_of (s.table j) ≡ (decode s).table j
  at j i = sym (table_of_lem s.chain.count s.table j i)

  pub opening_becomes : (after : Bool) (named fresh : ℕ) → fresh < 256 ^ 2 → Becomes (exec_b (opening after named fresh) s) (exec (opens after named fresh) (decode s))
  unfolding exec_b exec open_call
  opening_becomes after named fresh h =
      likewise (ap (ruled_table (opens after named fresh) (decode s) (λ r. r) fresh (λ r. blank_table fresh s.chain.count)) same)
      (control_becomes s g (opening after named fresh) (opens after named fresh) (λ r. r) fresh _ _ refl _ done)
    where
      same : on_record s.chain (open_step s.chain after named fresh) ≡ open_step s.chain after named fresh
      same = record_step s.chain rules _

      done : (r : Chain) → on_record s.chain (open_step s.chain after named fresh) ≡ ok r
          → IsNode fresh × LeavesChain s.chain r × LeavesTable (blank_bytes fresh s.chain.count) (blank_table fresh s.chain.count)
      done r e =
          let step = sym same ∙ e in
          let above = (open_view s.chain after named fresh r rules step).above in
          let some : 0 < fresh = omega arith in
          ((some, h), open_leaves g.chain after named fresh r h step, blank_left s.chain rules fresh some h)

  pub fencing_becomes : (j : ℕ) → IsNode j → Becomes (exec_b (fencing j) s) (exec (fences j) (decode s))
  unfolding exec_b exec
  fencing_becomes j i =
      likewise (ap₂ (λ (t : Table) (o : Out Chain). ruled_table (fences j) (decode s) (λ r. r) j (λ r. fence_table s.chain.wiring t) o) (at j i) (same ∙ ap (fence_step s.chain) (at j i)))
      (control_becomes s g (fencing j) (fences j) (λ r. r) j _ (λ r. fence_table s.chain.wiring (table_of (s.table j))) refl _ done)
    where
      same : fence_call s.chain (s.table j) ≡ fence_step s.chain (table_of (s.table j))
      same = fence_step_lem s.chain rules (s.table j) (g.tables j i).0

      done : (r : Chain) → fence_call s.chain (s.table j) ≡ ok r
          → IsNode j × LeavesChain s.chain r × LeavesTable (fence_bytes s.chain.wiring (s.table j)) (fence_table s.chain.wiring (table_of (s.table j)))
      done r e =
          let (t, b) = g.tables j i in
          (i, fence_leaves_lem g.chain (table_of (s.table j)) r (sym same ∙ e), fence_left s.chain g.chain (s.table j) t b)

  pub copying_becomes : (n a b : ℕ) → IsNode a → IsNode b → Becomes (exec_b (copying n a b) s) (exec (copies n a b) (decode s))
  unfolding exec_b exec
  copying_becomes n a b i j =
      likewise (λ k. ruled_table (copies n a b) (decode s) (λ r. r) b (λ r. write_table (copy_slot n (at a i k)) (at b j k)) ((same ∙ ap₂ (copy_step s.chain n) (at a i) (at b j)) k))
      (control_becomes s g (copying n a b) (copies n a b) (λ r. r) b _ (λ r. write_table (copy_slot n (table_of (s.table a))) (table_of (s.table b))) refl _ done)
    where
      same : copy_call s.chain n (s.table a) (s.table b) ≡ copy_step s.chain n (table_of (s.table a)) (table_of (s.table b))
      same = copy_step_lem s.chain rules n (s.table a) (s.table b) (g.tables a i).0 (g.tables b j).0

      done : (r : Chain) → copy_call s.chain n (s.table a) (s.table b) ≡ ok r
          → IsNode b × LeavesChain s.chain r × LeavesTable (copy_bytes n (s.table a) (s.table b)) (write_table (copy_slot n (table_of (s.table a))) (table_of (s.table b)))
      done r e =
          let (ta, ba) = g.tables a i in
          let (tb, bb) = g.tables b j in
          let step = sym same ∙ e in
          (j, copy_leaves_lem g.chain n _ _ r step, copy_left s.chain rules n (s.table a) (s.table b) r ta tb ba bb step)

  pub activating_becomes : Becomes (exec_b activating s) (exec activates (decode s))
  unfolding exec_b exec activate_call
  activating_becomes =
      let same = record_step s.chain rules (activate_step s.chain) in
      likewise (ap (ruled activates (decode s)) same) (record_becomes s g activating activates refl _ (λ r e. activate_leaves g.chain r (sym same ∙ e)))

  pub cancelling_becomes : Becomes (exec_b cancelling s) (exec cancels (decode s))
  unfolding exec_b exec cancel_call
  cancelling_becomes =
      let same = record_step s.chain rules (cancel_step s.chain) in
      likewise (ap (ruled cancels (decode s)) same) (record_becomes s g cancelling cancels refl _ (λ r e. cancel_leaves g.chain r (sym same ∙ e)))

  pub removing_becomes : (id : ℕ) → Becomes (exec_b (removing id) s) (exec (removes id) (decode s))
  unfolding exec_b exec remove_call
  removing_becomes id =
      let same = record_step s.chain rules (remove_step s.chain id) in
      likewise (ap (ruled (removes id) (decode s)) same) (record_becomes s g (removing id) (removes id) refl _ (λ r e. remove_leaves g.chain id r (sym same ∙ e)))

  pub entering_becomes : (j id : ℕ) (key : List ℕ) → EnabledB (entering j id key) s → Becomes (exec_b (entering j id key) s) (exec (enters j id key) (decode s))
  unfolding exec_b exec
  entering_becomes j id key (i, bk, size) =
      likewise (ap₂ (λ (t : Table) (o : Out Write). ruled_table (enters j id key) (decode s) (λ w. s.chain) j (λ w. write_table w t) o) (at j i) (same ∙ ap (λ (t : Table). enter_step s.chain t id key) (at j i)))
      (subst (λ (r : Chain). Becomes (after_control_at (entering j id key) s (number_of (enter_call s.chain (s.table j) id key)) r j (left (s.table j) (λ w. write_bytes w (s.table j)) (enter_call s.chain (s.table j) id key)))
      (ruled_table (enters j id key) (decode s) (λ w. s.chain) j (λ w. write_table w (table_of (s.table j))) (enter_call s.chain (s.table j) id key))) (const (enter_call s.chain (s.table j) id key))
      (control_becomes s g (entering j id key) (enters j id key) (λ w. s.chain) j _ (λ w. write_table w (table_of (s.table j))) refl _ done))
    where
      same : enter_call s.chain (s.table j) id key ≡ enter_step s.chain (table_of (s.table j)) id key
      same = enter_step_lem s.chain rules (s.table j) id key (g.tables j i).0

      const : (o : Out Write) → left s.chain (λ w. s.chain) o ≡ s.chain
      const (refuse n) = refl
      const (ok w) = refl

      done : (w : Write) → enter_call s.chain (s.table j) id key ≡ ok w
          → IsNode j × LeavesChain s.chain s.chain × LeavesTable (write_bytes w (s.table j)) (write_table w (table_of (s.table j)))
      done w e =
          let (t, b) = g.tables j i in
          (i, record { sound = g.chain; count = refl }, enter_left s.chain (s.table j) id key w t b bk size (sym same ∙ e))

  pub halting_becomes : (j : ℕ) → Becomes (exec_b (halting j) s) (exec (halts j) (decode s))
  unfolding exec_b exec
  halting_becomes j =
      record {
        sound = record { chain = g.chain; tables = g.tables; packets = g.packets };
        image = seen s s.chain s.table (upd s.halted j true) [] (halting j) 0 zero_version refl refl refl refl;
      }
