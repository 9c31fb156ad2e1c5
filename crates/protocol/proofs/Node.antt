-- A node step keeps the invariant.
use Prim.Native.Nat.{ℕ, ◌<◌, ◌≤◌}
use mathlib.Core.Path.{◌≡◌, refl, sym, ap, ◌∙◌, subst}
use mathlib.Core.Bool.{Bool, false}
use mathlib.Core.List.Memᴰ.{cast}
use mathlib.Core.List.Memᴰ.{head as here}
use mathlib.Core.List.Memᴰ.{tail as there}
use mathlib.Core.List.{List, [], ◌∷◌, ◌++◌, Memᴰ as Mem}
use mathlib.Core.Logic.{◌⊎◌, inl, inr}
use native.Mathlib.Omega.{arith}
use lib.ListN.{get_or}
use borrow.Author.Tests.{ne_eqb}
use Rattle.wire.specs.Numbers.{Out, refuse, ok}
use Rattle.wire.specs.Version.{zero_version, AtMost, Below}
use Rattle.wire.specs.Packet.{Packet, Fit, query, op_read, answer_no_key}
use Rattle.wire.specs.declared.Version.{Version}
use Rattle.wire.specs.declared.Session.{Session}
use Rattle.wire.proofs.Numbers.{reflects_cases, reflect_ltb, reflect_eqs}
use Rattle.wire.proofs.Versions.{below_atmost, atmost_below_trans}
use Rattle.store.specs.Table.{Slot, Table, free_slot, Write, keep, write_table}
use Rattle.store.specs.Held.{Held, held, Content, nothing, content_of, held_content, held_version, version_at}
use Rattle.store.proofs.Find.{find_at}
use Rattle.steps.specs.declared.Joining.{Joining}
use Rattle.steps.specs.Chain.{members, first_of, last_of, ChainRules, Opened}
use Rattle.steps.specs.Relay.{stops}
use Rattle.steps.specs.Node.{Sent, node_step, stored, reply, Alters}
use Rattle.steps.proofs.NodeView.{Accepted, Answered, NoKey, Stores, Took, Gave, NodeCase, answered, nokey, took, gave, NodeView, node_view}
use Rattle.steps.proofs.NodeReads.{version_stored, held_others, length_after}
use Rattle.steps.proofs.ChainOrder.{Ahead, last_behind, none_behind_last, none_ahead_first}
use Rattle.steps.proofs.Control.{some_members}
use Rattle.protocol.specs.System.{State, Ghost, numbered, shown, carried, node_ghosts, all_ghosts, ghosts, upd, stepped}
use Rattle.protocol.specs.Inv.{world_of, node_version, Logged, logged, LiveTo, Good, SlotGood, TableGood, Sound, Inv}
use Rattle.protocol.proofs.Upd.{upd_case, upd_same, upd_back}
use Rattle.protocol.proofs.Prims.{at_most_trans, at_most_same, world, More, logged_more, slot_more, set_slots, good_clear, Grows, good_grows, keyed_grows, keyed_numbered, logged_shown, keyed_shown, sound_put, sound_more, grows_history, open_rules, copied_fenced, stops_named, good_away, inv_made, inv_refused, awake_live}
use Rattle.protocol.proofs.Ghosts.{ghosts_read, ghosts_given, ghosts_taken, ghosts_lacking}
use Rattle.protocol.proofs.Packets.{Says, held_says, of_held, Alteration, alteration, stored_rules, stored_some, carried_stored, carried_answer, carried_no_key, fit_answer, fit_no_key, fit_taken}

-- ---- a packet that an awake node takes

-- the table of the node addressed, and what it holds of the packet's key
abbrev table_for : State → Packet → Table
table_for s p = s.table p.head.to

abbrev held_for : State → Packet → Held
held_for s p = held p.key (table_for s p).slots

-- that table and all tables after a step that did x
abbrev table_after : State → Packet → Sent → Table
table_after s p x = write_table x.write (table_for s p)

abbrev tables_after : State → Packet → Sent → ℕ → Table
tables_after s p x = upd s.table p.head.to (table_after s p x)

module _ {k : List ℕ} {s : State} (v : Inv k s) (p : Packet) (mp : Mem p s.packets) (awake : s.halted p.head.to ≡ false) (a : Accepted (table_for s p) p) where
  g : Good k (world_of s) p
  g = v.packets p mp

  rules : ChainRules s.chain
  rules = v.sound.rules

  table_good : TableGood s.chain (ghosts s) p.head.to (table_for s p)
  table_good = v.sound.tables p.head.to

  -- the packet is live, and the node in the chain
  live : LiveTo (world_of s) p
  live = awake_live v p mp awake a.relayed a.asks (let h = a.live in omega arith)

  in_chain : Mem p.head.to (members s.chain)
  in_chain = live.0

  holds_says : Says (held_content (held_for s p)) (held_version (held_for s p))
  holds_says = held_says p.key (table_for s p).slots (λ i. (table_good.slots i).rules)

  -- what the node sends is good where its content is logged and the node holds it
  good_reply : (t : ℕ → Table) (l : List Ghost) (answer : ℕ) (u : Version) (x : List ℕ) → Fit (reply (table_for s p).id p answer u x)
      → ((carried (reply (table_for s p).id p answer u x) ≡ nothing → ⊥) → Logged l p.key u (carried (reply (table_for s p).id p answer u x)))
      → (answer ≡ query → p.key ≡ k → AtMost u (version_at k (t p.head.to).slots))
      → Good k (world s.chain t s.halted l) (reply (table_for s p).id p answer u x)
  unfolding reply
  good_reply t l answer u x fit content sender =
      good_away rules fit refl
      (rw mine g.to_used)
      (λ c o e. g.to_old c o (sym mine ∙ e))
      (λ e _. rules.nonzero (cast (sym e ∙ mine) in_chain))
      g.stamped
      content
      (λ m e n ek. rw mine (sender e ek))
    where
      mine : (table_for s p).id ≡ p.head.to
      mine = table_good.id

  -- the table stays
  keeps_table : (x : Sent) → x.write ≡ keep → tables_after s p x ≡ s.table
  keeps_table x e = ap (λ (z : Write). upd s.table p.head.to (write_table z (table_for s p))) e ∙ upd_back s.table p.head.to

  -- the history, from the ghosts of the step
  new_history : {l m : List Ghost} → l ≡ m → (l ++ all_ghosts s.trace) ++ s.origin ≡ (m ++ all_ghosts s.trace) ++ s.origin
  new_history e = ap (λ (z : List Ghost). (z ++ all_ghosts s.trace) ++ s.origin) e

  -- ---- a read answered

  held_logged : (held_content (held_for s p) ≡ nothing → ⊥)
      → Logged (ghosts s) p.key (held_version (held_for s p)) (held_content (held_for s p))
  held_logged =
      of_held (λ key c u. (c ≡ nothing → ⊥) → Logged (ghosts s) key u c) p.key (table_for s p).slots
      (λ i. (table_good.slots i).content) (λ n. absurd (n refl))

  -- the last node holds no more than the others
  last_low : p.head.op ≡ op_read → (j : ℕ) → Mem j (members s.chain) → AtMost (node_version (world_of s) k p.head.to) (node_version (world_of s) k j)
  last_low o j m = go (last_behind (members s.chain) m)
    where
      at : p.head.to ≡ last_of (members s.chain)
      at = none_behind_last _ in_chain (g.reads_last live o)

      go : (j ≡ last_of (members s.chain)) ⊎ Ahead j (last_of (members s.chain)) (members s.chain) → AtMost (node_version (world_of s) k p.head.to) (node_version (world_of s) k j)
      go (inl e) = at_most_same (ap (node_version (world_of s) k) (at ∙ sym e))
      go (inr h) = v.keyed.order j p.head.to (rw at h)

  pres_read : (x : Sent) → Answered (table_for s p) p x → Inv k (stepped p.head.to p s (ok x))
  unfolding reply
  pres_read x c =
      inv_made (world s.chain s.table s.halted (shown x.packet.key x.packet.head.version x.packet ∷ ghosts s)) x.packet
      (λ i. world s.chain (keeps_table x c.keeps i) s.halted (new_history (ghosts_read p.head.to p x.packet [] (held_version (held_for s p)) c.read) i)) refl v
      (sound_more _ v.sound (λ h m. there m))
      (keyed_shown x.packet.key x.packet.head.version x.packet p.head.to v.keyed in_chain is (λ e j m. rw (is e) (last_low c.read j m)))
      (λ q h. good_grows s.chain.change (grows_history _ (λ h m. there m) (λ u d. logged_shown _ _ _)) h (good_clear h))
      (subst (Good k _) (sym c.sends)
      (good_reply s.table _ c.answer (held_version (held_for s p)) c.value
      (fit_answer _ p (held_for s p) c.answer c.value g.fit c.read holds_says c.tells) content
      (λ _ e. at_most_same (ap (λ (key : List ℕ). version_at key (table_for s p).slots) e))))
    where
      is : x.packet.key ≡ k → x.packet.head.version ≡ node_version (world_of s) k p.head.to
      is e =
          ap (λ (y : Packet). y.head.version) c.sends
          ∙ ap (λ (key : List ℕ). version_at key (table_for s p).slots) (sym (ap (λ (y : Packet). y.key) c.sends) ∙ e)

      same : carried (reply (table_for s p).id p c.answer (held_version (held_for s p)) c.value) ≡ held_content (held_for s p)
      same = carried_answer _ p (held_for s p) c.answer c.value holds_says c.tells

      content : (carried (reply (table_for s p).id p c.answer (held_version (held_for s p)) c.value) ≡ nothing → ⊥)
          → Logged (shown x.packet.key x.packet.head.version x.packet ∷ ghosts s) p.key (held_version (held_for s p))
          (carried (reply (table_for s p).id p c.answer (held_version (held_for s p)) c.value))
      content n = rw same (logged_more (λ h m. there m) (held_logged (λ z. n (same ∙ z))))

  -- ---- a missing key

  pres_lacking : (x : Sent) → NoKey (table_for s p) p x → Inv k (stepped p.head.to p s (ok x))
  unfolding reply
  pres_lacking x c =
      inv_made (world_of s) x.packet
      (λ i. world s.chain (keeps_table x c.keeps i) s.halted (new_history (ghosts_lacking p.head.to p x.packet [] (held_version (held_for s p)) c.unnumbered no) i)) refl v
      v.sound v.keyed (λ q h. h)
      (subst (Good k (world_of s)) (sym c.sends)
      (good_reply s.table (ghosts s) answer_no_key zero_version [] (fit_no_key _ p g.fit (alteration p g.fit a.asks c.unnumbered.0))
      (λ n. absurd (n (carried_no_key _ p zero_version []))) (λ e _. absurd (omega arith))))
    where
      no : x.packet.head.answer ≡ query → ⊥
      no e = let z : x.packet.head.answer ≡ answer_no_key = ap (λ (y : Packet). y.head.answer) c.sends in omega arith

  -- ---- a write or delete stored

  module _ {x : Sent} {b : Slot} {u : Version} (st : Stores (table_for s p) p x b u) where
    -- the version of k there: the new one, or as before
    by_key : (P : Version → Type 0) → (k ≡ p.key → P u) → ((k ≡ p.key → ⊥) → P (version_at k (table_for s p).slots)) → P (version_at k (table_after s p x).slots)
    by_key P same other = go (reflects_cases (reflect_eqs k p.key))
      where
        go : (k ≡ p.key) ⊎ (k ≡ p.key → ⊥) → P (version_at k (table_after s p x).slots)
        go (inl e) = subst P (sym (ap (λ (key : List ℕ). version_at key (table_after s p x).slots) e ∙ version_stored st)) (same e)
        go (inr n) = subst P (sym (ap held_version (held_others st k n))) (other n)

    held_before : k ≡ p.key → version_at k (table_for s p).slots ≡ b.version
    held_before e = ap (λ (key : List ℕ). version_at key (table_for s p).slots) e ∙ ap held_version st.holding

    held_after : k ≡ p.key → version_at k (tables_after s p x p.head.to).slots ≡ u
    held_after e =
        ap (λ (t : Table). version_at k t.slots) (upd_same s.table p.head.to (table_after s p x))
        ∙ (ap (λ (key : List ℕ). version_at key (table_after s p x).slots) e ∙ version_stored st)

    up : AtMost (version_at k (table_for s p).slots) (version_at k (table_after s p x).slots)
    up =
        by_key (AtMost (version_at k (table_for s p).slots))
        (λ e. below_atmost _ _ (subst (λ (x : Version). Below x u) (sym (held_before e)) st.rises))
        (λ _. at_most_same refl)

    up_at : (i : ℕ) → AtMost (node_version (world_of s) k i) (version_at k (tables_after s p x i).slots)
    up_at i =
        upd_case (λ t. AtMost (node_version (world_of s) k i) (version_at k t.slots)) s.table p.head.to (table_after s p x) i
        (λ e. subst (λ (j : ℕ). AtMost (node_version (world_of s) k j) (version_at k (table_after s p x).slots)) e up) (λ _. at_most_same refl)

    keeps_fence : (i : ℕ) → (s.table i).fence.0 ≤ (tables_after s p x i).fence.0
    keeps_fence i = upd_case (λ t. (s.table i).fence.0 ≤ t.fence.0) s.table p.head.to (table_after s p x) i (λ e. rw e (omega arith)) (λ _. omega arith)

    -- what the nodes ahead hold keeps the order
    order_new : (k ≡ p.key → (i : ℕ) → Ahead i p.head.to (members s.chain) → AtMost u (node_version (world_of s) k i))
        → (i j : ℕ) → Ahead i j (members s.chain) → AtMost (version_at k (tables_after s p x j).slots) (version_at k (tables_after s p x i).slots)
    order_new ahead i j h =
        at_most_trans
        (upd_case (λ t. AtMost (version_at k t.slots) (node_version (world_of s) k i)) s.table p.head.to (table_after s p x) j
        (λ e.
        let at : Ahead i p.head.to (members s.chain) = rw e h in
        by_key (λ x. AtMost x (node_version (world_of s) k i)) (λ q. ahead q i at) (λ _. v.keyed.order i p.head.to at))
        (λ _. v.keyed.order i j h))
        (up_at i)

    -- the slot's content is logged
    table_new : (l : List Ghost) → More (ghosts s) l → SlotGood l (stored p u) → TableGood s.chain l p.head.to (table_after s p x)
    table_new l more good = record {
      id = table_good.id;
      count = length_after x.write (table_for s p) ∙ table_good.count;
      fence = table_good.fence;
      slots = subst (λ (w : Write). (i : ℕ) → SlotGood l (get_or (write_table w (table_for s p)).slots i free_slot)) (sym st.sets)
          (set_slots (SlotGood l) (table_for s p).slots st.place (stored p u) (find_at p.key (table_for s p).slots st.place st.found).below good (λ i. slot_more more (table_good.slots i)));
    }

    -- a named node that is copied from takes no write and no delete: they were stamped before its fence
    frozen : Alters p → (c : Joining) → Opened s.chain.change c → 0 < c.next → p.head.to ≡ c.named → ⊥
    frozen alters c o n e =
        let f = v.sound.fenced c o (copied_fenced rules c o n) in
        let q = ap (λ (j : ℕ). (s.table j).fence.0) e in
        let sp = g.stopped (ap (λ (r : Bool). stops s.chain.change r p.head.to) (ne_eqb p.head.op op_read alters) ∙ stops_named c o p.head.to e) in
        let h = a.live in
        omega arith

    sound_stored : (l : List Ghost) → Alters p → More (ghosts s) l → SlotGood l (stored p u) → Sound (world s.chain (tables_after s p x) s.halted l)
    sound_stored l alters more good =
        sound_put p.head.to (table_after s p x) l v.sound in_chain more (table_new l more good) refl
        (λ c o n e. absurd (frozen alters c o n e)) (λ c o. (open_rules rules c o).outside)

    grows_stored : (l : List Ghost) → More (ghosts s) l
        → ((z : Version) (c : Content) → Logged l k z c → Logged (ghosts s) k z c ⊎ AtMost z (version_at k (tables_after s p x (first_of (members s.chain))).slots))
        → Grows k (world_of s) s.chain.wiring s.chain.highest (tables_after s p x) s.halted l
    grows_stored l more new = record {
      wirings = omega arith;
      highests = omega arith;
      halts = λ j e. e;
      more = more;
      fences = λ j m. keeps_fence j;
      versions = λ j m. up_at j;
      new = new;
    }

    -- what is sent on
    sent_carries : Alteration p → 0 < u.sequence.0 → carried (reply (table_for s p).id p query u p.value) ≡ content_of (stored p u)
    unfolding reply
    sent_carries w n = carried_stored p (reply (table_for s p).id p query u p.value) u w.kind refl refl refl (λ e. omega arith)

    good_sent : (l : List Ghost) → Alteration p → 0 < u.session.0 → 0 < u.sequence.0 → Logged l p.key u (content_of (stored p u))
        → Good k (world s.chain (tables_after s p x) s.halted l) (reply (table_for s p).id p query u p.value)
    good_sent l w hs hq h =
        good_reply (tables_after s p x) l query u p.value (fit_taken _ p u g.fit w hs)
        (λ _. subst (Logged l p.key u) (sym (sent_carries w hq)) h)
        (λ _ e. at_most_same (sym (held_after (sym e))))

  -- ---- a number taken

  pres_taken : (x : Sent) → Took (table_for s p) p x → Inv k (stepped p.head.to p s (ok x))
  unfolding stored
  pres_taken x c =
      inv_made (world s.chain (tables_after s p x) s.halted (ghosts s)) x.packet
      (λ i. world s.chain (tables_after s p x) s.halted (new_history (ghosts_taken p.head.to p x.packet [] (held_version (held_for s p)) c.numbered) i)) refl v
      (sound_stored st (ghosts s) c.numbered.0 (λ h m. m) (record { rules = stored_rules p p.head.version g.fit w hs hq; content = λ _. is_logged }))
      (keyed_grows s.chain.wiring s.chain.highest s.chain.change (tables_after s p x) s.halted v.keyed (λ j m. up_at st j)
      (order_new st (λ e j h. g.ahead_hold live c.numbered (sym e) j h)) (some_members _ rules))
      (λ q h. good_grows s.chain.change (grows_stored st (ghosts s) (λ h m. m) (λ x d h. inl h)) h (good_clear h))
      (subst (Good k _) (sym st.sends) (good_sent st (ghosts s) w hs hq is_logged))
    where
      st : Stores (table_for s p) p x c.before p.head.version
      st = c.stores

      w : Alteration p
      w = alteration p g.fit a.asks c.numbered.0

      hq : 0 < p.head.version.sequence.0
      hq = let n = c.numbered.1 in omega arith

      hs : 0 < p.head.version.session.0
      hs = w.orderly hq

      is_logged : Logged (ghosts s) p.key p.head.version (content_of (stored p p.head.version))
      is_logged =
          let same = carried_stored p p p.head.version w.kind refl refl a.asks c.numbered.1 in
          rw same at (g.content (λ e. stored_some p p.head.version w.kind (sym same ∙ e)))

  -- ---- a number given

  pres_given : (x : Sent) → Gave (table_for s p) p x → Inv k (stepped p.head.to p s (ok x))
  unfolding stored reply
  pres_given x c =
      inv_made (world s.chain (tables_after s p x) s.halted (new ∷ ghosts s)) x.packet
      (λ i. world s.chain (tables_after s p x) s.halted (new_history is_new i)) refl v
      (sound_stored st (new ∷ ghosts s) c.unnumbered.0 (λ h m. there m) (record { rules = stored_rules p u g.fit w hs c.some; content = λ _. is_logged }))
      (keyed_numbered p.key u (content_of (stored p u)) p.head.to (held_version (held_for s p)) p
      (keyed_grows s.chain.wiring s.chain.highest s.chain.change (tables_after s p x) s.halted v.keyed (λ j m. up_at st j)
      (order_new st (λ e j h. absurd (g.writes_first live c.unnumbered j h))) (some_members _ rules))
      (λ _. let h = g.session live c.unnumbered in omega (arith, same_session_lem)) first_holds_lem above)
      (λ q h. good_grows s.chain.change (grows_stored st (new ∷ ghosts s) (λ h m. there m) back) h (good_clear h))
      (subst (Good k _) (sym st.sends) (good_sent st (new ∷ ghosts s) w hs c.some is_logged))
    where
      u : Version
      u = c.version

      st : Stores (table_for s p) p x c.before c.version
      st = c.stores

      new : Ghost
      new = numbered p.key c.version (content_of (stored p c.version)) p.head.to (held_version (held_for s p)) p

      w : Alteration p
      w = alteration p g.fit a.asks c.unnumbered.0

      same_session_lem : c.version.session.0 ≡ p.head.version.session.0
      same_session_lem = ap (λ (z : Session). z.0) c.session

      hs : 0 < c.version.session.0
      hs = let n = st.session in omega (arith, same_session_lem)

      is_new : node_ghosts p.head.to p (held_version (held_for s p)) (x.packet ∷ []) ≡ new ∷ []
      is_new =
          ghosts_given p.head.to p x.packet [] (held_version (held_for s p)) c.unnumbered (ap (λ (y : Packet). y.head.answer) st.sends)
          ∙ (ap (λ (y : Packet). numbered y.key y.head.version (carried y) p.head.to (held_version (held_for s p)) p ∷ []) st.sends
          ∙ ap (λ (d : Content). numbered p.key u d p.head.to (held_version (held_for s p)) p ∷ []) (sent_carries st w c.some))

      is_logged : Logged (new ∷ ghosts s) p.key c.version (content_of (stored p c.version))
      is_logged = logged _ _ _ (here refl)

      is_first : p.head.to ≡ first_of (members s.chain)
      is_first = none_ahead_first _ in_chain (g.writes_first live c.unnumbered)

      first_holds_lem : p.key ≡ k → AtMost c.version (version_at k (tables_after s p x (first_of (members s.chain))).slots)
      first_holds_lem e = rw (← is_first) (at_most_same (sym (held_after st (sym e))))

      above : p.key ≡ k → (z : Version) (d : Content) → Logged (ghosts s) k z d → Below z c.version
      above e z d h = go (reflects_cases (reflect_ltb z.session.0 p.head.version.session.0))
        where
          go : (z.session.0 < p.head.version.session.0) ⊎ (z.session.0 < p.head.version.session.0 → ⊥) → Below z c.version
          go (inl l) = inl (omega (arith, same_session_lem))
          go (inr n) =
              atmost_below_trans z c.before.version u
              (subst (AtMost z) (held_before st (sym e)) (g.top live c.unnumbered z d h (omega arith))) st.rises

      back : (z : Version) (d : Content) → Logged (new ∷ ghosts s) k z d → Logged (ghosts s) k z d ⊎ AtMost z (version_at k (tables_after s p x (first_of (members s.chain))).slots)
      back z d (logged i b o (here e)) = let q : z ≡ c.version = cc in inr (rw q (first_holds_lem (cc)))
      back z d (logged i b o (there m)) = inl (logged i b o m)

  pres_case : (x : Sent) → NodeCase (table_for s p) p x → Inv k (stepped p.head.to p s (ok x))
  pres_case x (answered c) = pres_read x c
  pres_case x (nokey c) = pres_lacking x c
  pres_case x (took c) = pres_taken x c
  pres_case x (gave c) = pres_given x c

pub pres_node : {k : List ℕ} {s : State} → Inv k s → (j : ℕ) (p : Packet) → Mem p s.packets → s.halted j ≡ false
    → (o : Out Sent) → node_step (s.table j) p ≡ o → Inv k (stepped j p s o)
pres_node v j p mp awake (refuse n) e = inv_refused j v refl refl refl refl refl
pres_node {k} {s} v j p mp awake (ok x) e =
    let view = node_view (s.table j) p x e in
    subst (λ (i : ℕ). s.halted i ≡ false → NodeView (s.table i) p x → Inv k (stepped i p s (ok x))) (view.accepted.mine ∙ (v.sound.tables j).id)
    (λ h n. pres_case v p mp h n.accepted x n.case) awake view
