-- What is true of every run besides demand 3: tables and record keep the rules, a marked change is fenced, and what never happens.
use Prim.Native.Nat.{ℕ, ◌<◌, ◌≤◌}
use mathlib.Core.Path.{◌≡◌, refl, sym, ap, ◌∙◌, subst, subst₂}
use mathlib.Core.Bool.{Bool, true, false, not, ◌&&◌, ◌||◌, false≢true}
use mathlib.Core.List.Memᴰ.{append_left}
use mathlib.Core.List.Memᴰ.{eq_of_singleton}
use mathlib.Core.List.Memᴰ.{head as here}
use mathlib.Core.List.Memᴰ.{tail as there}
use mathlib.Core.List.{List, [], ◌∷◌, ◌++◌, Memᴰ as Mem}
use mathlib.Core.Logic.{⊎_elim}
use native.Mathlib.Omega.{arith}
use lib.ListN.{length, get_or}
use lib.Dec.{eqb}
use borrow.Author.Tests.{eqb-true, eqb-false, ltb-true, ltb-false, not-true, not-false}
use Rattle.wire.specs.Numbers.{Out, refuse, ok, number_of, guard, Test, test, judge, malformed, out_of_turn, session_over, fence_above}
use Rattle.wire.specs.Version.{zero_version, top_sequence, less_stamp, less_session}
use Rattle.wire.specs.Packet.{Packet, query, answer_written}
use Rattle.wire.specs.declared.Session.{Session}
use Rattle.wire.specs.declared.Version.{Version}
use Rattle.wire.proofs.Numbers.{or_false, and_left, and_right}
use Rattle.store.specs.Table.{Slot, Table, free_slot, find}
use Rattle.store.specs.Held.{Content, content_of}
use Rattle.std.specs.Prelude.{Option, Some, None}
use Rattle.steps.specs.declared.Joining.{Joining}
use Rattle.steps.specs.declared.Change.{Change}
use Rattle.steps.specs.declared.Change.TheVariants.{Still, Before, After}
use Rattle.steps.specs.Chain.{is_open, when_open, ChainRules, Opened}
use Rattle.steps.specs.Node.{Sent, reply, node_step, node_tests, when_found, is_unnumbered}
use Rattle.steps.specs.Relay.{relay_step, relay_tests, packet_sent}
use Rattle.steps.specs.Control.{open_step, open_tests, fence_step, fence_tests, copy_step, copy_tests, activate_step, activate_tests, cancel_step, remove_step, remove_tests, enter_step, enter_tests}
use Rattle.steps.proofs.Node.{reflect_unnumbered}
use Rattle.steps.proofs.NodeView.{NodeCase, answered, nokey, took, gave, node_view}
use Rattle.steps.proofs.NodeSends.{never_acks}
use Rattle.protocol.specs.System.{State, Event, from_client, no_packet, at_relay, at_node, opens, fences, copies, activates, cancels, removes, enters, halts, Entry, Ghost, numbered, ghosts_of, all_ghosts, ghosts, made_by, Enabled, Reach, start, step}
use Rattle.protocol.specs.Trace.{Gives}
use Rattle.protocol.specs.Inv.{Logged, logged, SlotGood, TableGood}
use Rattle.protocol.proofs.Prims.{awake_live}
use Rattle.protocol.proofs.Packets.{Says, says_nothing, says_value, says_gone, says, wrote_nothing, gone_nothing, held_slot}
use Rattle.protocol.proofs.Trace.{entry_of, adds, noted, numbered_trace}
use Rattle.protocol.proofs.Main.{invariant}

-- ---- rules

-- the record keeps the rules
pub chain_keeps : (s : State) → Reach s → ChainRules s.chain
chain_keeps s r = (invariant [] s r).sound.rules

-- every node's table, in the chain or not: its own id, as many slots as the record says, each by the rules, and a fence no higher than the wiring number
pub tables_keep : (s : State) → Reach s → (j : ℕ) → TableGood s.chain (ghosts s) j (s.table j)
tables_keep s r j = (invariant [] s r).sound.tables j

-- in a marked change the named node's fence is the wiring number
pub marked_fenced : (s : State) → Reach s → (c : Joining) → Opened s.chain.change c → c.fenced ≡ true → (s.table c.named).fence ≡ s.chain.wiring
marked_fenced s r c o f =
    let h = (invariant [] s r).sound.fenced c o f in
    let e : (s.table c.named).fence.0 ≡ s.chain.wiring.0 = omega arith in
    λ i. record { 0 = e i }

-- ---- every entry of a trace

every_entry : (P : Entry → Type 0) → ((s : State) → Reach s → (e : Event) → Enabled e s → P (entry_of e s)) → (s : State) → Reach s → (x : Entry) → Mem x s.trace → P x
every_entry P h s (start z) x m = none (subst (λ (l : List Entry). Mem x l) z.fresh m)
  where
    none : Mem x [] → P x
    none m = elim m [ ]
every_entry P h _ (step {s = s} r e en) x m = go (subst (λ (l : List Entry). Mem x l) (adds e s).0 m) (λ m. every_entry P h s r x m)
  where
    go : Mem x (entry_of e s ∷ s.trace) → (Mem x s.trace → P x) → P x
    go (here q) ih = subst P (sym q) (h s r e en)
    go (there m) ih = ih m

-- ---- the test that refused

-- n is the number of a test that holds, and none before it holds
data Stopped (n : ℕ) : List Test → Type 0 where
  at : {t : Test} {l : List Test} → t.number ≡ n → t.holds ≡ true → Stopped n (t ∷ l)
  past : {t : Test} {l : List Test} → t.holds ≡ false → Stopped n l → Stopped n (t ∷ l)

stopped : {A : Type 0} (l : List Test) (a : A) (n : ℕ) → 0 < n → number_of (judge l (ok a)) ≡ n → Stopped n l
unfolding guard
stopped [] a n h e = absurd (omega arith)
stopped (t ∷ l) a n h e = go t.holds refl e (stopped l a n h)
  where
    go : (b : Bool) → t.holds ≡ b → number_of (guard b t.number (judge l (ok a))) ≡ n → (number_of (judge l (ok a)) ≡ n → Stopped n l) → Stopped n (t ∷ l)
    go true q e ih = at e q
    go false q e ih = past q (ih e)

-- the tests of an event
abbrev tests_of : Event → State → List Test
tests_of (from_client p) s = relay_tests s.chain p
tests_of no_packet s = test malformed true ∷ []
tests_of (at_relay p) s = relay_tests s.chain p
tests_of (at_node j p) s = node_tests (s.table j) p (find p.key (s.table j).slots)
tests_of (opens side named fresh) s = open_tests s.chain side named fresh
tests_of (fences j) s = fence_tests s.chain (s.table j)
tests_of (copies i a b) s = copy_tests s.chain i (s.table a) (s.table b)
tests_of activates s = activate_tests s.chain
tests_of cancels s = test out_of_turn (not (is_open s.chain.change)) ∷ []
tests_of (removes j) s = remove_tests s.chain j
tests_of (enters j id key) s = enter_tests s.chain (s.table j) id key
tests_of (halts j) s = []

stopped_by : (e : Event) (s : State) (n : ℕ) → 0 < n → (entry_of e s).number ≡ n → Stopped n (tests_of e s)
unfolding relay_step node_step open_step fence_step copy_step activate_step cancel_step remove_step enter_step
stopped_by (from_client p) s n h q = stopped _ _ n h q
stopped_by no_packet s n h q = at q refl
stopped_by (at_relay p) s n h q = stopped _ _ n h q
stopped_by (at_node j p) s n h q = stopped _ _ n h q
stopped_by (opens side named fresh) s n h q = stopped _ _ n h q
stopped_by (fences j) s n h q = stopped _ _ n h q
stopped_by (copies i a b) s n h q = stopped _ _ n h q
stopped_by activates s n h q = stopped _ _ n h q
stopped_by cancels s n h q = stopped _ _ n h q
stopped_by (removes j) s n h q = stopped _ _ n h q
stopped_by (enters j id key) s n h q = stopped _ _ n h q
stopped_by (halts j) s n h q = absurd (omega arith)

-- a number that no test has
abbrev lacks : ℕ → List Test → Bool
lacks n [] = true
lacks n (t ∷ l) = not (eqb t.number n) && lacks n l

nowhere : {A : Type 0} {n : ℕ} {l : List Test} → lacks n l ≡ true → Stopped n l → A
nowhere {A} {n} {l} e h = absurd (go l e h)
  where
    go : (l : List Test) → lacks n l ≡ true → Stopped n l → ⊥
    go (t ∷ l) e (at q _) = eqb-false t.number n (not-true (eqb t.number n) (and_left (not (eqb t.number n)) (lacks n l) e)) q
    go [] e x'' = elim x'' [ ]
    go (t ∷ l) e (past _ s) = go l (and_right (not (eqb t.number n)) (lacks n l) e) s

-- past a test of another number, and at the only one that has the number
skip : {n : ℕ} {t : Test} {l : List Test} → Stopped n (t ∷ l) → eqb t.number n ≡ false → (t.holds ≡ false) × Stopped n l
skip (at q h) e = absurd (eqb-false _ _ e q)
skip (past h s) e = (h, s)

only : {n : ℕ} {t : Test} {l : List Test} → Stopped n (t ∷ l) → lacks n l ≡ true → t.holds ≡ true
only (at q h) e = h
only (past h s) e = nowhere e s

-- ---- refusal 22: no table's fence is above the wiring number

pub never_22 : (s : State) → Reach s → (x : Entry) → Mem x s.trace → x.number ≡ fence_above → ⊥
never_22 = every_entry (λ x. x.number ≡ fence_above → ⊥) (λ s r e en q. by s r e (stopped_by e s fence_above (omega arith) q))
  where
    above : (s : State) → Reach s → (j : ℕ) (ch : Change) → when_open ch (λ c. less_stamp s.chain.wiring (s.table j).fence) ≡ true → ⊥
    above s r j Still h = false≢true h
    above s r j (Before c) h = let g = (tables_keep s r j).fence in let l : s.chain.wiring.0 < (s.table j).fence.0 = ltb-true _ _ h in omega arith
    above s r j (After c) h = let g = (tables_keep s r j).fence in let l : s.chain.wiring.0 < (s.table j).fence.0 = ltb-true _ _ h in omega arith

    fence : (s : State) → Reach s → (j : ℕ) → Stopped fence_above (fence_tests s.chain (s.table j)) → ⊥
    fence s r j h = above s r j s.chain.change (only (skip (skip (skip h refl).1 refl).1 refl).1 refl)

    by : (s : State) → Reach s → (e : Event) → Stopped fence_above (tests_of e s) → ⊥
    by s r (from_client p) h = nowhere refl h
    by s r no_packet h = nowhere refl h
    by s r (at_relay p) h = nowhere refl h
    by s r (at_node j p) h = nowhere refl h
    by s r (opens side named fresh) h = nowhere refl h
    by s r (fences j) h = fence s r j h
    by s r (copies i a b) h = nowhere refl h
    by s r activates h = nowhere refl h
    by s r cancels h = nowhere refl h
    by s r (removes j) h = nowhere refl h
    by s r (enters j id key) h = nowhere refl h
    by s r (halts j) h = nowhere refl h

-- ---- refusal 10: what a node stores has no higher session than a packet without a number that it would take

-- what is true of 0.0 and of every version that was given is true of every slot's
slots_have : (s : State) → Reach s → (P : Version → Type 0) → P zero_version → ((k : List ℕ) (v : Version) (c : Content) → Logged (ghosts s) k v c → P v) → (j i : ℕ) → P (get_or (s.table j).slots i free_slot).version
slots_have s r P zero given j i = go (says x g.rules)
  where
    x : Slot
    x = get_or (s.table j).slots i free_slot

    g : SlotGood (ghosts s) x
    g = (tables_keep s r j).slots i

    go : Says (content_of x) x.version → P x.version
    go (says_nothing n z) = subst P (sym z) zero
    go (says_value y n _ _ _) = given x.key x.version (content_of x) (g.content (λ z. wrote_nothing (sym n ∙ z)))
    go (says_gone n _ _) = given x.key x.version (content_of x) (g.content (λ z. gone_nothing (sym n ∙ z)))

-- no slot has a higher session than the record
pub sessions_low : (s : State) → Reach s → (j i : ℕ) → (get_or (s.table j).slots i free_slot).version.session.0 ≤ s.chain.session.0
sessions_low s r = slots_have s r (λ v. v.session.0 ≤ s.chain.session.0) (omega arith) (λ k. (invariant k s r).keyed.sessions)

pub never_10 : (s : State) → Reach s → (x : Entry) → Mem x s.trace → x.number ≡ session_over → ⊥
never_10 = every_entry (λ x. x.number ≡ session_over → ⊥) (λ s r e en q. by s r e en (stopped_by e s session_over (omega arith) q))
  where
    same : (a b : ℕ) → not (eqb a b) ≡ false → a ≡ b
    same a b e = eqb-true a b (not-false (eqb a b) e)

    over : (s : State) → Reach s → (j : ℕ) (f : Option ℕ) (p : Packet) → p.head.version.session.0 ≡ s.chain.session.0
        → when_found (s.table j) f (λ x. less_session p.head.version.session x.version.session) ≡ true → ⊥
    over s r j None p e h = false≢true h
    over s r j (Some i) p e h = let l = sessions_low s r j i in let g = ltb-true p.head.version.session.0 _ h in omega arith

    node : (s : State) → Reach s → (j : ℕ) (p : Packet) → Enabled (at_node j p) s → Stopped session_over (node_tests (s.table j) p (find p.key (s.table j).slots)) → ⊥
    node s r j p en st =
        let q₄ = skip st refl in
        let q₇ = skip q₄.1 refl in
        let h = only (skip (skip q₇.1 refl).1 refl).1 refl in
        let a = or_false (not (eqb p.head.to (s.table j).id)) (not (eqb p.head.from 0) || not (eqb p.head.answer query)) q₄.0 in
        let b = or_false (not (eqb p.head.from 0)) (not (eqb p.head.answer query)) a.1 in
        let to : p.head.to ≡ j = same _ _ a.0 ∙ (tables_keep s r j).id in
        let live = awake_live (invariant [] s r) p en.0 (rw to en.1) (same _ _ b.0) (same _ _ b.1) (let h : (s.table p.head.to).fence.0 ≤ p.head.stamp.0 = rw to (ltb-false _ _ q₇.0) in omega arith) in
        let low : p.head.version.session ≡ s.chain.session = ((invariant [] s r).packets p en.0).current live ((reflect_unnumbered p).0 (and_left (is_unnumbered p) _ h)) in
        over s r j (find p.key (s.table j).slots) p (ap (λ (z : Session). z.0) low) (and_right (is_unnumbered p) _ h)

    by : (s : State) → Reach s → (e : Event) → Enabled e s → Stopped session_over (tests_of e s) → ⊥
    by s r (from_client p) en h = nowhere refl h
    by s r no_packet en h = nowhere refl h
    by s r (at_relay p) en h = nowhere refl h
    by s r (at_node j p) en h = node s r j p en h
    by s r (opens side named fresh) en h = nowhere refl h
    by s r (fences j) en h = nowhere refl h
    by s r (copies i a b) en h = nowhere refl h
    by s r activates en h = nowhere refl h
    by s r cancels en h = nowhere refl h
    by s r (removes j) en h = nowhere refl h
    by s r (enters j id key) en h = nowhere refl h
    by s r (halts j) en h = nowhere refl h

-- ---- no sequence is over 32 bits

-- a number that a node gives fits, if what it holds does
given_fits : (s : State) → ((j i : ℕ) → (get_or (s.table j).slots i free_slot).version.sequence.0 ≤ top_sequence)
    → (e : Event) (k : List ℕ) (v : Version) (c : Content) (j : ℕ) (b : Version) (p : Packet) → Gives (entry_of e s) k v c j b p → v.sequence.0 ≤ top_sequence
unfolding reply
given_fits s low e k v c j b p g = go (node_step (s.table j) p) refl (subst (λ (e : Event). (entry_of e s).made ≡ g.sent ∷ g.others) (sym (adds e s).2 ∙ g.event) g.made)
  where
    of : (x : Sent) → NodeCase (s.table j) p x → x.packet ≡ g.sent → v.sequence.0 ≤ top_sequence
    of x (answered a) e = absurd (g.unnumbered.0 a.read)
    of x (nokey a) e = absurd (omega (arith, ap (λ (q : Packet). q.head.answer) (sym a.sends ∙ e) ∙ g.asks))
    of x (took a) e = absurd (a.numbered.1 g.unnumbered.1)
    of x (gave a) e =
        let (i, is, _) = held_slot p.key (s.table j).slots a.before a.stores.holding in
        let new : a.version ≡ v = ap (λ (q : Packet). q.head.version) (sym a.stores.sends ∙ e) ∙ g.version in
        subst (λ (u : Version). u.sequence.0 ≤ top_sequence) new (a.fits (subst (λ (y : Slot). y.version.sequence.0 ≤ top_sequence) is (low j i)))

    go : (o : Out Sent) → node_step (s.table j) p ≡ o → made_by (λ x. x.packet) o ≡ g.sent ∷ g.others → v.sequence.0 ≤ top_sequence
    go (refuse n) e h = absurd (omega (arith, ap length h))
    go (ok x) e h = of x (node_view (s.table j) p x e).case (cc)

logged_fit : (s : State) → Reach s → (k : List ℕ) (v : Version) (c : Content) → Logged (ghosts s) k v c → v.sequence.0 ≤ top_sequence
logged_fit s (start z) k v c (logged j b p m) = none (subst₂ (λ (l : List Entry) (o : List Ghost). Mem (numbered k v c j b p) (all_ghosts l ++ o)) z.fresh z.unwritten m)
  where
    none : {g : Ghost} → Mem g [] → v.sequence.0 ≤ top_sequence
    none m = elim m [ ]
logged_fit _ (step {s = s} r e en) k v c (logged j b p m) =
    ⊎_elim (λ n. new n (slots_have s r (λ v. v.sequence.0 ≤ top_sequence) (omega arith) (λ k v c h. logged_fit s r k v c h))) (λ n. logged_fit s r k v c (logged j b p n)) (noted s e (numbered k v c j b p) m)
  where
    new : Mem (numbered k v c j b p) (ghosts_of (entry_of e s).event (entry_of e s).made (entry_of e s).before)
        → ((j i : ℕ) → (get_or (s.table j).slots i free_slot).version.sequence.0 ≤ top_sequence) → v.sequence.0 ≤ top_sequence
    new n low =
        let (x, m, h) = (numbered_trace (entry_of e s ∷ []) k v c j b p).0 (append_left [] n) in
        given_fits s low e k v c j b p (subst (λ (x : Entry). Gives x k v c j b p) (eq_of_singleton m) h)

-- no slot has one
pub sequences_fit : (s : State) → Reach s → (j i : ℕ) → (get_or (s.table j).slots i free_slot).version.sequence.0 ≤ top_sequence
sequences_fit s r = slots_have s r (λ v. v.sequence.0 ≤ top_sequence) (omega arith) (logged_fit s r)

-- ---- no node makes answer 4

pub no_node_acks : (s : State) → Reach s → (x : Entry) → Mem x s.trace → (j : ℕ) (p q : Packet) → x.event ≡ at_node j p → Mem q x.made → q.head.answer ≡ answer_written → ⊥
no_node_acks = every_entry (λ x. (j : ℕ) (p q : Packet) → x.event ≡ at_node j p → Mem q x.made → q.head.answer ≡ answer_written → ⊥) (λ s r e en j p q h. by s e j p q (sym (adds e s).2 ∙ h))
  where
    made : (t : Table) (p q : Packet) (o : Out Sent) → node_step t p ≡ o → Mem q (made_by (λ x. x.packet) o) → q.head.answer ≡ answer_written → ⊥
    made t p q (refuse n) e m a = none m
      where
        none : Mem q [] → ⊥
        none m = elim m [ ]
    made t p q (ok x) e m a = never_acks t p x e (ap (λ (y : Packet). y.head.answer) (sym (eq_of_singleton m)) ∙ a)

    by : (s : State) (e : Event) (j : ℕ) (p q : Packet) → e ≡ at_node j p → Mem q (entry_of e s).made → q.head.answer ≡ answer_written → ⊥
    by s e j p q is m a = made (s.table j) p q _ refl (subst (λ (e : Event). Mem q (entry_of e s).made) is m) a

-- ---- an event makes at most one packet

pub makes_one : (s : State) → Reach s → (x : Entry) → Mem x s.trace → length x.made ≤ 1
makes_one = every_entry (λ x. length x.made ≤ 1) (λ s r e en. by s e)
  where
    one : {A : Type 0} (f : A → Packet) (o : Out A) → length (made_by f o) ≤ 1
    one f (refuse n) = omega arith
    one f (ok a) = omega arith

    by : (s : State) (e : Event) → length (entry_of e s).made ≤ 1
    by s (from_client p) = one packet_sent (relay_step s.chain p)
    by s no_packet = omega arith
    by s (at_relay p) = one packet_sent (relay_step s.chain p)
    by s (at_node j p) = one (λ x. x.packet) (node_step (s.table j) p)
    by s (opens side named fresh) = omega arith
    by s (fences j) = omega arith
    by s (copies i a b) = omega arith
    by s activates = omega arith
    by s cancels = omega arith
    by s (removes j) = omega arith
    by s (enters j id key) = omega arith
    by s (halts j) = omega arith
