-- What slots and packets say: the content under a version, and that what a node or the relay makes is well-formed.
use Prim.Native.Nat.{ℕ, ◌<◌, ◌≤◌}
use mathlib.Core.Path.{◌≡◌, refl, sym, ap, ◌∙◌, subst}
use mathlib.Core.Bool.{Bool, true, not, ◌&&◌}
use mathlib.Core.List.{List, []}
use mathlib.Core.Logic.{◌⊎◌, inl, inr}
use native.Mathlib.Omega.{arith}
use lib.ListN.{length, get_or}
use lib.Dec.{eqb}
use borrow.Author.Tests.{eq-eqb, ne_eqb}
use Rattle.wire.specs.Numbers.{pick}
use Rattle.wire.specs.Version.{zero_version, is_zero}
use Rattle.wire.specs.Packet.{Packet, Fit, Shape, read, write, delete, value, never_written as never_answer, deleted as deleted_answer, no_key, written, value_size, query, op_read, op_write, op_delete, answer_value, answer_no_value, answer_no_key, answer_written}
use Rattle.wire.specs.declared.Version.{Version}
use Rattle.wire.proofs.Numbers.{pick_true, pick_false, and_both}
use Rattle.store.specs.Table.{Slot, free_slot, valued, deleted, Used, never_written, has_value, was_deleted}
use Rattle.store.specs.Held.{Held, missing, holds, held, Content, nothing, wrote, gone, content_of, held_content, held_version, version_at, content_at}
use Rattle.store.proofs.Rules.{SlotRules, slot_free, slot_used}
use Rattle.store.proofs.Find.{held_holds, find_at, reflect_has}
use Rattle.steps.specs.declared.Chain.{Chain}
use Rattle.steps.specs.Node.{Alters, stored, reply}
use Rattle.steps.specs.Relay.{to_node, to_client}
use Rattle.steps.proofs.NodeView.{content_value, content_gone, content_none, stored_valued, stored_deleted, content_written, content_deleted, Tells, no_key as tells_no_key, has_value as tells_value, never_written as tells_never, was_deleted as tells_deleted}
use Rattle.steps.proofs.NodeSends.{Altering, writes, deletes, altering, altered}
use Rattle.protocol.specs.System.{carried}
use Rattle.protocol.proofs.Ghosts.{and_no}

-- contents are told apart
pub wrote_nothing : {x : List ℕ} {A : Type 0} → wrote x ≡ nothing → A
wrote_nothing e = absurd (let z : ◌≡◌ {A = ℕ} 0 1 = cc in omega arith)

pub gone_nothing : {A : Type 0} → gone ≡ nothing → A
gone_nothing e = absurd (let z : ◌≡◌ {A = ℕ} 0 1 = cc in omega arith)

wrote_gone : {x : List ℕ} {A : Type 0} → wrote x ≡ gone → A
wrote_gone e = absurd (let z : ◌≡◌ {A = ℕ} 0 1 = cc in omega arith)

-- ---- slots

-- content and version of a slot: none and 0.0, or a value or a deletion and a version that was given
pub data Says (c : Content) (v : Version) : Type 0 where
  says_nothing : c ≡ nothing → v ≡ zero_version → Says c v
  says_value : (x : List ℕ) → c ≡ wrote x → length x ≤ value_size → 0 < v.session.0 → 0 < v.sequence.0 → Says c v
  says_gone : c ≡ gone → 0 < v.session.0 → 0 < v.sequence.0 → Says c v

pub says : (x : Slot) → SlotRules x → Says (content_of x) x.version
says x (slot_free e) = let st = ap (λ (y : Slot). y.state) e in says_nothing (content_none x (omega arith) (omega arith)) (rw e)
says x (slot_used hk hv (never_written e n v)) = says_nothing (content_none x (omega arith) (omega arith)) v
says x (slot_used hk hv (has_value e s q)) = says_value x.value (content_value x e) hv s q
says x (slot_used hk hv (was_deleted e n s q)) = says_gone (content_gone x e) s q

-- what is held stands in a slot, under its key
pub held_slot : (k : List ℕ) (l : List Slot) (x : Slot) → held k l ≡ holds x → (i : ℕ) × (get_or l i free_slot ≡ x) × (x.key ≡ k)
held_slot k l x e =
    let h = held_holds k l x e in
    (h.0, h.2, subst (λ (y : Slot). y.key ≡ k) h.2 ((reflect_has k (get_or l h.0 free_slot)).0 (find_at k l h.0 h.1).passes).1)

-- a property of slots holds of what is held, or the key is missing
pub of_held : (P : List ℕ → Content → Version → Type 0) (k : List ℕ) (l : List Slot)
    → ((i : ℕ) → let x = get_or l i free_slot in P x.key (content_of x) x.version) → P k nothing zero_version
    → P k (content_at k l) (version_at k l)
of_held P k l all none = go (held k l) refl
  where
    go : (h : Held) → held k l ≡ h → P k (held_content h) (held_version h)
    go missing e = none
    go (holds x) e =
        let h = held_slot k l x e in
        subst (λ (key : List ℕ). P key (content_of x) x.version) h.2 (subst (λ (y : Slot). P y.key (content_of y) y.version) h.1 (all h.0))

pub held_says : (k : List ℕ) (l : List Slot) → ((i : ℕ) → SlotRules (get_or l i free_slot)) → Says (content_at k l) (version_at k l)
held_says k l rules = of_held (λ key c v. Says c v) k l (λ i. says _ (rules i)) (says_nothing refl refl)

-- ---- queries

-- a write or delete: its kind, and a sequence only with a session
pub record Alteration (p : Packet) : Type 0 where
  pub kind : Altering p.head.op p.head.length
  pub orderly : 0 < p.head.version.sequence.0 → 0 < p.head.version.session.0

pub alteration : (p : Packet) → Fit p → p.head.answer ≡ query → Alters p → Alteration p
alteration p f q a = record { kind = altering q a f.shape; orderly = go f.shape }
  where
    go : Shape p.head.answer p.head.op p.head.length p.head.version → 0 < p.head.version.sequence.0 → 0 < p.head.version.session.0
    go (read e o n v) = absurd (a o)
    go (write e o h) = h
    go (delete e o n h) = h
    go (value e o s h) = λ _. s
    go (never_answer e o n v) = absurd (a o)
    go (deleted_answer e o n s h) = λ _. s
    go (no_key e a b n v) = absurd (omega arith)
    go (written e o n s h) = λ _. s

-- the slot that a write or delete leaves
pub stored_rules : (p : Packet) (v : Version) → Fit p → Alteration p → 0 < v.session.0 → 0 < v.sequence.0 → SlotRules (stored p v)
unfolding stored
stored_rules p v f a hs hq = slot_used f.key (let h = f.small in let h' = f.value in omega arith) (used a.kind)
  where
    used : Altering p.head.op p.head.length → Used (pick (eqb p.head.op op_write) valued deleted) (length p.value) v
    used (writes o) = has_value (stored_valued p v o) hs hq
    used (deletes o n) = was_deleted (stored_deleted p v o) (f.value ∙ n) hs hq

-- ---- what a packet carries under its version

numbered_query : (q : Packet) → q.head.answer ≡ query → (q.head.version.sequence.0 ≡ 0 → ⊥)
    → (eqb q.head.answer query && not (eqb q.head.version.sequence.0 0)) ≡ true
numbered_query q e n = and_both (eqb q.head.answer query) (not (eqb q.head.version.sequence.0 0)) (eq-eqb _ _ e) (ap not (ne_eqb q.head.version.sequence.0 0 n))

carried_write : (q : Packet) → q.head.answer ≡ query → (q.head.version.sequence.0 ≡ 0 → ⊥) → q.head.op ≡ op_write → carried q ≡ wrote q.value
unfolding carried
carried_write q e n o = pick_true _ _ _ (numbered_query q e n) ∙ pick_true _ _ _ (eq-eqb _ _ o)

carried_delete : (q : Packet) → q.head.answer ≡ query → (q.head.version.sequence.0 ≡ 0 → ⊥) → q.head.op ≡ op_delete → carried q ≡ gone
unfolding carried
carried_delete q e n o =
    pick_true _ _ _ (numbered_query q e n)
    ∙ (pick_false _ _ _ (ne_eqb q.head.op op_write (omega arith)) ∙ pick_false _ _ _ (ne_eqb q.head.op op_read (omega arith)))

pub stored_some : (p : Packet) (v : Version) → Altering p.head.op p.head.length → content_of (stored p v) ≡ nothing → ⊥
stored_some p v (writes o) e = wrote_nothing (sym (content_written p v o) ∙ e)
stored_some p v (deletes o n) e = gone_nothing (sym (content_deleted p v o) ∙ e)

-- a query with a number carries what it leaves in a slot, in any packet of its op and value
pub carried_stored : (p q : Packet) (v : Version) → Altering p.head.op p.head.length → q.head.op ≡ p.head.op → q.value ≡ p.value → q.head.answer ≡ query
    → (q.head.version.sequence.0 ≡ 0 → ⊥) → carried q ≡ content_of (stored p v)
carried_stored p q v (writes o) eo ev e n = carried_write q e n (eo ∙ o) ∙ (ap wrote ev ∙ sym (content_written p v o))
carried_stored p q v (deletes o _) eo ev e n = carried_delete q e n (eo ∙ o) ∙ sym (content_deleted p v o)

-- a query without a number carries nothing
pub carried_unnumbered : (q : Packet) → q.head.answer ≡ query → q.head.version.sequence.0 ≡ 0 → carried q ≡ nothing
unfolding carried
carried_unnumbered q e n =
    pick_false _ _ _ (and_no (eqb q.head.answer query) (ap not (eq-eqb q.head.version.sequence.0 0 n)))
    ∙ (pick_false _ _ _ (ne_eqb q.head.answer answer_value (omega arith))
    ∙ pick_false _ _ _ (ap (λ (b : Bool). b && not (is_zero q.head.version)) (ne_eqb q.head.answer answer_no_value (omega arith))))

-- answers
carried_value : (j : ℕ) (p : Packet) (v : Version) (x : List ℕ) → carried (reply j p answer_value v x) ≡ wrote x
unfolding carried reply pick
carried_value j p v x = refl

carried_no_value : (j : ℕ) (p : Packet) (v : Version) (x : List ℕ) → carried (reply j p answer_no_value v x) ≡ pick (not (is_zero v)) gone nothing
unfolding carried reply pick
carried_no_value j p v x = refl

pub carried_no_key : (j : ℕ) (p : Packet) (v : Version) (x : List ℕ) → carried (reply j p answer_no_key v x) ≡ nothing
unfolding carried reply pick
carried_no_key j p v x = refl

pub carried_client : (p : Packet) → carried (to_client p.head.answer p.value p) ≡ carried p
unfolding carried to_client
carried_client p = refl

pub carried_written : (p : Packet) → carried (to_client answer_written [] p) ≡ nothing
unfolding carried to_client pick
carried_written p = refl

-- ---- answers to reads

-- answer, value and version, and the content that they show
data Reads (answer : ℕ) (x : List ℕ) (v : Version) (c : Content) : Type 0 where
  no_such_key : answer ≡ answer_no_key → x ≡ [] → v ≡ zero_version → c ≡ nothing → Reads answer x v c
  a_value : answer ≡ answer_value → c ≡ wrote x → length x ≤ value_size → 0 < v.session.0 → 0 < v.sequence.0 → Reads answer x v c
  no_value_yet : answer ≡ answer_no_value → x ≡ [] → v ≡ zero_version → c ≡ nothing → Reads answer x v c
  a_deletion : answer ≡ answer_no_value → x ≡ [] → c ≡ gone → 0 < v.session.0 → 0 < v.sequence.0 → Reads answer x v c

reads : (h : Held) (answer : ℕ) (x : List ℕ) → Says (held_content h) (held_version h) → Tells h answer x → Reads answer x (held_version h) (held_content h)
reads h answer x s (tells_no_key m e ex) = no_such_key e ex (ap held_version m) (ap held_content m)
reads h answer x s (tells_value y m _ _ c e) = go s (ap held_content m ∙ c)
  where
    go : Says (held_content h) (held_version h) → held_content h ≡ wrote x → Reads answer x (held_version h) (held_content h)
    go (says_nothing n z) c = wrote_nothing (sym c ∙ n)
    go (says_value y n l hs hq) c = a_value e c (let same : x ≡ y = cc in rw same l) hs hq
    go (says_gone n hs hq) c = wrote_gone (sym c ∙ n)
reads h answer x s (tells_never y m _ _ c e ex) = go s (ap held_content m ∙ c)
  where
    go : Says (held_content h) (held_version h) → held_content h ≡ nothing → Reads answer x (held_version h) (held_content h)
    go (says_nothing n z) c = no_value_yet e ex z c
    go (says_value y n l hs hq) c = wrote_nothing (sym n ∙ c)
    go (says_gone n hs hq) c = gone_nothing (sym n ∙ c)
reads h answer x s (tells_deleted y m _ c e ex) = go s (ap held_content m ∙ c)
  where
    go : Says (held_content h) (held_version h) → held_content h ≡ gone → Reads answer x (held_version h) (held_content h)
    go (says_nothing n z) c = gone_nothing (sym c ∙ n)
    go (says_value y n l hs hq) c = wrote_gone (sym n ∙ c)
    go (says_gone n hs hq) c = a_deletion e ex c hs hq

-- such an answer carries what is held
pub carried_answer : (j : ℕ) (p : Packet) (h : Held) (answer : ℕ) (x : List ℕ) → Says (held_content h) (held_version h) → Tells h answer x
    → carried (reply j p answer (held_version h) x) ≡ held_content h
carried_answer j p h answer x s t = go (held_version h) (held_content h) (reads h answer x s t)
  where
    at : (a : ℕ) (v : Version) → answer ≡ a → carried (reply j p answer v x) ≡ carried (reply j p a v x)
    at a v e = ap (λ (a : ℕ). carried (reply j p a v x)) e

    go : (v : Version) (c : Content) → Reads answer x v c → carried (reply j p answer v x) ≡ c
    go v c (no_such_key e ex z n) = at answer_no_key v e ∙ (carried_no_key j p v x ∙ sym n)
    go v c (a_value e n l hs hq) = at answer_value v e ∙ (carried_value j p v x ∙ sym n)
    go v c (no_value_yet e ex z n) = at answer_no_value v e ∙ (carried_no_value j p v x ∙ (pick_false _ _ _ (ap (λ (v : Version). not (is_zero v)) z) ∙ sym n))
    go v c (a_deletion e ex n hs hq) =
        at answer_no_value v e
        ∙ (carried_no_value j p v x
        ∙ (pick_true _ _ _ (ap (λ (b : Bool). not (b && eqb v.sequence.0 0)) (ne_eqb v.session.0 0 (omega arith))) ∙ sym n))

-- ---- what is made is well-formed

fit_reply : (j : ℕ) (p : Packet) (answer : ℕ) (v : Version) (x : List ℕ) → Fit p → length x ≤ value_size → Shape answer p.head.op (length x) v → Fit (reply j p answer v x)
unfolding reply
fit_reply j p answer v x f l s = record { shape = s; small = l; key = f.key; value = refl }

pub fit_answer : (j : ℕ) (p : Packet) (h : Held) (answer : ℕ) (x : List ℕ) → Fit p → p.head.op ≡ op_read → Says (held_content h) (held_version h) → Tells h answer x
    → Fit (reply j p answer (held_version h) x)
fit_answer j p h answer x f o s t = go (held_version h) (held_content h) (reads h answer x s t)
  where
    none : x ≡ [] → length x ≡ 0
    none e = ap length e

    go : (v : Version) (c : Content) → Reads answer x v c → Fit (reply j p answer v x)
    go v c (no_such_key e ex z n) = let l = none ex in fit_reply j p answer v x f (omega arith) (no_key e (omega arith) (omega arith) l z)
    go v c (a_value e n l hs hq) = fit_reply j p answer v x f l (value e o hs hq)
    go v c (no_value_yet e ex z n) = let l = none ex in fit_reply j p answer v x f (omega arith) (never_answer e o l z)
    go v c (a_deletion e ex n hs hq) = let l = none ex in fit_reply j p answer v x f (omega arith) (deleted_answer e o l hs hq)

pub fit_no_key : (j : ℕ) (p : Packet) → Fit p → Alteration p → Fit (reply j p answer_no_key zero_version [])
fit_no_key j p f a = go a.kind
  where
    go : Altering p.head.op p.head.length → Fit (reply j p answer_no_key zero_version [])
    go (writes o) = fit_reply j p answer_no_key zero_version [] f (omega arith) (no_key refl (omega arith) (omega arith) refl refl)
    go (deletes o n) = fit_reply j p answer_no_key zero_version [] f (omega arith) (no_key refl (omega arith) (omega arith) refl refl)

pub fit_taken : (j : ℕ) (p : Packet) (v : Version) → Fit p → Alteration p → 0 < v.session.0 → Fit (reply j p query v p.value)
fit_taken j p v f a hs =
    fit_reply j p query v p.value f (let h = f.small in let h' = f.value in omega arith)
    (subst (λ (n : ℕ). Shape query p.head.op n v) (sym f.value) (altered (λ _. hs) a.kind))

-- a query sent on to a node: a read with 0.0, or a write or delete
pub fit_to_node_read : (r : Chain) (j : ℕ) (v : Version) (p : Packet) → Fit p → p.head.op ≡ op_read → p.head.length ≡ 0 → v ≡ zero_version → Fit (to_node r j v p)
unfolding to_node
fit_to_node_read r j v p f o n z = record { shape = read refl o n z; small = f.small; key = f.key; value = f.value }

pub fit_to_node : (r : Chain) (j : ℕ) (v : Version) (p : Packet) → Fit p → Alteration p → (0 < v.sequence.0 → 0 < v.session.0) → Fit (to_node r j v p)
unfolding to_node
fit_to_node r j v p f a h = record { shape = altered h a.kind; small = f.small; key = f.key; value = f.value }

pub fit_to_client : (p : Packet) → Fit p → Fit (to_client p.head.answer p.value p)
unfolding to_client
fit_to_client p f = record {
  shape = subst (λ (n : ℕ). Shape p.head.answer p.head.op n p.head.version) (sym f.value) f.shape;
  small = let h = f.small in let h' = f.value in omega arith;
  key = f.key;
  value = refl;
}

pub fit_written : (p : Packet) → Fit p → Alteration p → 0 < p.head.version.session.0 → 0 < p.head.version.sequence.0 → Fit (to_client answer_written [] p)
unfolding to_client
fit_written p f a hs hq = record { shape = written refl (op a.kind) refl hs hq; small = omega arith; key = f.key; value = refl }
  where
    op : Altering p.head.op p.head.length → (p.head.op ≡ op_write) ⊎ (p.head.op ≡ op_delete)
    op (writes o) = inl o
    op (deletes o n) = inr o
