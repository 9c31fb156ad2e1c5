-- What a node step that is done says: plain facts about the packet, the slot and what is sent.
use Prim.Native.Nat.{ℕ, ◌+◌, ◌<◌, ◌≤◌}
use mathlib.Core.Path.{◌≡◌, refl, sym, ap, ◌∙◌, subst}
use mathlib.Core.List.{List, []}
use mathlib.Core.Logic.{◌⊎◌, inl, inr}
use native.Mathlib.Omega.{arith}
use lib.ListN.{get_or}
use borrow.Author.Tests.{eqb-true, eqb-false}
use Rattle.wire.specs.Numbers.{ok, Applies}
use Rattle.wire.specs.Version.{zero_version, top_sequence, Below}
use Rattle.wire.specs.Packet.{Packet, op_read, op_write, op_delete, query, answer_value, answer_no_value, answer_no_key}
use Rattle.wire.specs.declared.Session.{Session}
use Rattle.wire.specs.declared.Sequence.{Sequence}
use Rattle.wire.specs.declared.Version.{Version}
use Rattle.wire.proofs.Numbers.{pick_true, pick_false, pick_case, ok_inj, past_all, reflects_cases, reflects_yes, reflects_no, reflect_eqb, judged_done}
use Rattle.wire.proofs.Versions.{reflect_newer, next_sequence_lem}
use Rattle.store.specs.Table.{Slot, Table, find, free_slot, valued, deleted, keep, set_row}
use Rattle.store.specs.Held.{Held, missing, holds, held, nothing, wrote, gone, content_of, held_version, version_at}
use Rattle.std.specs.Prelude.{Option, Some, None}
use Rattle.store.proofs.Find.{held_find, held_at}
use Rattle.steps.specs.Node.{node_step, node_tests, node_does, reply, Sent, sent, absent, answered as answer_of, given, version_for, stored, taken, at_slot, Alters, Numbered, Unnumbered, Stands, AtKey, node_step_rows}
use Rattle.steps.proofs.Node.{stable, found_stands, found_missing, reflect_unnumbered, step_judged}

-- ---- what the packet must be

-- addressed to the node, a query, and not below the fence
pub record Accepted (t : Table) (p : Packet) : Type 0 where
  pub mine : p.head.to ≡ t.id
  pub relayed : p.head.from ≡ 0
  pub asks : p.head.answer ≡ query
  pub live : t.fence.0 ≤ p.head.stamp.0

-- ---- the ways of a node

-- what an answer to a read says of what the table holds: its number and its value
pub data Tells (h : Held) (answer : ℕ) (value : List ℕ) : Type 0 where
  no_key : h ≡ missing → answer ≡ answer_no_key → value ≡ [] → Tells h answer value
  has_value : (s : Slot) → h ≡ holds s → s.state ≡ valued → value ≡ s.value → content_of s ≡ wrote value → answer ≡ answer_value → Tells h answer value
  never_written : (s : Slot) → h ≡ holds s → (s.state ≡ valued → ⊥) → (s.state ≡ deleted → ⊥) → content_of s ≡ nothing → answer ≡ answer_no_value → value ≡ [] → Tells h answer value
  was_deleted : (s : Slot) → h ≡ holds s → s.state ≡ deleted → content_of s ≡ gone → answer ≡ answer_no_value → value ≡ [] → Tells h answer value

-- a read is answered from the slot, with the stored version
pub record Answered (t : Table) (p : Packet) (x : Sent) : Type 0 where
  pub read : p.head.op ≡ op_read
  pub answer : ℕ
  pub value : List ℕ
  pub tells : Tells (held p.key t.slots) answer value
  pub keeps : x.write ≡ keep
  pub sends : x.packet ≡ reply t.id p answer (version_at p.key t.slots) value

-- a write or delete without a number, of a missing key
pub record NoKey (t : Table) (p : Packet) (x : Sent) : Type 0 where
  pub unnumbered : Unnumbered p
  pub lacks : held p.key t.slots ≡ missing
  pub keeps : x.write ≡ keep
  pub sends : x.packet ≡ reply t.id p answer_no_key zero_version []

-- a write or delete is stored under a version, in the place of the slot before, and goes on with it
pub record Stores (t : Table) (p : Packet) (x : Sent) (before : Slot) (v : Version) : Type 0 where
  pub place : ℕ
  pub found : find p.key t.slots ≡ Some place
  pub holding : held p.key t.slots ≡ holds before
  pub session : p.head.version.session.0 ≡ 0 → ⊥
  pub rises : Below before.version v
  pub sets : x.write ≡ set_row place (stored p v)
  pub sends : x.packet ≡ reply t.id p query v p.value

-- the number after the stored one: the next of the session, or the first of a higher one
pub data Next (before : Version) (v : Version) : Type 0 where
  another : before.session.0 ≡ v.session.0 → v.sequence.0 ≡ before.sequence.0 + 1 → Next before v
  first : before.session.0 < v.session.0 → v.sequence.0 ≡ 1 → Next before v

-- a numbered one is taken
pub record Took (t : Table) (p : Packet) (x : Sent) : Type 0 where
  pub numbered : Numbered p
  pub before : Slot
  pub stores : Stores t p x before p.head.version

-- a node that is head gives a number
pub record Gave (t : Table) (p : Packet) (x : Sent) : Type 0 where
  pub unnumbered : Unnumbered p
  pub before : Slot
  pub version : Version
  pub stores : Stores t p x before version
  pub session : version.session ≡ p.head.version.session
  pub next : Next before.version version
  pub some : 0 < version.sequence.0
  pub fits : before.version.sequence.0 ≤ top_sequence → version.sequence.0 ≤ top_sequence

pub data NodeCase (t : Table) (p : Packet) (x : Sent) : Type 0 where
  answered : Answered t p x → NodeCase t p x
  nokey : NoKey t p x → NodeCase t p x
  took : Took t p x → NodeCase t p x
  gave : Gave t p x → NodeCase t p x

pub record NodeView (t : Table) (p : Packet) (x : Sent) : Type 0 where
  pub accepted : Accepted t p
  pub case : NodeCase t p x

-- ---- the content of a slot, by its state

pub content_value : (s : Slot) → s.state ≡ valued → content_of s ≡ wrote s.value
unfolding content_of
content_value s e = pick_true _ _ _ (reflects_yes (reflect_eqb _ _) e)

pub content_gone : (s : Slot) → s.state ≡ deleted → content_of s ≡ gone
unfolding content_of
content_gone s e = pick_false _ _ _ (reflects_no (reflect_eqb s.state valued) (λ v. omega arith)) ∙ pick_true _ _ _ (reflects_yes (reflect_eqb _ _) e)

pub content_none : (s : Slot) → (s.state ≡ valued → ⊥) → (s.state ≡ deleted → ⊥) → content_of s ≡ nothing
unfolding content_of
content_none s v d = pick_false _ _ _ (reflects_no (reflect_eqb _ _) v) ∙ pick_false _ _ _ (reflects_no (reflect_eqb _ _) d)

-- what a write and a delete leave in their slot
pub stored_valued : (p : Packet) (v : Version) → p.head.op ≡ op_write → (stored p v).state ≡ valued
unfolding stored
stored_valued p v e = pick_true _ _ _ (reflects_yes (reflect_eqb _ _) e)

pub stored_deleted : (p : Packet) (v : Version) → p.head.op ≡ op_delete → (stored p v).state ≡ deleted
unfolding stored
stored_deleted p v e = pick_false _ _ _ (reflects_no (reflect_eqb p.head.op op_write) (λ w. omega arith))

pub content_written : (p : Packet) (v : Version) → p.head.op ≡ op_write → content_of (stored p v) ≡ wrote p.value
unfolding stored
content_written p v e = content_value (stored p v) (stored_valued p v e)

pub content_deleted : (p : Packet) (v : Version) → p.head.op ≡ op_delete → content_of (stored p v) ≡ gone
content_deleted p v e = content_gone (stored p v) (stored_deleted p v e)

-- ---- the number that a head gives

given_session : (p : Packet) (s : Slot) → (given p s).session ≡ p.head.version.session
unfolding given
given_session p s = pick_case (λ (v : Version). v.session ≡ p.head.version.session) _ _ _ (λ _. refl) (λ _. refl)

pub given_next : (p : Packet) (s : Slot) → s.version.session.0 ≤ p.head.version.session.0
    → (s.version.session.0 ≡ p.head.version.session.0 → s.version.sequence.0 ≡ top_sequence → ⊥) → Next s.version (given p s)
unfolding given
given_next p s under left =
    pick_case (Next s.version) _ _ _
    (λ e.
    let q = eqb-true p.head.version.session.0 s.version.session.0 e in
    let n = ap (λ (k : Sequence). k.0) (next_sequence_lem s.version.sequence (reflects_no (reflect_eqb _ _) (left (sym q)))) in
    another (omega arith) (omega arith))
    (λ e. let q = eqb-false p.head.version.session.0 s.version.session.0 e in first (omega arith) (omega arith))

next_below : {a v : Version} → Next a v → Below a v
next_below (another e f) = inr (e, omega arith)
next_below (first l f) = inl l

next_some : {a v : Version} → Next a v → 0 < v.sequence.0
next_some (another e f) = omega arith
next_some (first l f) = omega arith

next_fits : {a v : Version} → Next a v → (a.session.0 ≡ v.session.0 → a.sequence.0 ≡ top_sequence → ⊥) → a.sequence.0 ≤ top_sequence → v.sequence.0 ≤ top_sequence
next_fits (another e f) left h = let n = left e in omega arith
next_fits (first l f) left h = omega arith

-- ---- a step that is done is one of them

module _ (t : Table) (p : Packet) (x : Sent) (clear : (n : ℕ) → Applies (node_step_rows t p) n → ⊥) where
  accepts : Accepted t p
  accepts = record {
    mine = stable (reflect_eqb _ _) (λ d. clear _ (inl (refl, inl d)));
    relayed = stable (reflect_eqb _ _) (λ d. clear _ (inl (refl, inr (inl d))));
    asks = stable (reflect_eqb _ _) (λ d. clear _ (inl (refl, inr (inr d))));
    live = let n : p.head.stamp.0 < t.fence.0 → ⊥ = (λ h. clear _ (inr (inl (refl, h)))) in omega arith;
  }

  -- of a missing key
  missing_case : find p.key t.slots ≡ None → x ≡ absent t p → NodeCase t p x
  unfolding absent
  missing_case none e = go (reflects_cases (reflect_eqb p.head.op op_read)) (reflects_cases (reflect_eqb p.head.version.sequence.0 0))
    where
      lacks : held p.key t.slots ≡ missing
      lacks = held_find p.key t.slots ∙ ap (held_at t.slots) none

      go : (p.head.op ≡ op_read) ⊎ Alters p → (p.head.version.sequence.0 ≡ 0) ⊎ (p.head.version.sequence.0 ≡ 0 → ⊥) → NodeCase t p x
      go (inl r) q =
          answered
          (record {
            read = r;
            answer = answer_no_key;
            value = [];
            tells = no_key lacks refl refl;
            keeps = ap (λ (y : Sent). y.write) e;
            sends = ap (λ (y : Sent). y.packet) e ∙ ap (λ (v : Version). reply t.id p answer_no_key v []) (sym (ap held_version lacks));
          })
      go (inr a) (inl q) = nokey (record { unnumbered = (a, q); lacks = lacks; keeps = ap (λ (y : Sent). y.write) e; sends = ap (λ (y : Sent). y.packet) e })
      go (inr a) (inr q) = absurd (clear _ (inr (inr (inr (inl (refl, ((a, q), (found_missing _ _).0 none)))))))

  -- of a key that is there
  module _ (i : ℕ) (s : Slot) (found : find p.key t.slots ≡ Some i) (at : get_or t.slots i free_slot ≡ s) (e : x ≡ at_slot t p i s) where
    holding : held p.key t.slots ≡ holds s
    holding = held_find p.key t.slots ∙ (ap (held_at t.slots) found ∙ ap holds at)

    -- the slot of a row that speaks of it
    here : (P : Slot → Type 0) → P s → AtKey t p P
    here P h = (i, s, subst (Stands p.key t.slots i) at (found_stands p.key t.slots i found), h)

    stores : Alters p → (v : Version) → version_for p s ≡ v → Below s.version v → Stores t p x s v
    unfolding at_slot taken
    stores a v w b =
        let done : x ≡ taken t p i v = e ∙ (pick_false _ _ _ (reflects_no (reflect_eqb _ _) a) ∙ ap (taken t p i) w) in
        record {
          place = i;
          found = found;
          holding = holding;
          session = λ z. clear _ (inr (inr (inl (refl, (a, z)))));
          rises = b;
          sets = ap (λ (y : Sent). y.write) done;
          sends = ap (λ (y : Sent). y.packet) done;
        }

    answers : (answer : ℕ) (value : List ℕ) → p.head.op ≡ op_read → answer_of t p s ≡ sent keep (reply t.id p answer s.version value) → Tells (held p.key t.slots) answer value → NodeCase t p x
    unfolding at_slot
    answers answer value r w tells =
        let done : x ≡ sent keep (reply t.id p answer s.version value) = e ∙ (pick_true _ _ _ (reflects_yes (reflect_eqb _ _) r) ∙ w) in
        answered
        (record {
          read = r;
          answer = answer;
          value = value;
          tells = tells;
          keeps = ap (λ (y : Sent). y.write) done;
          sends = ap (λ (y : Sent). y.packet) done ∙ ap (λ (v : Version). reply t.id p answer v value) (sym (ap held_version holding));
        })

    read_case : p.head.op ≡ op_read → NodeCase t p x
    unfolding answer_of
    read_case r = go (reflects_cases (reflect_eqb s.state valued)) (reflects_cases (reflect_eqb s.state deleted))
      where
        go : (s.state ≡ valued) ⊎ (s.state ≡ valued → ⊥) → (s.state ≡ deleted) ⊎ (s.state ≡ deleted → ⊥) → NodeCase t p x
        go (inl v) d =
            answers answer_value s.value r (pick_true _ _ _ (reflects_yes (reflect_eqb _ _) v)) (has_value s holding v refl (content_value s v) refl)
        go (inr v) (inl d) =
            answers answer_no_value [] r (pick_false _ _ _ (reflects_no (reflect_eqb _ _) v)) (was_deleted s holding d (content_gone s d) refl refl)
        go (inr v) (inr d) =
            answers answer_no_value [] r (pick_false _ _ _ (reflects_no (reflect_eqb _ _) v)) (never_written s holding v d (content_none s v d) refl refl)

    numbered_case : Numbered p → NodeCase t p x
    unfolding version_for
    numbered_case n =
        took
        (record {
          numbered = n;
          before = s;
          stores =
              stores n.0 p.head.version (pick_false _ _ _ (reflects_no (reflect_unnumbered p) (λ u. n.1 u.1)))
              (stable (reflect_newer _ _) (λ b. clear _ (inr (inr (inr (inr (inr (inr (inl (refl, (n, here _ b)))))))))));
        })

    unnumbered_case : Unnumbered p → NodeCase t p x
    unfolding version_for
    unnumbered_case n =
        gave
        (record {
          unnumbered = n;
          before = s;
          version = given p s;
          stores = stores n.0 (given p s) (pick_true _ _ _ (reflects_yes (reflect_unnumbered p) n)) (next_below next);
          session = given_session p s;
          next = next;
          some = next_some next;
          fits = next_fits next (λ q. left (q ∙ ap (λ (z : Session). z.0) (given_session p s)));
        })
      where
        under : s.version.session.0 ≤ p.head.version.session.0
        under = let over : p.head.version.session.0 < s.version.session.0 → ⊥ = (λ h. clear _ (inr (inr (inr (inr (inl (refl, (n, here _ h)))))))) in omega arith

        left : s.version.session.0 ≡ p.head.version.session.0 → s.version.sequence.0 ≡ top_sequence → ⊥
        left q z = clear _ (inr (inr (inr (inr (inr (inl (refl, (n, here _ (λ i. record { 0 = q i }, z)))))))))

        next : Next s.version (given p s)
        next = given_next p s under left

    there_case : NodeCase t p x
    there_case = go (reflects_cases (reflect_eqb p.head.op op_read)) (reflects_cases (reflect_eqb p.head.version.sequence.0 0))
      where
        go : (p.head.op ≡ op_read) ⊎ Alters p → (p.head.version.sequence.0 ≡ 0) ⊎ (p.head.version.sequence.0 ≡ 0 → ⊥) → NodeCase t p x
        go (inl r) q = read_case r
        go (inr a) (inl q) = unnumbered_case (a, q)
        go (inr a) (inr q) = numbered_case (a, q)

pub node_view : (t : Table) (p : Packet) (x : Sent) → node_step t p ≡ ok x → NodeView t p x
unfolding node_step
node_view t p x e = record { accepted = accepts t p x clear; case = go (find p.key t.slots) refl (ok_inj (sym (past_all (node_tests t p (find p.key t.slots)) _ _ e).1)) }
  where
    clear : (n : ℕ) → Applies (node_step_rows t p) n → ⊥
    clear = (judged_done (node_step_rows t p) (node_step t p) (step_judged t p)).0 (x, e)

    go : (f : Option ℕ) → find p.key t.slots ≡ f → x ≡ node_does t p f → NodeCase t p x
    go None none d = missing_case t p x clear none d
    go (Some i) found d = there_case t p x clear i (get_or t.slots i free_slot) found refl d
