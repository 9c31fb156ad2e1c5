-- Nothing frees a slot: whatever happens, a used slot stays used, under its key.
use Prim.Native.Nat.{ℕ, ◌<◌, ◌≤◌}
use mathlib.Core.Path.{◌≡◌, refl, sym, ◌∙◌, subst}
use mathlib.Core.Bool.{Bool, true}
use mathlib.Core.List.{List}
use mathlib.Core.Logic.{◌⊎◌, inl, inr}
use native.Mathlib.Omega.{arith}
use lib.ListN.{length, get_or, set}
use lib.Seq.{get_or-set_same, get_or-set_other}
use borrow.Author.Tests.{eqb-true}
use Rattle.wire.specs.Numbers.{Out, refuse, ok, left}
use Rattle.wire.specs.Packet.{Packet}
use Rattle.wire.specs.declared.Version.{Version}
use Rattle.wire.proofs.Numbers.{pick_case, reflects_cases, reflect_eqb}
use Rattle.store.specs.Table.{Slot, Table, free, free_slot, is_free_slot, Write, write_table, fence_table, blank_table}
use Rattle.store.proofs.Find.{free_at}
use Rattle.steps.specs.declared.Chain.{Chain}
use Rattle.steps.specs.declared.Joining.{Joining}
use Rattle.steps.specs.declared.Change.{Change}
use Rattle.steps.specs.Chain.{Opened}
use Rattle.steps.specs.Node.{Sent, node_step, stored}
use Rattle.steps.specs.Control.{open_step, fence_step, copy_step, copy_slot, enter_step}
use Rattle.steps.proofs.Node.{found_stands}
use Rattle.steps.proofs.NodeView.{NodeCase, answered, nokey, took, gave, Stores, node_view}
use Rattle.steps.proofs.ControlViews.{opened_for, open_view, copy_view, enter_view}
use Rattle.protocol.specs.System.{State, Event, from_client, no_packet, at_relay, at_node, opens, fences, copies, activates, cancels, removes, enters, halts, upd, exec, Reach}
use Rattle.protocol.proofs.Upd.{upd_case}
use Rattle.protocol.proofs.Facts.{chain_keeps, tables_keep}

-- used before, so used after, under the same key
abbrev pub Stays : Slot → Slot → Type 0
Stays before after = (before.state ≡ free → ⊥) → (after.key ≡ before.key) × (after.state ≡ free → ⊥)

-- a node whose table is made: its id was used, and it is not the new node of an open change
pub record Made (s : State) (j : ℕ) : Type 0 where
  pub used : j ≤ s.chain.highest
  pub old : (c : Joining) → Opened s.chain.change c → j ≡ c.fresh → ⊥

-- ---- one slot set

set_stays : (l : List Slot) (m : ℕ) (x : Slot) → m < length l → Stays (get_or l m free_slot) x → (i : ℕ) → Stays (get_or l i free_slot) (get_or (set l m x) i free_slot)
set_stays l m x h stays i = go (reflects_cases (reflect_eqb i m))
  where
    go : (i ≡ m) ⊎ (i ≡ m → ⊥) → Stays (get_or l i free_slot) (get_or (set l m x) i free_slot)
    go (inl e) = subst (λ (n : ℕ). Stays (get_or l n free_slot) (get_or (set l m x) n free_slot)) (sym e) (rw (get_or-set_same l m x free_slot h) stays)
    go (inr n) = rw (get_or-set_other l m i x free_slot n) (λ u. (refl, u))

stored_used : (p : Packet) (v : Version) → ((stored p v).key ≡ p.key) × ((stored p v).state ≡ free → ⊥)
unfolding stored
stored_used p v = (refl, pick_case (λ (n : ℕ). n ≡ free → ⊥) _ _ _ (λ _ e. omega arith) (λ _ e. omega arith))

is_free_lem : (x : Slot) → is_free_slot x ≡ true → x.state ≡ free
unfolding is_free_slot
is_free_lem x q = eqb-true x.state free q

-- ---- the steps that write a slot

node_stays : (t : Table) (p : Packet) (o : Out Sent) → node_step t p ≡ o → (i : ℕ)
    → Stays (get_or t.slots i free_slot) (get_or (left t (λ x. write_table x.write t) o).slots i free_slot)
node_stays t p (refuse n) e i = λ u. (refl, u)
node_stays t p (ok x) e i = go (node_view t p x e).case
  where
    After : Write → Type 0
    After w = Stays (get_or t.slots i free_slot) (get_or (write_table w t).slots i free_slot)

    stores : {before : Slot} {v : Version} → Stores t p x before v → After x.write
    stores {before} {v} z =
        let at = found_stands p.key t.slots z.place z.found in
        let s = stored_used p v in
        subst After (sym z.sets) (set_stays t.slots z.place (stored p v) at.below (λ _. (s.0 ∙ sym at.key, s.1)) i)

    go : NodeCase t p x → After x.write
    go (answered a) = subst After (sym a.keeps) (λ u. (refl, u))
    go (nokey a) = subst After (sym a.keeps) (λ u. (refl, u))
    go (took k) = stores k.stores
    go (gave k) = stores k.stores

enter_stays : (r : Chain) (t : Table) (id : ℕ) (key : List ℕ) (o : Out Write) → enter_step r t id key ≡ o → (i : ℕ)
    → Stays (get_or t.slots i free_slot) (get_or (left t (λ w. write_table w t) o).slots i free_slot)
enter_stays r t id key (refuse n) e i = λ u. (refl, u)
enter_stays r t id key (ok w) e i =
    let v = enter_view r t id key w e in
    let f = free_at t.slots v.place v.lowest in
    subst (λ (w : Write). Stays (get_or t.slots i free_slot) (get_or (write_table w t).slots i free_slot)) (sym v.write)
    (set_stays t.slots v.place _ f.below (λ u. absurd (u (is_free_lem (get_or t.slots v.place free_slot) f.passes))) i)

-- ---- every event

-- a fence is no slot, and the tables that open and copy write are those of a new node
pub slots_stay : (s : State) → Reach s → (e : Event) (j : ℕ) → Made s j → (i : ℕ) → Stays (get_or (s.table j).slots i free_slot) (get_or ((exec e s).table j).slots i free_slot)
unfolding exec
slots_stay s r e j m i = go e
  where
    now : Slot
    now = get_or (s.table j).slots i free_slot

    at : (n : ℕ) (t : Table) → (n ≡ j → Stays (get_or (s.table n).slots i free_slot) (get_or t.slots i free_slot)) → Stays now (get_or (upd s.table n t j).slots i free_slot)
    at n t h =
        upd_case (λ (u : Table). Stays now (get_or u.slots i free_slot)) s.table n t j
        (λ e. subst (λ (k : ℕ). Stays (get_or (s.table k).slots i free_slot) (get_or t.slots i free_slot)) e (h e)) (λ _ u. (refl, u))

    fenced : (n : ℕ) (o : Out Chain) → Stays (get_or (s.table n).slots i free_slot) (get_or (left (s.table n) (λ _. fence_table s.chain.wiring (s.table n)) o).slots i free_slot)
    fenced n (refuse x) u = (refl, u)
    fenced n (ok x) u = (refl, u)

    opened : (after : Bool) (named fresh : ℕ) (o : Out Chain) → open_step s.chain after named fresh ≡ o → fresh ≡ j
        → Stays (get_or (s.table fresh).slots i free_slot) (get_or (left (s.table fresh) (λ _. blank_table fresh s.chain.count) o).slots i free_slot)
    opened after named fresh (refuse x) e q = λ u. (refl, u)
    opened after named fresh (ok x) e q =
        let v = open_view s.chain after named fresh x (chain_keeps s r) e in
        absurd (let a = v.above in let b = m.used in omega arith)

    copied : (k a b : ℕ) (o : Out Chain) → copy_step s.chain k (s.table a) (s.table b) ≡ o → b ≡ j
        → Stays (get_or (s.table b).slots i free_slot) (get_or (left (s.table b) (λ _. write_table (copy_slot k (s.table a)) (s.table b)) o).slots i free_slot)
    copied k a b (refuse x) e q = λ u. (refl, u)
    copied k a b (ok x) e q =
        let v = copy_view s.chain k (s.table a) (s.table b) x (chain_keeps s r) e in
        let o = subst (λ (c : Change). Opened c v.joins.join) (sym v.joins.change) (opened_for v.joins.after v.joins.join) in
        absurd (m.old v.joins.join o (sym q ∙ (sym (tables_keep s r b).id ∙ v.fresh_id)))

    go : (e : Event) → Stays now (get_or ((exec e s).table j).slots i free_slot)
    go (from_client p) = λ u. (refl, u)
    go no_packet = λ u. (refl, u)
    go (at_relay p) = λ u. (refl, u)
    go (at_node n p) = at n _ (λ _. node_stays (s.table n) p (node_step (s.table n) p) refl i)
    go (opens after named fresh) = at fresh _ (opened after named fresh (open_step s.chain after named fresh) refl)
    go (fences n) = at n _ (λ _. fenced n (fence_step s.chain (s.table n)))
    go (copies k a b) = at b _ (copied k a b (copy_step s.chain k (s.table a) (s.table b)) refl)
    go activates = λ u. (refl, u)
    go cancels = λ u. (refl, u)
    go (removes n) = λ u. (refl, u)
    go (enters n id key) = at n _ (λ _. enter_stays s.chain (s.table n) id key (enter_step s.chain (s.table n) id key) refl i)
    go (halts n) = λ u. (refl, u)
