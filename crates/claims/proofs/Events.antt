-- What the contracts promise of a call is what the call does in the system over bytes.
use Prim.Native.Nat.{ℕ, ◌≤◌}
use mathlib.Core.Path.{◌≡◌, refl, sym, ap, ◌∙◌, subst, subst₂}
use mathlib.Core.List.{List}
use mathlib.Core.Bool.{Bool}
use mathlib.Core.Logic.{inl, inr}
use native.Mathlib.Omega.{arith}
use lib.Dec.{eqb}
use borrow.Author.Tests.{ne_eqb, eqb-true, eqb-false}
use Rattle.wire.specs.Numbers.{Out, refuse, ok, number_of, left, pick, Applies}
use Rattle.wire.specs.Packet.{sent_in}
use Rattle.wire.proofs.Numbers.{pick_true, pick_false, pick_case, past, ok_inj, judged_done}
use Rattle.store.specs.Table.{most_slots, blank_bytes, blank_call, blank_rows, BlankGives}
use Rattle.store.proofs.Blank.{blank_judged, length_blank}
use Rattle.steps.specs.declared.Chain.{Chain}
use Rattle.steps.specs.Chain.{start_chain, start_call}
use Rattle.steps.specs.Node.{NodeGives}
use Rattle.steps.specs.Relay.{Outcome, outcome_of, outcome_number, packet_sent, relay_call, RelayGives}
use Rattle.steps.specs.Control.{ChainGives, FenceGives, CopyGives, EnterGives, open_step, open_call, open_rows, activate_call, cancel_call, remove_call}
use Rattle.steps.proofs.Control.{open_judged}
use Rattle.steps.proofs.ControlViews.{on_record_lem, open_view}
use Rattle.steps.proofs.NodeGives.{done_at_0}
use Rattle.steps.proofs.RelaySends.{relay_number_lem}
use Rattle.claims.specs.Bytes.{EventB, asking, relaying, stepping, opening, fencing, copying, activating, cancelling, removing, entering, halting, StateB, after_relay, after_node, after_control, after_control_at, exec_b, EnabledB, ReachB, start_b, step_b}
use Rattle.claims.specs.Events.{StartEvent, BlankEvent, NodeEvent, RelayEvent, ControlEvent, OpenEvent, FenceEvent, EnterEvent, CopyEvent}
use Rattle.claims.specs.Caller.{Caller, begins, asks, relays, steps, opens, fences, copies, activates, cancels, removes, enters, halts}
use Rattle.claims.proofs.Images.{refused}

pub node_event : {t p out : List ℕ} {n : ℕ} {t' out' : List ℕ} → NodeGives t p out n t' out' → NodeEvent t p out n t' out'
unfolding exec_b
node_event {t} {p} {out} {n} {t'} {out'} g = record {
  event = λ s j e. let h = subst (λ (t : List ℕ). NodeGives t p out n t' out') (sym e) g in λ i. after_node j p out s (sym h.number i) (sym h.table i) (sym h.outlet i);
}

pub relay_event : {r : Chain} {p out : List ℕ} {o : Outcome} {out' : List ℕ} → RelayGives r p out o out' → RelayEvent r p out o out'
unfolding exec_b
relay_event {r} {p} {out} {o} {out'} g = record { asks = event asking; relays = event relaying }
  where
    event : (f : List ℕ → List ℕ → EventB) (s : StateB) → s.chain ≡ r
        → after_relay (f p out) s (number_of (relay_call s.chain p out)) (left out (λ w. sent_in out (packet_sent w)) (relay_call s.chain p out)) ≡ after_relay (f p out) s (outcome_number o) out'
    event f s e =
        let h = subst (λ (r : Chain). RelayGives r p out o out') (sym e) g in
        let number = relay_number_lem h in
        λ i. after_relay (f p out) s (sym number i) (sym h.outlet i)

-- ---- the controller, on the record alone

-- an event that stores what a call on the record gives
control_event : (e : EventB) (call : Chain → Out Chain) {r : Chain} {n : ℕ} {r' : Chain}
    → ((s : StateB) → exec_b e s ≡ after_control e s (number_of (call s.chain)) (left s.chain (λ r. r) (call s.chain))) → ChainGives r (call r) n r' → ControlEvent e r n r'
control_event e call {r} {n} {r'} is g = record {
  event = λ s q.
      let h = subst (λ (r : Chain). ChainGives r (call r) n r') (sym q) g in
      is s ∙ (λ i. after_control e s (sym h.number i) (sym h.chain i));
}

pub activate_event : {r : Chain} {n : ℕ} {r' : Chain} → ChainGives r (activate_call r) n r' → ControlEvent activating r n r'
unfolding exec_b
activate_event g = control_event activating activate_call (λ s. refl) g

pub cancel_event : {r : Chain} {n : ℕ} {r' : Chain} → ChainGives r (cancel_call r) n r' → ControlEvent cancelling r n r'
unfolding exec_b
cancel_event g = control_event cancelling cancel_call (λ s. refl) g

pub remove_event : {r : Chain} {id n : ℕ} {r' : Chain} → ChainGives r (remove_call r id) n r' → ControlEvent (removing id) r n r'
unfolding exec_b
remove_event {id = id} g = control_event (removing id) (λ r. remove_call r id) (λ s. refl) g

-- ---- open

pub open_event : {r : Chain} {after : Bool} {named fresh n : ℕ} {r' : Chain} → ChainGives r (open_call r after named fresh) n r' → OpenEvent r after named fresh n r'
unfolding exec_b
open_event {r} {after} {named} {fresh} {n} {r'} g = record {
  event = λ s q.
      let h = subst (λ (r : Chain). ChainGives r (open_call r after named fresh) n r') (sym q) g in
      let o = open_call s.chain after named fresh in
      (λ i. after_control_at (opening after named fresh) s (sym h.number i) (sym h.chain i) fresh (table s.chain (s.table fresh) o refl i))
      ∙ ap (λ (t : List ℕ). after_control_at (opening after named fresh) s n r' fresh t)
      (ap (λ (m : ℕ). pick (eqb m 0) (blank_bytes fresh s.chain.count) (s.table fresh)) (sym h.number) ∙ ap (λ (r : Chain). pick (eqb n 0) (blank_bytes fresh r.count) (s.table fresh)) q);
}
  where
    table : (r : Chain) (t : List ℕ) (o : Out Chain) → open_call r after named fresh ≡ o
        → left t (λ r'. blank_bytes fresh r.count) o ≡ pick (eqb (number_of o) 0) (blank_bytes fresh r.count) t
    table r t (refuse m) e = sym (pick_false _ _ _ (ne_eqb m 0 (refused (open_rows r after named fresh) _ m (open_judged r after named fresh) e)))
    table r t (ok r') e = sym (pick_true _ _ _ refl)

-- ---- the controller, with tables

pub fence_event : {r : Chain} {t : List ℕ} {n : ℕ} {r' : Chain} {t' : List ℕ} → FenceGives r t n r' t' → FenceEvent r t n r' t'
unfolding exec_b
fence_event {r} {t} {n} {r'} {t'} g = record {
  event = λ s j q e.
      let h = subst₂ (λ (r : Chain) (t : List ℕ). FenceGives r t n r' t') (sym q) (sym e) g in
      λ i. after_control_at (fencing j) s (sym h.number i) (sym h.chain i) j (sym h.table i);
}

pub copy_event : {r : Chain} {k : ℕ} {named fresh : List ℕ} {n : ℕ} {r' : Chain} {fresh' : List ℕ} → CopyGives r k named fresh n r' fresh' → CopyEvent r k named fresh n r' fresh'
unfolding exec_b
copy_event {r} {k} {named} {fresh} {n} {r'} {fresh'} g = record {
  event = λ s a b q d e.
      let f = subst₂ (λ (x y : List ℕ). CopyGives r k x y n r' fresh') (sym d) (sym e) g in
      let h = subst (λ (r : Chain). CopyGives r k (s.table a) (s.table b) n r' fresh') (sym q) f in
      λ i. after_control_at (copying k a b) s (sym h.number i) (sym h.chain i) b (sym h.table i);
}

pub enter_event : {r : Chain} {t : List ℕ} {id : ℕ} {key : List ℕ} {n : ℕ} {t' : List ℕ} → EnterGives r t id key n t' → EnterEvent r t id key n t'
unfolding exec_b
enter_event {r} {t} {id} {key} {n} {t'} g = record {
  event = λ s j q e.
      let h = subst₂ (λ (r : Chain) (t : List ℕ). EnterGives r t id key n t') (sym q) (sym e) g in
      λ i. after_control_at (entering j id key) s (sym h.number i) (q i) j (sym h.table i);
}

-- ---- the start

pub start_event : {length : ℕ} {places : List ℕ} {count : ℕ} {o : Out Chain} → o ≡ start_call length places count → StartEvent length places count o
start_event e = record { start = λ r q. sym e ∙ q }

-- the record that a start gives is that of its numbers
pub start_given : {length : ℕ} {places : List ℕ} {count : ℕ} {r : Chain} → StartEvent length places count (ok r) → r ≡ start_chain length places count
unfolding start_call
start_given {r = r} g = sym (ok_inj (past _ _ _ _ (g.start r refl)).1)

pub blank_event : {t : List ℕ} {id count n : ℕ} {t' : List ℕ} → BlankGives t id count n t' → BlankEvent id count n t'
unfolding blank_call
blank_event {t} {id} {count} g = record {
  blank = λ z.
      let (b, is) = done_at_0 (blank_rows t id count) (blank_call t id count) (blank_judged t id count) (sym g.number ∙ z) in
      g.table ∙ (ap (left t (λ b. b)) is ∙ sym (ok_inj (past _ _ _ _ is).1));
}

-- ---- a caller that stores what each call leaves is in the system over bytes

-- the table of a new node, as the caller makes it, is the one that open stores
fresh_table : {t t' u : List ℕ} {id count : ℕ} (n : ℕ) → (n ≡ 0 → BlankGives t id count 0 t') → ((n ≡ 0 → ⊥) → t' ≡ u) → pick (eqb n 0) (blank_bytes id count) u ≡ t'
fresh_table {t' = t'} {u = u} {id = id} {count = count} n b k =
    pick_case (λ (x : List ℕ). x ≡ t') (eqb n 0) (blank_bytes id count) u (λ e. sym ((blank_event (b (eqb-true n 0 e))).blank refl)) (λ e. sym (k (eqb-false n 0 e)))

pub caller_reaches : {s : StateB} → Caller s → ReachB s
caller_reaches (begins z) = start_b z
caller_reaches (asks {s = s} c p out en o out' g) = subst ReachB ((relay_event g).asks s refl) (step_b (caller_reaches c) (asking p out) en)
caller_reaches (relays {s = s} c p out en o out' g) = subst ReachB ((relay_event g).relays s refl) (step_b (caller_reaches c) (relaying p out) en)
caller_reaches (steps {s = s} c j p out en n t' out' g) = subst ReachB ((node_event g).event s j refl) (step_b (caller_reaches c) (stepping j p out) en)
caller_reaches (opens {s = s} c after named fresh en n r' g t t' b k) =
    subst ReachB ((open_event g).event s refl ∙ ap (after_control_at (opening after named fresh) s n r' fresh) (fresh_table n b k)) (step_b (caller_reaches c) (opening after named fresh) en)
caller_reaches (fences {s = s} c j en n r' t' g) = subst ReachB ((fence_event g).event s j refl refl) (step_b (caller_reaches c) (fencing j) en)
caller_reaches (copies {s = s} c i a b en n r' t' g) = subst ReachB ((copy_event g).event s a b refl refl refl) (step_b (caller_reaches c) (copying i a b) en)
caller_reaches (activates {s = s} c n r' g) = subst ReachB ((activate_event g).event s refl) (step_b (caller_reaches c) activating tt)
caller_reaches (cancels {s = s} c n r' g) = subst ReachB ((cancel_event g).event s refl) (step_b (caller_reaches c) cancelling tt)
caller_reaches (removes {s = s} c id en n r' g) = subst ReachB ((remove_event g).event s refl) (step_b (caller_reaches c) (removing id) en)
caller_reaches (enters {s = s} c j id key en n t' g) = subst ReachB ((enter_event g).event s j refl refl) (step_b (caller_reaches c) (entering j id key) en)
caller_reaches (halts c j) = step_b (caller_reaches c) (halting j) tt

-- ---- and every run of that system is such a caller's: each call can give what its promise says

-- a blank table, made of one of its size
pub blank_gives : (id count : ℕ) → (id ≡ 0 → ⊥) → (count ≡ 0 → ⊥) → count ≤ most_slots → BlankGives (blank_bytes id count) id count 0 (blank_bytes id count)
unfolding blank_call
blank_gives id count some counts few = record { number = ap number_of (sym is); table = ap (left (blank_bytes id count) (λ b. b)) (sym is) }
  where
    none : (n : ℕ) → Applies (blank_rows (blank_bytes id count) id count) n → ⊥
    none n (inl (e, inl z)) = some z
    none n (inr x') = elim x' [ ]
    none n (inl (e, inr (inl z))) = counts z
    none n (inl (e, inr (inr (inl z)))) = omega arith
    none n (inl (e, inr (inr (inr z)))) = z (length_blank id count)

    is : blank_call (blank_bytes id count) id count ≡ ok (blank_bytes id count)
    is =
        let (b, e) = (judged_done (blank_rows (blank_bytes id count) id count) (blank_call (blank_bytes id count) id count) (blank_judged (blank_bytes id count) id count)).1 none in
        e ∙ sym (past _ _ _ _ e).1

-- the table that the caller makes after an open that is done
open_blank : (r : Chain) (after : Bool) (named fresh : ℕ) (r' : Chain) → open_call r after named fresh ≡ ok r' → BlankGives (blank_bytes fresh r.count) fresh r.count 0 (blank_bytes fresh r.count)
unfolding open_call
open_blank r after named fresh r' e =
    let (rules, step) = on_record_lem r (open_step r after named fresh) r' e in
    let above = (open_view r after named fresh r' rules step).above in
    let counts = rules.count_some in
    blank_gives fresh r.count (λ n. omega arith) (λ n. omega arith) rules.count_few

relay_gives : (r : Chain) (p out : List ℕ) → RelayGives r p out (outcome_of (relay_call r p out)) (left out (λ w. sent_in out (packet_sent w)) (relay_call r p out))
relay_gives r p out = record { outcome = refl; outlet = refl }

-- open stores what the caller makes of the new node's table: a blank one, or nothing else after a refusal
abbrev pub open_table : StateB → ℕ → Out Chain → List ℕ
open_table s fresh o = left (s.table fresh) (λ r. blank_bytes fresh s.chain.count) o

pub open_made : (s : StateB) (after : Bool) (named fresh : ℕ) (o : Out Chain) → open_call s.chain after named fresh ≡ o → number_of o ≡ 0
    → BlankGives (blank_bytes fresh s.chain.count) fresh s.chain.count 0 (open_table s fresh o)
open_made s after named fresh (refuse n) e z = absurd (refused (open_rows s.chain after named fresh) _ n (open_judged s.chain after named fresh) e z)
open_made s after named fresh (ok r) e z = open_blank s.chain after named fresh r e

pub open_kept : (s : StateB) (fresh : ℕ) (o : Out Chain) → (number_of o ≡ 0 → ⊥) → open_table s fresh o ≡ s.table fresh
open_kept s fresh (refuse n) z = refl
open_kept s fresh (ok r) z = absurd (z refl)

-- an event that may happen is such a call
module _ {s : StateB} (c : Caller s) where
  call : (e : EventB) → EnabledB e s → Caller (exec_b e s)
  unfolding exec_b
  call (asking p out) en = let g = relay_gives s.chain p out in subst Caller (sym ((relay_event g).asks s refl)) (asks c p out en _ _ g)
  call (relaying p out) en = let g = relay_gives s.chain p out in subst Caller (sym ((relay_event g).relays s refl)) (relays c p out en _ _ g)
  call (stepping j p out) en = steps c j p out en _ _ _ (record { number = refl; table = refl; outlet = refl })
  call (opening after named fresh) en =
      let o = open_call s.chain after named fresh in
      opens c after named fresh en _ _ (record { number = refl; chain = refl }) (blank_bytes fresh s.chain.count) _ (open_made s after named fresh o refl) (open_kept s fresh o)
  call (fencing j) en = fences c j en _ _ _ (record { number = refl; chain = refl; table = refl })
  call (copying i a b) en = copies c i a b en _ _ _ (record { number = refl; chain = refl; table = refl })
  call activating en = activates c _ _ (record { number = refl; chain = refl })
  call cancelling en = cancels c _ _ (record { number = refl; chain = refl })
  call (removing id) en = removes c id en _ _ (record { number = refl; chain = refl })
  call (entering j id key) en = enters c j id key en _ _ (record { number = refl; table = refl })
  call (halting j) en = halts c j

pub reaches_caller : {s : StateB} → ReachB s → Caller s
reaches_caller (start_b z) = begins z
reaches_caller (step_b r e en) = call (reaches_caller r) e en
