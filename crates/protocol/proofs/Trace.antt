-- The trace: the entry that each event adds, and that the ghosts are the trace's own, both ways.
use Prim.Native.Nat.{ℕ}
use mathlib.Core.Path.{◌≡◌, refl, sym, ap, ap₂, ◌∙◌, subst}
use mathlib.Core.Bool.{◌&&◌}
use mathlib.Core.List.Memᴰ.{append_cases}
use mathlib.Core.List.Memᴰ.{append_left}
use mathlib.Core.List.Memᴰ.{append_right}
use mathlib.Core.List.Memᴰ.{eq_of_singleton}
use mathlib.Core.List.Memᴰ.{head as here}
use mathlib.Core.List.Memᴰ.{tail as there}
use mathlib.Core.List.{List, [], ◌∷◌, ◌++◌, Memᴰ as Mem}
use mathlib.Core.Logic.{◌⊎◌, inl, inr, ⊎_elim, ◌↔◌}
use native.Mathlib.Omega.{arith}
use lib.Dec.{eqb}
use borrow.Author.Tests.{eqb-true, eqb-false}
use Rattle.wire.specs.Numbers.{number_of, malformed, pick}
use Rattle.wire.specs.Version.{zero_version}
use Rattle.wire.specs.Packet.{Packet, query, op_read, answer_written}
use Rattle.wire.specs.declared.Version.{Version}
use Rattle.wire.proofs.Numbers.{pick_case, and_left, and_right}
use Rattle.store.specs.Held.{Content, version_at}
use Rattle.steps.specs.Node.{node_step, Unnumbered}
use Rattle.steps.specs.Relay.{relay_step, packet_sent}
use Rattle.steps.specs.Control.{open_step, fence_step, copy_step, activate_step, cancel_step, remove_step, enter_step}
use Rattle.protocol.specs.System.{State, Event, from_client, no_packet, at_relay, at_node, opens, fences, copies, activates, cancels, removes, enters, halts, Entry, Ghost, numbered, acked, shown, carried, node_ghosts, relay_ghosts, ghosts_of, all_ghosts, ghosts, entry, made_by, exec}
use Rattle.protocol.specs.Trace.{Acks, Shows, Gives}
use Rattle.protocol.proofs.Ghosts.{ghosts_read, ghosts_given, ghosts_acked}

-- ---- the entry of an event

abbrev pub entry_of : Event → State → Entry
entry_of (from_client p) s = entry (from_client p) (number_of (relay_step s.chain p)) (made_by packet_sent (relay_step s.chain p)) zero_version
entry_of no_packet s = entry no_packet malformed [] zero_version
entry_of (at_relay p) s = entry (at_relay p) (number_of (relay_step s.chain p)) (made_by packet_sent (relay_step s.chain p)) zero_version
entry_of (at_node j p) s = entry (at_node j p) (number_of (node_step (s.table j) p)) (made_by (λ x. x.packet) (node_step (s.table j) p)) (version_at p.key (s.table j).slots)
entry_of (opens side named fresh) s = entry (opens side named fresh) (number_of (open_step s.chain side named fresh)) [] zero_version
entry_of (fences j) s = entry (fences j) (number_of (fence_step s.chain (s.table j))) [] zero_version
entry_of (copies i a b) s = entry (copies i a b) (number_of (copy_step s.chain i (s.table a) (s.table b))) [] zero_version
entry_of activates s = entry activates (number_of (activate_step s.chain)) [] zero_version
entry_of cancels s = entry cancels (number_of (cancel_step s.chain)) [] zero_version
entry_of (removes j) s = entry (removes j) (number_of (remove_step s.chain j)) [] zero_version
entry_of (enters j id key) s = entry (enters j id key) (number_of (enter_step s.chain (s.table j) id key)) [] zero_version
entry_of (halts j) s = entry (halts j) 0 [] zero_version

-- an event adds its entry to the trace, and to what was there before the start nothing
pub adds : (e : Event) (s : State) → ((exec e s).trace ≡ entry_of e s ∷ s.trace) × ((exec e s).origin ≡ s.origin) × ((entry_of e s).event ≡ e)
unfolding exec
adds (from_client p) s = (refl, refl, refl)
adds no_packet s = (refl, refl, refl)
adds (at_relay p) s = (refl, refl, refl)
adds (at_node j p) s = (refl, refl, refl)
adds (opens side named fresh) s = (refl, refl, refl)
adds (fences j) s = (refl, refl, refl)
adds (copies i a b) s = (refl, refl, refl)
adds activates s = (refl, refl, refl)
adds cancels s = (refl, refl, refl)
adds (removes j) s = (refl, refl, refl)
adds (enters j id key) s = (refl, refl, refl)
adds (halts j) s = (refl, refl, refl)

pub keeps_origin : (e : Event) (s : State) → (exec e s).origin ≡ s.origin
keeps_origin e s = (adds e s).1

-- what was noted stays noted
pub stays_noted : (s : State) (e : Event) (g : Ghost) → Mem g (ghosts s) → Mem g (ghosts (exec e s))
stays_noted s e g m =
    subst (Mem g) (ap₂ (λ (l : List Entry) (z : List Ghost). all_ghosts l ++ z) (sym (adds e s).0) (sym (adds e s).1))
    (go (ghosts_of (entry_of e s).event (entry_of e s).made (entry_of e s).before) (all_ghosts s.trace) s.origin m)
  where
    go : (a b c : List Ghost) → Mem g (b ++ c) → Mem g ((a ++ b) ++ c)
    go a b c m = ⊎_elim (λ h. append_left c (append_right a h)) (λ h. append_right (a ++ b) h) (append_cases b m)

-- and what is noted after an event was noted by it, or before
pub noted : (s : State) (e : Event) (g : Ghost) → Mem g (ghosts (exec e s)) → Mem g (ghosts_of (entry_of e s).event (entry_of e s).made (entry_of e s).before) ⊎ Mem g (ghosts s)
noted s e g m =
    go (ghosts_of (entry_of e s).event (entry_of e s).made (entry_of e s).before) (all_ghosts s.trace) s.origin
    (subst (Mem g) (ap₂ (λ (l : List Entry) (z : List Ghost). all_ghosts l ++ z) (adds e s).0 (adds e s).1) m)
  where
    go : (a b c : List Ghost) → Mem g ((a ++ b) ++ c) → Mem g a ⊎ Mem g (b ++ c)
    go a b c m = ⊎_elim (λ h. ⊎_elim (λ i. inl i) (λ i. inr (append_left c i)) (append_cases a h)) (λ h. inr (append_right b h)) (append_cases (a ++ b) m)

-- ---- the ghosts and the entries

-- a ghost of the trace is a ghost of one of its entries
pub of_entry : (tr : List Entry) (g : Ghost) → Mem g (all_ghosts tr) ↔ ((x : Entry) × Mem x tr × Mem g (ghosts_of x.event x.made x.before))
of_entry tr g = (to tr, λ h. from tr h.0 h.1 h.2)
  where
    up : {y : Entry} {l : List Entry} → (x : Entry) × Mem x l × Mem g (ghosts_of x.event x.made x.before) → (x : Entry) × Mem x (y ∷ l) × Mem g (ghosts_of x.event x.made x.before)
    up h = (h.0, there h.1, h.2)

    to : (tr : List Entry) → Mem g (all_ghosts tr) → (x : Entry) × Mem x tr × Mem g (ghosts_of x.event x.made x.before)
    to [] m = elim m [ ]
    to (y ∷ l) m = ⊎_elim (λ h. (y, here refl, h)) (λ h. up (to l h)) (append_cases (ghosts_of y.event y.made y.before) m)

    from : (tr : List Entry) (x : Entry) → Mem x tr → Mem g (ghosts_of x.event x.made x.before) → Mem g (all_ghosts tr)
    from (y ∷ l) x (here e) h = append_left (all_ghosts l) (subst (λ (z : Entry). Mem g (ghosts_of z.event z.made z.before)) e h)
    from [] x x4 h = elim x4 [ ]
    from (y ∷ l) x (there m) h = append_right (ghosts_of y.event y.made y.before) (from l x m h)

-- the ghosts of an entry, by what was delivered and made
data Source (x : Entry) (g : Ghost) : Type 0 where
  by_relay : (p q : Packet) (l : List Packet) → (x.event ≡ from_client p) ⊎ (x.event ≡ at_relay p) → x.made ≡ q ∷ l → p.head.answer ≡ query → q.head.answer ≡ answer_written
      → g ≡ acked q.key q.head.version q → Source x g
  by_read : (j : ℕ) (p q : Packet) (l : List Packet) → x.event ≡ at_node j p → x.made ≡ q ∷ l → p.head.op ≡ op_read → g ≡ shown q.key q.head.version q → Source x g
  by_number : (j : ℕ) (p q : Packet) (l : List Packet) → x.event ≡ at_node j p → x.made ≡ q ∷ l → Unnumbered p → q.head.answer ≡ query
      → g ≡ numbered q.key q.head.version (carried q) j x.before p → Source x g

none : {A : Type 0} {g : Ghost} → Mem g [] → A
none m = elim m [ ]

source : (x : Entry) (g : Ghost) → Mem g (ghosts_of x.event x.made x.before) → Source x g
source x g m = go x.event refl x.made refl m
  where
    relay : (p : Packet) → (x.event ≡ from_client p) ⊎ (x.event ≡ at_relay p) → (m : List Packet) → x.made ≡ m → Mem g (relay_ghosts p m) → Source x g
    relay p e [] f m = none m
    relay p e (q ∷ l) f m =
        pick_case (λ (z : List Ghost). Mem g z → Source x g) (eqb p.head.answer query && eqb q.head.answer answer_written) (acked q.key q.head.version q ∷ []) []
        (λ b h. by_relay p q l e f (eqb-true _ _ (and_left (eqb p.head.answer query) (eqb q.head.answer answer_written) b))
        (eqb-true _ _ (and_right (eqb p.head.answer query) (eqb q.head.answer answer_written) b)) (eq_of_singleton h))
        (λ _ h. none h) m

    node : (j : ℕ) (p : Packet) → x.event ≡ at_node j p → (m : List Packet) → x.made ≡ m → Mem g (node_ghosts j p x.before m) → Source x g
    node j p e [] f m = none m
    node j p e (q ∷ l) f m =
        pick_case (λ (z : List Ghost). Mem g z → Source x g) (eqb p.head.op op_read) (shown q.key q.head.version q ∷ [])
        (pick (eqb q.head.answer query && eqb p.head.version.sequence.0 0) (numbered q.key q.head.version (carried q) j x.before p ∷ []) [])
        (λ o h. by_read j p q l e f (eqb-true _ _ o) (eq_of_singleton h))
        (λ o. pick_case (λ (z : List Ghost). Mem g z → Source x g) (eqb q.head.answer query && eqb p.head.version.sequence.0 0) (numbered q.key q.head.version (carried q) j x.before p ∷ []) []
        (λ b h. by_number j p q l e f (eqb-false _ _ o, eqb-true _ _ (and_right (eqb q.head.answer query) (eqb p.head.version.sequence.0 0) b))
        (eqb-true _ _ (and_left (eqb q.head.answer query) (eqb p.head.version.sequence.0 0) b)) (eq_of_singleton h))
        (λ _ h. none h)) m

    go : (e : Event) → x.event ≡ e → (m : List Packet) → x.made ≡ m → Mem g (ghosts_of e m x.before) → Source x g
    go (from_client p) e m f h = relay p (inl e) m f h
    go no_packet e m f h = none h
    go (at_relay p) e m f h = relay p (inr e) m f h
    go (at_node j p) e m f h = node j p e m f h
    go (opens side named fresh) e m f h = none h
    go (fences j) e m f h = none h
    go (copies i a b) e m f h = none h
    go activates e m f h = none h
    go cancels e m f h = none h
    go (removes j) e m f h = none h
    go (enters j id key) e m f h = none h
    go (halts j) e m f h = none h

-- an entry of that event that made those packets has the event's ghosts
at_entry : (x : Entry) (g : Ghost) (e : Event) (m : List Packet) (l : List Ghost) → x.event ≡ e → x.made ≡ m → ghosts_of e m x.before ≡ l → Mem g l → Mem g (ghosts_of x.event x.made x.before)
at_entry x g e m l h f is i = subst (Mem g) (sym (ap₂ (λ (e : Event) (m : List Packet). ghosts_of e m x.before) h f ∙ is)) i

-- so a kind of ghost is in the trace if and only if an entry of its kind is
by_entry : (tr : List Entry) (g : Ghost) (P : Entry → Type 0) → ((x : Entry) → Source x g → P x) → ((x : Entry) → P x → Mem g (ghosts_of x.event x.made x.before))
    → Mem g (all_ghosts tr) ↔ ((x : Entry) × Mem x tr × P x)
by_entry tr g P to from = (
  λ m. let h = (of_entry tr g).0 m in (h.0, h.1, to h.0 (source h.0 g h.2)),
  λ h. (of_entry tr g).1 (h.0, h.1, from h.0 h.2),
)

-- ---- the three kinds

pub acked_trace : (tr : List Entry) (k : List ℕ) (v : Version) (q : Packet) → Mem (acked k v q) (all_ghosts tr) ↔ ((x : Entry) × Mem x tr × Acks x k v q)
acked_trace tr k v q = by_entry tr (acked k v q) (λ x. Acks x k v q) to from
  where
    to : (x : Entry) → Source x (acked k v q) → Acks x k v q
    to x (by_relay p y l e f a b g) =
        let z : y ≡ q = cc in
        record { delivered = p; others = l; event = e; asks = a; made = f ∙ ap (λ (y : Packet). y ∷ l) z; answer = rw (← z) b; key = rw (← z) (cc); version = rw (← z) (cc) }
    to x (by_read j p y l e f o g) = absurd (let z : ◌≡◌ {A = ℕ} 0 1 = cc in omega arith)
    to x (by_number j p y l e f u a g) = absurd (let z : ◌≡◌ {A = ℕ} 0 1 = cc in omega arith)

    from : (x : Entry) → Acks x k v q → Mem (acked k v q) (ghosts_of x.event x.made x.before)
    from x a = ⊎_elim (at from_client refl) (at at_relay refl) a.event
      where
        at : (f : Packet → Event) → ghosts_of (f a.delivered) (q ∷ a.others) x.before ≡ relay_ghosts a.delivered (q ∷ a.others) → x.event ≡ f a.delivered
            → Mem (acked k v q) (ghosts_of x.event x.made x.before)
        at f is e = at_entry x _ (f a.delivered) (q ∷ a.others) _ e a.made (is ∙ ghosts_acked a.delivered q a.others a.asks a.answer) (here (ap₂ (λ (k : List ℕ) (v : Version). acked k v q) (sym a.key) (sym a.version)))

pub shown_trace : (tr : List Entry) (k : List ℕ) (v : Version) (q : Packet) → Mem (shown k v q) (all_ghosts tr) ↔ ((x : Entry) × Mem x tr × Shows x k v q)
shown_trace tr k v q = by_entry tr (shown k v q) (λ x. Shows x k v q) to from
  where
    to : (x : Entry) → Source x (shown k v q) → Shows x k v q
    to x (by_relay p y l e f a b g) = absurd (let z : ◌≡◌ {A = ℕ} 0 1 = cc in omega arith)
    to x (by_read j p y l e f o g) =
        let z : y ≡ q = cc in
        record { node = j; delivered = p; others = l; event = e; reads = o; made = f ∙ ap (λ (y : Packet). y ∷ l) z; key = rw (← z) (cc); version = rw (← z) (cc) }
    to x (by_number j p y l e f u a g) = absurd (let z : ◌≡◌ {A = ℕ} 0 1 = cc in omega arith)

    from : (x : Entry) → Shows x k v q → Mem (shown k v q) (ghosts_of x.event x.made x.before)
    from x a =
        at_entry x _ (at_node a.node a.delivered) (q ∷ a.others) _ a.event a.made (ghosts_read a.node a.delivered q a.others x.before a.reads)
        (here (ap₂ (λ (k : List ℕ) (v : Version). shown k v q) (sym a.key) (sym a.version)))

pub numbered_trace : (tr : List Entry) (k : List ℕ) (v : Version) (c : Content) (j : ℕ) (b : Version) (p : Packet)
    → Mem (numbered k v c j b p) (all_ghosts tr) ↔ ((x : Entry) × Mem x tr × Gives x k v c j b p)
numbered_trace tr k v c j b p = by_entry tr (numbered k v c j b p) (λ x. Gives x k v c j b p) to from
  where
    to : (x : Entry) → Source x (numbered k v c j b p) → Gives x k v c j b p
    to x (by_relay p' y l e f a d g) = absurd (let z : ◌≡◌ {A = ℕ} 0 1 = cc in omega arith)
    to x (by_read i p' y l e f o g) = absurd (let z : ◌≡◌ {A = ℕ} 0 1 = cc in omega arith)
    to x (by_number i p' y l e f u a g) =
        let z : p' ≡ p = cc in
        let n : i ≡ j = cc in
        record { sent = y; others = l; event = e ∙ ap₂ at_node n z; unnumbered = subst Unnumbered z u; made = f; asks = a; key = cc; version = cc; content = cc; before = cc }

    from : (x : Entry) → Gives x k v c j b p → Mem (numbered k v c j b p) (ghosts_of x.event x.made x.before)
    from x a =
        at_entry x _ (at_node j p) (a.sent ∷ a.others) _ a.event a.made (ghosts_given j p a.sent a.others x.before a.unnumbered a.asks)
        (here (cc (a.key, a.version, a.content, a.before)))
