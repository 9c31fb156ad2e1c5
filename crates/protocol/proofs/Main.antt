-- Every reachable state keeps the invariant, and demand 3 for every key.
use Prim.Native.Nat.{ℕ, zero, suc, ◌<◌}
use mathlib.Core.Path.{◌≡◌, refl, sym, ap, ap₂, ◌∙◌, subst}
use mathlib.Core.List.Memᴰ.{head as here}
use mathlib.Core.List.Memᴰ.{tail as there}
use mathlib.Core.List.{List, [], ◌∷◌, ◌++◌, Memᴰ as Mem}
use mathlib.Core.Logic.{inl, inr, ⊎_elim}
use native.Mathlib.Omega.{arith}
use lib.ListN.{length, get_or}
use Rattle.wire.specs.Version.{zero_version, AtMost, Below}
use Rattle.wire.specs.Packet.{Packet}
use Rattle.wire.specs.declared.Version.{Version}
use Rattle.wire.proofs.Versions.{below_irreflexive, atmost_cases}
use Rattle.store.specs.Table.{Table, blank_table}
use Rattle.store.specs.Held.{Content, nothing, held_version, version_at, content_at}
use Rattle.store.proofs.Find.{held_blank}
use Rattle.steps.specs.declared.Change.TheVariants.{Still}
use Rattle.steps.specs.declared.Chain.{Chain}
use Rattle.steps.specs.Chain.{members, start_chain}
use Rattle.steps.proofs.ChainOrder.{Ahead, first, later}
use Rattle.protocol.specs.System.{State, Event, from_client, no_packet, at_relay, at_node, opens, fences, copies, activates, cancels, removes, enters, halts, Entry, Ghost, numbered, acked, shown, all_ghosts, ghosts, exec, Enabled, Start, Reach, start, step, Run, stay, more}
use Rattle.protocol.specs.Demand.{holds_version, StandsFor, in_history, in_slot, in_packet, Growing, HoldsOrLater, Kept, Seen, by_ack, ReadsRise, Demand3}
use Rattle.protocol.specs.Inv.{world_of, node_version, Logged, logged, Given, SlotGood, TableGood, Inv}
use Rattle.protocol.proofs.Prims.{at_most_same, inv_same}
use Rattle.protocol.proofs.Ghosts.{other_kind}
use Rattle.protocol.proofs.Packets.{wrote_nothing, gone_nothing, Says, says_nothing, says_value, says_gone, of_held, held_says}
use Rattle.protocol.proofs.Node.{pres_node}
use Rattle.protocol.proofs.Relay.{pres_relay}
use Rattle.protocol.proofs.Control.{not_opened, blank_good, pres_halt, pres_cancel, pres_fence, pres_copy, pres_open, pres_enter}
use Rattle.protocol.proofs.Members.{pres_remove, pres_activate}
use Rattle.protocol.proofs.Trace.{stays_noted}

-- ---- the start

blank_version : (k : List ℕ) (j n : ℕ) → version_at k (blank_table j n).slots ≡ zero_version
unfolding blank_table
blank_version k j n = ap held_version (held_blank k n)

inv_start : (k : List ℕ) (s : State) → Start s → Inv k s
unfolding start_chain
inv_start k s z = record {
  sound = record { rules = z.rules; tables = tables; fenced = λ c o. not_opened still o; copied = λ c o. not_opened still o };
  keyed = record {
    order = λ i j h. at_most_same (zeros j ∙ sym (zeros i));
    sessions = λ u c h. none h;
    first_holds = λ u c h. none h;
    growing = subst (Growing k) (sym empty) tt;
    acked_given = λ u p m. nothing (subst (λ (l : List Ghost). Mem (acked k u p) l) empty m);
    seen_held = λ u h. unseen (subst (Seen k u) empty h);
    reads_rise = subst (ReadsRise k) (sym empty) tt;
  };
  packets = λ p m. nothing (subst (λ (l : List Packet). Mem p l) z.quiet m);
}
  where
    still : s.chain.change ≡ Still
    still = ap (λ (r : Chain). r.change) z.chain

    tables : (j : ℕ) → TableGood s.chain (ghosts s) j (s.table j)
    tables j = rw (z.blank j ∙ ap (λ (r : Chain). blank_table j r.count) (sym z.chain)) (blank_good s.chain (ghosts s) j)

    -- every node holds 0.0
    zeros : (j : ℕ) → node_version (world_of s) k j ≡ zero_version
    zeros j = ap (λ (t : Table). version_at k t.slots) (z.blank j) ∙ blank_version k j z.count

    empty : ghosts s ≡ []
    empty = ap₂ (λ (t : List Entry) (o : List Ghost). all_ghosts t ++ o) z.fresh z.unwritten

    nothing : {A B : Type 0} {a : A} → Mem a [] → B
    nothing m = elim m [ ]

    none : {A : Type 0} {u : Version} {c : Content} → Logged (ghosts s) k u c → A
    none {A} {u} {c} (logged j b o m) = nothing (subst (λ (l : List Ghost). Mem (numbered k u c j b o) l) empty m)

    unseen : {A : Type 0} {u : Version} → Seen k u [] → A
    unseen (Seen.by_read p m) = nothing m
    unseen (Seen.by_ack p m) = nothing m

-- ---- every step

inv_step : (k : List ℕ) (s : State) (e : Event) → Inv k s → Enabled e s → Inv k (exec e s)
unfolding exec
inv_step k s (from_client p) v en = pres_relay v p en.1 (from_client p) (λ m b. refl) (inl en.0) _ refl
inv_step k s no_packet v en = inv_same v refl refl
inv_step k s (at_relay p) v en = pres_relay v p (v.packets p en).fit (at_relay p) (λ m b. refl) (inr en) _ refl
inv_step k s (at_node j p) v en = pres_node v j p en.0 en.1 _ refl
inv_step k s (opens side named fresh) v en = pres_open v side named fresh _ refl
inv_step k s (fences j) v en = pres_fence v j _ refl
inv_step k s (copies i a b) v en = pres_copy v i a b _ refl
inv_step k s activates v en = pres_activate v _ refl
inv_step k s cancels v en = pres_cancel v _ refl
inv_step k s (removes j) v en = pres_remove v j en _ refl
inv_step k s (enters j id key) v en = pres_enter v j id key en _ refl
inv_step k s (halts j) v en = pres_halt v j

pub invariant : (k : List ℕ) (s : State) → Reach s → Inv k s
invariant k s (start z) = inv_start k s z
invariant k s (step {s = t} r e en) = inv_step k t e (invariant k t r) en

-- ---- from then on

run_noted : {s t : State} → Run s t → (g : Ghost) → Mem g (ghosts s) → Mem g (ghosts t)
run_noted stay g m = m
run_noted (more {t = u} r e en) g m = stays_noted u e g (run_noted r g m)

pub run_reach : {s t : State} → Reach s → Run s t → Reach t
run_reach h stay = h
run_reach h (more r e en) = step (run_reach h r) e en

-- ---- demand 3

-- of two places the lower is ahead
pub get_or_mem : (l : List ℕ) (n : ℕ) → n < length l → Mem (get_or l n 0) l
get_or_mem [] n h = absurd (omega arith)
get_or_mem (x ∷ l) zero h = here refl
get_or_mem (x ∷ l) (suc n) h = there (get_or_mem l n (omega arith))

places_ahead : (l : List ℕ) (m n : ℕ) → m < n → n < length l → Ahead (get_or l m 0) (get_or l n 0) l
places_ahead [] m n h b = absurd (omega arith)
places_ahead (x ∷ l) m zero h b = absurd (omega arith)
places_ahead (x ∷ l) zero (suc n) h b = first refl (get_or_mem l n (omega arith))
places_ahead (x ∷ l) (suc m) (suc n) h b = later (places_ahead l m n (omega arith) (omega arith))

-- a version given to two contents would be above itself
once : (k : List ℕ) (l : List Ghost) {v : Version} {c d : Content} {i j : ℕ} {a b : Version} {o p : Packet}
    → Growing k l → Mem (numbered k v c i a o) l → Mem (numbered k v d j b p) l → c ≡ d
once k (numbered k' u e n w q ∷ l) g (here x) (here y) = cc
once k (numbered k' u e n w q ∷ l) {v} {c} {d} {i} {j} {a} {b} {o} {p} g (here x) (there m) = let z : v ≡ u = cc in absurd (below_irreflexive v (subst (Below v) (sym z) (g.0 (cc) v d j b p m)))
once k (numbered k' u e n w q ∷ l) {v} {c} {d} {i} {j} {a} {b} {o} {p} g (there m) (here y) = let z : v ≡ u = cc in absurd (below_irreflexive v (subst (Below v) (sym z) (g.0 (cc) v c i a o m)))
once k (numbered k' u e n w q ∷ l) g (there m) (there n') = once k l g.1 m n'
once k (acked k' u q ∷ l) g m n = once k l g (other_kind (λ z. omega arith) m) (other_kind (λ z. omega arith) n)
once k (shown k' u q ∷ l) g m n = once k l g (other_kind (λ z. omega arith) m) (other_kind (λ z. omega arith) n)
once k [] {v = v} {c = c} {d = d} {i = i} {j = j} {a = a} {b = b} {o = o} {p = p} g m n = elim m [ ]

logged_once : (k : List ℕ) (l : List Ghost) {v : Version} {c d : Content} → Growing k l → Logged l k v c → Logged l k v d → c ≡ d
logged_once k l g (logged i a o m) (logged j b p n) = once k l g m n

-- a numbering, and that it stays in the history
was_logged : {l : List Ghost} {k : List ℕ} {v : Version} {c : Content} → Logged l k v c → (j : ℕ) × (before : Version) × (origin : Packet) × Mem (numbered k v c j before origin) l
was_logged (logged j b o m) = (j, b, o, m)

run_logged : {s t : State} {k : List ℕ} {v : Version} {c : Content} → Run s t → Logged (ghosts s) k v c → Logged (ghosts t) k v c
run_logged run (logged j b o m) = logged j b o (run_noted run _ m)

-- what node j holds under a version that was given, or a later one
held_once : {k : List ℕ} {s : State} {u : Version} {c : Content} → Inv k s → 0 < u.sequence.0 → Logged (ghosts s) k u c → (j : ℕ) → AtMost u (holds_version s j k) → HoldsOrLater k u c (s.table j)
held_once {k} {s} {u} {c} v some l j h = ⊎_elim (λ b. inr b) (λ e. inl (sym e, same e)) ((atmost_cases u (holds_version s j k)).0 h)
  where
    filled : u ≡ holds_version s j k → Says (content_at k (s.table j).slots) (holds_version s j k) → content_at k (s.table j).slots ≡ nothing → ⊥
    filled e (says_nothing n z) q = let w = ap (λ (x : Version). x.sequence.0) (e ∙ z) in omega arith
    filled e (says_value x w b hs hq) q = wrote_nothing (sym w ∙ q)
    filled e (says_gone w hs hq) q = gone_nothing (sym w ∙ q)

    same : u ≡ holds_version s j k → content_at k (s.table j).slots ≡ c
    same e =
        logged_once k (ghosts s) v.keyed.growing
        (subst (λ (x : Version). Logged (ghosts s) k x (content_at k (s.table j).slots)) (sym e)
        (of_held (λ key d x. (d ≡ nothing → ⊥) → Logged (ghosts s) key x d) k (s.table j).slots (λ i. ((v.sound.tables j).slots i).content) (λ n. absurd (n refl))
        (filled e (held_says k (s.table j).slots (λ i. ((v.sound.tables j).slots i).rules)))))
        l

pub demand : (k : List ℕ) (s : State) → Reach s → Demand3 s k
demand k s r = record {
  order = λ m n h b. v.keyed.order _ _ (places_ahead (members s.chain) m n h b);
  one_content = λ u c d h i. logged_once k (ghosts s) v.keyed.growing (log h) (log i);
  all_numbered = λ u c h. was_logged (log h);
  growing = v.keyed.growing;
  acked_held = λ u p m. kept (v.keyed.acked_given u p m) (λ t run j n. (invariant k t (run_reach r run)).keyed.seen_held u (by_ack p (run_noted run _ m)) j n);
  reads_rise = v.keyed.reads_rise;
}
  where
    v : Inv k s
    v = invariant k s r

    kept : {u : Version} → Given (ghosts s) k u → ((t : State) → Run s t → (j : ℕ) → Mem j (members t.chain) → AtMost u (holds_version t j k)) → Kept s k u
    kept g low = record {
      content = g.content;
      given = was_logged g.log;
      held = λ t run j n. held_once (invariant k t (run_reach r run)) g.some (run_logged run g.log) j (low t run j n);
    }

    at : {k' : List ℕ} {u u' : Version} {c c' : Content} → k' ≡ k → u' ≡ u → c' ≡ c → Logged (ghosts s) k' u' c' → Logged (ghosts s) k u c
    at ek ev ec h = rw (← ek, ← ev, ← ec) h

    log : {u : Version} {c : Content} → StandsFor s k u c → Logged (ghosts s) k u c
    log (in_history j b o m) = logged j b o m
    log (in_slot j i x h e ek ev ec n) = at ek ev ec ((subst (SlotGood (ghosts s)) e ((v.sound.tables j).slots i)).content (λ z. n (sym ec ∙ z)))
    log (in_packet p m ek ev ec n) = at ek ev ec ((v.packets p m).content (λ z. n (sym ec ∙ z)))
