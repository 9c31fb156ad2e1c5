-- Halts, and the controller steps that leave the chain as it is, keep the invariant: open, fence, copy, cancel, enter.
use Prim.Native.Nat.{ℕ, zero, suc, ◌+◌, ◌<◌, ◌≤◌}
use mathlib.Core.Path.{◌≡◌, refl, sym, ap, ◌∙◌, subst}
use mathlib.Core.Bool.{Bool, true, false, false≢true}
use mathlib.Core.List.Memᴰ.{cast}
use mathlib.Core.List.{List, Memᴰ as Mem}
use mathlib.Core.Logic.{◌⊎◌, inl, inr}
use native.Mathlib.Omega.{arith}
use native.Mathlib.Decide.{ℕ_discrete}
use lib.ListN.{length, get_or, set, replicate, length-set, length-replicate}
use lib.Seq.{get_or-set_same, get_or-set_other}
use Rattle.wire.specs.Numbers.{Out, refuse, ok}
use Rattle.wire.specs.Packet.{Packet, key_size}
use Rattle.wire.specs.declared.Stamp.{Stamp}
use Rattle.wire.proofs.Numbers.{reflects_cases, reflect_eqs}
use Rattle.store.specs.Table.{Table, free_slot, entered_slot, never_written, Write, set_row, write_table, fence_table, blank_table}
use Rattle.store.specs.Held.{version_at, held_version}
use Rattle.store.proofs.Rules.{slot_free, slot_used}
use Rattle.store.proofs.Find.{free_at, version_entered, held_entered_other}
use Rattle.steps.specs.declared.Joining.{Joining}
use Rattle.steps.specs.declared.Change.{Change}
use Rattle.steps.specs.declared.Change.TheVariants.{Still}
use Rattle.steps.specs.declared.Chain.{Chain}
use Rattle.steps.specs.Chain.{members, ChainRules, Opened, before, after, joining, with_change}
use Rattle.steps.specs.Node.{is_read}
use Rattle.steps.specs.Relay.{stops}
use Rattle.steps.specs.Control.{change_for, marked, open_step, fence_step, copy_step, copy_slot, cancel_step, enter_step}
use Rattle.steps.proofs.NodeView.{content_none}
use Rattle.steps.proofs.ControlViews.{opened_for, OpenView, open_view, fence_view, copy_view, cancel_view, EnterView, enter_view}
use Rattle.steps.proofs.ControlRules.{open_keeps, fence_keeps, copy_keeps, cancel_keeps}
use Rattle.steps.proofs.Control.{some_members}
use Rattle.protocol.specs.System.{State, opens, fences, copies, cancels, enters, halts, Ghost, ghosts, upd, ruled, ruled_table, exec}
use Rattle.protocol.specs.Inv.{world_of, node_version, Good, SlotGood, TableGood, Sound, Inv}
use Rattle.protocol.proofs.Upd.{upd_case, upd_same, upd_other}
use Rattle.protocol.proofs.Prims.{world, renumbered, at_most_same, set_slots, Clear, good_clear, Grows, good_grows, keyed_stays, sound_put, open_rules, inv_made_none, inv_same, inv_refused}

-- ---- an open change

pub opened_is : (after : Bool) (j c : Joining) → Opened (change_for after j) c → c ≡ j
opened_is false j _ before = refl
opened_is true j _ after = refl

-- no change is open
pub not_opened : {A : Type 0} {ch : Change} {c : Joining} → ch ≡ Still → Opened ch c → A
not_opened {A} {ch} {c} e o = none (subst (λ (z : Change). Opened z c) e o)
  where
    none : Opened Still c → A
    none o = elim o [ ]

-- what a packet asks of a change goes by the ids of the change
clear_for : (wiring : Stamp) (side : Bool) (j j' : Joining) {p : Packet} → j'.named ≡ j.named → j'.fresh ≡ j.fresh → Clear wiring (change_for side j) p → Clear wiring (change_for side j') p
clear_for wiring side j j' {p} en ef c = record {
  to_old = λ d o e. c.to_old j (opened_for side j) (e ∙ (ap (λ (z : Joining). z.fresh) (opened_is side j' d o) ∙ ef));
  from_old = λ d o e. c.from_old j (opened_for side j) (e ∙ (ap (λ (z : Joining). z.fresh) (opened_is side j' d o) ∙ ef));
  stopped = λ e. c.stopped (go side e);
}
  where
    go : (side : Bool) → stops (change_for side j') (is_read p) p.head.to ≡ true → stops (change_for side j) (is_read p) p.head.to ≡ true
    go false e = rw en at e
    go true e = rw en at e

-- ---- the chain and the versions of its nodes stay

pub record Ruled (k : List ℕ) (s : State) (wiring : Stamp) (highest : ℕ) (change : Change) (table : ℕ → Table) (halted : ℕ → Bool) : Type 0 where
  pub sound : Sound (world (renumbered s.chain wiring highest change) table halted (ghosts s))
  pub wirings : s.chain.wiring.0 ≤ wiring.0
  pub highests : s.chain.highest ≤ highest
  pub halts : (j : ℕ) → s.halted j ≡ true → halted j ≡ true
  pub fences : (j : ℕ) → Mem j (members s.chain) → (s.table j).fence.0 ≤ (table j).fence.0
  pub versions : (j : ℕ) → Mem j (members s.chain) → version_at k (table j).slots ≡ node_version (world_of s) k j
  pub clear : (p : Packet) → Good k (world_of s) p → Clear wiring change p

pub inv_ruled : {k : List ℕ} {s s' : State} {wiring : Stamp} {highest : ℕ} {change : Change} {table : ℕ → Table} {halted : ℕ → Bool}
    → Inv k s → world_of s' ≡ world (renumbered s.chain wiring highest change) table halted (ghosts s) → s'.packets ≡ s.packets
    → Ruled k s wiring highest change table halted → Inv k s'
inv_ruled {k} {s} {s'} {wiring} {highest} {change} {table} {halted} v e m r =
    inv_made_none (world (renumbered s.chain wiring highest change) table halted (ghosts s)) e m v r.sound
    (keyed_stays wiring highest change table halted v.keyed r.versions (some_members _ v.sound.rules))
    (λ p g. good_grows change grows g (r.clear p g))
  where
    grows : Grows k (world_of s) wiring highest table halted (ghosts s)
    grows = record {
      wirings = r.wirings;
      highests = r.highests;
      halts = r.halts;
      more = λ h m. m;
      fences = r.fences;
      versions = λ j m. at_most_same (sym (r.versions j m));
      new = λ u c h. inl h;
    }

-- a table under a record of the same slot count and a wiring number that is no lower
pub table_under : {r r' : Chain} {l : List Ghost} {j : ℕ} {t : Table} → r'.count ≡ r.count → r.wiring.0 ≤ r'.wiring.0 → TableGood r l j t → TableGood r' l j t
table_under e h g = record { id = g.id; count = g.count ∙ sym e; fence = let f = g.fence in omega arith; slots = g.slots }

-- ---- a halt

pub pres_halt : {k : List ℕ} {s : State} → Inv k s → (j : ℕ) → Inv k (exec (halts j) s)
unfolding exec
pres_halt {k} {s} v j =
    inv_ruled v refl refl
    (record {
      sound = record { rules = v.sound.rules; tables = v.sound.tables; fenced = v.sound.fenced; copied = v.sound.copied };
      wirings = omega arith;
      highests = omega arith;
      halts = λ i e. upd_case (λ b. b ≡ true) s.halted j true i (λ _. refl) (λ _. e);
      fences = λ i m. omega arith;
      versions = λ i m. refl;
      clear = λ p g. good_clear g;
    })

-- ---- cancel

pub pres_cancel : {k : List ℕ} {s : State} → Inv k s → (o : Out Chain) → cancel_step s.chain ≡ o → Inv k (ruled cancels s o)
pres_cancel {k} {s} v (refuse n) e = inv_same v refl refl
pres_cancel {k} {s} v (ok r) e =
    inv_ruled {change = Still} v (λ i. world ((cancel_view s.chain r e).chain i) s.table s.halted (ghosts s)) refl
    (record {
      sound = record {
        rules = rw (cancel_view s.chain r e).chain at (cancel_keeps s.chain r v.sound.rules e);
        tables = λ j. table_under refl (omega arith) (v.sound.tables j);
        fenced = λ c o. not_opened refl o;
        copied = λ c o. not_opened refl o;
      };
      wirings = omega arith;
      highests = omega arith;
      halts = λ i h. h;
      fences = λ i m. omega arith;
      versions = λ i m. refl;
      clear = λ p g. record { to_old = λ c o. not_opened refl o; from_old = λ c o. not_opened refl o; stopped = λ q. absurd (false≢true q) };
    })

-- ---- fence

module _ {k : List ℕ} {s : State} (v : Inv k s) (side : Bool) (c : Joining) (is : s.chain.change ≡ change_for side c) where
  -- the change that is open, and what a packet asks of it
  is_opened : Opened s.chain.change c
  is_opened = subst (λ (z : Change). Opened z c) (sym is) (opened_for side c)

  is_clear : (c' : Joining) → c'.named ≡ c.named → c'.fresh ≡ c.fresh → (p : Packet) → Good k (world_of s) p → Clear s.chain.wiring (change_for side c') p
  is_clear c' en ef p g = clear_for s.chain.wiring side c c' en ef (subst (λ (z : Change). Clear s.chain.wiring z p) is (good_clear g))

  ruled_fence : (j : ℕ) → j ≡ c.named → (s.table j).fence.0 ≤ s.chain.wiring.0 → ChainRules (with_change s.chain (change_for side (marked c)))
      → Ruled k s s.chain.wiring s.chain.highest (change_for side (marked c)) (upd s.table j (fence_table s.chain.wiring (s.table j))) s.halted
  ruled_fence j at low rules = record {
    sound = record {
      rules = rules;
      tables = tables;
      fenced = λ d o _. omega (arith, fence_is d o);
      copied = λ d o i h. copied_is d o i (v.sound.copied c is_opened i (let z = ap (λ (z : Joining). z.next) (opened_is side (marked c) d o) in omega arith));
    };
    wirings = omega arith;
    highests = omega arith;
    halts = λ i h. h;
    fences = λ i _. upd_case (λ t. (s.table i).fence.0 ≤ t.fence.0) s.table j new i (λ q. rw (← q) low) (λ _. omega arith);
    versions = λ i _. ap (λ l. version_at k l) (slots i);
    clear = is_clear (marked c) refl refl;
  }
    where
      new : Table
      new = fence_table s.chain.wiring (s.table j)

      slots : (i : ℕ) → (upd s.table j (fence_table s.chain.wiring (s.table j)) i).slots ≡ (s.table i).slots
      slots i = upd_case (λ t. t.slots ≡ (s.table i).slots) s.table j new i (λ q. ap (λ (n : ℕ). (s.table n).slots) q) (λ _. refl)

      tables : (i : ℕ) → TableGood (with_change s.chain (change_for side (marked c))) (ghosts s) i (upd s.table j (fence_table s.chain.wiring (s.table j)) i)
      tables i =
          upd_case (λ t. TableGood (with_change s.chain (change_for side (marked c))) (ghosts s) i t) s.table j new i
          (λ q. let g = v.sound.tables j in record { id = g.id ∙ q; count = g.count; fence = omega arith; slots = g.slots })
          (λ _. table_under refl (omega arith) (v.sound.tables i))

      fence_is : (d : Joining) → Opened (change_for side (marked c)) d → (upd s.table j (fence_table s.chain.wiring (s.table j)) d.named).fence.0 ≡ s.chain.wiring.0
      fence_is d o =
          let q = ap (λ (z : Joining). z.named) (opened_is side (marked c) d o) in
          ap (λ (n : ℕ). (upd s.table j (fence_table s.chain.wiring (s.table j)) n).fence.0) (q ∙ sym at) ∙ ap (λ (t : Table). t.fence.0) (upd_same s.table j new)

      copied_is : (d : Joining) → Opened (change_for side (marked c)) d → (i : ℕ) → get_or (s.table c.fresh).slots i free_slot ≡ get_or (s.table c.named).slots i free_slot
          → get_or (upd s.table j (fence_table s.chain.wiring (s.table j)) d.fresh).slots i free_slot
          ≡ get_or (upd s.table j (fence_table s.chain.wiring (s.table j)) d.named).slots i free_slot
      copied_is d o i h = rw (slots d.fresh, slots d.named, opened_is side (marked c) d o) h

  -- ---- copy

  -- the tables afterwards: slot i of the named one in the new one
  ruled_copy : (i a b : ℕ) → a ≡ c.named → b ≡ c.fresh → i ≡ c.next → i < s.chain.count → c.fenced ≡ true
      → ChainRules (with_change s.chain (change_for side (joining c.named c.fresh true (i + 1))))
      → Ruled k s s.chain.wiring s.chain.highest (change_for side (joining c.named c.fresh true (i + 1)))
      (upd s.table b (write_table (copy_slot i (s.table a)) (s.table b))) s.halted
  ruled_copy i a b ea eb en below fen rules = record {
    sound = record {
      rules = rules;
      tables = tables;
      fenced = λ d o _. let h = v.sound.fenced c is_opened fen in omega (arith, fence_is d o);
      copied = λ d o n h. copied_is d o n (λ q. v.sound.copied c is_opened n (let z = ap (λ (z : Joining). z.next) (opened_is side c' d o) in omega arith));
    };
    wirings = omega arith;
    highests = omega arith;
    halts = λ j h. h;
    fences = λ j m. rw (other j m) (omega arith);
    versions = λ j m. ap (λ (t : Table). version_at k t.slots) (other j m);
    clear = is_clear c' refl refl;
  }
    where
      c' : Joining
      c' = joining c.named c.fresh true (i + 1)

      new : Table
      new = write_table (copy_slot i (s.table a)) (s.table b)

      other : (j : ℕ) → Mem j (members s.chain) → upd s.table b (write_table (copy_slot i (s.table a)) (s.table b)) j ≡ s.table j
      other j m = upd_other s.table b new j (λ q. (open_rules v.sound.rules c is_opened).outside (cast (sym eb ∙ q) m))

      named : upd s.table b (write_table (copy_slot i (s.table a)) (s.table b)) c.named ≡ s.table c.named
      named = other c.named (open_rules v.sound.rules c is_opened).named

      fresh : upd s.table b (write_table (copy_slot i (s.table a)) (s.table b)) c.fresh ≡ write_table (copy_slot i (s.table a)) (s.table b)
      fresh = subst (λ (n : ℕ). upd s.table b (write_table (copy_slot i (s.table a)) (s.table b)) n ≡ write_table (copy_slot i (s.table a)) (s.table b)) eb (upd_same s.table b new)

      room : i < length (s.table b).slots
      room = let h = (v.sound.tables b).count in omega arith

      tables : (j : ℕ) → TableGood (with_change s.chain (change_for side (joining c.named c.fresh true (i + 1)))) (ghosts s) j (upd s.table b (write_table (copy_slot i (s.table a)) (s.table b)) j)
      tables j =
          upd_case (λ t. TableGood (with_change s.chain (change_for side (joining c.named c.fresh true (i + 1)))) (ghosts s) j t) s.table b new j
          (λ q. let g = v.sound.tables b in record {
            id = g.id ∙ q;
            count = length-set (s.table b).slots i (get_or (s.table a).slots i free_slot) ∙ g.count;
            fence = g.fence;
            slots = λ n. set_slots (SlotGood (ghosts s)) (s.table b).slots i (get_or (s.table a).slots i free_slot) room ((v.sound.tables a).slots i) g.slots n;
          })
          (λ _. table_under refl (omega arith) (v.sound.tables j))

      fence_is : (d : Joining) → Opened (change_for side (joining c.named c.fresh true (i + 1))) d
          → (upd s.table b (write_table (copy_slot i (s.table a)) (s.table b)) d.named).fence.0 ≡ (s.table c.named).fence.0
      fence_is d o = rw (opened_is side c' d o, named)

      copied_is : (d : Joining) → Opened (change_for side (joining c.named c.fresh true (i + 1))) d → (n : ℕ)
          → ((n ≡ i → ⊥) → get_or (s.table c.fresh).slots n free_slot ≡ get_or (s.table c.named).slots n free_slot)
          → get_or (upd s.table b (write_table (copy_slot i (s.table a)) (s.table b)) d.fresh).slots n free_slot
          ≡ get_or (upd s.table b (write_table (copy_slot i (s.table a)) (s.table b)) d.named).slots n free_slot
      copied_is d o n old = rw (opened_is side c' d o, named, fresh) (go (ℕ_discrete n i))
        where
          go : Dec (n ≡ i) → get_or (set (s.table b).slots i (get_or (s.table a).slots i free_slot)) n free_slot ≡ get_or (s.table c.named).slots n free_slot
          go (yes q) = rw (q, ← ea) (get_or-set_same (s.table b).slots i (get_or (s.table a).slots i free_slot) free_slot room)
          go (no q) = get_or-set_other (s.table b).slots i n (get_or (s.table a).slots i free_slot) free_slot q ∙ rw eb (old q)

pub pres_fence : {k : List ℕ} {s : State} → Inv k s → (j : ℕ) → (o : Out Chain) → fence_step s.chain (s.table j) ≡ o
    → Inv k (ruled_table (fences j) s (λ r. r) j (λ _. fence_table s.chain.wiring (s.table j)) o)
pres_fence v j (refuse n) e = inv_refused j v refl refl refl refl refl
pres_fence {k} {s} v j (ok r) e =
    let f = fence_view s.chain (s.table j) r e in
    inv_ruled v (λ i. world (f.chain i) (upd s.table j (fence_table s.chain.wiring (s.table j))) s.halted (ghosts s)) refl
    (ruled_fence v f.joins.after f.joins.join f.joins.change j (sym (v.sound.tables j).id ∙ f.id) f.below
    (subst ChainRules f.chain (fence_keeps s.chain (s.table j) r v.sound.rules e)))

pub pres_copy : {k : List ℕ} {s : State} → Inv k s → (i a b : ℕ) → (o : Out Chain) → copy_step s.chain i (s.table a) (s.table b) ≡ o
    → Inv k (ruled_table (copies i a b) s (λ r. r) b (λ _. write_table (copy_slot i (s.table a)) (s.table b)) o)
pres_copy v i a b (refuse n) e = inv_refused b v refl refl refl refl refl
pres_copy {k} {s} v i a b (ok r) e =
    let f = copy_view s.chain i (s.table a) (s.table b) r v.sound.rules e in
    inv_ruled v (λ z. world (f.chain z) (upd s.table b (write_table (copy_slot i (s.table a)) (s.table b))) s.halted (ghosts s)) refl
    (ruled_copy v f.joins.after f.joins.join f.joins.change i a b (sym (v.sound.tables a).id ∙ f.named_id) (sym (v.sound.tables b).id ∙ f.fresh_id) f.next f.below f.fenced
    (subst ChainRules f.chain (copy_keeps s.chain i (s.table a) (s.table b) r v.sound.rules e)))

-- ---- open

-- every slot of a blank table is free
blank_slot : (n i : ℕ) → get_or (replicate n free_slot) i free_slot ≡ free_slot
blank_slot zero i = refl
blank_slot (suc n) zero = refl
blank_slot (suc n) (suc i) = blank_slot n i

pub blank_good : (r : Chain) (l : List Ghost) (j : ℕ) → TableGood r l j (blank_table j r.count)
unfolding blank_table
blank_good r l j = record {
  id = refl;
  count = length-replicate r.count free_slot;
  fence = omega arith;
  slots = λ i. rw (blank_slot r.count i) (record { rules = slot_free refl; content = λ n. absurd (n (content_none free_slot (omega arith) (omega arith))) });
}

pub pres_open : {k : List ℕ} {s : State} → Inv k s → (side : Bool) (named fresh : ℕ) → (o : Out Chain) → open_step s.chain side named fresh ≡ o
    → Inv k (ruled_table (opens side named fresh) s (λ r. r) fresh (λ _. blank_table fresh s.chain.count) o)
pres_open v side named fresh (refuse n) e = inv_refused fresh v refl refl refl refl refl
pres_open {k} {s} v side named fresh (ok r) e =
    inv_ruled {wiring = r.wiring} {highest = fresh} {change = change_for side c} v (λ i. world (is i) (upd s.table fresh (blank_table fresh s.chain.count)) s.halted (ghosts s)) refl
    (record {
      sound = record { rules = subst ChainRules is (open_keeps s.chain side named fresh r v.sound.rules e); tables = tables; fenced = λ d o q. absurd (false≢true (ap (λ (z : Joining). z.fenced) (sym (opened_is side c d o)) ∙ q)); copied = λ d o i h. absurd (let z = ap (λ (z : Joining). z.next) (opened_is side c d o) in omega arith) };
      wirings = let h = f.wiring in omega arith;
      highests = let h = f.above in omega arith;
      halts = λ i h. h;
      fences = λ j m. rw (other j m) (omega arith);
      versions = λ j m. ap (λ (t : Table). version_at k t.slots) (other j m);
      clear = λ p g. record {
        to_old = λ d o q. let h = g.to_used in let a = f.above in let z = ap (λ (z : Joining). z.fresh) (opened_is side c d o) in omega arith;
        from_old = λ d o q. let h = g.from_used in let a = f.above in let z = ap (λ (z : Joining). z.fresh) (opened_is side c d o) in omega arith;
        stopped = λ _. let h = g.stamped in let w = f.wiring in omega arith;
      };
    })
  where
    f : OpenView s.chain side named fresh r
    f = open_view s.chain side named fresh r v.sound.rules e

    c : Joining
    c = joining named fresh false 0

    is : r ≡ renumbered s.chain r.wiring fresh (change_for side (joining named fresh false 0))
    is = λ i. record {
      length = f.size i;
      places = f.places i;
      wiring = r.wiring;
      session = f.session i;
      highest = f.highest i;
      count = f.count i;
      change = f.change i;
    }

    -- the new id is above all ids of the chain
    other : (j : ℕ) → Mem j (members s.chain) → upd s.table fresh (blank_table fresh s.chain.count) j ≡ s.table j
    other j m = upd_other s.table fresh (blank_table fresh s.chain.count) j (λ q. let h = v.sound.rules.highest j m in let a = f.above in omega arith)

    tables : (j : ℕ) → TableGood (renumbered s.chain r.wiring fresh (change_for side (joining named fresh false 0))) (ghosts s) j (upd s.table fresh (blank_table fresh s.chain.count) j)
    tables j =
        upd_case (λ t. TableGood (renumbered s.chain r.wiring fresh (change_for side (joining named fresh false 0))) (ghosts s) j t) s.table fresh (blank_table fresh s.chain.count) j
        (λ q. subst (λ (n : ℕ). TableGood (renumbered s.chain r.wiring fresh (change_for side (joining named fresh false 0))) (ghosts s) n (blank_table fresh s.chain.count)) q (blank_good (renumbered s.chain r.wiring fresh (change_for side (joining named fresh false 0))) (ghosts s) fresh))
        (λ _. table_under refl (let h = f.wiring in omega arith) (v.sound.tables j))

-- ---- enter

pub pres_enter : {k : List ℕ} {s : State} → Inv k s → (j id : ℕ) (key : List ℕ) → length key ≡ key_size → (o : Out Write) → enter_step s.chain (s.table j) id key ≡ o
    → Inv k (ruled_table (enters j id key) s (λ _. s.chain) j (λ w. write_table w (s.table j)) o)
pres_enter v j id key size (refuse n) e = inv_refused j v refl refl refl refl refl
pres_enter {k} {s} v j id key size (ok w) e =
    inv_ruled v (λ i. world s.chain (upd s.table j (write_table (f.write i) (s.table j))) s.halted (ghosts s)) refl
    (record {
      sound = sound_put j new (ghosts s) v.sound member (λ h m. m) good refl (λ c o. not_opened f.still o) (λ c o. not_opened f.still o);
      wirings = omega arith;
      highests = omega arith;
      halts = λ i h. h;
      fences = λ i m. upd_case (λ t. (s.table i).fence.0 ≤ t.fence.0) s.table j new i (λ q. rw q (omega arith)) (λ _. omega arith);
      versions = λ i m. upd_case (λ t. version_at k t.slots ≡ node_version (world_of s) k i) s.table j new i (λ q. rw (← q) (same (reflects_cases (reflect_eqs k key)))) (λ _. refl);
      clear = λ p g. good_clear g;
    })
  where
    f : EnterView s.chain (s.table j) id key w
    f = enter_view s.chain (s.table j) id key w e

    new : Table
    new = write_table (set_row f.place (entered_slot key)) (s.table j)

    member : Mem j (members s.chain)
    member = cast (sym (v.sound.tables j).id ∙ f.meant) f.member

    slot : SlotGood (ghosts s) (entered_slot key)
    slot = record { rules = slot_used size (omega arith) (never_written refl refl refl); content = λ n. absurd (n (content_none (entered_slot key) (omega arith) (omega arith))) }

    good : TableGood s.chain (ghosts s) j (write_table (set_row f.place (entered_slot key)) (s.table j))
    good = let g = v.sound.tables j in record {
      id = g.id;
      count = length-set (s.table j).slots f.place (entered_slot key) ∙ g.count;
      fence = g.fence;
      slots = set_slots (SlotGood (ghosts s)) (s.table j).slots f.place (entered_slot key) (free_at (s.table j).slots f.place f.lowest).below slot g.slots;
    }

    -- an entered key counts as 0.0, as a missing one does
    same : (k ≡ key) ⊎ (k ≡ key → ⊥) → version_at k (set (s.table j).slots f.place (entered_slot key)) ≡ version_at k (s.table j).slots
    same (inl q) =
        let z = version_entered key (s.table j).slots f.place f.lowest f.fresh in
        rw q (z.1 ∙ sym z.0)
    same (inr n) = ap held_version (held_entered_other key (s.table j).slots f.place f.lowest f.fresh k n)
