-- The primitive changes of a world, and what each asks so that the invariant stays.
use Prim.Native.Nat.{ℕ, ◌<◌, ◌≤◌}
use mathlib.Core.Path.{◌≡◌, refl, sym, ap, ◌∙◌, subst}
use mathlib.Core.Bool.{Bool, true, false, not, false≢true}
use mathlib.Core.List.Memᴰ.{cast}
use mathlib.Core.List.Memᴰ.{head as here}
use mathlib.Core.List.Memᴰ.{tail as there}
use mathlib.Core.List.{List, ◌∷◌, Memᴰ as Mem}
use mathlib.Core.Logic.{◌⊎◌, inl, inr, ⊎_elim}
use native.Mathlib.Omega.{arith}
use native.Mathlib.Decide.{ℕ_discrete}
use lib.ListN.{length, get_or, set}
use lib.Seq.{get_or-set_same, get_or-set_other}
use lib.Dec.{eqb}
use borrow.Author.Tests.{eqb-true, eq-eqb}
use Rattle.wire.specs.Version.{AtMost, Below}
use Rattle.wire.specs.Packet.{Packet, Fit, query}
use Rattle.wire.specs.declared.Version.{Version}
use Rattle.wire.specs.declared.Stamp.{Stamp}
use Rattle.wire.proofs.Numbers.{and_left, and_both}
use Rattle.wire.proofs.Versions.{atmost_trans, atmost_refl}
use Rattle.store.specs.Table.{Slot, Table, free_slot}
use Rattle.store.specs.Held.{Content, nothing, version_at}
use Rattle.steps.specs.declared.Joining.{Joining}
use Rattle.steps.specs.declared.Change.{Change}
use Rattle.steps.specs.declared.Chain.{Chain}
use Rattle.steps.specs.declared.Change.TheVariants.{Still, Before, After}
use Rattle.steps.specs.Chain.{members, first_of, JoiningRules, ChangeRules, ChainRules, Opened, before, after}
use Rattle.steps.specs.Node.{is_read, Numbered, Unnumbered}
use Rattle.steps.specs.Relay.{stops}
use Rattle.steps.proofs.ChainIds.{first_mem}
use Rattle.steps.proofs.ChainOrder.{Ahead, ahead_fst, ahead_snd, none_ahead_first}
use Rattle.protocol.specs.System.{State, Ghost, numbered, acked, shown, carried, ghosts, upd}
use Rattle.protocol.specs.Demand.{Growing, Seen, by_read, by_ack, ReadsRise}
use Rattle.protocol.specs.Inv.{World, node_version, Logged, logged, Given, world_of, Passes, LiveTo, LiveFrom, StampedBefore, Good, SlotGood, TableGood, Sound, Keyed, Inv}
use Rattle.protocol.proofs.Upd.{upd_case, upd_other, upd_back}
use Rattle.protocol.proofs.Ghosts.{other_kind}

pub at_most_trans : {a b c : Version} → AtMost a b → AtMost b c → AtMost a c
at_most_trans {a} {b} {c} h g = atmost_trans a b c h g

pub at_most_same : {a b : Version} → a ≡ b → AtMost a b
at_most_same {a} {b} e = subst (AtMost a) e (atmost_refl a)

abbrev pub world : Chain → (ℕ → Table) → (ℕ → Bool) → List Ghost → World
world r t h l = record { chain = r; table = t; halted = h; history = l }

-- the record with another wiring number, highest id and change
abbrev pub renumbered : Chain → Stamp → ℕ → Change → Chain
renumbered r wiring highest change = record {
  length = r.length;
  places = r.places;
  wiring = wiring;
  session = r.session;
  highest = highest;
  count = r.count;
  change = change;
}

-- ---- a history that grows

abbrev pub More : List Ghost → List Ghost → Type 0
More l m = (g : Ghost) → Mem g l → Mem g m

pub logged_more : {l m : List Ghost} {k : List ℕ} {v : Version} {c : Content} → More l m → Logged l k v c → Logged m k v c
logged_more more (logged j b o i) = logged j b o (more _ i)

given_more : {l m : List Ghost} {k : List ℕ} {v : Version} → More l m → Given l k v → Given m k v
given_more h g = record { some = g.some; content = g.content; log = logged_more h g.log }

pub slot_more : {l m : List Ghost} {x : Slot} → More l m → SlotGood l x → SlotGood m x
slot_more more g = record { rules = g.rules; content = λ n. logged_more more (g.content n) }

pub table_more : {r : Chain} {l m : List Ghost} {j : ℕ} {t : Table} → More l m → TableGood r l j t → TableGood r m j t
table_more more g = record { id = g.id; count = g.count; fence = g.fence; slots = λ i. slot_more more (g.slots i) }

-- a property of slots, where one is set that has it
pub set_slots : (P : Slot → Type 0) (l : List Slot) (i : ℕ) (x : Slot) → i < length l → P x → ((n : ℕ) → P (get_or l n free_slot)) → (n : ℕ) → P (get_or (set l i x) n free_slot)
set_slots P l i x h p all n = go (ℕ_discrete n i)
  where
    go : Dec (n ≡ i) → P (get_or (set l i x) n free_slot)
    go (yes e) = subst P (sym (ap (λ (m : ℕ). get_or (set l i x) m free_slot) e ∙ get_or-set_same l i x free_slot h)) p
    go (no d) = subst P (sym (get_or-set_other l i n x free_slot d)) (all n)

-- ---- a packet while the chain and the session stay

-- what a packet asks of the wiring number and the change
pub record Clear (wiring : Stamp) (change : Change) (p : Packet) : Type 0 where
  pub to_old : (c : Joining) → Opened change c → p.head.to ≡ c.fresh → ⊥
  pub from_old : (c : Joining) → Opened change c → p.head.from ≡ c.fresh → ⊥
  pub stopped : StampedBefore wiring change p

pub good_clear : {k : List ℕ} {w : World} {p : Packet} → Good k w p → Clear w.chain.wiring w.chain.change p
good_clear g = record { to_old = g.to_old; from_old = g.from_old; stopped = g.stopped }

-- numbers, halts, history, fences and versions grow; a version given anew is held by the first node
pub record Grows (k : List ℕ) (w : World) (wiring : Stamp) (highest : ℕ) (table : ℕ → Table) (halted : ℕ → Bool) (history : List Ghost) : Type 0 where
  pub wirings : w.chain.wiring.0 ≤ wiring.0
  pub highests : w.chain.highest ≤ highest
  pub halts : (j : ℕ) → w.halted j ≡ true → halted j ≡ true
  pub more : More w.history history
  pub fences : (j : ℕ) → Mem j (members w.chain) → (w.table j).fence.0 ≤ (table j).fence.0
  pub versions : (j : ℕ) → Mem j (members w.chain) → AtMost (node_version w k j) (version_at k (table j).slots)
  pub new : (v : Version) (c : Content) → Logged history k v c
      → Logged w.history k v c ⊎ AtMost v (version_at k (table (first_of (members w.chain))).slots)

pub good_grows : {k : List ℕ} {w : World} {wiring : Stamp} {highest : ℕ} {table : ℕ → Table} {halted : ℕ → Bool} {history : List Ghost} (change : Change)
    → Grows k w wiring highest table halted history → {p : Packet} → Good k w p → Clear wiring change p
    → Good k (world (renumbered w.chain wiring highest change) table halted history) p
good_grows {k} {w} {wiring} {highest} {table} {halted} {history} change a {p} g c = record {
  fit = g.fit;
  to_used = let h = g.to_used in let h' = a.highests in omega arith;
  from_used = let h = g.from_used in let h' = a.highests in omega arith;
  to_old = c.to_old;
  from_old = c.from_old;
  asked = g.asked;
  lands = λ z. ⊎_elim inl (λ e. inr (a.halts p.head.to e)) (g.lands z);
  stamped = let h = g.stamped in let h' = a.wirings in omega arith;
  stopped = c.stopped;
  content = λ n. logged_more a.more (g.content n);
  reads_last = λ l. g.reads_last (was l);
  writes_first = λ l. g.writes_first (was l);
  session = λ l. g.session (was l);
  top = λ l u v d h le. ⊎_elim (λ o. at_most_trans (g.top (was l) u v d o le) (a.versions p.head.to l.0)) (held l u) (a.new v d h);
  current = λ l. g.current (was l);
  ahead_hold = λ l n e i h. at_most_trans (g.ahead_hold (was l) n e i h) (a.versions i (ahead_fst h));
  sender_holds = λ m q n e. at_most_trans (g.sender_holds m q n e) (a.versions p.head.from m);
}
  where
    w' : World
    w' = world (renumbered w.chain wiring highest change) table halted history

    was : LiveTo w' p → LiveTo w p
    was l = (l.0, let h = a.fences p.head.to l.0 in let h' = l.1 in omega arith)

    -- what the first node holds
    held : LiveTo w' p → Unnumbered p → {v : Version} → AtMost v (version_at k (table (first_of (members w.chain))).slots) → AtMost v (version_at k (table p.head.to).slots)
    held l u h = rw (none_ahead_first _ l.0 (g.writes_first (was l) u)) h

-- ---- one key while the chain and the session stay

-- versions grow, and keep their order along the chain
pub keyed_grows : {k : List ℕ} {w : World} (wiring : Stamp) (highest : ℕ) (change : Change) (table : ℕ → Table) (halted : ℕ → Bool)
    → Keyed k w → ((j : ℕ) → Mem j (members w.chain) → AtMost (node_version w k j) (version_at k (table j).slots))
    → ((i j : ℕ) → Ahead i j (members w.chain) → AtMost (version_at k (table j).slots) (version_at k (table i).slots))
    → 0 < length (members w.chain)
    → Keyed k (world (renumbered w.chain wiring highest change) table halted w.history)
keyed_grows wiring highest change table halted v up order some = record {
  order = order;
  sessions = v.sessions;
  first_holds = λ u c h e. at_most_trans (v.first_holds u c h e) (up _ (first_mem _ some));
  growing = v.growing;
  acked_given = v.acked_given;
  seen_held = λ u h j m. at_most_trans (v.seen_held u h j m) (up j m);
  reads_rise = v.reads_rise;
}

-- versions stay
pub keyed_stays : {k : List ℕ} {w : World} (wiring : Stamp) (highest : ℕ) (change : Change) (table : ℕ → Table) (halted : ℕ → Bool)
    → Keyed k w → ((j : ℕ) → Mem j (members w.chain) → version_at k (table j).slots ≡ node_version w k j) → 0 < length (members w.chain)
    → Keyed k (world (renumbered w.chain wiring highest change) table halted w.history)
keyed_stays wiring highest change table halted v same some =
    keyed_grows wiring highest change table halted v (λ j m. at_most_same (sym (same j m)))
    (λ i j a. rw (same i (ahead_fst a), same j (ahead_snd a)) (v.order i j a)) some

-- ---- one more ghost for one key

-- a number given
pub keyed_numbered : {k : List ℕ} {w : World} (key : List ℕ) (u : Version) (c : Content) (j : ℕ) (b : Version) (o : Packet)
    → Keyed k w → (key ≡ k → u.session.0 ≤ w.chain.session.0) → (key ≡ k → AtMost u (node_version w k (first_of (members w.chain))))
    → (key ≡ k → (v : Version) (d : Content) → Logged w.history k v d → Below v u)
    → Keyed k (world w.chain w.table w.halted (numbered key u c j b o ∷ w.history))
keyed_numbered {k} {w} key u c j b o v low first above = record {
  order = v.order;
  sessions = λ x d h. ⊎_elim (λ e. rw e.1 (low e.0)) (v.sessions x d) (back h);
  first_holds = λ x d h e. ⊎_elim (λ q. rw q.1 (first q.0)) (λ h. v.first_holds x d h e) (back h);
  growing = ((λ e x d i b' p' m. above e x d (logged i b' p' m)), v.growing);
  acked_given = λ x p m. given_more (λ h m. there m) (v.acked_given x p (other_kind (λ z. omega arith) m));
  seen_held = λ x h. v.seen_held x (seen h);
  reads_rise = v.reads_rise;
}
  where
    back : {x : Version} {d : Content} → Logged (numbered key u c j b o ∷ w.history) k x d → ((key ≡ k) × (x ≡ u)) ⊎ Logged w.history k x d
    back (logged i b' p' (here e)) = inl (cc, cc)
    back (logged i b' p' (there m)) = inr (logged i b' p' m)

    seen : {x : Version} → Seen k x (numbered key u c j b o ∷ w.history) → Seen k x w.history
    seen (by_read p m) = by_read p (other_kind (λ z. omega arith) m)
    seen (by_ack p m) = by_ack p (other_kind (λ z. omega arith) m)

-- an acknowledgement and a read log nothing, and one version is seen more
pub logged_acked : {l : List Ghost} {k : List ℕ} {v : Version} {c : Content} (key : List ℕ) (u : Version) (p : Packet) → Logged (acked key u p ∷ l) k v c → Logged l k v c
logged_acked key u p (logged i b o m) = logged i b o (other_kind (λ z. omega arith) m)

pub logged_shown : {l : List Ghost} {k : List ℕ} {v : Version} {c : Content} (key : List ℕ) (u : Version) (p : Packet) → Logged (shown key u p ∷ l) k v c → Logged l k v c
logged_shown key u p (logged i b o m) = logged i b o (other_kind (λ z. omega arith) m)

seen_acked : {l : List Ghost} {k : List ℕ} {v : Version} (key : List ℕ) (u : Version) (p : Packet) → Seen k v (acked key u p ∷ l) → ((key ≡ k) × (v ≡ u)) ⊎ Seen k v l
seen_acked key u p (by_read q m) = inr (by_read q (other_kind (λ z. omega arith) m))
seen_acked key u p (by_ack q (here e)) = inl (cc, cc)
seen_acked key u p (by_ack q (there m)) = inr (by_ack q m)

seen_shown : {l : List Ghost} {k : List ℕ} {v : Version} (key : List ℕ) (u : Version) (p : Packet) → Seen k v (shown key u p ∷ l) → ((key ≡ k) × (v ≡ u)) ⊎ Seen k v l
seen_shown key u p (by_read q (here e)) = inl (cc, cc)
seen_shown key u p (by_read q (there m)) = inr (by_read q m)
seen_shown key u p (by_ack q m) = inr (by_ack q (other_kind (λ z. omega arith) m))

-- a ghost that logs nothing, of a version that every chain node holds
keyed_seen : {k : List ℕ} {w : World} (g : Ghost) (key : List ℕ) (u : Version) → Keyed k w
    → ((x : Version) (c : Content) → Logged (g ∷ w.history) k x c → Logged w.history k x c)
    → ((x : Version) → Seen k x (g ∷ w.history) → ((key ≡ k) × (x ≡ u)) ⊎ Seen k x w.history)
    → ((x : Version) (p : Packet) → Mem (acked k x p) (g ∷ w.history) → Given w.history k x)
    → Growing k (g ∷ w.history) → ReadsRise k (g ∷ w.history)
    → (key ≡ k → (j : ℕ) → Mem j (members w.chain) → AtMost u (node_version w k j))
    → Keyed k (world w.chain w.table w.halted (g ∷ w.history))
keyed_seen g key u v logs sees acks grow rise low = record {
  order = v.order;
  sessions = λ x c h. v.sessions x c (logs x c h);
  first_holds = λ x c h. v.first_holds x c (logs x c h);
  growing = grow;
  acked_given = λ x p m. given_more (λ h m. there m) (acks x p m);
  seen_held = λ x h j m. ⊎_elim (λ e. rw e.1 (low e.0 j m)) (λ h. v.seen_held x h j m) (sees x h);
  reads_rise = rise;
}

pub keyed_acked : {k : List ℕ} {w : World} (key : List ℕ) (u : Version) (p : Packet)
    → Keyed k w → (key ≡ k → Given w.history k u) → (key ≡ k → (j : ℕ) → Mem j (members w.chain) → AtMost u (node_version w k j))
    → Keyed k (world w.chain w.table w.halted (acked key u p ∷ w.history))
keyed_acked {k} {w} key u p v gives low = keyed_seen (acked key u p) key u v (λ x c. logged_acked key u p) (λ x. seen_acked key u p) acks v.growing v.reads_rise low
  where
    acks : (x : Version) (q : Packet) → Mem (acked k x q) (acked key u p ∷ w.history) → Given w.history k x
    acks x q (here e) = let z : x ≡ u = cc in subst (Given w.history k) (sym z) (gives (cc))
    acks x q (there m) = v.acked_given x q m

-- a read shows the version of some chain node i
pub keyed_shown : {k : List ℕ} {w : World} (key : List ℕ) (u : Version) (p : Packet) (i : ℕ)
    → Keyed k w → Mem i (members w.chain) → (key ≡ k → u ≡ node_version w k i) → (key ≡ k → (j : ℕ) → Mem j (members w.chain) → AtMost u (node_version w k j))
    → Keyed k (world w.chain w.table w.halted (shown key u p ∷ w.history))
keyed_shown key u p i v mi is low =
    keyed_seen (shown key u p) key u v (λ x c. logged_shown key u p) (λ x. seen_shown key u p) (λ x q m. v.acked_given x q (other_kind (λ z. omega arith) m)) v.growing
    ((λ e x h. rw (is e) (v.seen_held x h i mi)), v.reads_rise) low

-- ---- one table of a chain node changed

-- its fence stays; its slots stay where some of them are copied
pub sound_put : {w : World} (j : ℕ) (t : Table) (l : List Ghost) → Sound w → Mem j (members w.chain) → More w.history l
    → TableGood w.chain l j t → t.fence ≡ (w.table j).fence
    → ((c : Joining) → Opened w.chain.change c → 0 < c.next → j ≡ c.named → t.slots ≡ (w.table j).slots)
    → ((c : Joining) → Opened w.chain.change c → Mem c.fresh (members w.chain) → ⊥)
    → Sound (world w.chain (upd w.table j t) w.halted l)
sound_put {w} j t l v mj more good fence frozen out = record {
  rules = v.rules;
  tables = λ i. upd_case (λ x. TableGood w.chain l i x) w.table j t i (λ e. subst (λ (n : ℕ). TableGood w.chain l n t) e good) (λ _. table_more more (v.tables i));
  fenced = λ c o f. let h = v.fenced c o f in omega (arith, same c.named);
  copied = λ c o i h.
      rw (upd_other w.table j t c.fresh (λ e. out c o (cast (sym e) mj)))
      (upd_case (λ x. get_or (w.table c.fresh).slots i free_slot ≡ get_or x.slots i free_slot) w.table j t c.named
      (λ e. rw (frozen c o (omega arith) e, e) (v.copied c o i h)) (λ _. v.copied c o i h));
}
  where
    same : (i : ℕ) → (upd w.table j t i).fence.0 ≡ (w.table i).fence.0
    same i = upd_case (λ x. x.fence.0 ≡ (w.table i).fence.0) w.table j t i (λ e. ap (λ (n : Stamp). n.0) fence ∙ ap (λ (n : ℕ). (w.table n).fence.0) e) (λ _. refl)

-- ---- the history alone grows

pub sound_more : {w : World} (l : List Ghost) → Sound w → More w.history l → Sound (world w.chain w.table w.halted l)
sound_more l v more = record { rules = v.rules; tables = λ j. table_more more (v.tables j); fenced = v.fenced; copied = v.copied }

-- what a packet asks of a history that grows by nothing numbered for the key
pub grows_history : {k : List ℕ} {w : World} (l : List Ghost) → More w.history l
    → ((v : Version) (c : Content) → Logged l k v c → Logged w.history k v c)
    → Grows k w w.chain.wiring w.chain.highest w.table w.halted l
grows_history l more less = record {
  wirings = omega arith;
  highests = omega arith;
  halts = λ j e. e;
  more = more;
  fences = λ j m. omega arith;
  versions = λ j m. at_most_same refl;
  new = λ v c h. inl (less v c h);
}

-- ---- a packet that is addressed to no node

-- the rules of an open change, and its ids
pub open_rules : {r : Chain} → ChainRules r → (c : Joining) → Opened r.change c → JoiningRules r c
open_rules {r} g c o = go r.change g.change o
  where
    go : (ch : Change) → ChangeRules r ch → Opened ch c → JoiningRules r c
    go _ h before = h
    go _ h after = h.0

pub fresh_nonzero : {r : Chain} → ChainRules r → (c : Joining) → Opened r.change c → 0 ≡ c.fresh → ⊥
fresh_nonzero {r} g c o e =
    let j = open_rules g c o in
    let h = g.highest c.named j.named in
    let f = j.highest in
    let z : c.named ≡ 0 = omega arith in
    g.nonzero (cast (sym z) j.named)

-- a change that has copied a slot is marked
pub copied_fenced : {r : Chain} → ChainRules r → (c : Joining) → Opened r.change c → 0 < c.next → c.fenced ≡ true
copied_fenced g c o n = go c.fenced refl
  where
    go : (b : Bool) → c.fenced ≡ b → c.fenced ≡ true
    go true e = e
    go false e = absurd (let z = (open_rules g c o).unfenced e in omega arith)

-- writes and deletes to the named node are stopped
pub stops_named : {ch : Change} (c : Joining) → Opened ch c → (j : ℕ) → j ≡ c.named → stops ch false j ≡ true
stops_named c before j e = and_both (eqb j c.named) true (eq-eqb _ _ e) refl
stops_named c after j e = eq-eqb _ _ e

-- nothing is stopped on its way to no node
pub stops_none : {r : Chain} → ChainRules r → (b : Bool) → stops r.change b 0 ≡ true → ⊥
stops_none {r} g b e = go r.change g.change e
  where
    named : (c : Joining) → JoiningRules r c → eqb 0 c.named ≡ true → ⊥
    named c j q = g.nonzero (cast (eqb-true 0 c.named q) j.named)

    go : (ch : Change) → ChangeRules r ch → stops ch b 0 ≡ true → ⊥
    go Still h q = false≢true q
    go (Before c) h q = named c h (and_left (eqb 0 c.named) (not b) q)
    go (After c) h q = named c h.0 q

pub good_away : {k : List ℕ} {w : World} {q : Packet} → ChainRules w.chain → Fit q → q.head.to ≡ 0
    → q.head.from ≤ w.chain.highest
    → ((c : Joining) → Opened w.chain.change c → q.head.from ≡ c.fresh → ⊥)
    → (q.head.from ≡ 0 → q.head.answer ≡ query → ⊥)
    → q.head.stamp.0 ≤ w.chain.wiring.0
    → ((carried q ≡ nothing → ⊥) → Logged w.history q.key q.head.version (carried q))
    → (LiveFrom w q → q.head.answer ≡ query → Numbered q → q.key ≡ k → AtMost q.head.version (node_version w k q.head.from))
    → Good k w q
good_away {k} {w} {q} rules fit to from old asked stamp content sender = record {
  fit = fit;
  to_used = omega arith;
  from_used = from;
  to_old = λ c o e. fresh_nonzero rules c o (sym to ∙ e);
  from_old = old;
  asked = λ e e' _. asked e e';
  lands = λ n. absurd (n to);
  stamped = stamp;
  stopped = λ e. absurd (stops_none rules (is_read q) (ap (λ (j : ℕ). stops w.chain.change (is_read q) j) (sym to) ∙ e));
  content = content;
  reads_last = λ l. absurd (nowhere l);
  writes_first = λ l. absurd (nowhere l);
  session = λ l. absurd (nowhere l);
  top = λ l. absurd (nowhere l);
  current = λ l. absurd (nowhere l);
  ahead_hold = λ l. absurd (nowhere l);
  sender_holds = sender;
}
  where
    nowhere : LiveTo w q → ⊥
    nowhere l = rules.nonzero (cast (sym to) l.0)

-- ---- a state that a step leaves

-- a step that made one packet
pub inv_made : {k : List ℕ} {s s' : State} (w : World) (q : Packet) → world_of s' ≡ w → s'.packets ≡ q ∷ s.packets
    → Inv k s → Sound w → Keyed k w → ((p : Packet) → Good k (world_of s) p → Good k w p) → Good k w q → Inv k s'
inv_made {k} {s} {s'} w q e m v sound keyed old new = record {
  sound = subst Sound (sym e) sound;
  keyed = subst (Keyed k) (sym e) keyed;
  packets = λ p h. subst (λ (x : World). Good k x p) (sym e) (go p (subst (λ (l : List Packet). Mem p l) m h));
}
  where
    go : (p : Packet) → Mem p (q ∷ s.packets) → Good k w p
    go p (here i) = subst (Good k w) (sym i) new
    go p (there h) = old p (v.packets p h)

-- a step that made none
pub inv_made_none : {k : List ℕ} {s s' : State} (w : World) → world_of s' ≡ w → s'.packets ≡ s.packets
    → Inv k s → Sound w → Keyed k w → ((p : Packet) → Good k (world_of s) p → Good k w p) → Inv k s'
inv_made_none {k} w e m v sound keyed old = record {
  sound = subst Sound (sym e) sound;
  keyed = subst (Keyed k) (sym e) keyed;
  packets = λ p h. subst (λ (x : World). Good k x p) (sym e) (old p (v.packets p (subst (λ (l : List Packet). Mem p l) m h)));
}

-- a step that changed nothing
pub inv_same : {k : List ℕ} {s s' : State} → Inv k s → world_of s' ≡ world_of s → s'.packets ≡ s.packets → Inv k s'
inv_same {k} {s} v e m = inv_made_none (world_of s) e m v v.sound v.keyed (λ p g. g)

-- a step that was refused: the table that it was handed stays
pub inv_refused : {k : List ℕ} {s s' : State} (j : ℕ) → Inv k s → s'.chain ≡ s.chain → s'.table ≡ upd s.table j (s.table j) → s'.halted ≡ s.halted → ghosts s' ≡ ghosts s
    → s'.packets ≡ s.packets → Inv k s'
inv_refused {k} {s} j v r t h l m = inv_same v (λ i. world (r i) ((t ∙ upd_back s.table j) i) (h i) (l i)) m

-- ---- a delivery

-- what an awake node would take is live
pub awake_live : {k : List ℕ} {s : State} → Inv k s → (p : Packet) → Mem p s.packets → s.halted p.head.to ≡ false → p.head.from ≡ 0 → p.head.answer ≡ query
    → Passes (s.table p.head.to) p → LiveTo (world_of s) p
awake_live {k} {s} v p m awake from asks fence = (go (g.lands (g.asked from asks)), fence)
  where
    g : Good k (world_of s) p
    g = v.packets p m

    go : Mem p.head.to (members s.chain) ⊎ (s.halted p.head.to ≡ true) → Mem p.head.to (members s.chain)
    go (inl h) = h
    go (inr e) = absurd (false≢true (sym awake ∙ e))
