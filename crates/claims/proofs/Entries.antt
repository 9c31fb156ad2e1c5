-- The entries of a trace over bytes: what is true of each, and what the decoded trace has of it, both ways.
use Prim.Native.Nat.{ℕ, ◌<◌}
use mathlib.Core.Path.{◌≡◌, refl, sym, ap, ◌∙◌, subst}
use mathlib.Core.List.Memᴰ.{append_cases}
use mathlib.Core.List.Memᴰ.{append_left}
use mathlib.Core.List.Memᴰ.{append_right}
use mathlib.Core.List.Memᴰ.{head as here}
use mathlib.Core.List.Memᴰ.{of_map}
use mathlib.Core.List.Memᴰ.{tail as there}
use mathlib.Core.List.{List, [], ◌∷◌, ◌++◌, map, Memᴰ as Mem}
use mathlib.Core.Logic.{◌⊎◌, inl, inr, ⊎_elim}
use native.Mathlib.Omega.{arith}
use native.Mathlib.Decide.{dec_lt}
use lib.ListN.{length}
use lib.Dec.{eqb, ltb}
use Rattle.be.specs.Be.{Bytes}
use Rattle.wire.specs.Numbers.{Out, refuse, ok, number_of, left, small_outlet}
use Rattle.wire.specs.Packet.{Packet, packet_of, head_of, bytes_of, well_formed, Formed, sent_in, outlet_size, query, op_read}
use Rattle.wire.specs.declared.Version.{Version}
use Rattle.wire.specs.declared.Head.{Head}
use Rattle.wire.proofs.Numbers.{pick_true, pick_case, reflects_yes}
use Rattle.wire.proofs.Packet.{reflect_formed}
use Rattle.wire.proofs.RoundTrip.{read_write}
use Rattle.store.specs.Table.{Table, table_of}
use Rattle.store.specs.Held.{Held}
use Rattle.steps.specs.Node.{Sent, reply, node_step, node_call, node_rows}
use Rattle.steps.specs.Relay.{Way, relay_call, relay_rows, packet_sent}
use Rattle.steps.proofs.Node.{node_judged, node_called}
use Rattle.steps.proofs.NodeView.{Tells, no_key as has_no_key, has_value, never_written, was_deleted, NodeCase, answered, nokey, took, gave, node_view}
use Rattle.steps.proofs.NodeSends.{node_leaves}
use Rattle.steps.proofs.Relay.{relay_judged, relay_called}
use Rattle.protocol.specs.System.{Event, from_client, no_packet, at_relay, at_node, Entry, ghosts_of}
use Rattle.claims.specs.Bytes.{EventB, asking, relaying, stepping, opening, fencing, copying, activating, cancelling, removing, entering, halting, EntryB, StateB, made_in, first_packet, exec_b, EnabledB, ReachB, start_b, step_b}
use Rattle.claims.proofs.Decode.{roomy, events_of, entry_as, trace_of, roomy_yes, made_none, made_one}
use Rattle.claims.proofs.Images.{SoundB, refused, relay_small, node_small}
use Rattle.claims.proofs.Bridge.{simulate_sound, bridge}

-- ---- what is true of every entry

pub record Kept (h h' : Head) : Type 0 where
  pub op : h'.op ≡ h.op
  pub answers : h'.op ≡ op_read → h'.answer ≡ query → ⊥

pub record EntryGood (x : EntryB) : Type 0 where
  -- it made one packet or none
  pub single : (x.made ≡ []) ⊎ ((q : List ℕ) × (x.made ≡ q ∷ []))
  -- the decoded system does not see it: its outlet was too small
  pub hidden : events_of x.event ≡ [] → (x.number ≡ small_outlet) × (x.made ≡ [])
  -- the relay makes a packet only of a packet
  pub formed : (p out q : List ℕ) → x.event ≡ asking p out → x.made ≡ q ∷ [] → Formed p
  -- a node keeps the op, and makes no query of a read
  pub kept : (j : ℕ) (p out q : List ℕ) → x.event ≡ stepping j p out → x.made ≡ q ∷ [] → Kept (head_of p) (head_of q)
  -- what it made is a packet, and so is what a node made it of
  pub whole : (q : List ℕ) → x.made ≡ q ∷ [] → Formed q × Bytes q
  pub handed : (j : ℕ) (p out q : List ℕ) → x.event ≡ stepping j p out → x.made ≡ q ∷ [] → Formed p × Bytes p

pub cons_nil : {A B : Type 0} {a : A} {l : List A} → a ∷ l ≡ [] → B
cons_nil e = absurd (omega (arith, ap length e))

roomy_small : (out : List ℕ) (d : Event) → roomy out d ≡ [] → length out < outlet_size
roomy_small out d e = go (dec_lt (length out) outlet_size)
  where
    go : Dec (length out < outlet_size) → length out < outlet_size
    go (yes h) = h
    go (no h) = cons_nil (sym (roomy_yes out d (omega arith)) ∙ e)

pub made_single : (n : ℕ) (out : List ℕ) → (made_in n out ≡ []) ⊎ ((q : List ℕ) × (made_in n out ≡ q ∷ []))
unfolding made_in
made_single n out = pick_case (λ (l : List (List ℕ)). (l ≡ []) ⊎ ((q : List ℕ) × (l ≡ q ∷ []))) (eqb n 0) (first_packet out ∷ []) [] (λ _. inr (first_packet out, refl)) (λ _. inl refl)

-- an entry that made nothing, of an event that the decoded system sees
quiet : (x : EntryB) {d : Event} → events_of x.event ≡ d ∷ [] → x.made ≡ [] → EntryGood x
quiet x e m = record {
  single = inl m;
  hidden = λ h. cons_nil (sym e ∙ h);
  formed = λ p out q f g. cons_nil (sym g ∙ m);
  kept = λ j p out q f g. cons_nil (sym g ∙ m);
  whole = λ q g. cons_nil (sym g ∙ m);
  handed = λ j p out q f g. cons_nil (sym g ∙ m);
}

-- what a node sends has the op of what it got, and answers a read
node_keeps : (t : Table) (p : Packet) (x : Sent) → node_step t p ≡ ok x → Kept p.head x.packet.head
unfolding reply
node_keeps t p x e = go (node_view t p x e).case
  where
    told : {h : Held} {answer : ℕ} {value : List ℕ} → Tells h answer value → answer ≡ query → ⊥
    told (has_no_key h a n) w = omega arith
    told (has_value c h v z k a) w = omega arith
    told (never_written c h v d k a n) w = omega arith
    told (was_deleted c h d k a n) w = omega arith

    as_sent : {q : Packet} → x.packet ≡ q → Kept p.head q.head → Kept p.head x.packet.head
    as_sent e h = subst (λ (q : Packet). Kept p.head q.head) (sym e) h

    go : NodeCase t p x → Kept p.head x.packet.head
    go (answered c) = as_sent c.sends (record { op = refl; answers = λ _ w. told c.tells w })
    go (nokey c) = as_sent c.sends (record { op = refl; answers = λ _ w. omega arith })
    go (took c) = as_sent c.stores.sends (record { op = refl; answers = λ o _. c.numbered.0 o })
    go (gave c) = as_sent c.stores.sends (record { op = refl; answers = λ o _. c.unnumbered.0 o })

module _ (s : StateB) (g : SoundB s) where
  -- a relay step that made a packet was given one
  relay_formed : (p out q : List ℕ) (o : Out Way) → relay_call s.chain p out ≡ o → made_in (number_of o) (left out (λ w. sent_in out (packet_sent w)) o) ≡ q ∷ [] → Formed p
  relay_formed p out q (refuse n) c m = cons_nil (sym m ∙ made_none n out (refused (relay_rows s.chain p out) _ n (relay_judged s.chain p out) c))
  relay_formed p out q (ok w) c m = (relay_called s.chain p out w c).formed

  -- of a node step that made a packet
  node_kept : (j : ℕ) (p out q : List ℕ) → EnabledB (stepping j p out) s → (o : Out Sent) → node_call (s.table j) p out ≡ o
      → made_in (number_of o) (left out (λ x. sent_in out x.packet) o) ≡ q ∷ [] → Kept (head_of p) (head_of q)
  unfolding packet_of
  node_kept j p out q en (refuse n) c m = cons_nil (sym m ∙ made_none n out (refused (node_rows (s.table j) p out) _ n (node_judged (s.table j) p out) c))
  node_kept j p out q en (ok x) c m =
      let sound = (node_leaves (s.table j) p out x (g.tables j en.0).1 (g.packets p en.1).1 c).packet in
      let is : q ≡ bytes_of x.packet = cc (made_one out x.packet sound.fit) in
      subst (λ (b : List ℕ). Kept (head_of p) (head_of b)) (sym is)
      (subst (λ (r : Packet). Kept (head_of p) r.head) (sym (read_write x.packet sound.fit sound.ranges))
      (node_keeps (table_of (s.table j)) (packet_of p) x (node_called (s.table j) p out x c).step))

  -- what an event made is a packet
  made_whole : (e : EventB) → EnabledB e s → (m : List (List ℕ)) → (exec_b e s).packets ≡ m ++ s.packets → (q : List ℕ) → m ≡ q ∷ [] → Formed q × Bytes q
  made_whole e en m is q h = (simulate_sound s g e en).packets q (subst (Mem q) (sym is) (append_left s.packets (subst (Mem q) (sym h) (here refl))))

  -- the entry that an event adds
  pub added : (e : EventB) → EnabledB e s → (x : EntryB) × ((exec_b e s).trace ≡ x ∷ s.trace) × EntryGood x
  unfolding exec_b
  added (asking p out) en = (
    _,
    refl,
    record {
      single = made_single _ _;
      hidden = λ h. rw (relay_small s g p out (roomy_small out _ h)) (refl, made_none small_outlet out (λ z. omega arith));
      formed = λ p' out' q e m. let z : p ≡ p' = cc in subst Formed z (relay_formed p out q _ refl m);
      kept = λ j p' out' q e m. absurd (let z : ◌≡◌ {A = ℕ} 0 1 = cc in omega arith);
      whole = made_whole (asking p out) en _ refl;
      handed = λ j p' out' q e m. absurd (let z : ◌≡◌ {A = ℕ} 0 1 = cc in omega arith);
    },
  )
  added (relaying p out) en = (
    _,
    refl,
    record {
      single = made_single _ _;
      hidden = λ h. rw (relay_small s g p out (roomy_small out _ h)) (refl, made_none small_outlet out (λ z. omega arith));
      formed = λ p' out' q e m. absurd (let z : ◌≡◌ {A = ℕ} 0 1 = cc in omega arith);
      kept = λ j p' out' q e m. absurd (let z : ◌≡◌ {A = ℕ} 0 1 = cc in omega arith);
      whole = made_whole (relaying p out) en _ refl;
      handed = λ j p' out' q e m. absurd (let z : ◌≡◌ {A = ℕ} 0 1 = cc in omega arith);
    },
  )
  added (stepping j p out) en = (
    _,
    refl,
    record {
      single = made_single _ _;
      hidden = λ h. rw (node_small s g j p out en.0 (roomy_small out _ h)) (refl, made_none small_outlet out (λ z. omega arith));
      formed = λ p' out' q e m. absurd (let z : ◌≡◌ {A = ℕ} 0 1 = cc in omega arith);
      kept = λ i p' out' q e m. let z : p ≡ p' = cc in subst (λ (b : List ℕ). Kept (head_of b) (head_of q)) z (node_kept j p out q en _ refl m);
      whole = made_whole (stepping j p out) en _ refl;
      handed = λ i p' out' q e m. let z : p ≡ p' = cc in subst (λ (b : List ℕ). Formed b × Bytes b) z (g.packets p en.1);
    },
  )
  added (opening after named fresh) en = (_, refl, quiet _ refl refl)
  added (fencing j) en = (_, refl, quiet _ refl refl)
  added (copying i a b) en = (_, refl, quiet _ refl refl)
  added activating en = (_, refl, quiet _ refl refl)
  added cancelling en = (_, refl, quiet _ refl refl)
  added (removing id) en = (_, refl, quiet _ refl refl)
  added (entering j id key) en = (_, refl, quiet _ refl refl)
  added (halting j) en = (_, refl, quiet _ refl refl)

-- what is true of the entry that each event adds is true of every entry
pub every_entry : (P : EntryB → Type 0) → ((s : StateB) → ReachB s → (e : EventB) → EnabledB e s → (x : EntryB) × ((exec_b e s).trace ≡ x ∷ s.trace) × P x)
    → {s : StateB} → ReachB s → (x : EntryB) → Mem x s.trace → P x
every_entry P h (start_b z) x m = none (subst (Mem x) z.fresh m)
  where
    none : Mem x [] → P x
    none m = elim m [ ]
every_entry P h (step_b {s = s} r e en) x m = let (y, is, good) = h s r e en in go y good (subst (Mem x) is m) (λ m. every_entry P h r x m)
  where
    go : (y : EntryB) → P y → Mem x (y ∷ s.trace) → (Mem x s.trace → P x) → P x
    go y good (here q) ih = subst P (sym q) good
    go y good (there m) ih = ih m

pub entries_good : {s : StateB} → ReachB s → (x : EntryB) → Mem x s.trace → EntryGood x
entries_good = every_entry EntryGood (λ s r e en. added s (bridge r).0 e en)

-- ---- an event and what the decoded system sees of it

-- one event at most
one_event : (e : EventB) {d : Event} → Mem d (events_of e) → events_of e ≡ d ∷ []
one_event e {d} m = go e m
  where
    only : {d' : Event} → Mem d (d' ∷ []) → d' ∷ [] ≡ d ∷ []
    only (here h) = ap (λ (x : Event). x ∷ []) (sym h)
    only (there m) = elim m [ ]

    outlet : (out : List ℕ) (d' : Event) → Mem d (roomy out d') → roomy out d' ≡ d ∷ []
    outlet out d' = pick_case (λ (l : List Event). Mem d l → l ≡ d ∷ []) (ltb (length out) outlet_size) [] (d' ∷ []) (λ _ m. elim m [ ]) (λ _ m. only m)

    go : (e : EventB) → Mem d (events_of e) → events_of e ≡ d ∷ []
    go (asking p out) m = outlet out _ m
    go (relaying p out) m = outlet out _ m
    go (stepping j p out) m = outlet out _ m
    go (opening after named fresh) m = only m
    go (fencing j) m = only m
    go (copying i a b) m = only m
    go activating m = only m
    go cancelling m = only m
    go (removing id) m = only m
    go (entering j id key) m = only m
    go (halting j) m = only m

-- or none
pub event_cases : (e : EventB) → (events_of e ≡ []) ⊎ ((d : Event) × (events_of e ≡ d ∷ []))
event_cases e = go (events_of e) refl
  where
    go : (l : List Event) → events_of e ≡ l → (events_of e ≡ []) ⊎ ((d : Event) × (events_of e ≡ d ∷ []))
    go [] i = inl i
    go (d ∷ l) i = inr (d, one_event e (subst (Mem d) (sym i) (here refl)))

-- with an outlet that is large enough or not
roomy_cases : (out : List ℕ) (d : Event) → (roomy out d ≡ []) ⊎ (roomy out d ≡ d ∷ [])
roomy_cases out d = pick_case (λ (l : List Event). (l ≡ []) ⊎ (l ≡ d ∷ [])) (ltb (length out) outlet_size) [] (d ∷ []) (λ _. inl refl) (λ _. inr refl)

-- an entry that made a packet: its event is seen
module _ {x : EntryB} (g : EntryGood x) {q : List ℕ} (m : x.made ≡ q ∷ []) where
  pub is_seen : {e : EventB} → x.event ≡ e → (out : List ℕ) (d : Event) → events_of e ≡ roomy out d → events_of x.event ≡ d ∷ []
  is_seen is out d e = ⊎_elim (λ h. cons_nil (sym m ∙ (g.hidden (ap events_of is ∙ (e ∙ h))).1)) (λ h. ap events_of is ∙ (e ∙ h)) (roomy_cases out d)

  pub asking_seen : (p out : List ℕ) → x.event ≡ asking p out → events_of x.event ≡ from_client (packet_of p) ∷ []
  asking_seen p out is =
      is_seen is out _ (ap (roomy out) (pick_true (well_formed p) (from_client (packet_of p)) no_packet (reflects_yes (reflect_formed p) (g.formed p out q is m))))

-- ---- the decoded trace

pub to_trace : (tr : List EntryB) {x : EntryB} {d : Event} → Mem x tr → events_of x.event ≡ d ∷ [] → Mem (entry_as x d) (trace_of tr)
to_trace (y ∷ l) {x} {d} (here h) e = append_left (trace_of l) (subst (λ (z : EntryB). Mem (entry_as x d) (map (entry_as z) (events_of z.event))) h (subst (λ (es : List Event). Mem (entry_as x d) (map (entry_as x) es)) (sym e) (here refl)))
to_trace (y ∷ l) (there m) e = append_right (map (entry_as y) (events_of y.event)) (to_trace l m e)
to_trace [] {x = x} {d = d} x4 e = elim x4 [ ]

-- an entry of the decoded trace, and the one that it comes from
pub record Comes (tr : List EntryB) (z : Entry) : Type 0 where
  pub entry : EntryB
  pub event : Event
  pub there : Mem entry tr
  pub seen : events_of entry.event ≡ event ∷ []
  pub is : z ≡ entry_as entry event

pub from_trace : (tr : List EntryB) (z : Entry) → Mem z (trace_of tr) → Comes tr z
from_trace [] z m = elim m [ ]
from_trace (y ∷ l) z m = ⊎_elim new (λ m. old (from_trace l z m)) (append_cases (map (entry_as y) (events_of y.event)) m)
  where
    new : Mem z (map (entry_as y) (events_of y.event)) → Comes (y ∷ l) z
    new m = let (d, h, e) = of_map (entry_as y) (events_of y.event) m in record { entry = y; event = d; there = here refl; seen = one_event y.event h; is = sym e }

    old : Comes l z → Comes (y ∷ l) z
    old c = record { entry = c.entry; event = c.event; there = there c.there; seen = c.seen; is = c.is }

-- the events that leave ghosts, and where they come from
pub data Source (e : EventB) (d : Event) : Type 0 where
  asked : (p out : List ℕ) → e ≡ asking p out → d ≡ from_client (packet_of p) → Source e d
  relayed : (p out : List ℕ) → e ≡ relaying p out → d ≡ at_relay (packet_of p) → Source e d
  stepped : (j : ℕ) (p out : List ℕ) → e ≡ stepping j p out → d ≡ at_node j (packet_of p) → Source e d
  none : ((m : List Packet) (v : Version) → ghosts_of d m v ≡ []) → Source e d

pub source : (e : EventB) (d : Event) → events_of e ≡ d ∷ [] → Source e d
source e d is = go e refl is
  where
    quietly : {d' : Event} → d' ∷ [] ≡ d ∷ [] → ((m : List Packet) (v : Version) → ghosts_of d' m v ≡ []) → Source e d
    quietly {d'} h f = let z : d' ≡ d = cc in none (subst (λ (x : Event). (m : List Packet) (v : Version) → ghosts_of x m v ≡ []) z f)

    -- the event behind an outlet
    behind : (out : List ℕ) (d' : Event) → roomy out d' ≡ d ∷ [] → d ≡ d'
    behind out d' h = ⊎_elim (λ f. cons_nil (sym h ∙ f)) (λ (f : roomy out d' ≡ d' ∷ []). cc) (roomy_cases out d')

    go : (e' : EventB) → e ≡ e' → events_of e' ≡ d ∷ [] → Source e d
    go (asking p out) i h =
        pick_case (λ (x : Event). d ≡ x → Source e d) (well_formed p) (from_client (packet_of p)) no_packet
        (λ _ f. asked p out i f) (λ _ f. none (subst (λ (x : Event). (m : List Packet) (v : Version) → ghosts_of x m v ≡ []) (sym f) (λ m v. refl))) (behind out _ h)
    go (relaying p out) i h = relayed p out i (behind out _ h)
    go (stepping j p out) i h = stepped j p out i (behind out _ h)
    go (opening after named fresh) i h = quietly h (λ m v. refl)
    go (fencing j) i h = quietly h (λ m v. refl)
    go (copying n a b) i h = quietly h (λ m v. refl)
    go activating i h = quietly h (λ m v. refl)
    go cancelling i h = quietly h (λ m v. refl)
    go (removing id) i h = quietly h (λ m v. refl)
    go (entering j id key) i h = quietly h (λ m v. refl)
    go (halting j) i h = quietly h (λ m v. refl)

-- the packet that an entry made, when the decoded one made q
pub made_back : {x : EntryB} → EntryGood x → {q : Packet} {l : List Packet} → map packet_of x.made ≡ q ∷ l → (b : List ℕ) × (x.made ≡ b ∷ []) × (packet_of b ≡ q)
made_back {x} g {q} {l} e = ⊎_elim (λ m. cons_nil (sym e ∙ ap (map packet_of) m)) one g.single
  where
    one : (b : List ℕ) × (x.made ≡ b ∷ []) → (b : List ℕ) × (x.made ≡ b ∷ []) × (packet_of b ≡ q)
    one (b, m) = let f : packet_of b ∷ [] ≡ q ∷ l = sym (ap (map packet_of) m) ∙ e in (b, m, cc)
