-- What the trace over bytes says, and what the ghosts of the decoded system say: the same, both ways.
use Prim.Native.Nat.{ℕ}
use mathlib.Core.Path.{◌≡◌, refl, sym, ap, ap₂, ◌∙◌, subst}
use mathlib.Core.List.{List, [], ◌∷◌, ◌++◌, map, append-nil, Memᴰ as Mem}
use mathlib.Core.Logic.{◌⊎◌, inl, inr, ⊎_elim, ◌↔◌}
use native.Mathlib.Omega.{arith}
use Rattle.wire.specs.Packet.{Packet, packet_of, head_of, op_read}
use Rattle.wire.specs.declared.Version.{Version}
use Rattle.store.specs.Held.{Content}
use Rattle.steps.specs.Node.{Unnumbered}
use Rattle.protocol.specs.System.{State, Event, at_node, from_client, at_relay, Entry, Ghost, numbered, acked, shown, carried, ghosts_of, relay_ghosts, all_ghosts, ghosts, Reach, start, step}
use Rattle.protocol.specs.Trace.{Acks as AcksD, Shows as ShowsD, Gives}
use Rattle.protocol.proofs.Ghosts.{ghosts_read, ghosts_given, ghosts_acked}
use Rattle.protocol.proofs.Trace.{keeps_origin, acked_trace, shown_trace, numbered_trace}
use Rattle.claims.specs.Bytes.{asking, relaying, stepping, EntryB, StateB, ReachB}
use Rattle.claims.specs.Headline.{Acks, Shows, Numbers}
use Rattle.claims.proofs.Decode.{events_of, entry_as, trace_of, decode}
use Rattle.claims.proofs.Bridge.{bridge}
use Rattle.claims.proofs.Entries.{EntryGood, entries_good, cons_nil, is_seen, asking_seen, to_trace, from_trace, Source, asked, relayed, stepped, none, source, made_back}

-- ---- entries as the decoded system has them

-- an entry of the decoded trace that comes from x
pub record As (x : EntryB) (P : Entry → Type 0) : Type 0 where
  pub event : Event
  pub seen : events_of x.event ≡ event ∷ []
  pub holds : P (entry_as x event)

module _ {x : EntryB} (g : EntryGood x) {k : List ℕ} {v : Version} where
  pub shows : (h : Shows x k v) → As x (λ z. ShowsD z k v (packet_of h.packet))
  unfolding packet_of
  shows h = record {
    event = at_node h.node (packet_of h.delivered);
    seen = is_seen g h.made h.event h.outlet _ refl;
    holds = record {
      node = h.node;
      delivered = packet_of h.delivered;
      others = [];
      event = refl;
      reads = sym (g.kept h.node h.delivered h.outlet h.packet h.event h.made).op ∙ h.op;
      made = ap (map packet_of) h.made;
      key = h.key;
      version = h.version;
    };
  }

  pub acks : (h : Acks x k v) → As x (λ z. AcksD z k v (packet_of h.packet))
  unfolding packet_of
  acks h = ⊎_elim (λ e. at (from_client (packet_of h.delivered)) (inl refl) (asking_seen g h.made h.delivered h.outlet e)) (λ e. at (at_relay (packet_of h.delivered)) (inr refl) (is_seen g h.made e h.outlet _ refl)) h.event
    where
      at : (d : Event) → (d ≡ from_client (packet_of h.delivered)) ⊎ (d ≡ at_relay (packet_of h.delivered)) → events_of x.event ≡ d ∷ [] → As x (λ z. AcksD z k v (packet_of h.packet))
      at d is e = record {
        event = d;
        seen = e;
        holds = record {
          delivered = packet_of h.delivered;
          others = [];
          event = is;
          asks = h.asks;
          made = ap (map packet_of) h.made;
          answer = h.answer;
          key = h.key;
          version = h.version;
        };
      }

  pub numbers : {j : ℕ} {c : Content} (h : Numbers x j k v c) → As x (λ z. Gives z k v c j x.before (packet_of h.delivered))
  unfolding packet_of
  numbers {j} h = record {
    event = at_node j (packet_of h.delivered);
    seen = is_seen g h.made h.event h.outlet _ refl;
    holds = record {
      sent = packet_of h.packet;
      others = [];
      event = refl;
      unnumbered = h.unnumbered;
      made = ap (map packet_of) h.made;
      asks = h.asks;
      key = h.key;
      version = h.version;
      content = h.content;
      before = refl;
    };
  }

-- their ghosts
pub shown_ghosts : (z : Entry) {k : List ℕ} {v : Version} {q : Packet} → ShowsD z k v q → ghosts_of z.event z.made z.before ≡ shown k v q ∷ []
shown_ghosts z {k} {v} {q} h =
    ap₂ (λ (e : Event) (m : List Packet). ghosts_of e m z.before) h.event h.made
    ∙ (ghosts_read h.node h.delivered q h.others z.before h.reads ∙ ap₂ (λ (k : List ℕ) (v : Version). shown k v q ∷ []) h.key h.version)

pub given_ghosts : (z : Entry) {k : List ℕ} {v : Version} {c : Content} {j : ℕ} {b : Version} {p : Packet} → Gives z k v c j b p → ghosts_of z.event z.made z.before ≡ numbered k v c j b p ∷ []
given_ghosts z {k} {v} {c} {j} {b} {p} h =
    ap₂ (λ (e : Event) (m : List Packet). ghosts_of e m z.before) h.event h.made
    ∙ (ghosts_given j p h.sent h.others z.before h.unnumbered h.asks ∙ (λ i. numbered (h.key i) (h.version i) (h.content i) j (h.before i) p ∷ []))

pub acked_ghosts : (z : Entry) {k : List ℕ} {v : Version} {q : Packet} → AcksD z k v q → ghosts_of z.event z.made z.before ≡ acked k v q ∷ []
acked_ghosts z {k} {v} {q} h = ⊎_elim (at from_client (λ p m. refl)) (at at_relay (λ p m. refl)) h.event
  where
    at : (f : Packet → Event) → ((p : Packet) (m : List Packet) → ghosts_of (f p) m z.before ≡ relay_ghosts p m) → z.event ≡ f h.delivered → ghosts_of z.event z.made z.before ≡ acked k v q ∷ []
    at f is e =
        ap₂ (λ (e : Event) (m : List Packet). ghosts_of e m z.before) e h.made
        ∙ (is h.delivered (q ∷ h.others) ∙ (ghosts_acked h.delivered q h.others h.asks h.answer ∙ ap₂ (λ (k : List ℕ) (v : Version). acked k v q ∷ []) h.key h.version))

-- ---- and back

module _ {x : EntryB} (g : EntryGood x) {d : Event} (e : events_of x.event ≡ d ∷ []) {k : List ℕ} {v : Version} where
  shows_back : {q : Packet} → ShowsD (entry_as x d) k v q → (h : Shows x k v) × (packet_of h.packet ≡ q)
  unfolding packet_of
  shows_back {q} h = go (source x.event d e)
    where
      go : Source x.event d → (h : Shows x k v) × (packet_of h.packet ≡ q)
      go (asked p out i f) = absurd (let w = h.event in let z : ◌≡◌ {A = ℕ} 0 1 = cc in omega arith)
      go (relayed p out i f) = absurd (let w = h.event in let z : ◌≡◌ {A = ℕ} 0 1 = cc in omega arith)
      go (stepped j p out i f) =
          let (b, m, is) = made_back g h.made in
          let w = h.event in
          let z : packet_of p ≡ h.delivered = cc in
          let kept = g.kept j p out b i m in
          let op : (head_of b).op ≡ op_read = kept.op ∙ (ap (λ (r : Packet). r.head.op) z ∙ h.reads) in (
            record {
              node = j;
              delivered = p;
              outlet = out;
              event = i;
              packet = b;
              made = m;
              op = op;
              answers = kept.answers op;
              key = ap (λ (r : Packet). r.key) is ∙ h.key;
              version = ap (λ (r : Packet). r.head.version) is ∙ h.version;
            },
            is,
          )
      go (none n) = cons_nil (sym (shown_ghosts (entry_as x d) h) ∙ n _ _)

  acks_back : {q : Packet} → AcksD (entry_as x d) k v q → (h : Acks x k v) × (packet_of h.packet ≡ q)
  unfolding packet_of
  acks_back {q} h = go (source x.event d e)
    where
      at : (p out : List ℕ) → (x.event ≡ asking p out) ⊎ (x.event ≡ relaying p out) → packet_of p ≡ h.delivered → (h : Acks x k v) × (packet_of h.packet ≡ q)
      at p out i z =
          let (b, m, is) = made_back g h.made in (
            record {
              delivered = p;
              outlet = out;
              event = i;
              asks = ap (λ (r : Packet). r.head.answer) z ∙ h.asks;
              packet = b;
              made = m;
              answer = ap (λ (r : Packet). r.head.answer) is ∙ h.answer;
              key = ap (λ (r : Packet). r.key) is ∙ h.key;
              version = ap (λ (r : Packet). r.head.version) is ∙ h.version;
            },
            is,
          )

      go : Source x.event d → (h : Acks x k v) × (packet_of h.packet ≡ q)
      go (asked p out i f) = at p out (inl i) (⊎_elim (λ (w : d ≡ from_client h.delivered). cc) (λ (w : d ≡ at_relay h.delivered). absurd (let z : ◌≡◌ {A = ℕ} 0 1 = cc in omega arith)) h.event)
      go (relayed p out i f) = at p out (inr i) (⊎_elim (λ (w : d ≡ from_client h.delivered). absurd (let z : ◌≡◌ {A = ℕ} 0 1 = cc in omega arith)) (λ (w : d ≡ at_relay h.delivered). cc) h.event)
      go (stepped j p out i f) =
          ⊎_elim (λ (w : d ≡ from_client h.delivered). absurd (let z : ◌≡◌ {A = ℕ} 0 1 = cc in omega arith)) (λ (w : d ≡ at_relay h.delivered). absurd (let z : ◌≡◌ {A = ℕ} 0 1 = cc in omega arith)) h.event
      go (none n) = cons_nil (sym (acked_ghosts (entry_as x d) h) ∙ n _ _)

  numbers_back : {c : Content} {j : ℕ} {b : Version} {p : Packet} → Gives (entry_as x d) k v c j b p → (h : Numbers x j k v c) × (packet_of h.delivered ≡ p)
  unfolding packet_of
  numbers_back {c} {j} {p = p'} h = go (source x.event d e)
    where
      go : Source x.event d → (h : Numbers x j k v c) × (packet_of h.delivered ≡ p')
      go (asked p out i f) = absurd (let w = h.event in let z : ◌≡◌ {A = ℕ} 0 1 = cc in omega arith)
      go (relayed p out i f) = absurd (let w = h.event in let z : ◌≡◌ {A = ℕ} 0 1 = cc in omega arith)
      go (stepped j' p out i f) =
          let (q, m, is) = made_back g h.made in
          let w = h.event in
          let z : packet_of p ≡ p' = cc in
          let n : j' ≡ j = cc in (
            record {
              delivered = p;
              outlet = out;
              event = i ∙ ap (λ (n : ℕ). stepping n p out) n;
              unnumbered = subst Unnumbered (sym z) h.unnumbered;
              packet = q;
              made = m;
              asks = ap (λ (r : Packet). r.head.answer) is ∙ h.asks;
              key = ap (λ (r : Packet). r.key) is ∙ h.key;
              version = ap (λ (r : Packet). r.head.version) is ∙ h.version;
              content = ap carried is ∙ h.content;
            },
            z,
          )
      go (none n) = cons_nil (sym (given_ghosts (entry_as x d) h) ∙ n _ _)

-- ---- the ghosts and the trace, both ways

origin_none : {d : State} → Reach d → d.origin ≡ []
origin_none (start z) = z.unwritten
origin_none (step {s = d} r e en) = keeps_origin e d ∙ origin_none r

-- of a trace, or a part of one
module _ (tr : List EntryB) (good : (x : EntryB) → Mem x tr → EntryGood x) where
  -- an entry of the decoded trace is one of the trace
  back : {P : EntryB → Type 0} (Q : Entry → Type 0) → ((x : EntryB) (d : Event) → EntryGood x → events_of x.event ≡ d ∷ [] → Q (entry_as x d) → P x)
      → (z : Entry) × Mem z (trace_of tr) × Q z → (x : EntryB) × Mem x tr × P x
  back Q f (z, m, h) = let c = from_trace tr z m in (c.entry, c.there, f c.entry c.event (good c.entry c.there) c.seen (subst Q c.is h))

  shown_back : (k : List ℕ) (v : Version) (q : Packet) → Mem (shown k v q) (all_ghosts (trace_of tr)) → (x : EntryB) × Mem x tr × ((h : Shows x k v) × (packet_of h.packet ≡ q))
  shown_back k v q m = back (λ z. ShowsD z k v q) (λ x d g e i. shows_back g e i) ((shown_trace (trace_of tr) k v q).0 m)

  pub acked_back : (k : List ℕ) (v : Version) (q : Packet) → Mem (acked k v q) (all_ghosts (trace_of tr)) → (x : EntryB) × Mem x tr × ((h : Acks x k v) × (packet_of h.packet ≡ q))
  acked_back k v q m = back (λ z. AcksD z k v q) (λ x d g e i. acks_back g e i) ((acked_trace (trace_of tr) k v q).0 m)

  pub numbered_back : (k : List ℕ) (v : Version) (c : Content) (j : ℕ) (b : Version) (p : Packet) → Mem (numbered k v c j b p) (all_ghosts (trace_of tr))
      → (x : EntryB) × Mem x tr × ((h : Numbers x j k v c) × (packet_of h.delivered ≡ p))
  numbered_back k v c j b p m = back (λ z. Gives z k v c j b p) (λ x d g e i. numbers_back g e i) ((numbered_trace (trace_of tr) k v c j b p).0 m)

-- of the whole trace
module _ {s : StateB} (r : ReachB s) where
  pub history : ghosts (decode s) ≡ all_ghosts (trace_of s.trace)
  history = ap (λ (l : List Ghost). all_ghosts (trace_of s.trace) ++ l) (origin_none (bridge r).1) ∙ append-nil (all_ghosts (trace_of s.trace))

  pub shown_both : (k : List ℕ) (v : Version) → ((q : Packet) × Mem (shown k v q) (ghosts (decode s))) ↔ ((x : EntryB) × Mem x s.trace × Shows x k v)
  shown_both k v = (
    λ h. let (x, m, i) = shown_back s.trace (entries_good r) k v h.0 (subst (Mem _) history h.1) in (x, m, i.0),
    λ h.
        let a = shows (entries_good r h.0 h.1) h.2 in
        (packet_of h.2.packet, subst (Mem _) (sym history) ((shown_trace (trace_of s.trace) k v _).1 (_, to_trace s.trace h.1 a.seen, a.holds))),
  )

  pub acked_both : (k : List ℕ) (v : Version) → ((q : Packet) × Mem (acked k v q) (ghosts (decode s))) ↔ ((x : EntryB) × Mem x s.trace × Acks x k v)
  acked_both k v = (
    λ h. let (x, m, i) = acked_back s.trace (entries_good r) k v h.0 (subst (Mem _) history h.1) in (x, m, i.0),
    λ h.
        let a = acks (entries_good r h.0 h.1) h.2 in
        (packet_of h.2.packet, subst (Mem _) (sym history) ((acked_trace (trace_of s.trace) k v _).1 (_, to_trace s.trace h.1 a.seen, a.holds))),
  )

  pub numbered_both : (k : List ℕ) (v : Version) (c : Content) (j : ℕ)
      → ((b : Version) × (p : Packet) × Mem (numbered k v c j b p) (ghosts (decode s))) ↔ ((x : EntryB) × Mem x s.trace × Numbers x j k v c)
  numbered_both k v c j = (
    λ h. let (x, m, i) = numbered_back s.trace (entries_good r) k v c j h.0 h.1 (subst (Mem _) history h.2) in (x, m, i.0),
    λ h.
        let a = numbers (entries_good r h.0 h.1) h.2 in
        (h.0.before, packet_of h.2.delivered, subst (Mem _) (sym history) ((numbered_trace (trace_of s.trace) k v c j _ _).1 (_, to_trace s.trace h.1 a.seen, a.holds))),
  )
