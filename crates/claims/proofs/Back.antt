-- Back: a decoded run that fits its bytes is a run of the system over bytes. So the computed runs exist over bytes, and a write that is acknowledged.
use Prim.Native.Nat.{ℕ, ◌^◌, ◌<◌, ◌≤◌}
use mathlib.Core.Path.{◌≡◌, refl, sym, ap, ◌∙◌, subst, fun_ext}
use mathlib.Core.Bool.{Bool, true, false, ◌&&◌, not}
use mathlib.Core.List.Memᴰ.{of_map}
use mathlib.Core.List.{List, [], ◌∷◌, Memᴰ as Mem}
use mathlib.Core.Logic.{◌⊎◌}
use native.Mathlib.Omega.{arith}
use lib.ListN.{length, replicate}
use lib.Dec.{ltb}
use borrow.Author.Tests.{ltb-true}
use Rattle.be.specs.Be.{Bytes}
use Rattle.be.proofs.Laws.{bytes_nil, bytes_cons}
use Rattle.wire.specs.Numbers.{ok, broken, pick}
use Rattle.wire.specs.Version.{zero_version}
use Rattle.wire.specs.Packet.{Packet, packet_of, bytes_of, key_of, Formed, Fit, outlet_size, op_write, op_delete}
use Rattle.wire.specs.declared.Head.{Head}
use Rattle.wire.proofs.Numbers.{reflect_and, reflect_ltb, and_left, and_right, pass_guard}
use Rattle.wire.proofs.RoundTrip.{Ranges, bytes_of_lem, read_write, formed_bytes}
use Rattle.store.specs.Table.{blank_bytes}
use Rattle.store.proofs.Blank.{table_blank}
use Rattle.steps.specs.Chain.{members, chain_ok, ChainRules, largest, start_chain, start_call}
use Rattle.steps.proofs.ChainRules.{reflect_chain}
use Rattle.protocol.specs.System.{State, Event, from_client, no_packet, at_relay, at_node, opens, fences, copies, activates, cancels, removes, enters, halts, exec, Enabled}
use Rattle.protocol.specs.Demand.{ClientWrite as ClientWriteD, Ready as ReadyD}
use Rattle.protocol.specs.Runs.{start_state, run, Outcome, outcomes, enabled, allowed, the_key, write_a, bench_enters, bench_start, bench_events, bench_outcomes, incident_start, incident_events, incident_outcomes, two_start, head_events, head_outcomes, tail_events, tail_outcomes, delete_events, delete_outcomes, every_events, every_outcomes}
use Rattle.protocol.proofs.Examples.{is_enabled, bench_starts, incident_starts, two_starts, enters_allowed, bench_allowed, incident_allowed, head_allowed, tail_allowed, delete_allowed, every_allowed, bench_outcomes_lem, incident_outcomes_lem, head_outcomes_lem, tail_outcomes_lem, delete_outcomes_lem, every_outcomes_lem, bench_ready, bench_write}
use Rattle.claims.specs.Bytes.{IsNode, EventB, asking, relaying, stepping, opening, fencing, copying, activating, cancelling, removing, entering, halting, StateB, exec_b, EnabledB, StartB, ReachB, start_b, step_b}
use Rattle.claims.specs.Headline.{ClientWrite, Ready, AcknowledgedB}
use Rattle.claims.specs.Caller.{Caller}
use Rattle.claims.proofs.Decode.{is_node, reflect_node, decode, tables_blank}
use Rattle.claims.proofs.Images.{SoundB, Becomes, asking_becomes, malformed_becomes, relaying_becomes, stepping_becomes, opening_becomes, fencing_becomes, copying_becomes, activating_becomes, cancelling_becomes, removing_becomes, entering_becomes, halting_becomes}
use Rattle.claims.proofs.Bridge.{bridge}
use Rattle.claims.proofs.Live.{ready_both, acknowledged_b}
use Rattle.claims.proofs.Events.{reaches_caller}

-- ---- what fits its bytes, as a test

unfoldable bytes_fit : List ℕ → Bool
bytes_fit [] = true
bytes_fit (x ∷ l) = ltb x 256 && bytes_fit l

unfoldable head_fits : Head → Bool
head_fits h =
    (ltb h.op 256 && (ltb h.answer 256 && (ltb h.from (256 ^ 2) && (ltb h.to (256 ^ 2)
    && (ltb h.client (256 ^ 2) && (ltb h.request (256 ^ 4) && (ltb h.stamp.0 (256 ^ 4)
    && (ltb h.version.session.0 (256 ^ 2) && (ltb h.version.sequence.0 (256 ^ 4) && ltb h.length 256)))))))))

unfoldable packet_fits : Packet → Bool
packet_fits p = head_fits p.head && (bytes_fit p.key && bytes_fit p.value)

unfoldable fits : Event → Bool
fits (from_client p) = packet_fits p
fits no_packet = true
fits (at_relay p) = true
fits (at_node j p) = is_node j
fits (opens after named fresh) = ltb fresh (256 ^ 2)
fits (fences j) = is_node j
fits (copies i a b) = is_node a && is_node b
fits activates = true
fits cancels = true
fits (removes j) = true
fits (enters j id key) = is_node j && bytes_fit key
fits (halts j) = true

unfoldable all_fit : List Event → Bool
all_fit [] = true
all_fit (e ∷ l) = fits e && all_fit l

bytes_fit_lem : (l : List ℕ) → bytes_fit l ≡ true → Bytes l
unfolding bytes_fit
bytes_fit_lem [] e = bytes_nil
bytes_fit_lem (x ∷ l) e = bytes_cons x l (ltb-true _ _ (and_left (ltb x 256) (bytes_fit l) e)) (bytes_fit_lem l (and_right (ltb x 256) (bytes_fit l) e))

head_fits_lem : (h : Head) → head_fits h ≡ true → Ranges h
unfolding head_fits
head_fits_lem h e = record {
  op = r.0;
  answer = r.1.0;
  from = r.1.1.0;
  to = r.1.1.1.0;
  client = r.1.1.1.1.0;
  request = r.1.1.1.1.1.0;
  stamp = r.1.1.1.1.1.1.0;
  session = r.1.1.1.1.1.1.1.0;
  sequence = r.1.1.1.1.1.1.1.1.0;
  length = r.1.1.1.1.1.1.1.1.1;
}
  where
    r : (h.op < 256) × ((h.answer < 256) × ((h.from < 256 ^ 2) × ((h.to < 256 ^ 2) × ((h.client < 256 ^ 2) × ((h.request < 256 ^ 4) × ((h.stamp.0 < 256 ^ 4)
        × ((h.version.session.0 < 256 ^ 2) × ((h.version.sequence.0 < 256 ^ 4) × (h.length < 256)))))))))
    r =
        (reflect_and (reflect_ltb _ _) (reflect_and (reflect_ltb _ _) (reflect_and (reflect_ltb _ _) (reflect_and (reflect_ltb _ _) (reflect_and (reflect_ltb _ _)
        (reflect_and (reflect_ltb _ _) (reflect_and (reflect_ltb _ _) (reflect_and (reflect_ltb _ _) (reflect_and (reflect_ltb _ _) (reflect_ltb _ _)))))))))).0 e

-- the bytes of such a packet: they are bytes, they are a packet, and it is read from them
record Written (p : Packet) : Type 0 where
  bytes : Bytes (bytes_of p)
  formed : Formed (bytes_of p)
  reads : packet_of (bytes_of p) ≡ p

written : (p : Packet) → Fit p → packet_fits p ≡ true → Written p
unfolding packet_fits
written p f e =
    let r = head_fits_lem p.head (and_left (head_fits p.head) (bytes_fit p.key && bytes_fit p.value) e) in
    let b = and_right (head_fits p.head) (bytes_fit p.key && bytes_fit p.value) e in
    record {
      bytes = bytes_of_lem p r (bytes_fit_lem p.key (and_left (bytes_fit p.key) (bytes_fit p.value) b)) (bytes_fit_lem p.value (and_right (bytes_fit p.key) (bytes_fit p.value) b));
      formed = formed_bytes p f r;
      reads = read_write p f r;
    }

-- ---- one event

-- the system over bytes reaches a state whose image is d
record Reaches (d : State) : Type 0 where
  state : StateB
  reached : ReachB state
  image : decode state ≡ d

-- an outlet of 168 bytes
abbrev outlet : List ℕ
outlet = replicate outlet_size 0

module _ (s : StateB) (r : ReachB s) where
  g : SoundB s
  g = (bridge r).0

  by : {d : State} (e : EventB) → EnabledB e s → Becomes (exec_b e s) d → Reaches d
  by e en b = record { state = exec_b e s; reached = step_b r e en; image = b.image }

  -- the bytes of a packet that was made
  made : {p : Packet} → Mem p (decode s).packets → (b : List ℕ) × Mem b s.packets × (packet_of b ≡ p)
  made m = of_map packet_of s.packets m

  -- the image, for another packet
  for : {p : Packet} (f : Packet → Event) (b : List ℕ) → packet_of b ≡ p → Reaches (exec (f (packet_of b)) (decode s)) → Reaches (exec (f p) (decode s))
  for f b is x = subst (λ (p : Packet). Reaches (exec (f p) (decode s))) is x

  event_back : (e : Event) → Enabled e (decode s) → fits e ≡ true → Reaches (exec e (decode s))
  unfolding fits packet_of
  event_back (from_client p) en h =
      let w = written p en.1 h in
      for from_client (bytes_of p) w.reads (by (asking (bytes_of p) outlet) (w.bytes, λ _. ap (λ (q : Packet). q.head.from) w.reads ∙ en.0) (asking_becomes s g (bytes_of p) outlet w.bytes w.formed (omega arith)))
  event_back no_packet en h =
      let none : Formed [] → ⊥ = (λ f. let z = f.size in omega arith) in
      by (asking [] outlet) (bytes_nil, λ f. absurd (none f)) (malformed_becomes s g [] outlet bytes_nil none (omega arith))
  event_back (at_relay p) en h =
      let (b, m, is) = made en in
      for at_relay b is (by (relaying b outlet) m (relaying_becomes s g b outlet m (omega arith)))
  event_back (at_node j p) en h =
      let (b, m, is) = made en.0 in
      let n = (reflect_node j).0 h in
      for (at_node j) b is (by (stepping j b outlet) (n, m, en.1) (stepping_becomes s g j b outlet n m (omega arith)))
  event_back (opens after named fresh) en h = let n = ltb-true _ _ h in by (opening after named fresh) n (opening_becomes s g after named fresh n)
  event_back (fences j) en h = let n = (reflect_node j).0 h in by (fencing j) n (fencing_becomes s g j n)
  event_back (copies i a b) en h =
      let m = (reflect_node a).0 (and_left (is_node a) (is_node b) h) in
      let n = (reflect_node b).0 (and_right (is_node a) (is_node b) h) in
      by (copying i a b) (m, n) (copying_becomes s g i a b m n)
  event_back activates en h = by activating tt (activating_becomes s g)
  event_back cancels en h = by cancelling tt (cancelling_becomes s g)
  event_back (removes j) en h = by (removing j) en (removing_becomes s g j)
  event_back (enters j id key) en h =
      let enB : EnabledB (entering j id key) s = ((reflect_node j).0 (and_left (is_node j) (bytes_fit key) h), bytes_fit_lem key (and_right (is_node j) (bytes_fit key) h), en) in
      by (entering j id key) enB (entering_becomes s g j id key enB)
  event_back (halts j) en h = by (halting j) tt (halting_becomes s g j)

-- ---- a run

run_back : (l : List Event) {d : State} → Reaches d → allowed l d ≡ true → all_fit l ≡ true → Reaches (run l d)
unfolding allowed run all_fit
run_back [] x a f = x
run_back (e ∷ l) {d} x a f =
    let en = is_enabled e d (and_left (enabled e d) (allowed l (exec e d)) a) in
    let y = event_back x.state x.reached e (subst (Enabled e) (sym x.image) en) (and_left (fits e) (all_fit l) f) in
    run_back l (subst (λ (d : State). Reaches (exec e d)) x.image y) (and_right (enabled e d) (allowed l (exec e d)) a) (and_right (fits e) (all_fit l) f)

start_done : (n : ℕ) (places : List ℕ) (count : ℕ) → chain_ok (start_chain n places count) ≡ true → start_call n places count ≡ ok (start_chain n places count)
unfolding start_call
start_done n places count okay = pass_guard (not (chain_ok (start_chain n places count))) broken (ok (start_chain n places count)) (ap not okay)

start_back : (n : ℕ) (places : List ℕ) (count : ℕ) → chain_ok (start_chain n places count) ≡ true → ltb (start_chain n places count).highest (256 ^ 2) ≡ true → Reaches (start_state n places count)
unfolding start_chain
start_back n places count okay top = record {
  state = s;
  reached = start_b begin;
  image = λ i. record { chain = start_chain n places count; table = fun_ext (tables_blank count (λ j. blank_bytes j count) (λ j h. table_blank j count h.1 rules.count_few)) i; halted = λ j. false; packets = []; trace = []; origin = [] };
}
  where
    s : StateB
    s = record { chain = start_chain n places count; table = λ j. blank_bytes j count; halted = λ j. false; packets = []; trace = []; origin = [] }

    rules : ChainRules (start_chain n places count)
    rules = (reflect_chain (start_chain n places count)).0 okay

    node : (j : ℕ) → Mem j (members (start_chain n places count)) → IsNode j
    node j m =
        let low = rules.highest j m in
        let fit = ltb-true (start_chain n places count).highest (256 ^ 2) top in
        let some : j ≡ 0 → ⊥ = (λ e. rules.nonzero (subst (λ (i : ℕ). Mem i (members (start_chain n places count))) e m)) in
        (omega arith, omega arith)

    begin : StartB (record { chain = start_chain n places count; table = λ j. blank_bytes j count; halted = λ j. false; packets = []; trace = []; origin = [] })
    begin = record {
      length = n;
      places = places;
      count = count;
      chain = start_done n places count okay;
      nodes = node;
      blank = λ j i. refl;
      awake = λ j. refl;
      quiet = refl;
      fresh = refl;
      unwritten = refl;
    }

-- ---- the computed runs

-- a caller comes to a state over bytes whose image is where the run of these events leads, with these numbers given and packets made
pub record Happens (start : State) (events : List Event) (given : List Outcome) : Type 0 where
  pub state : StateB
  pub called : Caller state
  pub image : decode state ≡ run events start
  pub gives : outcomes (decode state).trace [] ≡ given

happens : {start : State} {events : List Event} {given : List Outcome} → Reaches start → allowed events start ≡ true → all_fit events ≡ true → outcomes (run events start).trace [] ≡ given
    → Happens start events given
happens {events = events} x a f o =
    let y = run_back events x a f in
    record { state = y.state; called = reaches_caller y.reached; image = y.image; gives = ap (λ (d : State). outcomes d.trace []) y.image ∙ o }

-- all that the tests compute with
fitting : Unit {0}
unfolding start_chain largest pick bytes_fit head_fits packet_fits fits all_fit
fitting = tt

from_bench : Reaches bench_start
unfolding fitting
from_bench = start_back _ _ _ bench_starts refl

from_incident : Reaches incident_start
unfolding fitting
from_incident = start_back _ _ _ incident_starts refl

from_two : Reaches two_start
unfolding fitting
from_two = start_back _ _ _ two_starts refl

pub bench_bytes : Happens bench_start bench_events bench_outcomes
unfolding fitting
bench_bytes = happens from_bench bench_allowed refl bench_outcomes_lem

pub incident_bytes : Happens incident_start incident_events incident_outcomes
unfolding fitting
incident_bytes = happens from_incident incident_allowed refl incident_outcomes_lem

pub head_bytes : Happens two_start head_events head_outcomes
unfolding fitting
head_bytes = happens from_two head_allowed refl head_outcomes_lem

pub tail_bytes : Happens two_start tail_events tail_outcomes
unfolding fitting
tail_bytes = happens from_two tail_allowed refl tail_outcomes_lem

pub delete_bytes : Happens two_start delete_events delete_outcomes
unfolding fitting
delete_bytes = happens from_two delete_allowed refl delete_outcomes_lem

pub every_bytes : Happens two_start every_events every_outcomes
unfolding fitting
every_bytes = happens from_two every_allowed refl every_outcomes_lem

-- ---- a write that is acknowledged

-- what is ready decoded is ready over bytes
ready_back : {s : StateB} → ReachB s → (k : List ℕ) → ReadyD (decode s) k → Ready s k
ready_back r k = (ready_both r k).1

-- a client's packet, as bytes
write_back : (p : Packet) → ClientWriteD p → packet_fits p ≡ true → ClientWrite (bytes_of p)
unfolding packet_of
write_back p c f =
    let w = written p c.fit f in
    let is = ap (λ (q : Packet). q.head) w.reads in
    record {
      bytes = w.bytes;
      formed = w.formed;
      query = ap (λ (h : Head). h.answer) is ∙ c.query;
      alters = subst (λ (h : Head). (h.op ≡ op_write) ⊎ (h.op ≡ op_delete)) (sym is) c.alters;
      from = ap (λ (h : Head). h.from) is ∙ c.from;
      to = ap (λ (h : Head). h.to) is ∙ c.to;
      stamp = ap (λ (h : Head). h.stamp.0) is ∙ c.stamp;
      version = ap (λ (h : Head). h.version) is ∙ c.version;
    }

-- a caller comes to a state from which this client's packet is acknowledged
pub record Acknowledges (p : List ℕ) : Type 0 where
  pub state : StateB
  pub called : Caller state
  pub write : ClientWrite p
  pub ready : Ready state (key_of p)
  pub acknowledged : (out : List ℕ) → outlet_size ≤ length out → AcknowledgedB state p out

-- the write of the bench example, when its keys are entered
pub bench_acknowledges : Acknowledges (bytes_of (write_a 0 0 0 zero_version))
bench_acknowledges = record {
  state = y.state;
  called = reaches_caller y.reached;
  write = write;
  ready = ready;
  acknowledged = acknowledged_b y.state (bytes_of (write_a 0 0 0 zero_version)) y.reached write ready;
}
  where
    fits_enters : all_fit bench_enters ≡ true
    fits_enters = unfold fitting in refl

    fits_write : packet_fits (write_a 0 0 0 zero_version) ≡ true
    fits_write = unfold fitting in refl

    y : Reaches (run bench_enters bench_start)
    y = run_back bench_enters from_bench enters_allowed fits_enters

    write : ClientWrite (bytes_of (write_a 0 0 0 zero_version))
    write = write_back (write_a 0 0 0 zero_version) bench_write fits_write

    key : key_of (bytes_of (write_a 0 0 0 zero_version)) ≡ the_key
    key = unfold packet_of in ap (λ (q : Packet). q.key) (written (write_a 0 0 0 zero_version) bench_write.fit fits_write).reads

    ready : Ready y.state (key_of (bytes_of (write_a 0 0 0 zero_version)))
    ready = subst (Ready y.state) (sym key) (ready_back y.reached the_key (subst (λ (d : State). ReadyD d the_key) (sym y.image) bench_ready))
