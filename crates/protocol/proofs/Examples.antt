-- Computed runs: document 01's bench example, the incident that fences are for, a first node replaced, a last node replaced, a delete, every event; each is a run of the system.
use Prim.Native.Nat.{ℕ, ◌<◌}
use mathlib.Core.Path.{◌≡◌, refl, sym, ap, ◌∙◌, subst}
use mathlib.Core.Bool.{Bool, true, false, not, false≢true}
use mathlib.Core.List.Memᴰ.{head as here}
use mathlib.Core.List.Memᴰ.{tail as there}
use mathlib.Core.List.{List, [], ◌∷◌, Memᴰ as Mem}
use mathlib.Core.Logic.{inl, inr, ⊎_elim}
use native.Mathlib.Omega.{arith}
use lib.ListN.{length}
use lib.Dec.{eqb}
use borrow.Author.Tests.{eqb-true, not-true}
use Rattle.wire.proofs.Numbers.{and_left, and_right, or_true, reflect_and, reflect_eqb, reflect_eqs}
use Rattle.wire.proofs.Packet.{reflect_fit}
use Rattle.steps.proofs.ChainRules.{reflect_chain}
use Rattle.wire.specs.Numbers.{pick, guard}
use Rattle.wire.specs.declared.Session.{Session}
use Rattle.wire.specs.Version.{session, version, zero_version, top_sequence, next_session, next_sequence, next_stamp, newer}
use Rattle.wire.specs.Packet.{Packet, packet, head_ok, packet_ok, Fit, key_size}
use Rattle.store.specs.Table.{Slot, slot, entered_slot, has, is_free_slot, find, lowest_free, blank_table}
use Rattle.store.specs.Held.{holds, held}
use Rattle.steps.specs.Chain.{members, memb, first_of, last_of, next_of, place_of, insert_at, remove_at, apart, none_above, joining_ok, chain_ok, largest, start_chain}
use Rattle.steps.specs.Node.{reply, absent, answered, given, version_for, stored, taken, at_slot, node_step}
use Rattle.steps.specs.Relay.{to_node, to_client, from_client as client_way, onward, from_node, way_of, relay_step}
use Rattle.steps.specs.Control.{opened, open_step, fence_step, copy_step, activated, activate_step, cancel_step, removed, remove_step, enter_step}
use Rattle.protocol.specs.System.{State, Event, from_client, no_packet, at_relay, at_node, opens, fences, copies, activates, cancels, removes, enters, halts, exec, upd, Enabled, Reach, start, step}
use Rattle.protocol.specs.Demand.{Demand3, ClientWrite, Ready, Acknowledged}
use Rattle.protocol.specs.Runs.{the_key, parcel, write_a, bench_enters, start_state, run, outcomes, same_packet, was_made, enabled, allowed, bench_start, bench_events, bench_outcomes, incident_start, incident_events, incident_outcomes, two_start, head_events, head_outcomes, tail_events, tail_outcomes, delete_events, delete_outcomes, every_events, every_outcomes}
use Rattle.steps.proofs.NodeDone.{holds_inj}
use Rattle.protocol.proofs.Main.{demand}
use Rattle.protocol.proofs.Live.{acknowledged}

-- all that a run computes with: to unfold this is to unfold them
computing : Unit {0}
unfolding run outcomes allowed enabled was_made same_packet head_ok packet_ok exec upd pick guard next_session next_sequence next_stamp newer has is_free_slot find lowest_free blank_table held memb first_of last_of next_of place_of insert_at remove_at apart none_above joining_ok chain_ok largest start_chain reply absent answered given version_for stored taken at_slot node_step to_node to_client client_way onward from_node way_of relay_step opened open_step fence_step copy_step activated activate_step cancel_step removed remove_step enter_step
computing = tt

-- ---- what each gives

pub bench_outcomes_lem : outcomes (run bench_events bench_start).trace [] ≡ bench_outcomes
unfolding computing
bench_outcomes_lem = refl

pub incident_outcomes_lem : outcomes (run incident_events incident_start).trace [] ≡ incident_outcomes
unfolding computing
incident_outcomes_lem = refl

pub head_outcomes_lem : outcomes (run head_events two_start).trace [] ≡ head_outcomes
unfolding computing
head_outcomes_lem = refl

pub tail_outcomes_lem : outcomes (run tail_events two_start).trace [] ≡ tail_outcomes
unfolding computing
tail_outcomes_lem = refl

pub delete_outcomes_lem : outcomes (run delete_events two_start).trace [] ≡ delete_outcomes
unfolding computing
delete_outcomes_lem = refl

pub every_outcomes_lem : outcomes (run every_events two_start).trace [] ≡ every_outcomes
unfolding computing
every_outcomes_lem = refl

-- the chains that they leave
pub bench_chain : members (run bench_events bench_start).chain ≡ 1 ∷ 3 ∷ []
unfolding computing
bench_chain = refl

pub incident_chain : members (run incident_events incident_start).chain ≡ 1 ∷ 4 ∷ 3 ∷ []
unfolding computing
incident_chain = refl

pub head_chain : members (run head_events two_start).chain ≡ 3 ∷ 2 ∷ []
unfolding computing
head_chain = refl

pub tail_chain : members (run tail_events two_start).chain ≡ 1 ∷ 3 ∷ []
unfolding computing
tail_chain = refl

-- ---- a run that passes the test is a run of the system

same_packet_lem : (p q : Packet) → same_packet p q ≡ true → p ≡ q
unfolding same_packet
same_packet_lem p q e = λ i. packet
    (record {
      op = h.0 i;
      answer = h.1.0 i;
      from = h.1.1.0 i;
      to = h.1.1.1.0 i;
      client = h.1.1.1.1.0 i;
      request = h.1.1.1.1.1.0 i;
      stamp = record { 0 = h.1.1.1.1.1.1.0 i };
      version = record { session = record { 0 = h.1.1.1.1.1.1.1.0 i }; sequence = record { 0 = h.1.1.1.1.1.1.1.1.0 i } };
      length = h.1.1.1.1.1.1.1.1.1.0 i;
    })
    (h.1.1.1.1.1.1.1.1.1.1.0 i)
    (h.1.1.1.1.1.1.1.1.1.1.1 i)
  where
    h : (p.head.op ≡ q.head.op) × ((p.head.answer ≡ q.head.answer) × ((p.head.from ≡ q.head.from) × ((p.head.to ≡ q.head.to)
        × ((p.head.client ≡ q.head.client) × ((p.head.request ≡ q.head.request) × ((p.head.stamp.0 ≡ q.head.stamp.0)
        × ((p.head.version.session.0 ≡ q.head.version.session.0) × ((p.head.version.sequence.0 ≡ q.head.version.sequence.0)
        × ((p.head.length ≡ q.head.length) × ((p.key ≡ q.key) × (p.value ≡ q.value)))))))))))
    h =
        (reflect_and (reflect_eqb _ _) (reflect_and (reflect_eqb _ _) (reflect_and (reflect_eqb _ _) (reflect_and (reflect_eqb _ _)
        (reflect_and (reflect_eqb _ _) (reflect_and (reflect_eqb _ _) (reflect_and (reflect_eqb _ _) (reflect_and (reflect_eqb _ _)
        (reflect_and (reflect_eqb _ _) (reflect_and (reflect_eqb _ _) (reflect_and (reflect_eqs _ _) (reflect_eqs _ _)))))))))))).0 e

was_made_lem : (p : Packet) (l : List Packet) → was_made p l ≡ true → Mem p l
unfolding was_made
was_made_lem p [] e = absurd (false≢true e)
was_made_lem p (q ∷ l) e = ⊎_elim (λ h. here (same_packet_lem p q h)) (λ h. there (was_made_lem p l h)) (or_true (same_packet p q) (was_made p l) e)

pub is_enabled : (e : Event) (s : State) → enabled e s ≡ true → Enabled e s
unfolding enabled
is_enabled (from_client p) s e = (eqb-true _ _ (and_left (eqb p.head.from 0) (packet_ok p) e), (reflect_fit p).0 (and_right (eqb p.head.from 0) (packet_ok p) e))
is_enabled no_packet s e = tt
is_enabled (at_relay p) s e = was_made_lem p s.packets e
is_enabled (at_node j p) s e =
    (was_made_lem p s.packets (and_left (was_made p s.packets) (not (s.halted j)) e), not-true (s.halted j) (and_right (was_made p s.packets) (not (s.halted j)) e))
is_enabled (opens side named fresh) s e = tt
is_enabled (fences j) s e = tt
is_enabled (copies i a b) s e = tt
is_enabled activates s e = tt
is_enabled cancels s e = tt
is_enabled (removes j) s e = e
is_enabled (enters j id key) s e = eqb-true _ _ e
is_enabled (halts j) s e = tt

-- what may happen in every state: all but the deliveries of packets that were never made, the steps of halted nodes, and the removal of others
pub may_happen : (s : State) (side : Bool) (i j a b : ℕ) (p : Packet) (key : List ℕ)
    → Enabled no_packet s × Enabled (opens side a b) s × Enabled (fences j) s × Enabled (copies i a b) s × Enabled activates s × Enabled cancels s × Enabled (halts j) s
    × (p.head.from ≡ 0 → Fit p → Enabled (from_client p) s)
    × (Mem p s.packets → Enabled (at_relay p) s)
    × (Mem p s.packets → s.halted j ≡ false → Enabled (at_node j p) s)
    × (s.halted j ≡ true → Enabled (removes j) s)
    × (length key ≡ key_size → Enabled (enters i j key) s)
may_happen s side i j a b p key = (tt, tt, tt, tt, tt, tt, tt, λ e f. (e, f), λ m. m, λ m h. (m, h), λ h. h, λ e. e)

runs : (l : List Event) (s : State) → allowed l s ≡ true → Reach s → Reach (run l s)
unfolding allowed run
runs [] s e r = r
runs (x ∷ l) s e r = runs l (exec x s) (and_right (enabled x s) (allowed l (exec x s)) e) (step r x (is_enabled x s (and_left (enabled x s) (allowed l (exec x s)) e)))

starts : (n : ℕ) (places : List ℕ) (count : ℕ) → chain_ok (start_chain n places count) ≡ true → Reach (start_state n places count)
starts n places count e = start (record {
  length = n;
  places = places;
  count = count;
  chain = refl;
  rules = (reflect_chain (start_chain n places count)).0 e;
  blank = λ j. refl;
  awake = λ j. refl;
  quiet = refl;
  fresh = refl;
  unwritten = refl;
})

-- ---- each is a run of the system

-- the records at their starts keep the rules
pub bench_starts : chain_ok bench_start.chain ≡ true
unfolding computing
bench_starts = refl

pub incident_starts : chain_ok incident_start.chain ≡ true
unfolding computing
incident_starts = refl

pub two_starts : chain_ok two_start.chain ≡ true
unfolding computing
two_starts = refl

-- each event may happen when its turn comes
pub enters_allowed : allowed bench_enters bench_start ≡ true
unfolding computing
enters_allowed = refl

pub bench_allowed : allowed bench_events bench_start ≡ true
unfolding computing
bench_allowed = refl

pub incident_allowed : allowed incident_events incident_start ≡ true
unfolding computing
incident_allowed = refl

pub head_allowed : allowed head_events two_start ≡ true
unfolding computing
head_allowed = refl

pub tail_allowed : allowed tail_events two_start ≡ true
unfolding computing
tail_allowed = refl

pub delete_allowed : allowed delete_events two_start ≡ true
unfolding computing
delete_allowed = refl

pub every_allowed : allowed every_events two_start ≡ true
unfolding computing
every_allowed = refl

pub bench_reached : Reach (run bench_events bench_start)
bench_reached = runs bench_events bench_start bench_allowed (starts _ _ _ bench_starts)

pub incident_reached : Reach (run incident_events incident_start)
incident_reached = runs incident_events incident_start incident_allowed (starts _ _ _ incident_starts)

pub head_reached : Reach (run head_events two_start)
head_reached = runs head_events two_start head_allowed (starts _ _ _ two_starts)

pub tail_reached : Reach (run tail_events two_start)
tail_reached = runs tail_events two_start tail_allowed (starts _ _ _ two_starts)

pub delete_reached : Reach (run delete_events two_start)
delete_reached = runs delete_events two_start delete_allowed (starts _ _ _ two_starts)

pub every_reached : Reach (run every_events two_start)
every_reached = runs every_events two_start every_allowed (starts _ _ _ two_starts)

-- ---- so demand 3 holds of each, and the premises of the acknowledged write are met after the keys are entered

pub incident_demand : Demand3 (run incident_events incident_start) the_key
incident_demand = demand the_key (run incident_events incident_start) incident_reached

pub bench_entered : Reach (run bench_enters bench_start)
bench_entered = runs bench_enters bench_start enters_allowed (starts _ _ _ bench_starts)

-- what holds of each number of a list, and that a table knows the key
each : (P : ℕ → Type 0) (x : ℕ) (l : List ℕ) → P x → ((j : ℕ) → Mem j l → P j) → (j : ℕ) → Mem j (x ∷ l) → P j
each P x l p rest j (here e) = subst P (sym e) p
each P x l p rest j (there m) = rest j m

none : (P : ℕ → Type 0) (j : ℕ) → Mem j [] → P j
none P j m = elim m [ ]

abbrev Knows : State → ℕ → Type 0
Knows s j = (x : Slot) × (held the_key (s.table j).slots ≡ holds x)

pub bench_ready : Ready (run bench_enters bench_start) the_key
unfolding computing
bench_ready = record { awake = λ j m. refl; still = refl; known = each P 1 (2 ∷ 3 ∷ []) entered (each P 2 (3 ∷ []) entered (each P 3 [] entered (none P))); left = left }
  where
    P : ℕ → Type 0
    P = Knows (run bench_enters bench_start)

    entered : (x : Slot) × (holds (entered_slot the_key) ≡ holds x)
    entered = (entered_slot the_key, refl)

    left : (x : Slot) → holds (entered_slot the_key) ≡ holds x → x.version.session ≡ session 1 → x.version.sequence.0 < top_sequence
    left x h e = absurd (let z = ap (λ (y : Slot). y.version.session.0) (holds_inj h) ∙ ap (λ (y : Session). y.0) e in omega arith)

pub bench_write : ClientWrite (write_a 0 0 0 zero_version)
unfolding computing
bench_write = record { fit = (reflect_fit (write_a 0 0 0 zero_version)).0 refl; query = refl; alters = inl refl; from = refl; to = refl; stamp = refl; version = refl }

pub bench_acknowledged : Acknowledged (run bench_enters bench_start) (write_a 0 0 0 zero_version)
bench_acknowledged = acknowledged (run bench_enters bench_start) (write_a 0 0 0 zero_version) bench_entered bench_write bench_ready

-- ---- and again after a first node was replaced and B was written under 3.1: a delete is acknowledged too

abbrev the_delete : Packet
the_delete = parcel 3 0 0 0 4 0 zero_version []

abbrev slot_b : Slot
slot_b = slot the_key 2 (version 3 1) (66 ∷ [])

pub head_ready : Ready (run head_events two_start) the_key
unfolding computing
head_ready = record { awake = each (λ j. s.halted j ≡ false) 3 (2 ∷ []) refl (each _ 2 [] refl (none _)); still = refl; known = each (Knows s) 3 (2 ∷ []) written (each (Knows s) 2 [] written (none _)); left = left }
  where
    s : State
    s = run head_events two_start

    written : (x : Slot) × (holds slot_b ≡ holds x)
    written = (slot_b, refl)

    left : (x : Slot) → holds slot_b ≡ holds x → x.version.session ≡ session 3 → x.version.sequence.0 < top_sequence
    left x h e = let z = ap (λ (y : Slot). y.version.sequence.0) (holds_inj h) in omega arith

pub head_acknowledged : Acknowledged (run head_events two_start) the_delete
unfolding computing
head_acknowledged = acknowledged (run head_events two_start) the_delete head_reached delete head_ready
  where
    delete : ClientWrite the_delete
    delete = record { fit = (reflect_fit the_delete).0 refl; query = refl; alters = inr refl; from = refl; to = refl; stamp = refl; version = refl }
