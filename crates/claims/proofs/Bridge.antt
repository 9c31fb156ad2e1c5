-- The bridge: a run of the system over bytes is a run of the decoded system, and its record, tables and packets are sound.
use Prim.Native.Nat.{ℕ, ◌^◌, ◌<◌}
use mathlib.Core.Path.{◌≡◌, refl, sym, ap, ◌∙◌, subst}
use mathlib.Core.List.Memᴰ.{map as mem_map}
use mathlib.Core.List.{List, [], map, Memᴰ as Mem}
use mathlib.Core.Logic.{◌⊎◌, inl, inr}
use native.Mathlib.Omega.{arith}
use native.Mathlib.Decide.{dec_lt}
use lib.ListN.{length}
use Rattle.wire.specs.Packet.{packet_of, Formed, outlet_size}
use Rattle.wire.proofs.Numbers.{ok_inj, past, reflects_cases}
use Rattle.wire.proofs.Packet.{reflect_formed}
use Rattle.wire.proofs.RoundTrip.{fit_packet}
use Rattle.store.specs.Table.{blank_bytes, blank_table}
use Rattle.steps.specs.declared.Chain.{Chain}
use Rattle.steps.specs.Chain.{members, ChainRules, largest, start_chain, start_call}
use Rattle.steps.proofs.ChainRules.{reflect_chain, largest_mem}
use Rattle.steps.proofs.Control.{holds, some_members}
use Rattle.protocol.specs.System.{Event, from_client, no_packet, at_relay, at_node, opens, fences, copies, activates, cancels, removes, enters, halts, exec, Enabled, Start, Reach, start, step, Run, stay, more}
use Rattle.claims.specs.Bytes.{IsNode, EventB, asking, relaying, stepping, opening, fencing, copying, activating, cancelling, removing, entering, halting, StateB, exec_b, EnabledB, StartB, ReachB, start_b, step_b, RunB, stay_b, more_b}
use Rattle.claims.proofs.Decode.{trace_of, decode, tables_blank}
use Rattle.claims.proofs.Images.{SoundB, Becomes, asking_hidden, asking_becomes, malformed_becomes, relaying_hidden, relaying_becomes, stepping_hidden, stepping_becomes, opening_becomes, fencing_becomes, copying_becomes, activating_becomes, cancelling_becomes, removing_becomes, entering_becomes, halting_becomes}
use Rattle.claims.proofs.Calls.{LeavesTable, blank_left}

-- ---- every event

-- the decoded system sees nothing, or one of its events
pub data Simulates (e : EventB) (s : StateB) : Type 0 where
  hidden : Becomes (exec_b e s) (decode s) → Simulates e s
  visible : (d : Event) → Enabled d (decode s) → Becomes (exec_b e s) (exec d (decode s)) → Simulates e s

module _ (s : StateB) (g : SoundB s) where
  sim_asking : (p out : List ℕ) → EnabledB (asking p out) s → Simulates (asking p out) s
  unfolding packet_of
  sim_asking p out en = go (dec_lt (length out) outlet_size) (reflects_cases (reflect_formed p))
    where
      go : Dec (length out < outlet_size) → Formed p ⊎ (Formed p → ⊥) → Simulates (asking p out) s
      go (yes h) f = hidden (asking_hidden s g p out h)
      go (no h) (inl f) = visible (from_client (packet_of p)) (en.1 f, fit_packet p f) (asking_becomes s g p out en.0 f (omega arith))
      go (no h) (inr n) = visible no_packet tt (malformed_becomes s g p out en.0 n (omega arith))

  sim_relaying : (p out : List ℕ) → EnabledB (relaying p out) s → Simulates (relaying p out) s
  sim_relaying p out m = go (dec_lt (length out) outlet_size)
    where
      go : Dec (length out < outlet_size) → Simulates (relaying p out) s
      go (yes h) = hidden (relaying_hidden s g p out h)
      go (no h) = visible (at_relay (packet_of p)) (mem_map packet_of m) (relaying_becomes s g p out m (omega arith))

  sim_stepping : (j : ℕ) (p out : List ℕ) → EnabledB (stepping j p out) s → Simulates (stepping j p out) s
  sim_stepping j p out (i, m, awake) = go (dec_lt (length out) outlet_size)
    where
      go : Dec (length out < outlet_size) → Simulates (stepping j p out) s
      go (yes h) = hidden (stepping_hidden s g j p out i h)
      go (no h) = visible (at_node j (packet_of p)) (mem_map packet_of m, awake) (stepping_becomes s g j p out i m (omega arith))

  pub simulate : (e : EventB) → EnabledB e s → Simulates e s
  simulate (asking p out) en = sim_asking p out en
  simulate (relaying p out) en = sim_relaying p out en
  simulate (stepping j p out) en = sim_stepping j p out en
  simulate (opening after named fresh) en = visible (opens after named fresh) tt (opening_becomes s g after named fresh en)
  simulate (fencing j) en = visible (fences j) tt (fencing_becomes s g j en)
  simulate (copying i a b) en = visible (copies i a b) tt (copying_becomes s g i a b en.0 en.1)
  simulate activating en = visible activates tt (activating_becomes s g)
  simulate cancelling en = visible cancels tt (cancelling_becomes s g)
  simulate (removing id) en = visible (removes id) en (removing_becomes s g id)
  simulate (entering j id key) en = visible (enters j id key) en.2 (entering_becomes s g j id key en)
  simulate (halting j) en = visible (halts j) tt (halting_becomes s g j)

  pub simulate_sound : (e : EventB) → EnabledB e s → SoundB (exec_b e s)
  simulate_sound e en = go (simulate e en)
    where
      go : Simulates e s → SoundB (exec_b e s)
      go (hidden b) = b.sound
      go (visible d ed b) = b.sound

-- ---- the start

start_sound : (s : StateB) → StartB s → SoundB s × Start (decode s)
unfolding start_call start_chain
start_sound s z = (sound, started)
  where
    chain : start_chain z.length z.places z.count ≡ s.chain
    chain = ok_inj (past _ _ _ _ z.chain).1

    rules : ChainRules s.chain
    rules = subst ChainRules chain (holds (reflect_chain _) (past _ _ _ _ z.chain).0)

    some : 0 < length (members s.chain)
    some = some_members s.chain rules

    highest : s.chain.highest ≡ largest (members s.chain)
    highest = subst (λ (r : Chain). r.highest ≡ largest (members r)) chain refl

    count : s.chain.count ≡ z.count
    count = ap (λ (r : Chain). r.count) (sym chain)

    blank : (j : ℕ) → IsNode j → LeavesTable (s.table j) (blank_table j s.chain.count)
    blank j i = subst (λ (t : List ℕ). LeavesTable t (blank_table j s.chain.count)) (ap (blank_bytes j) count ∙ sym (z.blank j i)) (blank_left s.chain rules j i.0 i.1)

    sound : SoundB s
    sound = record {
      chain = record {
        rules = rules;
        wiring = subst (λ (r : Chain). r.wiring.0 < 256 ^ 4) chain (omega arith);
        session = subst (λ (r : Chain). r.session.0 < 256 ^ 2) chain (omega arith);
        highest = subst (λ (n : ℕ). n < 256 ^ 2) (sym highest) (z.nodes _ (largest_mem (members s.chain) some)).1;
      };
      tables = λ j i. ((blank j i).rules, (blank j i).bytes);
      packets = λ p m. nothing (subst (Mem p) z.quiet m);
    }
      where
        nothing : {A : Type 0} {p : List ℕ} → Mem p [] → A
        nothing m = elim m [ ]

    started : Start (decode s)
    started = record {
      length = z.length;
      places = z.places;
      count = z.count;
      chain = sym chain;
      rules = rules;
      blank = λ j. tables_blank s.chain.count s.table (λ i n. (blank i n).reads) j ∙ ap (blank_table j) count;
      awake = z.awake;
      quiet = ap (map packet_of) z.quiet;
      fresh = ap trace_of z.fresh;
      unwritten = z.unwritten;
    }

-- ---- the bridge

-- a reachable state is sound, and the decoded system reaches its image
pub bridge : {s : StateB} → ReachB s → SoundB s × Reach (decode s)
bridge (start_b {s = s} z) = let (g, d) = start_sound s z in (g, start d)
bridge (step_b {s = s} r e en) = let (g, h) = bridge r in go h (simulate s g e en)
  where
    go : Reach (decode s) → Simulates e s → SoundB (exec_b e s) × Reach (decode (exec_b e s))
    go h (hidden b) = (b.sound, subst Reach (sym b.image) h)
    go h (visible d ed b) = (b.sound, subst Reach (sym b.image) (step h d ed))

-- and what comes from then on is a run of the decoded system from there
pub bridge_run : {s t : StateB} → SoundB s → RunB s t → SoundB t × Run (decode s) (decode t)
bridge_run g stay_b = (g, stay)
bridge_run {s} g (more_b {t = t} r e en) = let (h, d) = bridge_run g r in go d (simulate t h e en)
  where
    go : Run (decode s) (decode t) → Simulates e t → SoundB (exec_b e t) × Run (decode s) (decode (exec_b e t))
    go d (hidden b) = (b.sound, subst (Run (decode s)) (sym b.image) d)
    go d (visible x ex b) = (b.sound, subst (Run (decode s)) (sym b.image) (more d x ex))

pub runs_reach : {s t : StateB} → ReachB s → RunB s t → ReachB t
runs_reach h stay_b = h
runs_reach h (more_b r e en) = step_b (runs_reach h r) e en
