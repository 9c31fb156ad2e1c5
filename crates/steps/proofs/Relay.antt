-- The relay step: to which node a packet is addressed, that the number given is the first row of document 01 that applies, and when a packet goes on.
use Prim.Native.Nat.{ℕ, ◌<◌, ◌≤◌}
use mathlib.Core.Path.{◌≡◌, refl, sym, ap, ◌∙◌, subst}
use mathlib.Core.List.{List, ◌∷◌, Memᴰ as Mem}
use mathlib.Core.Bool.{not}
use native.Mathlib.Omega.{arith}
use lib.ListN.{length}
use lib.Dec.{ltb}
use borrow.Author.Tests.{not-false, ltb-false, le-ltb}
use Rattle.wire.specs.Numbers.{ok, test, broken, small_outlet, malformed, Judged}
use Rattle.wire.specs.Packet.{Packet, packet_of, well_formed, Formed, outlet_size}
use Rattle.wire.proofs.Numbers.{past, pass_guard, Reflects, reflects_no, reflect_false, reflect_ltb, reflect_not, reflect_iff, Matches, matches_under, judged}
use Rattle.wire.proofs.Packet.{reflect_formed}
use Rattle.steps.specs.declared.Chain.{Chain}
use Rattle.steps.specs.Chain.{members, chain_ok, ChainRules}
use Rattle.steps.specs.Node.{is_read}
use Rattle.steps.specs.Relay.{Way, node, client, way_of, stops_way, relay_tests, relay_step, relay_call, Addressed, read_from, write_from, passed_on as on_to, Stops, relay_step_rows, relay_rows}
use Rattle.steps.proofs.ChainIds.{first_here, first_is, last_here, last_is, follows_next}
use Rattle.steps.proofs.ChainPlaces.{length_members}
use Rattle.steps.proofs.ChainRules.{reflect_chain}
use Rattle.steps.proofs.RelayView.{RelayCase, new_read, new_write, handed, acknowledged, passed_on, reflect_stray, reflect_outside, reflect_stops, way_case}

-- ---- to which node

node_inj : {i j : ℕ} {p q : Packet} → node i p ≡ node j q → i ≡ j
node_inj e = cc

client_node : {j : ℕ} {p q : Packet} → client p ≡ node j q → ⊥
client_node e = let z : ◌≡◌ {A = ℕ} 0 1 = cc in omega arith

-- to a node under another name
moved : {w : Way} {i j : ℕ} {q : Packet} → w ≡ node i q → j ≡ i → (q : Packet) × (w ≡ node j q)
moved {q = q} e f = (q, e ∙ ap (λ (k : ℕ). node k q) (sym f))

module _ (r : Chain) (p : Packet) (rules : ChainRules r) where
  pub some : 0 < length (members r)
  some = let n = length_members r.length r.places rules.eight rules.few in let s = rules.some in omega arith

  -- a member has an id
  nonzero : Mem p.head.from (members r) → p.head.from ≡ 0 → ⊥
  nonzero m z = rules.nonzero (subst (λ (j : ℕ). Mem j (members r)) z m)

  -- a packet goes to the node to which it is addressed
  goes_addressed : {w : Way} {j : ℕ} → RelayCase r p w → Addressed r p j → (q : Packet) × (w ≡ node j q)
  goes_addressed (new_read c) (read_from z o l) = moved c.goes (last_is (members r) l)
  goes_addressed (new_read c) (write_from z a f) = absurd (a c.read)
  goes_addressed (new_read c) (on_to q f) = absurd (nonzero (follows_next (members r) rules.distinct f).0 c.sender.from)
  goes_addressed (new_write c) (read_from z o l) = absurd (c.alters o)
  goes_addressed (new_write c) (write_from z a f) = moved c.goes (first_is (members r) f)
  goes_addressed (new_write c) (on_to q f) = absurd (nonzero (follows_next (members r) rules.distinct f).0 c.sender.from)
  goes_addressed (handed c) (read_from z o l) = absurd (c.sender.from z)
  goes_addressed (handed c) (write_from z a f) = absurd (c.sender.from z)
  goes_addressed (handed c) (on_to q f) = absurd (c.answers q)
  goes_addressed (acknowledged c) (read_from z o l) = absurd (c.sender.from z)
  goes_addressed (acknowledged c) (write_from z a f) = absurd (c.sender.from z)
  goes_addressed (acknowledged c) (on_to q f) = absurd ((follows_next (members r) rules.distinct f).1 c.last)
  goes_addressed (passed_on c) (read_from z o l) = absurd (c.sender.from z)
  goes_addressed (passed_on c) (write_from z a f) = absurd (c.sender.from z)
  goes_addressed (passed_on c) (on_to q f) = moved c.goes (follows_next (members r) rules.distinct f).2

  -- and is addressed to the node to which it goes
  addressed_goes : {w : Way} {j : ℕ} {q : Packet} → RelayCase r p w → w ≡ node j q → Addressed r p j
  addressed_goes (new_read c) e = subst (Addressed r p) (node_inj (sym c.goes ∙ e)) (read_from c.sender.from c.read (last_here (members r) some))
  addressed_goes (new_write c) e = subst (Addressed r p) (node_inj (sym c.goes ∙ e)) (write_from c.sender.from c.alters (first_here (members r) some))
  addressed_goes (handed c) e = absurd (client_node (sym c.goes ∙ e))
  addressed_goes (acknowledged c) e = absurd (client_node (sym c.goes ∙ e))
  addressed_goes (passed_on c) e = subst (Addressed r p) (node_inj (sym c.goes ∙ e)) (on_to c.asks c.follows)

  -- ---- the rows

  abbrev Stopped : Type 0
  Stopped = (j : ℕ) × Addressed r p j × Stops r.change p j

  reflect_way : (w : Way) → RelayCase r p w → Reflects (stops_way r.change (is_read p) w) Stopped
  reflect_way (node j q) c =
      reflect_iff (reflect_stops r.change p j)
      (λ s. (j, addressed_goes c refl, s), λ h. subst (Stops r.change p) (sym (node_inj (goes_addressed c h.1).1)) h.2)
  reflect_way (client q) c = reflect_false (λ h. client_node (goes_addressed c h.1).1)

  -- each test stands for its row
  pub relay_matches : Matches (relay_tests r p) (relay_step_rows r p)
  relay_matches = (
    refl,
    reflect_stray p,
    λ a. (
      refl,
      reflect_outside r p,
      λ b.
          (refl, reflect_way (way_of r p) (way_case r p ((reflect_stray p).1 a) ((reflect_outside r p).1 b)), λ _. tt),
    ),
  )

  -- the step over fields gives the first row that applies
  pub step_judged : Judged (relay_step_rows r p) (relay_step r p)
  unfolding relay_step
  step_judged = judged (relay_tests r p) (relay_step_rows r p) relay_matches refl (way_of r p)

-- the call gives the first row that applies
pub relay_judged : (r : Chain) (p out : List ℕ) → Judged (relay_rows r p out) (relay_call r p out)
unfolding relay_call relay_step
relay_judged r p out =
    judged
    (test broken (not (chain_ok r))
    ∷ test small_outlet (ltb (length out) outlet_size)
    ∷ test malformed (not (well_formed p))
    ∷ relay_tests r (packet_of p))
    (relay_rows r p out) (
      refl,
      reflect_not (reflect_chain r),
      λ a. (
        refl,
        reflect_ltb _ _,
        λ b. (
          refl,
          reflect_not (reflect_formed p),
          λ c.
              let rules = (reflect_chain r).0 (not-false _ a) in
              matches_under (ChainRules r × Formed p) (relay_tests r (packet_of p)) (relay_step_rows r (packet_of p))
              (rules, (reflect_formed p).0 (not-false _ c))
              (relay_matches r (packet_of p) rules),
        ),
      ),
    )
    refl
    (way_of r (packet_of p))

-- ---- the call and the step

-- a call on a record, an outlet and a packet as they should be is the step
pub call_step : (r : Chain) (p out : List ℕ) → ChainRules r → outlet_size ≤ length out → Formed p → relay_call r p out ≡ relay_step r (packet_of p)
unfolding relay_call
call_step r p out g h f =
    pass_guard _ _ _ (reflects_no (reflect_not (reflect_chain r)) (λ n. n g))
    ∙ (pass_guard _ _ _ (le-ltb _ _ h) ∙ pass_guard _ _ _ (reflects_no (reflect_not (reflect_formed p)) (λ n. n f)))

-- what a call that is done says
pub record RelayCalled (r : Chain) (p out : List ℕ) (w : Way) : Type 0 where
  pub rules : ChainRules r
  pub room : outlet_size ≤ length out
  pub formed : Formed p
  pub step : relay_step r (packet_of p) ≡ ok w

pub relay_called : (r : Chain) (p out : List ℕ) (w : Way) → relay_call r p out ≡ ok w → RelayCalled r p out w
unfolding relay_call
relay_called r p out w e =
    let a = past _ _ _ _ e in
    let b = past _ _ _ _ a.1 in
    let c = past _ _ _ _ b.1 in
    record {
      rules = (reflect_chain r).0 (not-false _ a.0);
      room = ltb-false _ _ b.0;
      formed = (reflect_formed p).0 (not-false _ c.0);
      step = c.1;
    }
