-- Every run of the system over bytes is a run of a caller of the C exports: each export can leave what its promise says.
use Prim.Native.Nat.{ℕ, ◌<◌}
use mathlib.Core.Path.{◌≡◌, refl, sym, ap, ap₂, ◌∙◌, subst}
use mathlib.Core.List.{List}
use mathlib.Core.Logic.{inl, inr}
use native.Mathlib.Omega.{arith}
use native.Mathlib.Decide.{dec_lt}
use lib.ListN.{length, get_or, replicate, get_or-eq_default}
use lib.Seq.{get_or-take}
use Rattle.wire.specs.Numbers.{Out, ok, number_of, left, Applies}
use Rattle.wire.proofs.Numbers.{ok_inj, past, judged_done}
use Rattle.store.specs.Table.{BlankGives, blank_bytes, fence_bytes}
use Rattle.steps.specs.declared.Chain.{Chain}
use Rattle.steps.specs.Chain.{most_nodes, members, ChainRules, start_chain, start_call}
use Rattle.steps.specs.Relay.{outcome_of, relay_call}
use Rattle.steps.specs.Control.{copy_bytes, open_call, fence_call, copy_call, activate_call, cancel_call, remove_call}
use Rattle.steps.proofs.ChainPlaces.{length_members}
use Rattle.steps.proofs.RelaySends.{SoundChain, outcome_number_lem}
use Rattle.chain.proofs.Places.{by_place}
use Rattle.numbers.specs.Record.{record_size, chain_of, record_of, numbers_of, places_of}
use Rattle.numbers.proofs.Record.{places_of_lem}
use Rattle.numbers.proofs.RoundTrip.{record_read}
use Rattle.numbers.proofs.Answers.{relay_told}
use Rattle.register.specs.Boundary.{Leaves, relay_code, start_of, start_numbers, start_numbers_rows}
use Rattle.register.proofs.Judged.{start_numbers_lem}
use Rattle.register.proofs.Laws.{leaves_is, both, done}
use Rattle.claims.specs.Bytes.{EventB, asking, relaying, stepping, opening, fencing, copying, activating, cancelling, removing, entering, halting, StateB, after_relay, after_control, after_control_at, exec_b, EnabledB, StartB, ReachB, start_b, step_b, RunB, stay_b, more_b}
use Rattle.claims.specs.Exports.{relay_number, ExportStart, ExportCaller, begins, asks, relays, steps, opens, fences, copies, activates, cancels, removes, enters, halts}
use Rattle.claims.proofs.Bridge.{bridge}
use Rattle.claims.proofs.Events.{blank_gives, open_table, open_made, open_kept, caller_reaches}
use Rattle.claims.proofs.Exports.{place_unused, sized, stands_for, left_stands, relay_on, open_on, fence_on, copy_on, activate_on, cancel_on, remove_on, enter_on, code_number, export_caller_is}

-- what a call gives, as an export leaves it
leaves : {A S : Type 0} {code : Out A → ℕ} {make : A → S} {o p : Out A} {s : S} → o ≡ p → Leaves code make o (code p) s (left s make p)
leaves e = leaves_is (sym e) (record { number = refl; lent = refl })

-- ---- an event that may happen is a call of an export

module _ {l : List ℕ} {s : StateB} (x : ExportCaller l s) where
  held : record_of l ≡ ok s.chain
  held = (export_caller_is x).1

  reached : ReachB s
  reached = caller_reaches (export_caller_is x).0

  -- the record that is left, in place of the one that the numbers stand for
  record_left : (put : Chain → StateB) (o : Out Chain) → SoundChain (left s.chain (λ r. r) o) → ExportCaller (left l numbers_of o) (put (chain_of (left l numbers_of o)))
      → (l' : List ℕ) × ExportCaller l' (put (left s.chain (λ r. r) o))
  record_left put o g y = (left l numbers_of o, subst (λ (r : Chain). ExportCaller (left l numbers_of o) (put r)) (stands_for _ _ (left_stands l s.chain held o refl g)) y)

  -- the relay's number
  relay_left : (e : EventB) (p out out' : List ℕ) → ExportCaller l (after_relay e s (relay_number (relay_code (relay_call s.chain p out))) out')
      → (l' : List ℕ) × ExportCaller l' (after_relay e s (number_of (relay_call s.chain p out)) out')
  relay_left e p out out' y =
      let o = relay_call s.chain p out in
      (l, subst (λ (n : ℕ). ExportCaller l (after_relay e s n out')) (code_number (outcome_of o) (relay_told s.chain p out) ∙ outcome_number_lem o) y)

  -- the record afterwards is sound
  called : (e : EventB) → EnabledB e s → SoundChain (exec_b e s).chain → (l' : List ℕ) × ExportCaller l' (exec_b e s)
  unfolding exec_b
  called (asking p out) en g = relay_left (asking p out) p out _ (asks x p out en _ _ (leaves (relay_on l s.chain held p out)))
  called (relaying p out) en g = relay_left (relaying p out) p out _ (relays x p out en _ _ (leaves (relay_on l s.chain held p out)))
  called (stepping j p out) en g = (l, steps x j p out en _ _ _ (record { number = refl; table = refl; outlet = refl }))
  called (opening after named fresh) en g =
      let o = open_call s.chain after named fresh in
      let is = stands_for l s.chain held in
      record_left (λ r. after_control_at (opening after named fresh) s (number_of o) r fresh (open_table s fresh o)) o g
      (opens x after named fresh en _ _ (leaves (open_on l s.chain held after named fresh)) (blank_bytes fresh s.chain.count) _
      (λ z. subst (λ (r : Chain). BlankGives (blank_bytes fresh s.chain.count) fresh r.count 0 (open_table s fresh o)) (sym is) (open_made s after named fresh o refl z)) (open_kept s fresh o))
  called (fencing j) en g =
      let o = fence_call s.chain (s.table j) in
      let is = stands_for l s.chain held in
      record_left (λ r. after_control_at (fencing j) s (number_of o) r j (left (s.table j) (λ r. fence_bytes s.chain.wiring (s.table j)) o)) o g
      (fences x j en _ _ _
      (leaves_is (sym (fence_on l s.chain held (s.table j)))
      (both o (record { number = refl; lent = refl }) (ap (λ (r : Chain). left (s.table j) (λ _. fence_bytes r.wiring (s.table j)) o) (sym is)))))
  called (copying i a b) en g =
      let o = copy_call s.chain i (s.table a) (s.table b) in
      record_left (λ r. after_control_at (copying i a b) s (number_of o) r b (left (s.table b) (λ r. copy_bytes i (s.table a) (s.table b)) o)) o g
      (copies x i a b en _ _ _ (leaves_is (sym (copy_on l s.chain held i (s.table a) (s.table b))) (both o (record { number = refl; lent = refl }) refl)))
  called activating en g = record_left (after_control activating s _) (activate_call s.chain) g (activates x _ _ (leaves (activate_on l s.chain held)))
  called cancelling en g = record_left (after_control cancelling s _) (cancel_call s.chain) g (cancels x _ _ (leaves (cancel_on l s.chain held)))
  called (removing id) en g = record_left (after_control (removing id) s _) (remove_call s.chain id) g (removes x id en _ _ (leaves (remove_on l s.chain held id)))
  called (entering j id key) en g = (l, enters x j id key en _ _ (leaves (enter_on l s.chain held (s.table j) id key)))
  called (halting j) en g = (l, halts x j)

  pub export_call : (e : EventB) → EnabledB e s → (l' : List ℕ) × ExportCaller l' (exec_b e s)
  export_call e en = called e en (bridge (step_b reached e en)).0.chain

-- ---- and so is a start

module _ {s : StateB} (z : StartB s) where
  started : start_chain z.length z.places z.count ≡ s.chain
  unfolding start_call
  started = ok_inj (past _ _ _ _ z.chain).1

  rules : ChainRules s.chain
  rules = (bridge (start_b z)).0.chain.rules

  abbrev ids : List ℕ
  ids = members s.chain

  ids_length : length ids ≡ s.chain.length
  ids_length = length_members s.chain.length s.chain.places rules.eight rules.few

  -- the ids in chain order take the places that the record has
  places_are : places_of ids ≡ s.chain.places
  places_are = sym (places_of_lem ids) ∙ by_place most_nodes s.chain.places (λ i. get_or ids i 0) rules.eight (λ i h. at i h (dec_lt i s.chain.length))
    where
      at : (i : ℕ) → i < most_nodes → Dec (i < s.chain.length) → get_or s.chain.places i 0 ≡ get_or ids i 0
      at i h (yes k) = sym (get_or-take s.chain.length s.chain.places i 0 k)
      at i h (no k) =
          let n = ids_length in
          place_unused s.chain rules i (omega arith) h ∙ sym (get_or-eq_default ids 0 {n = i} (omega arith))

  start_is : start_of ids z.count ≡ s.chain
  unfolding start_chain
  start_is =
      let n = ap (λ (r : Chain). r.length) started in
      let p = ap (λ (r : Chain). r.places) started in
      ap₂ (λ (n : ℕ) (p : List ℕ). start_chain n p z.count) (ids_length ∙ sym n) (places_are ∙ sym p) ∙ started

  -- there is room, and the record keeps the rules
  start_made : start_numbers (replicate record_size 0) ids z.count ≡ ok (start_of ids z.count)
  unfolding start_numbers
  start_made =
      let (c, e) = (judged_done (start_numbers_rows (replicate record_size 0) ids z.count) (start_numbers (replicate record_size 0) ids z.count) (start_numbers_lem (replicate record_size 0) ids z.count)).1 none in
      e ∙ sym (past _ _ _ _ e).1
    where
      none : (n : ℕ) → Applies (start_numbers_rows (replicate record_size 0) ids z.count) n → ⊥
      none n (inl (e, inl h)) = h refl
      none n (inr x') = elim x' [ ]
      none n (inl (e, inr (inl h))) = let few = rules.few in let n = ids_length in omega arith
      none n (inl (e, inr (inr h))) = h (subst ChainRules (sym start_is) rules)

  export_start : ExportStart (numbers_of s.chain) s
  unfolding start_chain
  export_start = record {
    room = replicate record_size 0;
    ids = ids;
    count = z.count;
    numbers = done start_made (ap numbers_of (sym start_is));
    fit = λ j m. (z.nodes j m).1;
    chain = stands_for (numbers_of s.chain) s.chain (record_read s.chain (sized s.chain (bridge (start_b z)).0.chain));
    blank = λ j i. (blank_bytes j z.count, subst (BlankGives (blank_bytes j z.count) j z.count 0) (sym (z.blank j i)) (blank j i.0));
    awake = z.awake;
    quiet = z.quiet;
    fresh = z.fresh;
    unwritten = z.unwritten;
  }
    where
      blank : (j : ℕ) → 0 < j → BlankGives (blank_bytes j z.count) j z.count 0 (blank_bytes j z.count)
      blank j some =
          let same : z.count ≡ s.chain.count = ap (λ (r : Chain). r.count) started in
          let counts = rules.count_some in
          let few = rules.count_few in
          blank_gives j z.count (λ e. omega arith) (λ e. omega arith) (omega arith)

-- ---- runs

pub reaches_exports : {s : StateB} → ReachB s → (l : List ℕ) × ExportCaller l s
reaches_exports (start_b {s = s} z) = (numbers_of s.chain, begins (export_start z))
reaches_exports (step_b r e en) = export_call (reaches_exports r).1 e en

-- from then on
pub runs_exports : {l : List ℕ} {s t : StateB} → ExportCaller l s → RunB s t → (l' : List ℕ) × ExportCaller l' t
runs_exports {l} x stay_b = (l, x)
runs_exports x (more_b r e en) = export_call (runs_exports x r).1 e en
