-- A caller of the C exports is a caller of the calls: its numbers stand for the record, and each export leaves what the call gives.
use Prim.Native.Nat.{ℕ, ◌+◌, ◌-◌, ◌<◌, ◌≤◌}
use mathlib.Core.Path.{◌≡◌, refl, sym, ap, ◌∙◌, subst}
use mathlib.Core.List.{List, ◌++◌, Memᴰ as Mem}
use mathlib.Core.Bool.{Bool, true, false, not}
use native.Mathlib.Omega.{arith}
use native.Mathlib.Decide.{dec_lt}
use lib.ListN.{length, get_or, replicate, length-drop}
use lib.Dec.{ltb, eqb}
use lib.Seq.{get_or-take, get_or-drop, take-take, take-append_seam}
use borrow.Author.Tests.{lt-ltb, le-ltb, ltb-false, not-false}
use Rattle.wire.specs.Numbers.{Out, refuse, ok, number_of, left}
use Rattle.wire.proofs.Numbers.{ok_inj, past, pick_true, pick_false, pass_guard, stop_guard, or_false, reflects_yes, reflect_eqb, reflect_not, reflect_or}
use Rattle.store.specs.Table.{BlankGives, fence_bytes}
use Rattle.steps.specs.declared.Joining.{Joining}
use Rattle.steps.specs.declared.Change.{Change}
use Rattle.steps.specs.declared.Change.TheVariants.{Still, Before, After}
use Rattle.steps.specs.declared.Chain.{Chain}
use Rattle.steps.specs.declared.Destination.TheVariants.{ToNode, ToClient}
use Rattle.steps.specs.Chain.{most_nodes, members, chain_ok, ChainRules, JoiningRules, ChangeRules, start_chain, start_call}
use Rattle.steps.specs.Relay.{Outcome, outcome_of, outcome_number, relay_call, RelayGives}
use Rattle.steps.specs.Control.{ChainGives, FenceGives, CopyGives, EnterGives, open_call, fence_call, copy_call, activate_call, cancel_call, remove_call, enter_call}
use Rattle.steps.proofs.ChainPlaces.{length_members}
use Rattle.steps.proofs.ChainRules.{reflect_chain}
use Rattle.steps.proofs.NodeGives.{done_at_0}
use Rattle.steps.proofs.RelaySends.{SoundChain}
use Rattle.protocol.proofs.Main.{get_or_mem}
use Rattle.numbers.specs.Record.{record_size, top_id, kind_before, kind_after, chain_of, record_of, numbers_of, places_of, JoiningSized, ChangeSized, Sized}
use Rattle.numbers.specs.Answers.{client_code, outcome_code}
use Rattle.numbers.proofs.RoundTrip.{record_read}
use Rattle.numbers.proofs.Answers.{Told, relay_told}
use Rattle.register.specs.Boundary.{Leaves, and_then, relay_numbers, RelayLeaves, open_numbers, OpenLeaves, Kind, fence_numbers, FenceLeaves, copy_numbers, CopyLeaves, activate_numbers, cancel_numbers, remove_numbers, enter_numbers, EnterLeaves, start_of, start_numbers, start_numbers_rows}
use Rattle.register.proofs.Judged.{start_numbers_lem}
use Rattle.register.proofs.Laws.{leaves_is}
use Rattle.claims.specs.Bytes.{EventB, asking, relaying, opening, fencing, copying, activating, cancelling, removing, StateB, after_relay, after_control, after_control_at, exec_b, StartB}
use Rattle.claims.specs.Caller.{Caller}
use Rattle.claims.specs.Caller.Caller.{begins, asks, relays, steps, opens, fences, copies, activates, cancels, removes, enters, halts}
use Rattle.claims.specs.Exports.{relay_number, side_kind, ExportStart, ExportCaller}
use Rattle.claims.proofs.Bridge.{bridge}
use Rattle.claims.proofs.Events.{blank_event, caller_reaches}

-- ---- the numbers of a sound record stand for it

-- past the members the places are 0
pub place_unused : (c : Chain) → ChainRules c → (i : ℕ) → c.length ≤ i → i < most_nodes → get_or c.places i 0 ≡ 0
place_unused c rules i k h =
    let n = length-drop c.length c.places in
    let e = rules.eight in
    let at : c.length + (i - c.length) ≡ i = omega arith in
    ap (λ (k : ℕ). get_or c.places k 0) (sym at) ∙ (sym (get_or-drop c.length c.places (i - c.length) 0) ∙ rules.unused (i - c.length) (omega arith))

module _ (c : Chain) (g : SoundChain c) where
  rules : ChainRules c
  rules = g.rules

  member_fits : (j : ℕ) → Mem j (members c) → j ≤ top_id
  member_fits j m = let low = rules.highest j m in let top = g.highest in omega arith

  place_fits : (i : ℕ) → i < most_nodes → get_or c.places i 0 ≤ top_id
  place_fits i h = go (dec_lt i c.length)
    where
      go : Dec (i < c.length) → get_or c.places i 0 ≤ top_id
      go (yes k) =
          let n = length_members c.length c.places rules.eight rules.few in
          subst (λ (j : ℕ). j ≤ top_id) (get_or-take c.length c.places i 0 k) (member_fits (get_or (members c) i 0) (get_or_mem (members c) i (omega arith)))
      go (no k) = let z = place_unused c rules i (omega arith) h in omega arith

  joining_fits : (j : Joining) → JoiningRules c j → JoiningSized j
  joining_fits j k = record {
    named = member_fits j.named k.named;
    fresh = let e = k.highest in let top = g.highest in omega arith;
    next = let low = k.next in let few = rules.count_few in omega arith;
  }

  change_fits_lem : (ch : Change) → ChangeRules c ch → ChangeSized ch
  change_fits_lem Still k = tt
  change_fits_lem (Before j) k = joining_fits j k
  change_fits_lem (After j) k = joining_fits j k.0

  pub sized : Sized c
  sized = record {
    eight = rules.eight;
    length = let few = rules.few in omega arith;
    places = place_fits;
    session = let s = g.session in omega arith;
    highest = let top = g.highest in omega arith;
    count = let few = rules.count_few in omega arith;
    change = change_fits_lem c.change rules.change;
  }

-- two things that an export leaves, each by itself
each_left : {A S T : Type 0} {code : Out A → ℕ} {make : A → S} {other : A → T} {n : ℕ} {s s' : S} {t t' : T} (o : Out A)
    → Leaves {S = S × T} code (λ a. (make a, other a)) o n (s, t) (s', t') → (s' ≡ left s make o) × (t' ≡ left t other o)
each_left {S = S} {T = T} (refuse m) g = (ap (λ (x : S × T). x.0) g.lent, ap (λ (x : S × T). x.1) g.lent)
each_left {S = S} {T = T} (ok a) g = (ap (λ (x : S × T). x.0) g.lent, ap (λ (x : S × T). x.1) g.lent)

-- ---- one export, of numbers that stand for a record: it leaves what the call on that record gives

module _ (l : List ℕ) (c : Chain) (h : record_of l ≡ ok c) where
  pub stands_for : chain_of l ≡ c
  unfolding record_of
  stands_for = ok_inj (past _ _ _ _ h).1

  on : {A : Type 0} (f : Chain → Out A) → and_then (record_of l) f ≡ f c
  on f = ap (λ (o : Out Chain). and_then o f) h

  -- the numbers left stand for the record left
  pub left_stands : {l' : List ℕ} (o : Out Chain) → l' ≡ left l numbers_of o → SoundChain (left c (λ r. r) o) → record_of l' ≡ ok (left c (λ r. r) o)
  left_stands (refuse n) e g = ap record_of e ∙ h
  left_stands (ok r) e g = ap record_of e ∙ record_read r (sized r g)

  -- the relay step
  pub relay_on : (p out : List ℕ) → relay_numbers l p out ≡ relay_call c p out
  unfolding relay_numbers
  relay_on p out = on (λ r. relay_call r p out)

  pub relay_given : {p out : List ℕ} {n : ℕ} {out' : List ℕ} → RelayLeaves l p out n out' → (o : Outcome) × RelayGives c p out o out' × (outcome_code o ≡ n)
  relay_given {p} {out} g =
      let k = leaves_is (relay_on p out) g in
      (outcome_of (relay_call c p out), record { outcome = refl; outlet = k.lent }, sym k.number)

  -- a step on the record alone: open, activate, cancel, remove
  pub open_on : (after : Bool) (named fresh : ℕ) → open_numbers l (side_kind after) named fresh ≡ open_call c after named fresh
  unfolding open_numbers
  open_on false named fresh = pass_guard _ _ _ refl ∙ on (λ r. open_call r false named fresh)
  open_on true named fresh = pass_guard _ _ _ refl ∙ on (λ r. open_call r true named fresh)

  pub activate_on : activate_numbers l ≡ activate_call c
  unfolding activate_numbers
  activate_on = on activate_call

  pub cancel_on : cancel_numbers l ≡ cancel_call c
  unfolding cancel_numbers
  cancel_on = on cancel_call

  pub remove_on : (id : ℕ) → remove_numbers l id ≡ remove_call c id
  unfolding remove_numbers
  remove_on id = on (λ r. remove_call r id)

  pub chain_given : {o p : Out Chain} {n : ℕ} {l' : List ℕ} → p ≡ o → Leaves number_of numbers_of p n l l' → ChainGives c o n (left c (λ r. r) o) × (l' ≡ left l numbers_of o)
  chain_given is g = let k = leaves_is is g in (record { number = k.number; chain = refl }, k.lent)

  -- fence, copy, enter
  pub fence_on : (t : List ℕ) → fence_numbers l t ≡ fence_call c t
  unfolding fence_numbers
  fence_on t = on (λ r. fence_call r t)

  pub fence_given : {t : List ℕ} {n : ℕ} {l' t' : List ℕ} → FenceLeaves l t n l' t' → FenceGives c t n (left c (λ r. r) (fence_call c t)) t' × (l' ≡ left l numbers_of (fence_call c t))
  fence_given {t} g =
      let k = leaves_is (fence_on t) g in
      let (numbers, table) = each_left (fence_call c t) k in
      (record { number = k.number; chain = refl; table = table ∙ ap (λ (r : Chain). left t (λ _. fence_bytes r.wiring t) (fence_call c t)) stands_for }, numbers)

  pub copy_on : (i : ℕ) (named fresh : List ℕ) → copy_numbers l i named fresh ≡ copy_call c i named fresh
  unfolding copy_numbers
  copy_on i named fresh = on (λ r. copy_call r i named fresh)

  pub copy_given : {i : ℕ} {named fresh : List ℕ} {n : ℕ} {l' fresh' : List ℕ} → CopyLeaves l i named fresh n l' fresh'
      → CopyGives c i named fresh n (left c (λ r. r) (copy_call c i named fresh)) fresh' × (l' ≡ left l numbers_of (copy_call c i named fresh))
  copy_given {i} {named} {fresh} g =
      let k = leaves_is (copy_on i named fresh) g in
      let (numbers, table) = each_left (copy_call c i named fresh) k in
      (record { number = k.number; chain = refl; table = table }, numbers)

  pub enter_on : (t : List ℕ) (id : ℕ) (key : List ℕ) → enter_numbers l t id key ≡ enter_call c t id key
  unfolding enter_numbers
  enter_on t id key = on (λ r. enter_call r t id key)

  pub enter_given : {t : List ℕ} {id : ℕ} {key : List ℕ} {n : ℕ} {t' : List ℕ} → EnterLeaves l t id key n t' → EnterGives c t id key n t'
  enter_given {t} {id} {key} g = let k = leaves_is (enter_on t id key) g in record { number = k.number; table = k.lent }

-- open with a kind that is none
misopened : {l : List ℕ} (kind named fresh : ℕ) {n : ℕ} {l' : List ℕ} → (Kind kind → ⊥) → OpenLeaves l kind named fresh n l' → l' ≡ l
unfolding open_numbers
misopened kind named fresh none g = (leaves_is (stop_guard _ _ _ (reflects_yes (reflect_not (reflect_or (reflect_eqb kind kind_before) (reflect_eqb kind kind_after))) none)) g).lent

-- document 01's number of an outcome that a number tells
pub code_number : (o : Outcome) → Told o → relay_number (outcome_code o) ≡ outcome_number o
code_number (ok (ToNode j)) t = pick_false _ _ _ (le-ltb (client_code + j) client_code (omega arith))
code_number (ok ToClient) t = pick_false _ _ _ refl
code_number (refuse n) t = pick_true _ _ _ (lt-ltb n client_code t)

-- ---- a caller of the exports

-- it is a caller of the calls, and its numbers stand for the record
abbrev pub Holds : List ℕ → StateB → Type 0
Holds l s = Caller s × (record_of l ≡ ok s.chain)

-- numbers are stored that stand for the record of a caller
stored : (put : Chain → StateB) → ((r : Chain) → (put r).chain ≡ r) → (l : List ℕ) (r : Chain) → (SoundChain r → record_of l ≡ ok r) → Caller (put r) → Holds l (put (chain_of l))
stored put is l r f k =
    let e = f (subst SoundChain (is r) (bridge (caller_reaches k)).0.chain) in
    let z = stands_for l r e in
    (subst (λ (r : Chain). Caller (put r)) (sym z) k, e ∙ ap ok (sym z ∙ sym (is (chain_of l))))

-- ---- the start

abbrev with_chain : StateB → Chain → StateB
with_chain s r = record { chain = r; table = s.table; halted = s.halted; packets = s.packets; trace = s.trace; origin = s.origin }

module _ {l : List ℕ} {s : StateB} (z : ExportStart l s) where
  abbrev first : Chain
  first = start_of z.ids z.count

  made : start_numbers z.room z.ids z.count ≡ ok first
  unfolding start_numbers
  made =
      let (c, is) = done_at_0 (start_numbers_rows z.room z.ids z.count) (start_numbers z.room z.ids z.count) (start_numbers_lem z.room z.ids z.count) (sym z.numbers.number) in
      is ∙ sym (past _ _ _ _ is).1

  fits_chain : (ltb most_nodes (length z.ids) ≡ false) × (chain_ok first ≡ true)
  unfolding start_numbers
  fits_chain =
      let e = (or_false (not (eqb (length z.room) record_size)) _ (past _ _ _ _ made).0).1 in
      let (a, b) = or_false (ltb most_nodes (length z.ids)) _ e in
      (a, not-false _ b)

  ids_are : members first ≡ z.ids
  unfolding start_chain places_of
  ids_are =
      let few = ltb-false most_nodes (length z.ids) fits_chain.0 in
      take-take (length z.ids) most_nodes (z.ids ++ replicate most_nodes 0) (omega arith) ∙ take-append_seam z.ids (replicate most_nodes 0)

  starts : StartB (with_chain s first)
  unfolding start_call
  starts = record {
    length = length z.ids;
    places = places_of z.ids;
    count = z.count;
    chain = pass_guard _ _ _ (ap not fits_chain.1);
    nodes = λ j m.
        let some : j ≡ 0 → ⊥ = (λ e. ((reflect_chain first).0 fits_chain.1).nonzero (subst (λ (i : ℕ). Mem i (members first)) e m)) in
        (omega arith, z.fit j (subst (Mem j) ids_are m));
    blank = λ j i. (blank_event (z.blank j i).1).blank refl;
    awake = z.awake;
    quiet = z.quiet;
    fresh = z.fresh;
    unwritten = z.unwritten;
  }

  begun : Holds l s
  begun =
      subst (λ (r : Chain). Holds l (with_chain s r)) z.chain
      (stored (with_chain s) (λ r. refl) l first (λ g. ap record_of (z.numbers.lent ∙ ap (left z.room numbers_of) made) ∙ record_read first (sized first g)) (begins starts))

-- ---- every export

module _ (l : List ℕ) (s : StateB) (h : record_of l ≡ ok s.chain) where
  -- what it leaves is stored, of the record its numbers
  gives : (put : Chain → StateB) → ((r : Chain) → (put r).chain ≡ r) → (o : Out Chain) {l' : List ℕ} → l' ≡ left l numbers_of o → Caller (put (left s.chain (λ r. r) o)) → Holds l' (put (chain_of l'))
  gives put is o {l'} e k = stored put is l' _ (left_stands l s.chain h o e) k

  ruled : (put : Chain → StateB) → ((r : Chain) → (put r).chain ≡ r) → {o p : Out Chain} {n : ℕ} {l' : List ℕ} → p ≡ o → Leaves number_of numbers_of p n l l'
      → (ChainGives s.chain o n (left s.chain (λ r. r) o) → Caller (put (left s.chain (λ r. r) o))) → Holds l' (put (chain_of l'))
  ruled put is {o} e g f = let (k, numbers) = chain_given l s.chain h e g in gives put is o numbers (f k)

  -- of the relay's number document 01's
  relayed : (e : EventB) {p out : List ℕ} {n : ℕ} {out' : List ℕ} → RelayLeaves l p out n out'
      → ((o : Outcome) → RelayGives s.chain p out o out' → Caller (after_relay e s (outcome_number o) out')) → Holds l (after_relay e s (relay_number n) out')
  relayed e {p} {out} {out' = out'} g f =
      let (o, k, is) = relay_given l s.chain h g in
      let told : Told o = subst Told (sym k.outcome) (relay_told s.chain p out) in
      (subst (λ (m : ℕ). Caller (after_relay e s m out')) (sym (code_number o told) ∙ ap relay_number is) (f o k), h)

pub export_caller_is : {l : List ℕ} {s : StateB} → ExportCaller l s → Holds l s
unfolding exec_b
export_caller_is (ExportCaller.begins z) = begun z
export_caller_is (ExportCaller.asks {l = l} {s = s} x p out en n out' g) = let (c, h) = export_caller_is x in relayed l s h (asking p out) g (λ o k. asks c p out en o out' k)
export_caller_is (ExportCaller.relays {l = l} {s = s} x p out en n out' g) = let (c, h) = export_caller_is x in relayed l s h (relaying p out) g (λ o k. relays c p out en o out' k)
export_caller_is (ExportCaller.steps x j p out en n t' out' g) = let (c, h) = export_caller_is x in (steps c j p out en n t' out' g, h)
export_caller_is (ExportCaller.opens {l = l} {s = s} x after named fresh en n l' g t t' b k) =
    let (c, h) = export_caller_is x in
    let blank = subst (λ (r : Chain). n ≡ 0 → BlankGives t fresh r.count 0 t') (stands_for l s.chain h) b in
    ruled l s h (λ r. after_control_at (opening after named fresh) s n r fresh t') (λ r. refl) (open_on l s.chain h after named fresh) g (λ v. opens c after named fresh en n _ v t t' blank k)
export_caller_is (ExportCaller.misopens {s = s} x kind named fresh none n l' g) = subst (λ (l : List ℕ). Holds l s) (sym (misopened kind named fresh none g)) (export_caller_is x)
export_caller_is (ExportCaller.fences {l = l} {s = s} x j en n l' t' g) =
    let (c, h) = export_caller_is x in
    let (k, numbers) = fence_given l s.chain h g in
    gives l s h (λ r. after_control_at (fencing j) s n r j t') (λ r. refl) (fence_call s.chain (s.table j)) numbers (fences c j en n _ t' k)
export_caller_is (ExportCaller.copies {l = l} {s = s} x i a b en n l' t' g) =
    let (c, h) = export_caller_is x in
    let (k, numbers) = copy_given l s.chain h g in
    gives l s h (λ r. after_control_at (copying i a b) s n r b t') (λ r. refl) (copy_call s.chain i (s.table a) (s.table b)) numbers (copies c i a b en n _ t' k)
export_caller_is (ExportCaller.activates {l = l} {s = s} x n l' g) =
    let (c, h) = export_caller_is x in
    ruled l s h (after_control activating s n) (λ r. refl) (activate_on l s.chain h) g (λ k. activates c n _ k)
export_caller_is (ExportCaller.cancels {l = l} {s = s} x n l' g) =
    let (c, h) = export_caller_is x in
    ruled l s h (after_control cancelling s n) (λ r. refl) (cancel_on l s.chain h) g (λ k. cancels c n _ k)
export_caller_is (ExportCaller.removes {l = l} {s = s} x id en n l' g) =
    let (c, h) = export_caller_is x in
    ruled l s h (after_control (removing id) s n) (λ r. refl) (remove_on l s.chain h id) g (λ k. removes c id en n _ k)
export_caller_is (ExportCaller.enters {l = l} {s = s} x j id key en n t' g) = let (c, h) = export_caller_is x in (enters c j id key en n t' (enter_given l s.chain h g), h)
export_caller_is (ExportCaller.halts x j) = let (c, h) = export_caller_is x in (halts c j, h)
