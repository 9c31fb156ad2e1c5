-- Calls of controller steps on a sound record and sound tables: they are the steps over slots, and what they leave is sound.
use Prim.Native.Nat.{ℕ, ◌^◌, ◌<◌}
use mathlib.Core.Path.{◌≡◌, refl, sym, ap, ap₂, ◌∙◌, subst}
use mathlib.Core.Bool.{Bool, ◌||◌, not}
use mathlib.Core.List.{List}
use native.Mathlib.Omega.{arith}
use lib.ListN.{length}
use Rattle.be.specs.Be.{Bytes}
use Rattle.be.proofs.Laws.{bytes_nil}
use Rattle.wire.specs.Numbers.{Out, ok, pick}
use Rattle.wire.specs.Version.{next_session}
use Rattle.wire.specs.Packet.{key_size}
use Rattle.wire.specs.declared.Session.{Session}
use Rattle.wire.proofs.Numbers.{pass_guard, past_all, ok_inj, pick_case, reflects_yes}
use Rattle.wire.proofs.Versions.{next_session_within, next_stamp_within}
use Rattle.store.specs.Table.{Table, table_of, TableRules, count_of, entered_slot, Write, set_row, write_bytes, write_table, fence_bytes, fence_table, blank_bytes, blank_table, never_written}
use Rattle.store.proofs.Find.{free_at}
use Rattle.store.proofs.Rows.{WriteFits, table_write, table_copy, table_fence}
use Rattle.store.proofs.Rules.{slot_used, reflect_table, rules_write, rules_copy, rules_fence, bytes_write, bytes_copy, bytes_fence, length_table}
use Rattle.store.proofs.Blank.{bytes_blank, table_blank, rules_blank}
use Rattle.steps.specs.declared.Chain.{Chain}
use Rattle.steps.specs.Chain.{ChainRules}
use Rattle.steps.specs.Control.{on_record, opened, open_tests, open_step, fence_step, fence_call, copy_step, copy_call, copy_slot, copy_bytes, activated, activate_tests, activate_step, cancel_step, removed, remove_tests, remove_step, enter_step, enter_call}
use Rattle.steps.proofs.ChainRules.{reflect_chain}
use Rattle.steps.proofs.ControlViews.{fence_view, copy_view, cancel_view, enter_view}
use Rattle.steps.proofs.ControlRules.{open_keeps, fence_keeps, copy_keeps, activate_keeps, cancel_keeps, remove_keeps}
use Rattle.steps.proofs.RelaySends.{SoundChain}

-- ---- the call is the step

module _ (r : Chain) (k : ChainRules r) where
  pub record_step : {A : Type 0} (y : Out A) → on_record r y ≡ y
  record_step y = pass_guard _ _ _ (ap not (reflects_yes (reflect_chain r) k))

  pub fence_step_lem : (t : List ℕ) → TableRules t → fence_call r t ≡ fence_step r (table_of t)
  unfolding fence_call
  fence_step_lem t g = pass_guard _ _ _ (ap₂ (λ (a b : Bool). not a || not b) (reflects_yes (reflect_chain r) k) (reflects_yes (reflect_table t) g))

  pub copy_step_lem : (i : ℕ) (named fresh : List ℕ) → TableRules named → TableRules fresh → copy_call r i named fresh ≡ copy_step r i (table_of named) (table_of fresh)
  unfolding copy_call
  copy_step_lem i named fresh g h =
      pass_guard _ _ _
      (ap₂ (λ (a b : Bool). not a || b) (reflects_yes (reflect_chain r) k)
      (ap₂ (λ (a b : Bool). not a || not b) (reflects_yes (reflect_table named) g) (reflects_yes (reflect_table fresh) h)))

  pub enter_step_lem : (t : List ℕ) (id : ℕ) (key : List ℕ) → TableRules t → enter_call r t id key ≡ enter_step r (table_of t) id key
  unfolding enter_call
  enter_step_lem t id key g = pass_guard _ _ _ (ap₂ (λ (a b : Bool). not a || not b) (reflects_yes (reflect_chain r) k) (reflects_yes (reflect_table t) g))

-- ---- what is left of the record

-- a sound record with the same slot count
pub record LeavesChain (r r' : Chain) : Type 0 where
  pub sound : SoundChain r'
  pub count : r'.count ≡ r.count

-- a session raised or not
raised : (b : Bool) (s : Session) → s.0 < 256 ^ 2 → (pick b (next_session s) s).0 < 256 ^ 2
raised b s h = pick_case (λ (x : Session). x.0 < 256 ^ 2) b (next_session s) s (λ _. let w = next_session_within s (omega arith) in omega arith) (λ _. h)

module _ {r : Chain} (g : SoundChain r) where
  leaves : {c r' : Chain} → c ≡ r' → ChainRules r' → c.wiring.0 < 256 ^ 4 → c.session.0 < 256 ^ 2 → c.highest < 256 ^ 2 → c.count ≡ r.count → LeavesChain r r'
  leaves is k w s h n =
      subst (LeavesChain r) is (record { sound = record { rules = subst ChainRules (sym is) k; wiring = w; session = s; highest = h }; count = n })

  pub open_leaves : (after : Bool) (named fresh : ℕ) (r' : Chain) → fresh < 256 ^ 2 → open_step r after named fresh ≡ ok r' → LeavesChain r r'
  unfolding open_step opened
  open_leaves after named fresh r' h e =
      let w = g.wiring in
      leaves (ok_inj (past_all (open_tests r after named fresh) _ r' e).1) (open_keeps r after named fresh r' g.rules e)
      (let n = next_stamp_within r.wiring (omega arith) in omega arith) g.session h refl

  pub fence_leaves_lem : (t : Table) (r' : Chain) → fence_step r t ≡ ok r' → LeavesChain r r'
  fence_leaves_lem t r' e = leaves (sym (fence_view r t r' e).chain) (fence_keeps r t r' g.rules e) g.wiring g.session g.highest refl

  pub copy_leaves_lem : (i : ℕ) (named fresh : Table) (r' : Chain) → copy_step r i named fresh ≡ ok r' → LeavesChain r r'
  copy_leaves_lem i named fresh r' e =
      leaves (sym (copy_view r i named fresh r' g.rules e).chain) (copy_keeps r i named fresh r' g.rules e) g.wiring g.session g.highest refl

  pub activate_leaves : (r' : Chain) → activate_step r ≡ ok r' → LeavesChain r r'
  unfolding activate_step activated
  activate_leaves r' e =
      leaves (ok_inj (past_all (activate_tests r) _ r' e).1) (activate_keeps r r' g.rules e) g.wiring (raised _ r.session g.session) g.highest refl

  pub cancel_leaves : (r' : Chain) → cancel_step r ≡ ok r' → LeavesChain r r'
  cancel_leaves r' e = leaves (sym (cancel_view r r' e).chain) (cancel_keeps r r' g.rules e) g.wiring g.session g.highest refl

  pub remove_leaves : (id : ℕ) (r' : Chain) → remove_step r id ≡ ok r' → LeavesChain r r'
  unfolding remove_step removed
  remove_leaves id r' e =
      leaves (ok_inj (past_all (remove_tests r id) _ r' e).1) (remove_keeps r id r' g.rules e) g.wiring (raised _ r.session g.session) g.highest refl

-- ---- what is left of a table

-- the bytes of a table by the rules, and what it reads as
pub record LeavesTable (t : List ℕ) (d : Table) : Type 0 where
  pub rules : TableRules t
  pub bytes : Bytes t
  pub reads : table_of t ≡ d

pub blank_left : (r : Chain) → ChainRules r → (id : ℕ) → 0 < id → id < 256 ^ 2 → LeavesTable (blank_bytes id r.count) (blank_table id r.count)
blank_left r k id some fits = record {
  rules = rules_blank id r.count some fits k.count_some k.count_few;
  bytes = bytes_blank id r.count;
  reads = table_blank id r.count fits k.count_few;
}

pub fence_left : (r : Chain) → SoundChain r → (t : List ℕ) → TableRules t → Bytes t → LeavesTable (fence_bytes r.wiring t) (fence_table r.wiring (table_of t))
fence_left r c t g b = record { rules = rules_fence r.wiring t g; bytes = bytes_fence r.wiring t b; reads = table_fence r.wiring t g c.wiring }

pub copy_left : (r : Chain) → ChainRules r → (i : ℕ) (named fresh : List ℕ) (r' : Chain) → TableRules named → TableRules fresh → Bytes named → Bytes fresh
    → copy_step r i (table_of named) (table_of fresh) ≡ ok r' → LeavesTable (copy_bytes i named fresh) (write_table (copy_slot i (table_of named)) (table_of fresh))
copy_left r k i named fresh r' gn gf bn bf e =
    let v = copy_view r i (table_of named) (table_of fresh) r' k e in
    let below = v.below in
    let n : count_of named ≡ r.count = sym (length_table named) ∙ v.named_count in
    let f : count_of fresh ≡ r.count = sym (length_table fresh) ∙ v.fresh_count in
    record {
      rules = rules_copy named fresh i gn gf (omega arith) (omega arith);
      bytes = bytes_copy named fresh i bn bf;
      reads = table_copy named fresh i gn gf (omega arith) (omega arith);
    }

pub enter_left : (r : Chain) (t : List ℕ) (id : ℕ) (key : List ℕ) (w : Write) → TableRules t → Bytes t → Bytes key → length key ≡ key_size
    → enter_step r (table_of t) id key ≡ ok w → LeavesTable (write_bytes w t) (write_table w (table_of t))
enter_left r t id key w g b bk h e =
    let v = enter_view r (table_of t) id key w e in
    let below = (free_at (table_of t).slots v.place v.lowest).below in
    let fits : WriteFits (set_row v.place (entered_slot key)) t = (omega (arith, length_table t), record { key = h; value = omega arith; session = omega arith; sequence = omega arith }) in
    subst (λ (x : Write). LeavesTable (write_bytes x t) (write_table x (table_of t))) (sym v.write)
    (record {
      rules = rules_write (set_row v.place (entered_slot key)) t g fits (slot_used h (omega arith) (never_written refl refl refl));
      bytes = bytes_write (set_row v.place (entered_slot key)) t b fits (record { key = bk; state = omega arith; value = bytes_nil });
      reads = table_write (set_row v.place (entered_slot key)) t g fits;
    })
