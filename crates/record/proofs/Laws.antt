-- A step on the record alone, by the number of its first row that applies: done where there is none, and refused otherwise.
use Prim.Native.Nat.{ℕ, ◌+◌, ◌-◌, ◌<◌}
use mathlib.Core.Path.{◌≡◌, refl, sym, ap, ◌∙◌}
use mathlib.Core.Bool.{Bool, true, false, not}
use mathlib.Core.List.{List, ◌∷◌}
use native.Mathlib.Omega.{arith}
use lib.Dec.{eqb}
use Rattle.wire.specs.declared.Refusal.{Refusal}
use Rattle.wire.specs.Numbers.{ok, number_of, left, pick, refusal_number, Test, test, broken, judge, first_number}
use Rattle.wire.proofs.Answers.{refusal_some}
use Rattle.wire.proofs.Numbers.{judge_refused, over, judge_done}
use Rattle.wire.specs.declared.Stamp.{Stamp}
use Rattle.wire.specs.declared.Session.{Session}
use Rattle.wire.specs.Version.{next_stamp, next_session}
use Rattle.steps.specs.declared.Change.{Change}
use Rattle.steps.specs.declared.Change.TheVariants.{Still}
use Rattle.steps.specs.declared.Chain.{Chain}
use Rattle.steps.specs.Chain.{chain_ok, joining, most_nodes, members, first_of, place_of, insert_at, remove_at}
use Rattle.steps.proofs.ControlViews.{on_record_lem, joining_rules, activate_view, remove_view}
use Rattle.steps.specs.Control.{ChainGives, on_record, change_for, opened, becomes_first, join_place, join_id, activated, activate_tests, activate_step, removed, remove_tests, remove_step}

-- the rows of a step, the first of which is that the record breaks the rules
abbrev pub rows : Chain → List Test → List Test
rows r l = test broken (not (chain_ok r)) ∷ l

pub done : {x : Chain} (r r' : Chain) (l : List Test) → over l ≡ true → 0 ≡ first_number (rows r l) → x ≡ r' → ChainGives r (on_record r (judge l (ok r'))) 0 x
done r r' l o e x =
    let d = judge_done (rows r l) (ok r') o (sym e) in
    record { number = sym (ap number_of d); chain = x ∙ sym (ap (left r (λ c. c)) d) }

pub refused : {n : ℕ} (e : Refusal) (r r' : Chain) (l : List Test) → refusal_number e ≡ first_number (rows r l) → n ≡ refusal_number e → ChainGives r (on_record r (judge l (ok r'))) n r
refused e r r' l f g =
    let p = refusal_some e in
    let d = judge_refused (rows r l) (ok r') (λ z. omega arith) in
    record { number = g ∙ f ∙ sym (ap number_of d); chain = sym (ap (left r (λ c. c)) d) }

-- ---- what a step that is done makes of the record

pub opens : (r : Chain) (after : Bool) (named fresh : ℕ) {w : Stamp} {ch : Change} → w ≡ next_stamp r.wiring → ch ≡ change_for after (joining named fresh false 0)
    → record { length = r.length; places = r.places; wiring = w; session = r.session; highest = fresh; count = r.count; change = ch } ≡ opened r after named fresh
unfolding opened
opens r after named fresh w ch = cc

pub activates : (r : Chain) {at id : ℕ} {l : List ℕ} {up : Bool} {s : Session} → at ≡ join_place r r.change → id ≡ join_id r.change → l ≡ insert_at r.places at id
    → up ≡ becomes_first r r.change → s ≡ pick up (next_session r.session) r.session
    → record { length = r.length + 1; places = l; wiring = r.wiring; session = s; highest = r.highest; count = r.count; change = Still } ≡ activated r
unfolding activated
activates r at id l up s = cc

pub removes : (r : Chain) (id : ℕ) {at first : ℕ} {l : List ℕ} {s : Session} → at ≡ place_of id (members r) → l ≡ remove_at r.places at
    → first ≡ first_of (members r) → s ≡ pick (eqb id first) (next_session r.session) r.session → r.change ≡ Still
    → record { length = r.length - 1; places = l; wiring = r.wiring; session = s; highest = r.highest; count = r.count; change = r.change } ≡ removed r id
unfolding removed
removes r id at l first s still = cc

-- where a step is done the record keeps its rules: there is room for one more, or one to take out, and no change where a node is removed
pub activate_room : (r : Chain) → 0 ≡ first_number (rows r (activate_tests r)) → r.length < most_nodes
unfolding activate_step
activate_room r e =
    let d : on_record r (activate_step r) ≡ ok (activated r) = judge_done (rows r (activate_tests r)) (ok (activated r)) refl (sym e) in
    let (k, s) = on_record_lem r (activate_step r) (activated r) d in
    (joining_rules r k (activate_view r (activated r) k s).joins).room

pub remove_some : (r : Chain) (id : ℕ) → 0 ≡ first_number (rows r (remove_tests r id)) → (0 < r.length) × (r.change ≡ Still)
unfolding remove_step
remove_some r id e =
    let d : on_record r (remove_step r id) ≡ ok (removed r id) = judge_done (rows r (remove_tests r id)) (ok (removed r id)) refl (sym e) in
    let (k, s) = on_record_lem r (remove_step r id) (removed r id) d in
    (k.some, (remove_view r id (removed r id) k s).still)
