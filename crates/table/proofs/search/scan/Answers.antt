-- `table::search::scan` meets its contract.
use Rattle.std.proofs.Common.{ℕ, List, Bool, Some, ◌≡◌, ◌+◌, ◌*◌, ◌/◌, ◌<◌, sym, ap, ◌∙◌, rules, arith, length}
use Rattle.std.proofs.lemmas.Iterator.{YieldsList-from_slice}
use Rattle.std.proofs.lemmas.Iterator.Search.{position_from_yields_List}
use Rattle.std.proofs.lemmas.Iterator.Adapters.{position_from-zero}
use Rattle.std.specs.Prelude.{position}
use Rattle.store.specs.Table.{slot_of}
use Rattle.table.specs.Parts.{has_halves, same_half}
use Rattle.table.proofs.Laws.{eight_found, eight_none, rest_first, no_half}
use Rattle.table.proofs.search.scan.Goals as goal

pub loop-i-init : goal.loop-i-init
loop-i-init c = position_from-zero (λ r. has_halves c.args.key.now (slot_of r)) c.args.rows.now

pub returns-in-Some : goal.returns-in-Some
returns-in-Some c =
    let s = c.args in
    let p : List ℕ → Bool = λ r. has_halves s.key.now (slot_of r) in
    let q = position_from_yields_List p _ _ _ c.position.ensures.ran (YieldsList-from_slice _ c.iter.ensures.rest) (λ r b q k. search rules) in
    let i : c.loop-i.i < length s.rows.now / 8 = omega (arith, c.loop-i-test.true, c.as_chunks.ensures.front_len) in
    eight_found p (same_half s.key.now) (no_half s.key.now) s.rows.now c.as_chunks.ensures.front c.loop-i.i i c.near-k.ensures.place c.loop-i.invariant q c.in-Some.is

pub loop-i-preserved : goal.loop-i-preserved
loop-i-preserved c =
    let s = c.args in
    let p : List ℕ → Bool = λ r. has_halves s.key.now (slot_of r) in
    let q = position_from_yields_List p _ _ _ c.position.ensures.ran (YieldsList-from_slice _ c.iter.ensures.rest) (λ r b q k. search rules) in
    let i : c.loop-i.i < length s.rows.now / 8 = omega (arith, c.loop-i-test.true, c.as_chunks.ensures.front_len) in
    eight_none p (same_half s.key.now) (no_half s.key.now) s.rows.now c.as_chunks.ensures.front c.loop-i.i i c.near-k.ensures.place c.loop-i.invariant q c.in_default.is

pub returns-in_err-j : goal.returns-in_err-j
returns-in_err-j c =
    let s = c.args in
    let p : List ℕ → Bool = λ r. has_halves s.key.now (slot_of r) in
    let q = position_from_yields_List p _ _ _ c.position-2.ensures.ran (YieldsList-from_slice _ c.iter-2.ensures.rest) (λ r b q k. search rules) in
    let i : c.loop-i.i ≡ length s.rows.now / 8 = omega (arith, c.loop-i.auto.i-end, c.loop-i-test.false, c.as_chunks.ensures.front_len) in
    c.from_residual.ensures ∙ sym (rest_first p s.rows.now i c.loop-i.invariant (q ∙ ap (position p) c.as_chunks.ensures.back) c.in_err-j.was)

pub returns : goal.returns
returns c =
    let s = c.args in
    let p : List ℕ → Bool = λ r. has_halves s.key.now (slot_of r) in
    let q = position_from_yields_List p _ _ _ c.position-2.ensures.ran (YieldsList-from_slice _ c.iter-2.ensures.rest) (λ r b q k. search rules) in
    let i : c.loop-i.i ≡ length s.rows.now / 8 = omega (arith, c.loop-i.auto.i-end, c.loop-i-test.false, c.as_chunks.ensures.front_len) in
    ap (λ (n : ℕ). Some (8 * n + c.in_ok-j.j)) c.as_chunks.ensures.front_len
    ∙ sym (rest_first p s.rows.now i c.loop-i.invariant (q ∙ ap (position p) c.as_chunks.ensures.back) c.in_ok-j.was)
