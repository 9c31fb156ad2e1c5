-- `table::good` meets its contract: a frame in order has room for its rows.
use Rattle.std.proofs.Common.{ℕ, rules, Bool, ◌≡◌, ◌&&◌, sym, ap, ◌∙◌, arith}
use Rattle.std.proofs.lemmas.Iterator.{YieldsList-from_slice}
use Rattle.std.proofs.lemmas.Iterator.Search.{all_from_yields_List}
use Rattle.std.specs.List.{list_all}
use Rattle.store.proofs.Rules.{reflect_frame}
use Rattle.store.specs.Table.{count_of, row_ok, rows_ok, table_ok, whole_slots}
use Rattle.table.proofs.Laws.{rows_all}
use Rattle.table.proofs.good.Goals as goal

pub returns-then-frame_ok : goal.returns-then-frame_ok
unfolding table_ok
returns-then-frame_ok c =
    let t = c.args.t.now in
    let e = sym c.frame_ok.ensures ∙ c.if-frame_ok.true in
    let n : whole_slots t ≡ count_of t = let s = ((reflect_frame t).0 e).size in omega arith in
    all_from_yields_List row_ok _ _ _ c.all.ensures.ran (YieldsList-from_slice c.rows.result.now cc) (λ x b q k. search rules)
    ∙ ap (list_all row_ok) c.rows.ensures.value
    ∙ rows_all t
    ∙ ap (λ (k : ℕ). rows_ok k 0 t) n
    ∙ sym (ap (λ (b : Bool). b && rows_ok (count_of t) 0 t) e)

pub returns-else-frame_ok : goal.returns-else-frame_ok
unfolding table_ok
returns-else-frame_ok c =
    let t = c.args.t.now in
    c.if-frame_ok.false ∙ sym (ap (λ (b : Bool). b && rows_ok (count_of t) 0 t) (sym c.frame_ok.ensures ∙ c.if-frame_ok.false))
