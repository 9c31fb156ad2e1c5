-- `table::search::near` meets its contract.
use Rattle.std.proofs.Common.{sym, ◌∙◌, arith}
use Rattle.table.specs.Parts.{same_half}
use Rattle.table.proofs.Laws.{counted_none, counted_here, counted_later, counted_all, counted_fits}
use Rattle.table.proofs.search.near.Goals as goal

pub loop-r-init : goal.loop-r-init
loop-r-init c =
    rw (c.into_iter-r-iterator.ensures.into_iter_gives, c.rev-r-items.ensures.source, c.iter.ensures.rest) (counted_none (same_half c.args.key.now) c.args.eight.now)

pub overflow_add-k : goal.overflow_add-k
overflow_add-k c = let f = counted_fits _ _ c.loop-r.invariant c.in-Some.ensures.steps in omega arith

pub loop-r-preserved-then-same64 : goal.loop-r-preserved-then-same64
unfolding same_half
loop-r-preserved-then-same64 c = counted_here _ _ c.loop-r.invariant c.in-Some.ensures.steps (sym c.same64.ensures ∙ c.if-same64.true)

pub loop-r-preserved : goal.loop-r-preserved
unfolding same_half
loop-r-preserved c = counted_later _ _ c.loop-r.invariant c.in-Some.ensures.steps (sym c.same64.ensures ∙ c.if-same64.false)

pub returns : goal.returns
returns c = let r = counted_all _ c.loop-r.invariant c.in-None.ensures.steps.0 in record { place = r.0; most = omega (arith, r.1) }
