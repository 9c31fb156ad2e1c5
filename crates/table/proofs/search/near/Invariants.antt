-- The loop's invariant: k is the place of the first that fits among those done.
use Rattle.std.specs.Slice.Iter.{iter_rest}
use Rattle.std.specs.Iterator.Adapters.{rev_source}
use Rattle.table.specs.Parts.{same_half}
use Rattle.table.proofs.Laws.{Counted}
use Rattle.table.proofs.search.near.Given as goal

abbrev pub invariant-loop-r : goal.invariant-loop-r
invariant-loop-r l = Counted (same_half l.key) l.eight (iter_rest (rev_source l.r-iterator)) l.k
