-- The loop's invariant: the ids pass if those that are left do. The measure is how many are left.
use Rattle.std.proofs.Common.{◌≡◌, length}
use Rattle.chain.specs.Ids.{ids_ok}
use Rattle.chain.proofs.ids_ok.Given as goal

abbrev pub invariant-loop-id : goal.invariant-loop-id
invariant-loop-id l = ids_ok l.highest l.fn.ids ≡ ids_ok l.highest l.ids

abbrev pub decreases-loop-id : goal.decreases-loop-id
decreases-loop-id l = length l.ids
