-- `chain::next` meets its contract.
use Rattle.std.proofs.Common.{◌≤◌, arith}
use Rattle.steps.specs.Chain.{place_of}
use Rattle.chain.proofs.Ids.{place_low}
use Rattle.chain.proofs.next.Goals as goal

pub overflow_add-seek : goal.overflow_add-seek
overflow_add-seek c =
    let s = c.args in
    let low : place_of s.id c.used-ids.result.now ≤ s.c.length = rw c.used-ids.ensures (place_low s.id s.c.length s.c.places) in
    omega arith
