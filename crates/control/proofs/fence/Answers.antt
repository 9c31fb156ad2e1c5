-- `control::fence` meets its contract.
use Rattle.std.proofs.Common.{ap, rules}
use Rattle.steps.specs.Chain.{with_change}
use Rattle.control.proofs.Tables.{mapped_marked, fence_done, fence_refused}
use Rattle.control.proofs.fence.Goals as goal

pub returns-in_err-fence_rows : goal.returns-in_err-fence_rows
returns-in_err-fence_rows c = fence_refused _ c.args.c.now c.args.table.now c.in_err-fence_rows.ensures (search rules)

pub returns : goal.returns
returns c =
    let r = c.args.c.now in
    fence_done r c.args.table.now c.in_ok-fence_rows.ensures
    (ap (with_change r) (mapped_marked r.change (λ j k p. search rules) c.map_joining-c.ensures))
    c.set_fence.ensures
