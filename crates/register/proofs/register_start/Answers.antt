-- `register::register_start`: the record of these ids, where there is room for its numbers.
use mathlib.Core.Path.{◌∙◌}
use Rattle.register.proofs.Steps.{start_refused, start_short, start_leaves}
use native.Mathlib.Omega.{arith}
use Rattle.register.proofs.register_start.Goals as goal

pub returns-then-rec-ids : goal.returns-then-rec-ids
returns-then-rec-ids c = start_refused _ _ _ c.if-rec-ids.true c.from.ensures

pub overflow_cast-ids : goal.overflow_cast-ids
overflow_cast-ids c = let h = start_short c.args.rec.now c.args.ids.now 0 c.if-rec-ids.false in omega arith

pub returns : goal.returns
returns c = start_leaves _ _ _ c.if-rec-ids.false c.places_of.ensures (c.number.ensures ∙ c.start-done.ensures.number) c.start-done.ensures.chain c.settle.ensures
