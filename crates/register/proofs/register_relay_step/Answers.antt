-- `register::register_relay_step`: the step on the record that the numbers stand for.
use mathlib.Core.Path.{ap, ◌∙◌}
use Rattle.numbers.specs.Answers.{outcome_code}
use Rattle.numbers.proofs.Answers.{numbered_said}
use Rattle.register.proofs.Steps.{relay_leaves}
use Rattle.register.proofs.register_relay_step.Goals as goal

pub returns : goal.returns
returns c = relay_leaves _ c.record_of.ensures c.step-o.ensures (c.outcome.ensures ∙ ap outcome_code (numbered_said c.step-o.result _ c.map_err.ensures.cases))
