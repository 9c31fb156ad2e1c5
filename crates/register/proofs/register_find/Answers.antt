-- `register::register_find`: the number of the slot found.
use mathlib.Core.Path.{ap, ◌∙◌}
use Rattle.numbers.specs.Answers.{found_code}
use Rattle.register.specs.Boundary.{find_number}
use Rattle.register.proofs.register_find.Goals as goal

pub returns : goal.returns
unfolding find_number
returns c = c.found.ensures ∙ ap found_code c.find.ensures
