-- `numbers::found`: the number of the slot.
use Rattle.std.proofs.Common.{sym, ap, ◌∙◌, lt-ltb, le-ltb}
use Rattle.wire.proofs.Numbers.{pick_true, pick_false}
use Rattle.numbers.specs.Answers.{found_code}
use Rattle.numbers.proofs.found.Goals as goal

pub returns-in-Some : goal.returns-in-Some
returns-in-Some c = sym (ap found_code c.in-Some.is ∙ pick_true _ _ _ (lt-ltb _ _ c.if-i.true))

pub returns-in_default : goal.returns-in_default
returns-in_default c = sym (ap found_code c.in-Some.is ∙ pick_false _ _ _ (le-ltb _ _ c.if-i.false))
