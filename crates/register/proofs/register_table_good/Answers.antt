-- `register::register_table_good`: 0 for a table that keeps the rules, 1 for any other.
use mathlib.Core.Path.{sym, ◌∙◌}
use Rattle.register.proofs.Steps.{table_good, table_broken}
use Rattle.register.proofs.register_table_good.Goals as goal

pub returns-then-good : goal.returns-then-good
returns-then-good c = sym (table_good _ (sym c.good.ensures ∙ c.if-good.true))

pub returns-else-good : goal.returns-else-good
returns-else-good c = c.from.ensures ∙ sym (table_broken _ (sym c.good.ensures ∙ c.if-good.false))
