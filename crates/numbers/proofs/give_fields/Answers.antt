-- `numbers::give_fields`: all of the fields where there is room for just them, or none.
use Rattle.std.proofs.Common.{sym, rules}
use Rattle.numbers.proofs.Fields.{given, not_given}
use Rattle.numbers.proofs.give_fields.Goals as goal

pub returns-then-f-eq-FIELDS_SIZE : goal.returns-then-f-eq-FIELDS_SIZE
returns-then-f-eq-FIELDS_SIZE c = let e = given c.args.f.now c.args.h c.if-f-eq-FIELDS_SIZE.true in search rules

pub returns-else-f-eq-FIELDS_SIZE : goal.returns-else-f-eq-FIELDS_SIZE
returns-else-f-eq-FIELDS_SIZE c = sym (not_given _ _ c.if-f-eq-FIELDS_SIZE.false)
