-- `register::register_packet_read`: the fields as numbers, where there is room for just them.
use mathlib.Core.Path.{sym}
use Rattle.register.proofs.Steps.{read_small, read_leaves, read_refused}
use Rattle.register.proofs.register_packet_read.Goals as goal

pub returns-then-fields-ne-FIELDS_SIZE : goal.returns-then-fields-ne-FIELDS_SIZE
returns-then-fields-ne-FIELDS_SIZE c = read_small _ _ c.if-fields-ne-FIELDS_SIZE.true c.from.ensures

pub returns-in-Ok : goal.returns-in-Ok
returns-in-Ok c = read_leaves _ _ c.if-fields-ne-FIELDS_SIZE.false (sym c.in-Ok.ensures) c.give_fields.ensures

pub returns-in-Err : goal.returns-in-Err
returns-in-Err c = read_refused _ _ c.if-fields-ne-FIELDS_SIZE.false (sym c.in-Err.ensures) c.from-in-Err.ensures
