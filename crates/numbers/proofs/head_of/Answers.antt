-- `numbers::head_of`: the fields that the numbers stand for, or those of no packet.
use Rattle.std.proofs.Common.{sym, ap, ◌∙◌}
use Rattle.numbers.specs.Fields.{head_or}
use Rattle.numbers.proofs.Fields.{reflect_fields, or_head, or_none}
use Rattle.numbers.proofs.head_of.Goals as goal

pub returns-in_default : goal.returns-in_default
returns-in_default c = sym (or_none _ (λ s. c.in_default.ensures.1 s.size))

pub head_at-requires : goal.head_at-requires
head_at-requires c = (reflect_fields _).0 (sym c.fields_fit.ensures ∙ c.if-fields_fit.true)

pub returns-then-fields_fit : goal.returns-then-fields_fit
returns-then-fields_fit c =
    c.head_at.ensures ∙ sym (or_head _ ((reflect_fields _).0 (sym c.fields_fit.ensures ∙ c.if-fields_fit.true))) ∙ ap head_or c.in-Ok.ensures.1.same

pub returns-else-fields_fit : goal.returns-else-fields_fit
returns-else-fields_fit c = sym (or_none _ ((reflect_fields _).1 (sym c.fields_fit.ensures ∙ c.if-fields_fit.false))) ∙ ap head_or c.in-Ok.ensures.1.same
