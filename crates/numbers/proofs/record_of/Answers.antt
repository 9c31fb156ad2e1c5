-- `numbers::record_of`: the record that the numbers stand for, or the one that breaks the rules.
use Rattle.std.proofs.Common.{sym, ap, ◌∙◌}
use Rattle.numbers.specs.Record.{record_or}
use Rattle.numbers.proofs.Record.{reflect_stands, or_record, or_none}
use Rattle.numbers.proofs.record_of.Goals as goal

pub returns-in_default : goal.returns-in_default
returns-in_default c = sym (or_none _ (λ s. c.in_default.ensures.1 s.size))

pub chain_at-requires : goal.chain_at-requires
chain_at-requires c = (reflect_stands _).0 (sym c.fits.ensures ∙ c.if-fits.true)

pub returns-then-fits : goal.returns-then-fits
returns-then-fits c =
    c.chain_at.ensures ∙ sym (or_record _ ((reflect_stands _).0 (sym c.fits.ensures ∙ c.if-fits.true))) ∙ ap record_or c.in-Ok.ensures.1.same

pub returns-else-fits : goal.returns-else-fits
returns-else-fits c = sym (or_none _ ((reflect_stands _).1 (sym c.fits.ensures ∙ c.if-fits.false))) ∙ ap record_or c.in-Ok.ensures.1.same
