-- `numbers::fields_fit`: the tests of all numbers.
use Rattle.numbers.proofs.Fields.{fits_is}
use Rattle.numbers.proofs.fields_fit.Goals as goal

pub returns : goal.returns
returns c = fits_is c.args.f.now c.told-f
