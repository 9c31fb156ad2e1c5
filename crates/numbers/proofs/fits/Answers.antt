-- `numbers::fits`: the tests of all numbers.
use mathlib.Core.Bool.{◌&&◌}
use lib.Dec.{leb}
use Rattle.std.proofs.Common.{ap₂, ◌∙◌, get_or}
use Rattle.numbers.proofs.Record.{fits_is}
use Rattle.numbers.proofs.fits.Goals as goal

pub returns : goal.returns
returns c =
    let l = c.args.l.now in
    ap₂ (λ p q. leb (get_or l 0 0) 255 && (p && (((leb (get_or l 10 0) 65535 && leb (get_or l 11 0) 65535) && leb (get_or l 12 0) 65535) && q))) c.places_fit.ensures c.change_fits.ensures
    ∙ fits_is l c.told-l
