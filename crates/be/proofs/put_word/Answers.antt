-- `be::put_word` meets its contract: the bytes of the number that eight bytes stand for are those bytes.
use mathlib.Core.Path.{◌∙◌}
use Rattle.std.proofs.Common.{◌+◌, ap, arith}
use Rattle.be.specs.Be.{digits, put, Bytes}
use Rattle.be.proofs.Laws.{digits_be}
use Rattle.be.proofs.put_word.Goals as goal

pub returns : goal.returns
returns c =
    let s = c.args in
    let b : Bytes s.src.now = λ i h. omega (arith, c.type_inv.src i) in
    c.put.ensures ∙ ap (put s.s.now (s.at + s.i)) (ap (digits 8) c.read.ensures ∙ digits_be 8 s.src.now s.i b (omega arith))
