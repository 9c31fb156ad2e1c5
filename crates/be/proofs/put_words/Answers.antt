-- `be::put_words` meets its contract: the loop ends before its test, or after the word whose next would stand behind the last.
use native.Mathlib.Nat.{le_refl}
use Rattle.std.proofs.Common.{◌≡◌, ◌+◌, ◌-◌, ◌≤◌, length, take, sym, ◌∙◌, arith}
use Rattle.be.specs.Be.{put}
use Rattle.be.proofs.Laws.{put_nil, put_piece, put_last}
use Rattle.be.proofs.put_words.Goals.{else-loop-i-test, then-loop-i-test+else-last-i-gt8}
use Rattle.be.proofs.put_words.Goals as goal

pub loop-i-init : goal.loop-i-init
loop-i-init c = (omega arith, sym (put_nil c.args.s.now c.args.at))

pub loop-i-preserved : goal.loop-i-preserved
loop-i-preserved c =
    let s = c.args in
    let i = c.loop-i.i in
    let room : i + 8 ≤ length s.src.now = omega arith in
    (room, put_piece s.s.now s.at s.src.now c.loop-i.s i i 8 (le_refl i) (omega arith) room c.requires.0 c.loop-i.invariant.1 c.put_word.ensures)

pub returns : goal.returns
returns c =
    let s = c.args in
    let src = s.src.now in
    let last = length src - 8 in
    let i = c.loop-i.i in
    elim c.loop-i-test.branch [
      | else-loop-i-test w ↦
          put_last s.s.now s.at src c.loop-i-test.s i last 8 (omega (arith, w.loop-i-test)) (omega arith) (omega arith) c.requires.0 (w.s-is ∙ c.loop-i.invariant.1) c.put_word-2.ensures
      | then-loop-i-test+else-last-i-gt8 w ↦
          let room : i + 8 ≤ length src = omega (arith, w.loop-i-test) in
          let e : c.loop-i-test.s ≡ put s.s.now s.at (take (i + 8) src) = w.s-is ∙ put_piece s.s.now s.at src c.loop-i.s i i 8 (le_refl i) (omega arith) room c.requires.0 c.loop-i.invariant.1 w.put_word.ensures in
          put_last s.s.now s.at src c.loop-i-test.s (i + 8) last 8 (omega (arith, w.loop-i-test)) (omega arith) (omega arith) c.requires.0 e c.put_word-2.ensures
    ]
