-- The loop's invariant: s is as it was but for the first i of src, put.
use Rattle.std.proofs.Common.{◌≡◌, ◌≤◌, length, take}
use Rattle.be.specs.Be.{put}
use Rattle.be.proofs.put_words.Given as goal

abbrev pub invariant-loop-i : goal.invariant-loop-i
invariant-loop-i l = (l.i ≤ length l.src) × (l.s ≡ put l.fn.s l.at (take l.i l.src))
