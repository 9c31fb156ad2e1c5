-- The value of a packet is no longer than a value may be.
use Prim.Native.Nat.{ℕ, ◌≤◌}
use mathlib.Core.List.{List, []}
use native.Mathlib.Omega.{arith}
use lib.ListN.{length, length-take, length-drop}
use Rattle.wire.specs.Packet.{value_size, head_of, well_formed, value_of, value_part}
use Rattle.wire.proofs.Numbers.{pick_case}
use Rattle.wire.proofs.Packet.{reflect_formed}

pub value_short : (p : List ℕ) → length (value_part p) ≤ value_size
unfolding value_part value_of head_of
value_short p =
    pick_case (λ (l : List ℕ). length l ≤ value_size) (well_formed p) (value_of p) []
    (λ e. let f = ((reflect_formed p).0 e).small in simp (length-take, length-drop) (omega arith))
    (λ e. omega arith)
