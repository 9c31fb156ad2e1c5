-- How many parcels there can be, and the bench's own numbers of a fault.
use Rattle.std.specs.Prelude.{ℕ}

abbrev pub most_parcels : ℕ
most_parcels = 64

-- the node is halted
abbrev pub halted : ℕ
halted = 23

-- the line is not understood
abbrev pub unclear : ℕ
unclear = 24
