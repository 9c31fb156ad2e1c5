-- The bounds of a script's lines and words.
use Rattle.std.specs.Prelude.{ℕ}

-- the most bytes of a line
abbrev pub most_line : ℕ
most_line = 64

-- the most bytes of a key or a value
abbrev pub most_text : ℕ
most_text = 16

-- the largest number that a node or a parcel can have
abbrev pub most_number : ℕ
most_number = 64
