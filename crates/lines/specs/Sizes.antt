-- The bounds of what is read and written.
use Rattle.std.specs.Prelude.{ℕ}

-- a line of the input, with one byte that shows it to be too long
abbrev pub line_size : ℕ
line_size = 65

-- the most bytes of one read
abbrev pub read_size : ℕ
read_size = 4096

-- the most digits of a number
abbrev pub most_digits : ℕ
most_digits = 20

-- room for an output line
abbrev pub row_size : ℕ
row_size = 256
