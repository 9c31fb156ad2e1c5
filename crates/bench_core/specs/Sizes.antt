-- The bench's bounds.
use Rattle.std.specs.Prelude.{ℕ}

abbrev pub most_nodes : ℕ
most_nodes = 8
