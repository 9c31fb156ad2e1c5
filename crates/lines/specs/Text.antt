-- Document 01, "Bench": the column of a line that says where a parcel goes.
use Rattle.std.specs.Prelude.{ℕ, List, [], ◌∷◌, decimal}
use Rattle.lines.specs.declared.output.Place.{Place}
use Rattle.lines.specs.declared.output.Place.TheVariants.{Relay, Client, Node}

-- `r`, `c`, or the id
abbrev pub place_text : Place → List ℕ
place_text Relay = 114 ∷ []
place_text Client = 99 ∷ []
place_text (Node id) = decimal id
