-- Two rules of the ids of a chain, tested in one turn through them.
use Rattle.std.specs.Prelude.{ℕ, Bool, ◌&&◌, List}
use Rattle.steps.specs.Chain.{apart, none_above}

-- distinct, not 0, and none above h
unfoldable pub ids_ok : ℕ → List ℕ → Bool
ids_ok h l = apart l && none_above h l
