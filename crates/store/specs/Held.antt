-- What a table holds of one key: its version and its content.
use Rattle.std.specs.Prelude.{ℕ, List, [], ◌∷◌, eqb}
use Rattle.wire.specs.Numbers.{pick}
use Rattle.wire.specs.Version.{zero_version}
use Rattle.wire.specs.declared.Version.{Version}
use Rattle.store.specs.Table.{Slot, has, valued, deleted}

pub data Held : Type 0 where
  missing : Held
  holds : Slot → Held

-- the lowest used slot that has the key
unfoldable pub held : List ℕ → List Slot → Held
held k [] = missing
held k (s ∷ l) = pick (has k s) (holds s) (held k l)

-- what stands under a numbered version: a written value, or a deletion
pub data Content : Type 0 where
  nothing : Content
  wrote : List ℕ → Content
  gone : Content

unfoldable pub content_of : Slot → Content
content_of s = pick (eqb s.state valued) (wrote s.value) (pick (eqb s.state deleted) gone nothing)

-- a missing key counts as 0.0
abbrev pub held_version : Held → Version
held_version missing = zero_version
held_version (holds s) = s.version

abbrev pub held_content : Held → Content
held_content missing = nothing
held_content (holds s) = content_of s

abbrev pub version_at : List ℕ → List Slot → Version
version_at k l = held_version (held k l)

abbrev pub content_at : List ℕ → List Slot → Content
content_at k l = held_content (held k l)
