-- Answers that are enums, each as one number, as they cross to C.
use Rattle.std.specs.Prelude.{ℕ, ◌+◌, ltb, Option, Some, None, Result, Ok, Err}
use Rattle.wire.specs.Numbers.{Out, refuse, ok, pick}
use Rattle.steps.specs.Relay.{Outcome}
use Rattle.steps.specs.declared.Destination.TheVariants.{ToNode, ToClient}

-- what an answer says that gives its refusal as a number, any number
abbrev pub numbered : {A : Type 0} → Result A ℕ → Out A
numbered (Ok a) = ok a
numbered (Err n) = refuse n

-- sent to the client; sent to a node is this and its id, dropped is the refusal
abbrev pub client_code : ℕ
client_code = 65536

abbrev pub outcome_code : Outcome → ℕ
outcome_code (ok (ToNode j)) = client_code + j
outcome_code (ok ToClient) = client_code
outcome_code (refuse n) = n

-- no slot below this number has the key
abbrev pub no_slot : ℕ
no_slot = 65536

abbrev pub found_code : Option ℕ → ℕ
found_code (Some i) = pick (ltb i no_slot) i no_slot
found_code None = no_slot
