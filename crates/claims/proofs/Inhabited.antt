-- What the headline theorems speak of is there: starts, and the events that may happen in every state.
use Prim.Native.Nat.{ℕ}
use mathlib.Core.Path.{◌≡◌, refl}
use mathlib.Core.List.{List, [], Memᴰ as Mem}
use mathlib.Core.Bool.{Bool, true, false}
use lib.ListN.{length}
use Rattle.be.specs.Be.{Bytes}
use Rattle.wire.specs.Numbers.{ok}
use Rattle.wire.specs.Packet.{head_of, Formed, key_size}
use Rattle.store.specs.Table.{blank_bytes}
use Rattle.steps.specs.declared.Chain.{Chain}
use Rattle.steps.specs.Chain.{members, start_call}
use Rattle.claims.specs.Bytes.{IsNode, asking, relaying, stepping, opening, fencing, copying, activating, cancelling, removing, entering, halting, StateB, EnabledB, StartB}

-- ---- starts: of every record that a start gives

abbrev pub start_state : Chain → ℕ → StateB
start_state c count = record {
  chain = c;
  table = λ j. blank_bytes j count;
  halted = λ j. false;
  packets = [];
  trace = [];
  origin = [];
}

pub start_there : (n : ℕ) (places : List ℕ) (count : ℕ) (c : Chain) → start_call n places count ≡ ok c → ((j : ℕ) → Mem j (members c) → IsNode j) → StartB (start_state c count)
start_there n places count c e nodes = record {
  length = n;
  places = places;
  count = count;
  chain = e;
  nodes = nodes;
  blank = λ j h. refl;
  awake = λ j. refl;
  quiet = refl;
  fresh = refl;
  unwritten = refl;
}

-- ---- what may happen in every state: all but what a client may not send, what was never made, the steps of halted nodes, and the removal of others

pub may_happen : (s : StateB) (after : Bool) (i j a b : ℕ) (p out key : List ℕ) → IsNode j → IsNode a → IsNode b
    → EnabledB (opening after a b) s × EnabledB (fencing j) s × EnabledB (copying i a b) s × EnabledB activating s × EnabledB cancelling s × EnabledB (halting j) s
    × (Bytes p → (Formed p → (head_of p).from ≡ 0) → EnabledB (asking p out) s)
    × (Mem p s.packets → EnabledB (relaying p out) s)
    × (Mem p s.packets → s.halted j ≡ false → EnabledB (stepping j p out) s)
    × (s.halted j ≡ true → EnabledB (removing j) s)
    × (Bytes key → length key ≡ key_size → EnabledB (entering j i key) s)
may_happen s after i j a b p out key nj na nb =
    (nb.1, nj, (na, nb), tt, tt, tt, λ h e. (h, e), λ m. m, λ m h. (nj, m, h), λ h. h, λ h e. (nj, h, e))
