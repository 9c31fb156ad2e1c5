-- The number of an outcome tells which it is, and an outcome with the number of its refusal says the same.
use Prim.Native.Nat.{ℕ, ◌<◌, ◌≤◌}
use mathlib.Core.Path.{◌≡◌, refl, ap, subst}
use mathlib.Core.List.{List, [], ◌∷◌, Memᴰ as Mem}
use mathlib.Core.Bool.{Bool, true, ◌&&◌}
use mathlib.Core.Logic.{inl, inr}
use native.Mathlib.Omega.{arith}
use lib.Dec.{leb}
use borrow.Author.Tests.{leb-true}
use Rattle.std.specs.Prelude.{Result, Ok, Err}
use Rattle.std.specs.Result.{MatchResult, IsErrAnd}
use Rattle.wire.specs.declared.Refusal.{Refusal}
use Rattle.wire.specs.Numbers.{Out, refuse, ok, said, refusal_number, First, Applies, priority, fence_above}
use Rattle.wire.specs.Packet.{Packet, packet_of}
use Rattle.wire.proofs.Numbers.{and_left, and_right, judged_refused}
use Rattle.steps.specs.declared.Chain.{Chain}
use Rattle.steps.specs.Relay.{Outcome}
use Rattle.steps.specs.declared.Destination.TheVariants.{ToNode, ToClient}
use Rattle.steps.specs.Chain.{members, first_of, last_of, next_of, ChainRules}
use Rattle.steps.specs.Relay.{Way, node, client, outcome_of, relay_call, relay_rows}
use Rattle.steps.proofs.ChainIds.{first_mem, last_mem}
use Rattle.steps.proofs.ChainOrder.{next_mem}
use Rattle.steps.proofs.Relay.{some, relay_judged, relay_called}
use Rattle.steps.proofs.RelayView.{RelayCase, new_read, new_write, handed, acknowledged, passed_on, relay_view}
use Rattle.numbers.specs.Answers.{numbered, client_code, outcome_code}

-- an answer with the number of its refusal says the same
pub numbered_said : {A : Type 0} (r : Result A Refusal) (s : Result A ℕ) → MatchResult r (λ a. s ≡ Ok a) (λ e. IsErrAnd s (λ n. n ≡ refusal_number e)) → numbered s ≡ said r
numbered_said (Ok a) s e = ap numbered e
numbered_said (Err r) (Err n) e = ap refuse e
numbered_said (Err r) (Ok a) x = elim x [ ]

-- an outcome that a number tells: a node has an id, and a refusal is below the client's number
abbrev pub Told : Outcome → Type 0
Told (ok (ToNode j)) = 0 < j
Told (ok ToClient) = Unit {0}
Told (refuse n) = n < client_code

pub code_told : (o p : Outcome) → Told o → Told p → outcome_code o ≡ outcome_code p → o ≡ p
code_told (ok (ToNode i)) (ok (ToNode j)) h k e = ap (λ (k : ℕ). ok (ToNode k)) (omega arith)
code_told (ok (ToNode i)) (ok ToClient) h k e = absurd (omega arith)
code_told (ok (ToNode i)) (refuse n) h k e = absurd (omega arith)
code_told (ok ToClient) (ok (ToNode j)) h k e = absurd (omega arith)
code_told (ok ToClient) (ok ToClient) h k e = refl
code_told (ok ToClient) (refuse n) h k e = absurd (omega arith)
code_told (refuse m) (ok (ToNode j)) h k e = absurd (omega arith)
code_told (refuse m) (ok ToClient) h k e = absurd (omega arith)
code_told (refuse m) (refuse n) h k e = ap refuse e

-- ---- every outcome of the relay step is told

abbrev none_over : ℕ → List ℕ → Bool
none_over top [] = true
none_over top (x ∷ l) = leb x top && none_over top l

first_small : (P : ℕ → Type 0) (top : ℕ) (l : List ℕ) (n : ℕ) → none_over top l ≡ true → First P l n → n ≤ top
first_small P top (x ∷ l) n h (inl f) = let p = leb-true x top (and_left (leb x top) (none_over top l) h) in let e = f.0 in omega arith
first_small P top (x ∷ l) n h (inr f) = first_small P top l n (and_right (leb x top) (none_over top l) h) f.1
first_small P top [] n h f = elim f [ ]

node_member : (r : Chain) (p : Packet) (j : ℕ) (q : Packet) → ChainRules r → RelayCase r p (node j q) → Mem j (members r)
node_member r p j q c (new_read k) =
    let g = k.goes in
    let e : last_of (members r) ≡ j = cc in
    subst (λ (i : ℕ). Mem i (members r)) e (last_mem (members r) (some r p c))
node_member r p j q c (new_write k) =
    let g = k.goes in
    let e : first_of (members r) ≡ j = cc in
    subst (λ (i : ℕ). Mem i (members r)) e (first_mem (members r) (some r p c))
node_member r p j q c (passed_on k) =
    let g = k.goes in
    let e : next_of p.head.from (members r) ≡ j = cc in
    subst (λ (i : ℕ). Mem i (members r)) e (next_mem p.head.from (members r) k.sender.member k.inner)
node_member r p j q c (handed k) = let g = k.goes in absurd (let z : ◌≡◌ {A = ℕ} 0 1 = cc in omega arith)
node_member r p j q c (acknowledged k) = let g = k.goes in absurd (let z : ◌≡◌ {A = ℕ} 0 1 = cc in omega arith)

pub relay_told : (r : Chain) (p out : List ℕ) → Told (outcome_of (relay_call r p out))
relay_told r p out = go (relay_call r p out) refl
  where
    go : (o : Out Way) → relay_call r p out ≡ o → Told (outcome_of o)
    go (refuse n) e =
        let h = first_small (Applies (relay_rows r p out)) fence_above priority n refl ((judged_refused (relay_rows r p out) (relay_call r p out) n (relay_judged r p out)).0 e) in
        omega arith
    go (ok (node j q)) e =
        let c = relay_called r p out (node j q) e in
        let m = node_member r (packet_of p) j q c.rules (relay_view r (packet_of p) (node j q) c.step).case in
        let n : j ≡ 0 → ⊥ = λ z. c.rules.nonzero (subst (λ (i : ℕ). Mem i (members r)) z m) in
        omega arith
    go (ok (client q)) e = tt
