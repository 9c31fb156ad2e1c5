-- No second outcome fits the promise of an export, a refusal changes nothing that was lent, and the number of the relay step tells its outcome.
use Prim.Native.Nat.{ℕ, ◌<◌}
use mathlib.Core.Path.{◌≡◌, sym, ◌∙◌, subst}
use mathlib.Core.List.{List}
use mathlib.Core.Logic.{◌⊎◌, inl, inr}
use native.Mathlib.Omega.{arith}
use Rattle.wire.specs.Numbers.{Out, refuse, ok, number_of, left}
use Rattle.wire.specs.Packet.{sent_in}
use Rattle.wire.proofs.Numbers.{left_refused, reflects_cases}
use Rattle.steps.specs.declared.Chain.{Chain}
use Rattle.steps.specs.Relay.{Outcome}
use Rattle.steps.specs.Relay.{Way, node, client, relay_call, packet_sent, outcome_of}
use Rattle.numbers.specs.Record.{chain_of, record_of, Stands}
use Rattle.numbers.specs.Answers.{client_code, outcome_code}
use Rattle.numbers.proofs.Record.{reflect_stands, stands_record, stands_none}
use Rattle.numbers.proofs.Answers.{Told, code_told, relay_told}
use Rattle.register.specs.Boundary.{Leaves, and_then, relay_code, relay_numbers, RelayLeaves}

-- ---- every export whose promise is Leaves

pub once : {A S : Type 0} {code : Out A → ℕ} {make : A → S} {o : Out A} {m n : ℕ} {s s₁ s₂ : S}
    → Leaves code make o m s s₁ → Leaves code make o n s s₂ → (m ≡ n) × (s₁ ≡ s₂)
once g h = (g.number ∙ sym h.number, g.lent ∙ sym h.lent)

pub untouched : {A S : Type 0} {make : A → S} {n : ℕ} {s s' : S} (o : Out A) → Leaves number_of make o n s s' → (n ≡ 0 → ⊥) → s' ≡ s
untouched {A} {S} {make} {n} {s} o g h = g.lent ∙ left_refused o s make g.number h

-- ---- the relay step

module _ (l p out : List ℕ) where
  pub relay_untouched : {n : ℕ} {out' : List ℕ} → RelayLeaves l p out n out' → n < client_code → out' ≡ out
  relay_untouched {n} {out'} g h = go (relay_numbers l p out) g.number g.lent
    where
      go : (o : Out Way) → ◌≡◌ {A = ℕ} n (relay_code o) → out' ≡ left out (λ w. sent_in out (packet_sent w)) o → out' ≡ out
      go (refuse m) e f = f
      go (ok (node j q)) e f = absurd (omega arith)
      go (ok (client q)) e f = absurd (omega arith)

  numbers_told : Told (outcome_of (relay_numbers l p out))
  unfolding relay_numbers
  numbers_told = go (reflects_cases (reflect_stands l))
    where
      go : Stands l ⊎ (Stands l → ⊥) → Told (outcome_of (and_then (record_of l) (λ c. relay_call c p out)))
      go (inl s) = subst (λ (o : Out Chain). Told (outcome_of (and_then o (λ c. relay_call c p out)))) (sym (stands_record l s)) (relay_told (chain_of l) p out)
      go (inr n) = subst (λ (o : Out Chain). Told (outcome_of (and_then o (λ c. relay_call c p out)))) (sym (stands_none l n)) (omega arith)

  -- the number of an outcome comes of that outcome alone
  pub relay_tells : {n : ℕ} {out' : List ℕ} (o : Outcome) → RelayLeaves l p out n out' → Told o → n ≡ outcome_code o → outcome_of (relay_numbers l p out) ≡ o
  relay_tells o g t e = code_told (outcome_of (relay_numbers l p out)) o numbers_told t (sym g.number ∙ e)
