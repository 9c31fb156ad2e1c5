-- Each public call asks nothing of its caller, and no second outcome fits its contract: two that do, for the same arguments, are equal.
use Prim.Native.Nat.{ℕ}
use mathlib.Core.Path.{◌≡◌, sym, ap, ◌∙◌}
use mathlib.Core.List.{List}
use Rattle.be.specs.Promise.{Exact}
use Rattle.be.proofs.Promise.{equation, exact, pair}
use Rattle.wire.specs.Packet.{Packet, read_call, write_call, key_part, value_part, key_of as the_key, value_of as the_value, WriteGives}
use Rattle.std.specs.Prelude.{Result}
use Rattle.wire.specs.Numbers.{number_of, said, code}
use Rattle.wire.specs.declared.Head.{Head}
use Rattle.wire.specs.declared.Refusal.{Refusal}
use Rattle.wire.proofs.Answers.{code_said, done_number, said_once}
use Rattle.packet.specs.Emit.{emitted}
use Rattle.packet.proofs.read.Reads as read
use Rattle.packet.proofs.key_of.Reads as key_of
use Rattle.packet.proofs.value_of.Reads as value_of
use Rattle.packet.proofs.key.Reads as key
use Rattle.packet.proofs.value.Reads as value
use Rattle.packet.proofs.emit.Reads as emit
use Rattle.packet.proofs.write.Reads as write

pub read_exact : Exact read.Asked read.Learnt (λ r e. r)
read_exact = exact (λ _ _ r s _ _ p q. said_once r s (p ∙ sym q))

pub key_of_exact : Exact key_of.Asked key_of.Learnt (λ r e. r.now)
key_of_exact = equation

pub value_of_exact : Exact value_of.Asked value_of.Learnt (λ r e. r.now)
value_of_exact = equation

pub key_exact : Exact key.Asked key.Learnt (λ r e. r.now)
key_exact = equation

pub value_exact : Exact value.Asked value.Learnt (λ r e. r.now)
value_exact = equation

pub emit_exact : Exact emit.Asked emit.Learnt (λ r e. e.0.now)
emit_exact = equation

pub write_exact : Exact {O = Result (Unit {0}) Refusal × List ℕ} write.Asked write.Learnt (λ r e. (r, e.0.now))
write_exact = exact (λ _ _ r s _ _ p q. pair (said_once r s (p.answer ∙ sym q.answer), p.outlet ∙ sym q.outlet))

-- ---- the same with no call: no second outcome fits what a contract says

pub read_once : (p : List ℕ) (r s : Result Head Refusal) → said r ≡ read_call p → said s ≡ read_call p → r ≡ s
read_once p r s e f = said_once r s (e ∙ sym f)

pub key_once : (p k l : List ℕ) → k ≡ key_part p → l ≡ key_part p → k ≡ l
key_once p k l e f = e ∙ sym f

pub value_once : (p v w : List ℕ) → v ≡ value_part p → w ≡ value_part p → v ≡ w
value_once p v w e f = e ∙ sym f

pub key_of_once : (p k l : List ℕ) → k ≡ the_key p → l ≡ the_key p → k ≡ l
key_of_once p k l e f = e ∙ sym f

pub value_of_once : (p v w : List ℕ) → v ≡ the_value p → w ≡ the_value p → v ≡ w
value_of_once p v w e f = e ∙ sym f

pub emit_once : (out a b : List ℕ) (p : Packet) → a ≡ emitted out p → b ≡ emitted out p → a ≡ b
emit_once out a b p e f = e ∙ sym f

pub write_once : (out a b : List ℕ) (p : Packet) (w x : Result (Unit {0}) Refusal) → WriteGives out p (said w) a → WriteGives out p (said x) b → (w ≡ x) × (a ≡ b)
write_once out a b p w x g h = (said_once w x (g.answer ∙ sym h.answer), g.outlet ∙ sym h.outlet)

-- ---- document 01's number of each answer is the number of the call

pub reading_number_lem : (p : List ℕ) (r : Result Head Refusal) → said r ≡ read_call p → code r ≡ number_of (read_call p)
reading_number_lem p r e = code_said r ∙ ap number_of e

pub writing_number_lem : {out a : List ℕ} {p : Packet} (w : Result (Unit {0}) Refusal) → WriteGives out p (said w) a → code w ≡ number_of (write_call out p)
writing_number_lem {out} {a} {p} w g = code_said w ∙ ap number_of g.answer ∙ done_number (write_call out p)
