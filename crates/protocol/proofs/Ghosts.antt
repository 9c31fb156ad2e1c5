-- The ghosts of a node step and of a relay step, by what was delivered and made.
use Prim.Native.Nat.{ℕ}
use mathlib.Core.Path.{◌≡◌, refl, ap, ◌∙◌}
use mathlib.Core.Bool.{Bool, true, false, ◌&&◌}
use mathlib.Core.List.Memᴰ.{head as here}
use mathlib.Core.List.Memᴰ.{tail as there}
use mathlib.Core.List.{List, [], ◌∷◌, Memᴰ as Mem}
use native.Mathlib.Omega.{arith}
use lib.Dec.{eqb}
use borrow.Author.Tests.{eq-eqb, ne_eqb}
use Rattle.wire.specs.Packet.{Packet, query, op_read, answer_written}
use Rattle.wire.specs.declared.Version.{Version}
use Rattle.wire.proofs.Numbers.{pick_true, pick_false, and_both}
use Rattle.steps.specs.Node.{Numbered, Unnumbered}
use Rattle.protocol.specs.System.{Ghost, numbered, acked, shown, carried, node_ghosts, relay_ghosts}

pub and_no : (a : Bool) {b : Bool} → b ≡ false → (a && b) ≡ false
and_no true e = e
and_no false e = refl

-- ghosts of different kinds are apart
abbrev pub kind : Ghost → ℕ
kind (numbered k v c j b p) = 0
kind (acked k v p) = 1
kind (shown k v p) = 2

pub other_kind : {g h : Ghost} {l : List Ghost} → (kind g ≡ kind h → ⊥) → Mem g (h ∷ l) → Mem g l
other_kind n (here e) = absurd (n (ap kind e))
other_kind n (there m) = m

-- at a node
module _ (j : ℕ) (p q : Packet) (l : List Packet) (b : Version) where
  pub ghosts_read : p.head.op ≡ op_read → node_ghosts j p b (q ∷ l) ≡ shown q.key q.head.version q ∷ []
  ghosts_read e = pick_true _ _ _ (eq-eqb _ _ e)

  pub ghosts_given : Unnumbered p → q.head.answer ≡ query → node_ghosts j p b (q ∷ l) ≡ numbered q.key q.head.version (carried q) j b p ∷ []
  ghosts_given u e =
      pick_false _ _ _ (ne_eqb _ _ u.0)
      ∙ pick_true _ _ _ (and_both (eqb q.head.answer query) (eqb p.head.version.sequence.0 0) (eq-eqb _ _ e) (eq-eqb _ _ u.1))

  pub ghosts_taken : Numbered p → node_ghosts j p b (q ∷ l) ≡ []
  ghosts_taken n = pick_false _ _ _ (ne_eqb _ _ n.0) ∙ pick_false _ _ _ (and_no (eqb q.head.answer query) (ne_eqb p.head.version.sequence.0 0 n.1))

  pub ghosts_lacking : Unnumbered p → (q.head.answer ≡ query → ⊥) → node_ghosts j p b (q ∷ l) ≡ []
  ghosts_lacking u n =
      pick_false _ _ _ (ne_eqb _ _ u.0)
      ∙ pick_false _ _ _ (ap (λ (x : Bool). x && eqb p.head.version.sequence.0 0) (ne_eqb q.head.answer query n))

-- at the relay
module _ (p q : Packet) (l : List Packet) where
  pub ghosts_acked : p.head.answer ≡ query → q.head.answer ≡ answer_written → relay_ghosts p (q ∷ l) ≡ acked q.key q.head.version q ∷ []
  ghosts_acked e f = pick_true _ _ _ (and_both (eqb p.head.answer query) (eqb q.head.answer answer_written) (eq-eqb _ _ e) (eq-eqb _ _ f))

  pub ghosts_handed : (p.head.answer ≡ query → ⊥) → relay_ghosts p (q ∷ l) ≡ []
  ghosts_handed n = pick_false _ _ _ (ap (λ (b : Bool). b && eqb q.head.answer answer_written) (ne_eqb p.head.answer query n))

  pub ghosts_sent : q.head.answer ≡ query → relay_ghosts p (q ∷ l) ≡ []
  ghosts_sent e = pick_false _ _ _ (and_no (eqb p.head.answer query) (ne_eqb q.head.answer answer_written (omega arith)))
