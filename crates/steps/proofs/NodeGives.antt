-- What a call of the node step promises: one outcome, nothing changed by a refusal, and one slot written at most.
use Prim.Native.Nat.{ℕ, ◌+◌, ◌<◌, ◌≤◌}
use mathlib.Core.Path.{◌≡◌, refl, sym, ap, ◌∙◌, subst}
use mathlib.Core.List.{List, [], ◌∷◌}
use mathlib.Core.Bool.{Bool, true, ◌&&◌}
use mathlib.Core.Logic.{◌⊎◌, inl, inr}
use native.Mathlib.Omega.{arith}
use lib.ListN.{length, get_or}
use lib.Dec.{ltb}
use borrow.Author.Tests.{ltb-true}
use Rattle.be.specs.Be.{Bytes}
use Rattle.be.proofs.Laws.{length_put, get_or_before, get_or_after}
use Rattle.wire.specs.Numbers.{Out, refuse, ok, number_of, left, Case, First, Applies, Judged, priority}
use Rattle.wire.specs.Packet.{packet_of, sent_in}
use Rattle.wire.proofs.Numbers.{left_refused, and_left, and_right}
use Rattle.store.specs.Table.{table_of, row_of, row_at, row_size, count_of, Write, write_bytes}
use Rattle.store.proofs.Slot.{length_row_of}
use Rattle.store.proofs.Rules.{length_table}
use Rattle.steps.specs.Node.{Sent, node_call, node_rows, NodeGives}
use Rattle.steps.proofs.Node.{node_judged, NodeCalled, node_called}
use Rattle.steps.proofs.NodeSound.{sound_packet, sound_table}
use Rattle.steps.proofs.NodeSends.{Writes, none, one, node_sends}

-- ---- number 0 is no refusal

abbrev over0 : List ℕ → Bool
over0 [] = true
over0 (x ∷ l) = ltb 0 x && over0 l

first_some : (P : ℕ → Type 0) (l : List ℕ) (n : ℕ) → over0 l ≡ true → First P l n → 0 < n
first_some P (x ∷ l) n h (inl f) = let p = ltb-true 0 x (and_left (ltb 0 x) (over0 l) h) in let e = f.0 in omega arith
first_some P (x ∷ l) n h (inr f) = first_some P l n (and_right (ltb 0 x) (over0 l) h) f.1
first_some P [] n h x'' = elim x'' [ ]

pub done_at_0 : {A : Type 0} (cs : List Case) (o : Out A) → Judged cs o → number_of o ≡ 0 → (a : A) × (o ≡ ok a)
done_at_0 cs (refuse n) j e = absurd (let h = first_some (Applies cs) priority n refl j in omega arith)
done_at_0 cs (ok a) j e = (a, refl)

-- ---- the outcome

module _ {t p out : List ℕ} where
  -- no second outcome fits
  pub node_once : {m n : ℕ} {t₁ t₂ out₁ out₂ : List ℕ} → NodeGives t p out m t₁ out₁ → NodeGives t p out n t₂ out₂ → (m ≡ n) × (t₁ ≡ t₂) × (out₁ ≡ out₂)
  node_once g h = (g.number ∙ sym h.number, g.table ∙ sym h.table, g.outlet ∙ sym h.outlet)

  module _ {n : ℕ} {t' out' : List ℕ} (g : NodeGives t p out n t' out') where
    -- a refusal leaves the table and the outlet as they were
    pub node_refused : (n ≡ 0 → ⊥) → (t' ≡ t) × (out' ≡ out)
    node_refused h =
        let o = node_call t p out in (
          g.table ∙ left_refused o t (λ s. write_bytes s.write t) g.number h,
          g.outlet ∙ left_refused o out (λ s. sent_in out s.packet) g.number h,
        )

    -- number 0: the step is done, its slot is in the table and its packet in the outlet
    pub node_done : n ≡ 0 → (x : Sent) × (node_call t p out ≡ ok x) × (t' ≡ write_bytes x.write t) × (out' ≡ sent_in out x.packet)
    node_done h =
        let d = done_at_0 (node_rows t p out) (node_call t p out) (node_judged t p out) (sym g.number ∙ h) in (
          d.0,
          d.1,
          g.table ∙ ap (left t (λ s. write_bytes s.write t)) d.1,
          g.outlet ∙ ap (left out (λ s. sent_in out s.packet)) d.1,
        )

-- ---- one slot at most is written

-- the bytes outside slot i are as before
pub record OneSlot (t t' : List ℕ) : Type 0 where
  pub place : ℕ
  pub within : place < count_of t
  pub size : length t' ≡ length t
  pub before : (j : ℕ) → j < row_at place → get_or t' j 0 ≡ get_or t j 0
  pub after : (j : ℕ) → row_at place + row_size ≤ j → get_or t' j 0 ≡ get_or t j 0

pub one_slot : {t p out : List ℕ} {n : ℕ} {t' out' : List ℕ} → Bytes t → Bytes p → NodeGives t p out n t' out' → (t' ≡ t) ⊎ OneSlot t t'
one_slot {t} {p} {out} {n} {t'} bt bp g = go (node_call t p out) refl g.table
  where
    write : (x : Sent) → NodeCalled t p out x → Writes (table_of t) x.write → (write_bytes x.write t ≡ t) ⊎ OneSlot t (write_bytes x.write t)
    write x c (none k) = inl (ap (λ (w : Write). write_bytes w t) k)
    write x c (one i s k h f) =
        let size = length_row_of s f.fits.key f.fits.value in
        let whole = c.rules.size in
        let count = length_table t in
        let room : row_at i + length (row_of s) ≤ length t = omega arith in
        inr
        (subst (OneSlot t) (sym (ap (λ (w : Write). write_bytes w t) k))
        (record {
          place = i;
          within = omega arith;
          size = length_put t (row_at i) (row_of s) room;
          before = λ j l. get_or_before t (row_of s) (row_at i) j l (omega arith);
          after = λ j l. get_or_after t (row_of s) (row_at i) j (omega arith) room;
        }))

    go : (o : Out Sent) → node_call t p out ≡ o → ◌≡◌ {A = List ℕ} t' (left t (λ s. write_bytes s.write t) o) → (t' ≡ t) ⊎ OneSlot t t'
    go (refuse m) e a = inl a
    go (ok x) e a =
        let c = node_called t p out x e in
        let d = node_sends (table_of t) (packet_of p) x (sound_table t bt c.rules) (sound_packet p bp c.formed) c.step in
        subst (λ (u : List ℕ). (u ≡ t) ⊎ OneSlot t u) (sym a) (write x c d.writes)
