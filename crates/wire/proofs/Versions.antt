-- Laws of versions: their order, one more of each kind of number, and versions as single numbers.
use Prim.Native.Nat.{ℕ, ◌+◌, ◌<◌, ◌≤◌}
use mathlib.Core.Path.{◌≡◌, refl, sym, subst}
use mathlib.Core.Bool.{true, false}
use mathlib.Core.Logic.{◌⊎◌, inl, inr, ◌↔◌}
use mathlib.Core.List.{[], ◌∷◌}
use native.Mathlib.Omega.{arith}
use lib.Dec.{eqb}
use borrow.Author.Tests.{eqb-false}
use Rattle.wire.specs.Version.{version, session, sequence, stamp, top_session, top_stamp, last_session, last_sequence, last_stamp, next_session, next_sequence, next_stamp, newer, Below, AtMost}
use Rattle.wire.specs.Numbers.{pick}
use Rattle.wire.specs.declared.Session.{Session}
use Rattle.wire.specs.declared.Sequence.{Sequence}
use Rattle.wire.specs.declared.Stamp.{Stamp}
use Rattle.wire.specs.declared.Version.{Version}
use Rattle.wire.proofs.Numbers.{pick_false, pick_case, Reflects, reflects_cases, reflect_eqb, reflect_ltb, reflect_and, reflect_or}

-- ---- the order

-- the same session and the same sequence are the same version
pub version_is : (a b : Version) → a.session.0 ≡ b.session.0 → a.sequence.0 ≡ b.sequence.0 → a ≡ b
version_is a b e f = λ i. record { session = record { 0 = e i }; sequence = record { 0 = f i } }

pub below_irreflexive : (a : Version) → Below a a → ⊥
below_irreflexive a (inl h) = omega arith
below_irreflexive a (inr h) = omega arith

pub below_atmost : (a b : Version) → Below a b → AtMost a b
below_atmost a b (inl h) = inl h
below_atmost a b (inr h) = inr (omega arith)

pub below_atmost_trans : (a b c : Version) → Below a b → AtMost b c → Below a c
below_atmost_trans a b c (inl h) (inl g) = inl (omega arith)
below_atmost_trans a b c (inl h) (inr g) = inl (omega arith)
below_atmost_trans a b c (inr h) (inl g) = inl (omega arith)
below_atmost_trans a b c (inr h) (inr g) = inr (omega arith)

pub below_trans : (a b c : Version) → Below a b → Below b c → Below a c
below_trans a b c h g = below_atmost_trans a b c h (below_atmost b c g)

pub atmost_refl : (a : Version) → AtMost a a
atmost_refl a = inr (omega arith)

-- at most is below or the same
pub atmost_cases : (a b : Version) → AtMost a b ↔ (Below a b ⊎ (a ≡ b))
atmost_cases a b = (to, from)
  where
    to : AtMost a b → Below a b ⊎ (a ≡ b)
    to (inl h) = inl (inl h)
    to (inr h) = near (reflects_cases (reflect_ltb a.sequence.0 b.sequence.0))
      where
        near : ((a.sequence.0 < b.sequence.0) ⊎ (a.sequence.0 < b.sequence.0 → ⊥)) → Below a b ⊎ (a ≡ b)
        near (inl l) = inl (inr (h.0, l))
        near (inr n) = inr (version_is a b h.0 (omega arith))

    from : Below a b ⊎ (a ≡ b) → AtMost a b
    from (inl h) = below_atmost a b h
    from (inr e) = subst (AtMost a) e (atmost_refl a)

-- one is below, or the other at most it
pub below_or_atmost : (a b : Version) → Below a b ⊎ AtMost b a
below_or_atmost a b =
    go (reflects_cases (reflect_ltb a.session.0 b.session.0))
    (reflects_cases (reflect_ltb b.session.0 a.session.0))
    (reflects_cases (reflect_ltb a.sequence.0 b.sequence.0))
  where
    go : ((a.session.0 < b.session.0) ⊎ (a.session.0 < b.session.0 → ⊥))
        → ((b.session.0 < a.session.0) ⊎ (b.session.0 < a.session.0 → ⊥))
        → ((a.sequence.0 < b.sequence.0) ⊎ (a.sequence.0 < b.sequence.0 → ⊥))
        → Below a b ⊎ AtMost b a
    go (inl l) y z = inl (inl l)
    go (inr m) (inl l) z = inr (inl l)
    go (inr m) (inr n) (inl l) = inl (inr (omega arith))
    go (inr m) (inr n) (inr o) = inr (inr (omega arith))

pub atmost_total : (a b : Version) → AtMost a b ⊎ AtMost b a
atmost_total a b = go (below_or_atmost a b)
  where
    go : Below a b ⊎ AtMost b a → AtMost a b ⊎ AtMost b a
    go (inl h) = inl (below_atmost a b h)
    go (inr h) = inr h

pub atmost_not_below : (a b : Version) → AtMost b a → Below a b → ⊥
atmost_not_below a b h g = below_irreflexive a (below_atmost_trans a b a g h)

pub not_below : (a b : Version) → (Below a b → ⊥) ↔ AtMost b a
not_below a b = (λ n. go n (below_or_atmost a b), atmost_not_below a b)
  where
    go : (Below a b → ⊥) → Below a b ⊎ AtMost b a → AtMost b a
    go n (inl h) = absurd (n h)
    go n (inr h) = h

pub atmost_below_trans : (a b c : Version) → AtMost a b → Below b c → Below a c
atmost_below_trans a b c h g = go ((atmost_cases a b).0 h)
  where
    go : Below a b ⊎ (a ≡ b) → Below a c
    go (inl l) = below_trans a b c l g
    go (inr e) = subst (λ (v : Version). Below v c) (sym e) g

pub atmost_trans : (a b c : Version) → AtMost a b → AtMost b c → AtMost a c
atmost_trans a b c h g = go ((atmost_cases b c).0 g)
  where
    go : Below b c ⊎ (b ≡ c) → AtMost a c
    go (inl l) = below_atmost a c (atmost_below_trans a b c h l)
    go (inr e) = subst (AtMost a) e h

pub atmost_antisym : (a b : Version) → AtMost a b → AtMost b a → a ≡ b
atmost_antisym a b h g = go ((atmost_cases a b).0 h)
  where
    go : Below a b ⊎ (a ≡ b) → a ≡ b
    go (inl l) = absurd (atmost_not_below a b g l)
    go (inr e) = e

-- ---- the test of the order

pub reflect_newer : (a b : Version) → Reflects (newer a b) (Below b a)
unfolding newer
reflect_newer a b = reflect_or (reflect_ltb _ _) (reflect_and (reflect_eqb _ _) (reflect_ltb _ _))

-- document 01's examples 4, 5 and 6: 2.1 over 1.9, 1.9 over 2.1, 1.5 over 1.5
pub newer_examples : newer (version 2 1) (version 1 9) ∷ newer (version 1 9) (version 2 1) ∷ newer (version 1 5) (version 1 5) ∷ []
    ≡ true ∷ false ∷ false ∷ []
unfolding newer
newer_examples = refl

-- ---- one more

pub next_session_lem : (s : Session) → last_session s ≡ false → next_session s ≡ session (s.0 + 1)
unfolding next_session
next_session_lem s e = pick_false _ _ _ e

pub next_sequence_lem : (q : Sequence) → last_sequence q ≡ false → next_sequence q ≡ sequence (q.0 + 1)
unfolding next_sequence
next_sequence_lem q e = pick_false _ _ _ e

pub next_stamp_lem : (n : Stamp) → last_stamp n ≡ false → next_stamp n ≡ stamp (n.0 + 1)
unfolding next_stamp
next_stamp_lem n e = pick_false _ _ _ e

-- one more is at least as much, and no more than the largest
next_within : {K : Type 0} (out : K → ℕ) (top : ℕ) (k m : K) → out k ≤ top → out m ≡ out k + 1
    → (out k ≤ out (pick (eqb (out k) top) k m)) × (out (pick (eqb (out k) top) k m) ≤ top)
next_within out top k m h e =
    pick_case (λ k'. (out k ≤ out k') × (out k' ≤ top)) _ _ _ (λ _. omega arith) (λ f. let n = eqb-false (out k) top f in omega arith)

pub next_session_within : (s : Session) → s.0 ≤ top_session → (s.0 ≤ (next_session s).0) × ((next_session s).0 ≤ top_session)
unfolding next_session
next_session_within s h = next_within (λ (k : Session). k.0) top_session s (session (s.0 + 1)) h refl

pub next_stamp_within : (n : Stamp) → n.0 ≤ top_stamp → (n.0 ≤ (next_stamp n).0) × ((next_stamp n).0 ≤ top_stamp)
unfolding next_stamp
next_stamp_within n h = next_within (λ (k : Stamp). k.0) top_stamp n (stamp (n.0 + 1)) h refl

-- the next sequence makes a version above
pub next_above : (v : Version) → last_sequence v.sequence ≡ false → Below v (record { session = v.session; sequence = next_sequence v.sequence })
next_above v e = inr (refl, rw (next_sequence_lem v.sequence e) (omega arith))
