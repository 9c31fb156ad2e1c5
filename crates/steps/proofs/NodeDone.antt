-- When a node step is done: for a read always, for a missing key, for a newer number, and for a number that is left.
use Prim.Native.Nat.{ℕ, ◌<◌, ◌≤◌}
use mathlib.Core.Path.{◌≡◌, refl, sym, ap, ◌∙◌, subst}
use mathlib.Core.List.{List}
use mathlib.Core.Logic.{inl, inr}
use native.Mathlib.Omega.{arith}
use Rattle.wire.specs.Numbers.{ok, Applies}
use Rattle.wire.specs.Version.{top_sequence, Below}
use Rattle.wire.specs.Packet.{Packet, op_read}
use Rattle.wire.specs.declared.Session.{Session}
use Rattle.wire.proofs.Numbers.{judged_done}
use Rattle.store.specs.Table.{Slot, Table, find}
use Rattle.store.specs.Held.{missing, holds, held}
use Rattle.std.specs.Prelude.{Option, Some, None}
use Rattle.store.proofs.Find.{held_find, held_at}
use Rattle.steps.specs.Node.{node_step, Sent, Alters, Numbered, Unnumbered, Stands, Missing, node_step_rows}
use Rattle.steps.proofs.Node.{found_stands, stands_found, found_missing, step_judged}
use Rattle.steps.proofs.NodeView.{Accepted, Answered, NoKey, Took, Gave, NodeCase, answered, nokey, took, gave, node_view}

-- ---- the slot that has the key is the one that is held

pub stands_held : {k : List ℕ} {l : List Slot} {i : ℕ} {s : Slot} → Stands k l i s → held k l ≡ holds s
stands_held {k} {l} h = held_find k l ∙ (ap (held_at l) (stands_found h) ∙ ap holds h.at)

pub missing_held : (k : List ℕ) (l : List Slot) → Missing k l → held k l ≡ missing
missing_held k l m = held_find k l ∙ ap (held_at l) ((found_missing k l).1 m)

pub holds_inj : {a b : Slot} → holds a ≡ holds b → a ≡ b
holds_inj e = cc

pub holds_missing : {s : Slot} → holds s ≡ missing → ⊥
holds_missing e = let z : ◌≡◌ {A = ℕ} 0 1 = cc in omega arith

pub held_stands : (k : List ℕ) (l : List Slot) (s : Slot) → held k l ≡ holds s → (i : ℕ) × Stands k l i s
held_stands k l s e = go (find k l) refl
  where
    go : (f : Option ℕ) → find k l ≡ f → (i : ℕ) × Stands k l i s
    go (Some i) found = (i, subst (Stands k l i) (holds_inj (sym (held_find k l ∙ ap (held_at l) found) ∙ e)) (found_stands k l i found))
    go None none = absurd (holds_missing (sym e ∙ (held_find k l ∙ ap (held_at l) none)))

-- ---- the packets

module _ (t : Table) (p : Packet) (a : Accepted t p) where
  -- no row applies to a packet that is accepted, if none of the rows 8 to 12 does
  ready : (Alters p → p.head.version.session.0 ≡ 0 → ⊥)
      → (Numbered p → Missing p.key t.slots → ⊥)
      → ((i : ℕ) (s : Slot) → Stands p.key t.slots i s → Unnumbered p → p.head.version.session.0 < s.version.session.0 → ⊥)
      → ((i : ℕ) (s : Slot) → Stands p.key t.slots i s → Unnumbered p → s.version.session ≡ p.head.version.session → s.version.sequence.0 ≡ top_sequence → ⊥)
      → ((i : ℕ) (s : Slot) → Stands p.key t.slots i s → Numbered p → (Below s.version p.head.version → ⊥) → ⊥)
      → (x : Sent) × (node_step t p ≡ ok x)
  ready h₈ h₉ h₁₀ h₁₁ h₁₂ = (judged_done (node_step_rows t p) _ (step_judged t p)).1 none
    where
      none : (n : ℕ) → Applies (node_step_rows t p) n → ⊥
      none n (inl (e, inl d)) = d a.mine
      none n (inl (e, inr (inl d))) = d a.relayed
      none n (inl (e, inr (inr d))) = d a.asks
      none n (inr (inl (e, h))) = let l = a.live in omega arith
      none n (inr (inr (inl (e, h)))) = h₈ h.0 h.1
      none n (inr (inr (inr (inl (e, h))))) = h₉ h.0 h.1
      none n (inr (inr (inr (inr (inl (e, h)))))) = h₁₀ h.1.0 h.1.1 h.1.2 h.0 h.1.3
      none n (inr (inr (inr (inr (inr (inl (e, h))))))) = h₁₁ h.1.0 h.1.1 h.1.2 h.0 h.1.3.0 h.1.3.1
      none n (inr (inr (inr (inr (inr (inr (inl (e, h)))))))) = h₁₂ h.1.0 h.1.1 h.1.2 h.0 h.1.3
      none n (inr (inr (inr (inr (inr (inr (inr x7))))))) = elim x7 [ ]

  -- the case of a step that is done
  case_of : (x : Sent) → node_step t p ≡ ok x → NodeCase t p x
  case_of x e = (node_view t p x e).case

  -- a read is answered
  pub answers_read : p.head.op ≡ op_read → (x : Sent) × (node_step t p ≡ ok x) × Answered t p x
  answers_read r = (d.0, d.1, go (case_of d.0 d.1))
    where
      d : (x : Sent) × (node_step t p ≡ ok x)
      d = ready (λ w _. w r) (λ w _. w.0 r) (λ i s h w _. w.0 r) (λ i s h w _ _. w.0 r) (λ i s h w _. w.0 r)

      go : {x : Sent} → NodeCase t p x → Answered t p x
      go (answered c) = c
      go (nokey c) = absurd (c.unnumbered.0 r)
      go (took c) = absurd (c.numbered.0 r)
      go (gave c) = absurd (c.unnumbered.0 r)

  -- a write or delete, of a packet that has a session
  module _ (session : p.head.version.session.0 ≡ 0 → ⊥) where
    -- of a missing key it is answered so
    pub lacks_key : Unnumbered p → held p.key t.slots ≡ missing → (x : Sent) × (node_step t p ≡ ok x) × NoKey t p x
    lacks_key u m = (d.0, d.1, go (case_of d.0 d.1))
      where
        nowhere : (i : ℕ) (s : Slot) → Stands p.key t.slots i s → ⊥
        nowhere i s h = holds_missing (sym (stands_held h) ∙ m)

        d : (x : Sent) × (node_step t p ≡ ok x)
        d = ready (λ _. session) (λ w _. w.1 u.1) (λ i s h _ _. nowhere i s h) (λ i s h _ _ _. nowhere i s h) (λ i s h _ _. nowhere i s h)

        go : {x : Sent} → NodeCase t p x → NoKey t p x
        go (answered c) = absurd (u.0 c.read)
        go (nokey c) = c
        go (took c) = absurd (c.numbered.1 u.1)
        go (gave c) = absurd (holds_missing (sym c.stores.holding ∙ m))

    -- of a key that is there
    module _ (s : Slot) (there : held p.key t.slots ≡ holds s) where
      is : {i : ℕ} {s' : Slot} → Stands p.key t.slots i s' → s' ≡ s
      is h = holds_inj (sym (stands_held h) ∙ there)

      -- a number that is strictly newer is taken
      pub takes_number : Numbered p → Below s.version p.head.version → (x : Sent) × (node_step t p ≡ ok x) × Took t p x
      takes_number n b = (d.0, d.1, go (case_of d.0 d.1))
        where
          d : (x : Sent) × (node_step t p ≡ ok x)
          d =
              ready (λ _. session) (λ _ m. holds_missing (sym there ∙ missing_held p.key t.slots m))
              (λ i s' h u _. n.1 u.1) (λ i s' h u _ _. n.1 u.1)
              (λ i s' h _ o. o (subst (λ (z : Slot). Below z.version p.head.version) (sym (is h)) b))

          go : {x : Sent} → NodeCase t p x → Took t p x
          go (answered c) = absurd (n.0 c.read)
          go (nokey c) = absurd (n.1 c.unnumbered.1)
          go (took c) = c
          go (gave c) = absurd (n.1 c.unnumbered.1)

      -- a number is given, where the stored session is not higher and one is left
      pub gives_number : Unnumbered p → s.version.session.0 ≤ p.head.version.session.0
          → (s.version.session.0 ≡ p.head.version.session.0 → s.version.sequence.0 < top_sequence)
          → (x : Sent) × (node_step t p ≡ ok x) × Gave t p x
      gives_number u under left = (d.0, d.1, go (case_of d.0 d.1))
        where
          below : (z : Slot) → z ≡ s → p.head.version.session.0 < z.version.session.0 → ⊥
          below z e h = let q = ap (λ (y : Slot). y.version.session.0) e in omega arith

          more : (z : Slot) → z ≡ s → z.version.session ≡ p.head.version.session → z.version.sequence.0 ≡ top_sequence → ⊥
          more z e f h =
              let q = left (ap (λ (y : Slot). y.version.session.0) (sym e) ∙ ap (λ (y : Session). y.0) f) in
              let w = ap (λ (y : Slot). y.version.sequence.0) e in
              omega arith

          d : (x : Sent) × (node_step t p ≡ ok x)
          d = ready (λ _. session) (λ w _. w.1 u.1) (λ i z h _. below z (is h)) (λ i z h _. more z (is h)) (λ i z h w _. w.1 u.1)

          go : {x : Sent} → NodeCase t p x → Gave t p x
          go (answered c) = absurd (u.0 c.read)
          go (nokey c) = absurd (holds_missing (sym there ∙ c.lacks))
          go (took c) = absurd (c.numbered.1 u.1)
          go (gave c) = c
