-- The first node and a client's write: what the relay makes of it, and that the node takes it or refuses with 11.
use Prim.Native.Nat.{ℕ, ◌≤◌}
use mathlib.Core.Path.{◌≡◌, refl, sym, ap, ◌∙◌, subst}
use mathlib.Core.List.{Memᴰ as Mem}
use mathlib.Core.Logic.{◌⊎◌, inl, inr, ⊎_elim, ◌↔◌}
use native.Mathlib.Omega.{arith}
use Rattle.wire.specs.Numbers.{Out, refuse, ok, Applies, priority, no_number_left}
use Rattle.wire.specs.Version.{sequence, top_sequence}
use Rattle.wire.specs.Packet.{Packet}
use Rattle.wire.proofs.Numbers.{first_holds_lem, judged_refused, judged_done}
use Rattle.store.specs.Table.{Slot}
use Rattle.store.specs.Held.{holds, held}
use Rattle.steps.specs.declared.Change.TheVariants.{Still}
use Rattle.steps.specs.Chain.{members, first_of, ChainRules}
use Rattle.steps.specs.Node.{is_read, Sent, node_step, Alters, Stands, node_step_rows}
use Rattle.steps.specs.Relay.{node, to_node, relay_step}
use Rattle.steps.proofs.ChainIds.{first_mem}
use Rattle.steps.proofs.Control.{some_members}
use Rattle.steps.proofs.Node.{step_judged}
use Rattle.steps.proofs.NodeView.{Accepted}
use Rattle.steps.proofs.NodeDone.{stands_held, holds_inj, held_stands}
use Rattle.steps.proofs.RelayView.{still_unstopped, sends_write}
use Rattle.protocol.specs.System.{State, Reach}
use Rattle.protocol.specs.Demand.{ClientWrite}
use Rattle.protocol.proofs.Packets.{held_slot}
use Rattle.protocol.proofs.Facts.{chain_keeps, tables_keep, sessions_low, sequences_fit}

-- the first node, and what the relay sends it of a client's write
abbrev pub head : State → ℕ
head s = first_of (members s.chain)

abbrev pub to_head : State → Packet → Packet
to_head s p = to_node s.chain (head s) (record { session = s.chain.session; sequence = sequence 0 }) p

pub write_alters : {p : Packet} → ClientWrite p → Alters p
write_alters w e = ⊎_elim (λ q. omega arith) (λ q. omega arith) w.alters

-- the relay sends it there, where no change is open
pub sends_first : (s : State) {p : Packet} → ClientWrite p → s.chain.change ≡ Still → relay_step s.chain p ≡ ok (node (head s) (to_head s p))
sends_first s {p} c still =
    sends_write s.chain p (record { from = c.from; to = c.to; stamp = c.stamp; asks = c.query; version = c.version }) (write_alters c)
    (still_unstopped s.chain.change (is_read p) _ still)

module _ {s : State} {p : Packet} (rch : Reach s) (c : ClientWrite p) where
  rules : ChainRules s.chain
  rules = chain_keeps s rch

  pub head_in : Mem (head s) (members s.chain)
  head_in = first_mem (members s.chain) (some_members _ rules)

  -- the node does not refuse its address, nor its stamp
  pub head_accepts : Accepted (s.table (head s)) (to_head s p)
  unfolding to_node
  head_accepts = let t = tables_keep s rch (head s) in record { mine = sym t.id; relayed = refl; asks = refl; live = t.fence }

  -- what a node holds of the key: no later session than the record's, and a sequence of 32 bits
  pub held_low : (j : ℕ) (x : Slot) → held p.key (s.table j).slots ≡ holds x → (x.version.session.0 ≤ s.chain.session.0) × (x.version.sequence.0 ≤ top_sequence)
  held_low j x e =
      let (i, is, _) = held_slot p.key (s.table j).slots x e in
      subst (λ (x : Slot). (x.version.session.0 ≤ s.chain.session.0) × (x.version.sequence.0 ≤ top_sequence)) is (sessions_low s rch j i, sequences_fit s rch j i)

  -- where the node has the key
  module _ (x : Slot) (there : held p.key (s.table (head s)).slots ≡ holds x) where
    is : {i : ℕ} {z : Slot} → Stands p.key (s.table (head s)).slots i z → z ≡ x
    is h = holds_inj (sym (stands_held h) ∙ there)

    -- no row but that of 11 applies, and only to the last sequence of the record's session
    only_11 : (n : ℕ) → Applies (node_step_rows (s.table (head s)) (to_head s p)) n → (n ≡ no_number_left) × (x.version.session ≡ s.chain.session) × (x.version.sequence.0 ≡ top_sequence)
    unfolding to_node
    only_11 n (inl (e, inl d)) = absurd (d head_accepts.mine)
    only_11 n (inl (e, inr (inl d))) = absurd (d refl)
    only_11 n (inl (e, inr (inr d))) = absurd (d refl)
    only_11 n (inr (inl (e, h))) = let l = head_accepts.live in absurd (omega arith)
    only_11 n (inr (inr (inl (e, h)))) = absurd (rules.session h.1)
    only_11 n (inr (inr (inr (inl (e, h))))) = absurd (h.0.1 refl)
    only_11 n (inr (inr (inr (inr (inl (e, h)))))) =
        let l = (held_low (head s) x there).0 in
        let q = ap (λ (z : Slot). z.version.session.0) (is h.1.2) in
        let o = h.1.3 in
        absurd (omega arith)
    only_11 n (inr (inr (inr (inr (inr (inl (e, h))))))) =
        (e, ap (λ (z : Slot). z.version.session) (sym (is h.1.2)) ∙ h.1.3.0, ap (λ (z : Slot). z.version.sequence.0) (sym (is h.1.2)) ∙ h.1.3.1)
    only_11 n (inr (inr (inr (inr (inr (inr (inl (e, h)))))))) = absurd (h.0.1 refl)
    only_11 n (inr (inr (inr (inr (inr (inr (inr x8))))))) = elim x8 [ ]

    refused : (n : ℕ) → node_step (s.table (head s)) (to_head s p) ≡ refuse n → (n ≡ no_number_left) × (x.version.session ≡ s.chain.session) × (x.version.sequence.0 ≡ top_sequence)
    refused n e =
        only_11 n (first_holds_lem (Applies (node_step_rows (s.table (head s)) (to_head s p))) priority n ((judged_refused (node_step_rows (s.table (head s)) (to_head s p)) _ n (step_judged (s.table (head s)) (to_head s p))).0 e))

    -- it takes the write, or refuses with 11
    pub head_does : (node_step (s.table (head s)) (to_head s p) ≡ refuse no_number_left) ⊎ ((y : Sent) × (node_step (s.table (head s)) (to_head s p) ≡ ok y))
    head_does = go (node_step (s.table (head s)) (to_head s p)) refl
      where
        go : (o : Out Sent) → node_step (s.table (head s)) (to_head s p) ≡ o → (node_step (s.table (head s)) (to_head s p) ≡ refuse no_number_left) ⊎ ((y : Sent) × (node_step (s.table (head s)) (to_head s p) ≡ ok y))
        go (refuse n) e = inl (e ∙ ap refuse (refused n e).0)
        go (ok y) e = inr (y, e)

    -- with 11 just where the key stands at the last sequence of the record's session
    pub head_spent : (node_step (s.table (head s)) (to_head s p) ≡ refuse no_number_left) ↔ ((x.version.session ≡ s.chain.session) × (x.version.sequence.0 ≡ top_sequence))
    unfolding to_node
    head_spent = (
      λ e. let h = refused no_number_left e in (h.1, h.2),
      λ h.
          let (i, st) = held_stands p.key (s.table (head s)).slots x there in
          ⊎_elim (λ e. e) (λ d. absurd ((judged_done (node_step_rows (s.table (head s)) (to_head s p)) _ (step_judged (s.table (head s)) (to_head s p))).0 d no_number_left (inr (inr (inr (inr (inr (inl (refl, ((write_alters c, refl), (i, x, st, h))))))))))) head_does,
    )
