-- A relay step keeps the invariant.
use Prim.Native.Nat.{ℕ, ◌<◌}
use mathlib.Core.Path.{◌≡◌, refl, sym, ap, ◌∙◌, subst}
use mathlib.Core.Bool.{false, false≢true}
use mathlib.Core.List.Memᴰ.{cast}
use mathlib.Core.List.Memᴰ.{tail as there}
use mathlib.Core.List.{List, [], ◌∷◌, ◌++◌, Memᴰ as Mem}
use mathlib.Core.Logic.{◌⊎◌, inl, inr}
use native.Mathlib.Omega.{arith}
use Rattle.wire.specs.Numbers.{Out, refuse, ok}
use Rattle.wire.specs.Version.{sequence, zero_version, AtMost}
use Rattle.wire.specs.Packet.{Packet, Fit, Shape, read, write, delete, value, never_written, deleted, no_key, written, query, op_read, answer_written}
use Rattle.wire.specs.declared.Session.{Session}
use Rattle.wire.specs.declared.Version.{Version}
use Rattle.store.specs.Held.{nothing}
use Rattle.steps.specs.Chain.{members, first_of, last_of, next_of, ChainRules}
use Rattle.steps.specs.Node.{is_read, Numbered, Unnumbered}
use Rattle.steps.specs.Relay.{Way, to_node, to_client, stops, relay_step, packet_sent}
use Rattle.steps.proofs.RelayView.{FromNode, NewRead, NewWrite, Handed, Acknowledged, Onward, RelayCase, new_read, new_write, handed, acknowledged, passed_on, RelayView, relay_view}
use Rattle.steps.proofs.ChainIds.{first_mem, last_mem}
use Rattle.steps.proofs.ChainOrder.{Ahead, last_behind, next_mem, ahead_next, not_after_last, not_before_first, none_ahead_first}
use Rattle.steps.proofs.Control.{some_members}
use Rattle.protocol.specs.System.{State, Event, Ghost, acked, carried, relay_ghosts, ghosts_of, all_ghosts, ghosts, relayed}
use Rattle.protocol.specs.Inv.{world_of, node_version, Logged, Given, Good, Inv}
use Rattle.protocol.proofs.Prims.{at_most_trans, world, good_clear, good_grows, logged_acked, keyed_acked, sound_more, grows_history, open_rules, fresh_nonzero, good_away, inv_made, inv_same}
use Rattle.protocol.proofs.Ghosts.{ghosts_acked, ghosts_handed, ghosts_sent}
use Rattle.protocol.proofs.Packets.{Alteration, alteration, stored_some, carried_stored, carried_unnumbered, carried_client, carried_written, fit_to_node_read, fit_to_node, fit_to_client, fit_written}

-- a read has no value
read_short : (p : Packet) → Fit p → p.head.answer ≡ query → p.head.op ≡ op_read → p.head.length ≡ 0
read_short p f q r = go f.shape
  where
    go : Shape p.head.answer p.head.op p.head.length p.head.version → p.head.length ≡ 0
    go (read e o n v) = n
    go (write e o h) = absurd (omega arith)
    go (delete e o n h) = n
    go (value e o s h) = absurd (omega arith)
    go (never_written e o n v) = n
    go (deleted e o n s h) = n
    go (no_key e a b n v) = n
    go (written e o n s h) = n

-- ---- what the relay sends

module _ {k : List ℕ} {s : State} (v : Inv k s) (p : Packet) (fit : Fit p) where
  rules : ChainRules s.chain
  rules = v.sound.rules

  -- to a chain node, where it is not stopped
  good_to_node : (j : ℕ) (u : Version) → Mem j (members s.chain) → stops s.chain.change (is_read p) j ≡ false → Fit (to_node s.chain j u p)
      → ((carried (to_node s.chain j u p) ≡ nothing → ⊥) → Logged (ghosts s) p.key u (carried (to_node s.chain j u p)))
      → (p.head.op ≡ op_read → (i : ℕ) → Ahead j i (members s.chain) → ⊥)
      → (Unnumbered (to_node s.chain j u p) → ((i : ℕ) → Ahead i j (members s.chain) → ⊥) × (u.session ≡ s.chain.session))
      → (Numbered (to_node s.chain j u p) → p.key ≡ k → (i : ℕ) → Ahead i j (members s.chain) → AtMost u (node_version (world_of s) k i))
      → Good k (world_of s) (to_node s.chain j u p)
  unfolding to_node
  good_to_node j u m st fit' content reads writes aheads = record {
    fit = fit';
    to_used = rules.highest j m;
    from_used = omega arith;
    to_old = λ c o e. (open_rules rules c o).outside (cast (sym e) m);
    from_old = λ c o e. fresh_nonzero rules c o e;
    asked = λ _ _ e. rules.nonzero (cast (sym e) m);
    lands = λ _. inl m;
    stamped = omega arith;
    stopped = λ e. absurd (false≢true (sym st ∙ e));
    content = content;
    reads_last = λ _ o. reads o;
    writes_first = λ _ n. (writes n).0;
    session = λ _ n. let h = ap (λ (z : Session). z.0) (writes n).1 in omega arith;
    top = λ _ n x c h le.
        let e = ap (λ (z : Session). z.0) (writes n).1 in
        let l = v.keyed.sessions x c h in
        rw (none_ahead_first _ m (writes n).0) (v.keyed.first_holds x c h (omega arith));
    current = λ _ n. (writes n).1;
    ahead_hold = λ _ n e. aheads n e;
    sender_holds = λ m. absurd (rules.nonzero m);
  }

  -- to a client: an answer
  good_to_client : (q : Packet) → Fit q → q.head.from ≡ 0 → q.head.to ≡ 0 → q.head.stamp.0 ≡ 0 → (q.head.answer ≡ query → ⊥)
      → (l : List Ghost) → ((carried q ≡ nothing → ⊥) → Logged l q.key q.head.version (carried q))
      → Good k (world s.chain s.table s.halted l) q
  good_to_client q fit' from to stamp answers l content =
      good_away rules fit' to (omega arith) (λ c o e. fresh_nonzero rules c o (sym from ∙ e)) (λ _. answers) (omega arith) content (λ _ e. absurd (answers e))

  -- what a chain node sent was made
  made : (p.head.from ≡ 0) ⊎ Mem p s.packets → FromNode s.chain p → Good k (world_of s) p
  made (inl z) c = absurd (c.from z)
  made (inr m) c = v.packets p m

  -- ---- the steps

  module _ (e : Event) (is : (m : List Packet) (b : Version) → ghosts_of e m b ≡ relay_ghosts p m) where
    -- the history, from the ghosts of the step
    new_history : (m : List Packet) {l : List Ghost} → relay_ghosts p m ≡ l → (ghosts_of e m zero_version ++ all_ghosts s.trace) ++ s.origin ≡ (l ++ all_ghosts s.trace) ++ s.origin
    new_history m q = ap (λ (z : List Ghost). (z ++ all_ghosts s.trace) ++ s.origin) (is m zero_version ∙ q)

    -- a step that leaves nothing there
    pres_quiet : {w w' : Way} → w ≡ w' → relay_ghosts p (packet_sent w' ∷ []) ≡ [] → Good k (world_of s) (packet_sent w') → Inv k (relayed e s (ok w))
    pres_quiet {w} {w'} goes none good =
        subst (λ (w : Way). Inv k (relayed e s (ok w))) (sym goes)
        (inv_made (world_of s) (packet_sent w') (λ i. world s.chain s.table s.halted (new_history (packet_sent w' ∷ []) none i)) refl v v.sound v.keyed (λ q g. g) good)

    -- a client's read, and a client's write or delete
    pres_new_read : (w : Way) → RelayView s.chain p w → NewRead s.chain p w → Inv k (relayed e s (ok w))
    unfolding to_node
    pres_new_read w view c =
        pres_quiet c.goes (ghosts_sent p (to_node s.chain (last_of (members s.chain)) p.head.version p) [] refl)
        (good_to_node (last_of (members s.chain)) p.head.version (last_mem _ (some_members _ rules)) (view.unstopped _ _ c.goes)
        (fit_to_node_read s.chain (last_of (members s.chain)) p.head.version p fit c.read (read_short p fit c.sender.asks c.read) c.sender.version)
        (λ n. absurd (n (carried_unnumbered _ refl (ap (λ (z : Version). z.sequence.0) c.sender.version))))
        (λ _ i h. not_after_last _ rules.distinct h) (λ n. absurd (n.0 c.read)) (λ n. absurd (n.0 c.read)))

    pres_new_write : (w : Way) → RelayView s.chain p w → NewWrite s.chain p w → Inv k (relayed e s (ok w))
    unfolding to_node
    pres_new_write w view c =
        pres_quiet c.goes (ghosts_sent p (to_node s.chain (first_of (members s.chain)) unnumbered p) [] refl)
        (good_to_node (first_of (members s.chain)) unnumbered (first_mem _ (some_members _ rules)) (view.unstopped _ _ c.goes)
        (fit_to_node s.chain (first_of (members s.chain)) unnumbered p fit (alteration p fit c.sender.asks c.alters) (λ h. absurd (omega arith)))
        (λ n. absurd (n (carried_unnumbered _ refl refl)))
        (λ o. absurd (c.alters o)) (λ _. ((λ i h. not_before_first _ rules.distinct h), refl)) (λ n. absurd (n.1 refl)))
      where
        unnumbered : Version
        unnumbered = record { session = s.chain.session; sequence = sequence 0 }

    -- ---- a packet that a chain node made

    module _ (g : Good k (world_of s) p) where
      pres_answer : (w : Way) → Handed s.chain p w → Inv k (relayed e s (ok w))
      unfolding to_client
      pres_answer w c =
          pres_quiet c.goes (ghosts_handed p (to_client p.head.answer p.value p) [] c.answers)
          (good_to_client (to_client p.head.answer p.value p) (fit_to_client p fit) refl refl refl c.answers (ghosts s)
          (λ n. rw (carried_client p) (g.content (λ z. n (carried_client p ∙ z)))))

      -- a numbered one: what its sender holds, the nodes ahead hold
      module _ (member : Mem p.head.from (members s.chain)) (asks : p.head.answer ≡ query) (numbered : Numbered p) where
        held_ahead : p.key ≡ k → (i : ℕ) → (i ≡ p.head.from) ⊎ Ahead i p.head.from (members s.chain) → AtMost p.head.version (node_version (world_of s) k i)
        held_ahead ek i (inl q) = rw q (g.sender_holds member asks numbered ek)
        held_ahead ek i (inr h) = at_most_trans (g.sender_holds member asks numbered ek) (v.keyed.order i p.head.from h)

        altering : Alteration p
        altering = alteration p fit asks numbered.0

      pres_onward : (w : Way) → RelayView s.chain p w → Onward s.chain p w → Inv k (relayed e s (ok w))
      unfolding to_node
      pres_onward w view c =
          pres_quiet c.goes (ghosts_sent p (to_node s.chain j p.head.version p) [] refl)
          (good_to_node j p.head.version (next_mem _ _ c.sender.member c.inner) (view.unstopped _ _ c.goes)
          (fit_to_node s.chain j p.head.version p fit a a.orderly)
          (λ n. rw same (g.content (λ z. n (same ∙ z))))
          (λ o. absurd (c.numbered.0 o)) (λ n. absurd (c.numbered.1 n.1))
          (λ _ ek i h. held_ahead c.sender.member c.asks c.numbered ek i (ahead_next _ _ rules.distinct c.sender.member h)))
        where
          j : ℕ
          j = next_of p.head.from (members s.chain)

          a : Alteration p
          a = altering c.sender.member c.asks c.numbered

          same : carried (to_node s.chain (next_of p.head.from (members s.chain)) p.head.version p) ≡ carried p
          same =
              carried_stored p (to_node s.chain (next_of p.head.from (members s.chain)) p.head.version p) p.head.version a.kind refl refl refl c.numbered.1
              ∙ sym (carried_stored p p p.head.version a.kind refl refl c.asks c.numbered.1)

      pres_acked : (w : Way) → Acknowledged s.chain p w → Inv k (relayed e s (ok w))
      unfolding to_client
      pres_acked w c =
          subst (λ (w : Way). Inv k (relayed e s (ok w))) (sym c.goes)
          (inv_made (world s.chain s.table s.halted (acked p.key p.head.version (to_client answer_written [] p) ∷ ghosts s)) (to_client answer_written [] p)
          (λ i. world s.chain s.table s.halted (new_history (to_client answer_written [] p ∷ []) (ghosts_acked p (to_client answer_written [] p) [] c.asks refl) i)) refl v
          (sound_more _ v.sound (λ h m. there m))
          (keyed_acked p.key p.head.version (to_client answer_written [] p) v.keyed gives held)
          (λ q h. good_grows s.chain.change (grows_history _ (λ h m. there m) (λ x d. logged_acked _ _ _)) h (good_clear h))
          (good_to_client (to_client answer_written [] p) (fit_written p fit a (a.orderly some) some) refl refl refl (λ z. omega arith) _
          (λ n. absurd (n (carried_written p)))))
        where
          a : Alteration p
          a = altering c.sender.member c.asks c.numbered

          some : 0 < p.head.version.sequence.0
          some = let n = c.numbered.1 in omega arith

          gives : p.key ≡ k → Given (ghosts s) k p.head.version
          gives ek = record {
            some = some;
            content = carried p;
            log = subst (λ (key : List ℕ). Logged (ghosts s) key p.head.version (carried p)) ek
                (g.content (λ z. stored_some p p.head.version a.kind (sym (carried_stored p p p.head.version a.kind refl refl c.asks c.numbered.1) ∙ z)));
          }

          held : p.key ≡ k → (i : ℕ) → Mem i (members s.chain) → AtMost p.head.version (node_version (world_of s) k i)
          held ek i m = held_ahead c.sender.member c.asks c.numbered ek i (rw c.last (last_behind _ m))

    pres_case : (w : Way) → (p.head.from ≡ 0) ⊎ Mem p s.packets → RelayView s.chain p w → RelayCase s.chain p w → Inv k (relayed e s (ok w))
    pres_case w h view (new_read c) = pres_new_read w view c
    pres_case w h view (new_write c) = pres_new_write w view c
    pres_case w h view (handed c) = pres_answer (made h c.sender) w c
    pres_case w h view (acknowledged c) = pres_acked (made h c.sender) w c
    pres_case w h view (passed_on c) = pres_onward (made h c.sender) w view c

    pub pres_relay : (p.head.from ≡ 0) ⊎ Mem p s.packets → (o : Out Way) → relay_step s.chain p ≡ o → Inv k (relayed e s o)
    pres_relay h (refuse n) q = inv_same v (λ i. world s.chain s.table s.halted (new_history [] refl i)) refl
    pres_relay h (ok w) q = let view = relay_view s.chain p w q in pres_case w h view view.case
