-- What is true of every run over bytes besides demand 3: record, tables and packets keep the rules, and which numbers are never given.
use Prim.Native.Nat.{ℕ}
use mathlib.Core.Path.{◌≡◌, refl, sym, ap, ◌∙◌, subst}
use mathlib.Core.Bool.{true, false}
use mathlib.Core.List.Memᴰ.{head as here}
use mathlib.Core.List.{List, [], ◌∷◌, map, Memᴰ as Mem}
use mathlib.Core.Logic.{inl, inr, ⊎_elim}
use native.Mathlib.Omega.{arith}
use lib.ListN.{length}
use lib.Dec.{eqb}
use borrow.Author.Tests.{eqb-false}
use Rattle.wire.specs.Numbers.{Out, refuse, ok, number_of, Case, Applies, Judged, priority, broken, small_outlet, malformed, session_over, fence_above}
use Rattle.wire.specs.Packet.{packet_of, head_of, Formed, answer_written}
use Rattle.wire.proofs.Numbers.{first_holds_lem, numbers, or_false}
use Rattle.store.specs.Table.{Table, table_of, TableRules, id_of, count_of, fence_of}
use Rattle.store.proofs.Rules.{length_table}
use Rattle.steps.specs.declared.Joining.{Joining}
use Rattle.steps.specs.Chain.{memb, Opened, ChainRules}
use Rattle.steps.specs.Node.{node_call, node_rows}
use Rattle.steps.specs.Relay.{relay_call, relay_rows}
use Rattle.steps.specs.Control.{open_call, open_rows, fence_call, fence_rows, copy_call, copy_rows, activate_call, activate_rows, cancel_call, cancel_rows, remove_call, remove_rows, enter_call, enter_rows}
use Rattle.steps.proofs.Node.{node_judged}
use Rattle.steps.proofs.Relay.{relay_judged}
use Rattle.steps.proofs.Control.{open_judged, fence_judged, copy_judged, activate_judged, cancel_judged, remove_judged, enter_judged}
use Rattle.protocol.specs.System.{at_node, Entry}
use Rattle.protocol.proofs.Prims.{open_rules}
use Rattle.protocol.proofs.Facts.{tables_keep, marked_fenced, never_22, never_10, no_node_acks}
use Rattle.claims.specs.Bytes.{IsNode, EventB, asking, relaying, stepping, opening, fencing, copying, activating, cancelling, removing, entering, halting, EntryB, StateB, exec_b, EnabledB, ReachB}
use Rattle.claims.proofs.Decode.{entry_as, decode, table_of_lem}
use Rattle.claims.proofs.Images.{SoundB}
use Rattle.claims.proofs.Bridge.{bridge}
use Rattle.claims.proofs.Entries.{every_entry, entries_good, event_cases, is_seen, to_trace}
use Rattle.claims.proofs.Headline.{member_node}

-- ---- rules

-- the record, every packet, and the table of every node, in the chain or not: its own id, and as many slots as the record says
pub record Rules (s : StateB) : Type 0 where
  pub chain : ChainRules s.chain
  pub packets : (p : List ℕ) → Mem p s.packets → Formed p
  pub tables : (j : ℕ) → IsNode j → TableRules (s.table j)
  pub ids : (j : ℕ) → IsNode j → id_of (s.table j) ≡ j
  pub counts : (j : ℕ) → IsNode j → count_of (s.table j) ≡ s.chain.count

pub rules_kept : (s : StateB) → ReachB s → Rules s
unfolding table_of
rules_kept s r =
    let (g, d) = bridge r in
    record {
      chain = g.chain.rules;
      packets = λ p m. (g.packets p m).0;
      tables = λ j i. (g.tables j i).0;
      ids = λ j i. ap (λ (t : Table). t.id) (sym (table_of_lem s.chain.count s.table j i)) ∙ (tables_keep (decode s) d j).id;
      counts = λ j i. sym (length_table (s.table j)) ∙ (ap (λ (t : Table). length t.slots) (sym (table_of_lem s.chain.count s.table j i)) ∙ (tables_keep (decode s) d j).count);
    }

-- in a marked change the named node's fence is the wiring number
pub marked_fence : (s : StateB) → ReachB s → (c : Joining) → Opened s.chain.change c → c.fenced ≡ true → fence_of (s.table c.named) ≡ s.chain.wiring
unfolding table_of
marked_fence s r c o m =
    let (g, d) = bridge r in
    let named = member_node g c.named (open_rules g.chain.rules c o).named in
    ap (λ (t : Table). t.fence) (sym (table_of_lem s.chain.count s.table c.named named)) ∙ marked_fenced (decode s) d c o m

-- ---- numbers

-- a number that no row has does not apply
no_row : (cs : List Case) (n : ℕ) → memb n (numbers cs) ≡ false → Applies cs n → ⊥
unfolding memb
no_row (c ∷ cs) n h (inl a) = eqb-false c.number n (or_false (eqb c.number n) (memb n (numbers cs)) h).0 (sym a.0)
no_row (c ∷ cs) n h (inr a) = no_row cs n (or_false (eqb c.number n) (memb n (numbers cs)) h).1 a
no_row [] n h x'' = elim x'' [ ]

-- a number that was given, other than 0, is that of a row that applies; so where no row has it, it is not given
given : {A : Type 0} (cs : List Case) (o : Out A) (n : ℕ) → Judged cs o → number_of o ≡ n → (n ≡ 0 → ⊥) → Applies cs n
given cs (refuse m) n j e z = subst (Applies cs) e (first_holds_lem (Applies cs) priority m j)
given cs (ok a) n j e z = absurd (z (sym e))

not_given : {A : Type 0} (cs : List Case) (o : Out A) (n : ℕ) → Judged cs o → memb n (numbers cs) ≡ false → (n ≡ 0 → ⊥) → number_of o ≡ n → ⊥
not_given cs o n j h z e = no_row cs n h (given cs o n j e z)

-- the rows behind the first
abbrev rest : List Case → List Case
rest [] = []
rest (c ∷ cs) = cs

-- where no row but the first has 1, and no row but the third 3
first_row : {A : Type 0} (c : Case) (cs : List Case) (o : Out A) → Judged (c ∷ cs) o → c.number ≡ broken → memb broken (numbers cs) ≡ false → number_of o ≡ broken → c.when
first_row c cs o j n h e = ⊎_elim (λ a. a.1) (λ a. absurd (no_row cs broken h a)) (given (c ∷ cs) o broken j e (λ z. omega arith))

third_row : {A : Type 0} (a b c : Case) (cs : List Case) (o : Out A) → Judged (a ∷ b ∷ c ∷ cs) o → memb malformed (a.number ∷ b.number ∷ []) ≡ false → memb malformed (numbers cs) ≡ false
    → number_of o ≡ malformed → c.when
unfolding memb
third_row a b c cs o j h k e = go (given (a ∷ b ∷ c ∷ cs) o malformed j e (λ z. omega arith))
  where
    go : Applies (a ∷ b ∷ c ∷ cs) malformed → c.when
    go (inl w) = absurd (no_row (a ∷ b ∷ []) malformed h (inl w))
    go (inr (inl w)) = absurd (no_row (a ∷ b ∷ []) malformed h (inr (inl w)))
    go (inr (inr (inl w))) = w.1
    go (inr (inr (inr w))) = absurd (no_row cs malformed k w)

-- 1 is not given at all, and 3 only to a client
pub record NumberGood (x : EntryB) : Type 0 where
  pub whole : x.number ≡ broken → ⊥
  pub client : x.number ≡ malformed → (p : List ℕ) × (out : List ℕ) × (x.event ≡ asking p out)

-- of a controller step, on a record and tables that keep the rules
ruled_good : {A : Type 0} (x : EntryB) (c : Case) (cs : List Case) (o : Out A) → Judged (c ∷ cs) o → c.number ≡ broken → memb broken (numbers cs) ≡ false
    → memb malformed (numbers (c ∷ cs)) ≡ false → (c.when → ⊥) → x.number ≡ number_of o → NumberGood x
ruled_good x c cs o j n h k w i = record {
  whole = λ e. w (first_row c cs o j n h (sym i ∙ e));
  client = λ e. absurd (not_given (c ∷ cs) o malformed j k (λ z. omega arith) (sym i ∙ e));
}

module _ (s : StateB) (r : ReachB s) where
  g : SoundB s
  g = (bridge r).0

  rules : ChainRules s.chain
  rules = g.chain.rules

  -- the entry that an event adds
  number_good : (e : EventB) → EnabledB e s → (x : EntryB) × ((exec_b e s).trace ≡ x ∷ s.trace) × NumberGood x
  unfolding exec_b memb
  number_good (asking p out) en = (
    _,
    refl,
    record {
      whole = λ e. first_row _ (rest (relay_rows s.chain p out)) (relay_call s.chain p out) (relay_judged s.chain p out) refl refl e rules;
      client = λ e. (p, out, refl);
    },
  )
  number_good (relaying p out) en = (
    _,
    refl,
    record {
      whole = λ e. first_row _ (rest (relay_rows s.chain p out)) (relay_call s.chain p out) (relay_judged s.chain p out) refl refl e rules;
      client = λ e. absurd (third_row _ _ _ (rest (rest (rest (relay_rows s.chain p out)))) (relay_call s.chain p out) (relay_judged s.chain p out) refl refl e (g.packets p en).0);
    },
  )
  number_good (stepping j p out) en = (
    _,
    refl,
    record {
      whole = λ e. first_row _ (rest (node_rows (s.table j) p out)) (node_call (s.table j) p out) (node_judged (s.table j) p out) refl refl e (g.tables j en.0).0;
      client = λ e. absurd (third_row _ _ _ (rest (rest (rest (node_rows (s.table j) p out)))) (node_call (s.table j) p out) (node_judged (s.table j) p out) refl refl e (g.packets p en.1).0);
    },
  )
  number_good (opening after named fresh) en =
      (_, refl, ruled_good _ _ (rest (open_rows s.chain after named fresh)) (open_call s.chain after named fresh) (open_judged s.chain after named fresh) refl refl refl (λ h. h rules) refl)
  number_good (fencing j) en =
      (_, refl, ruled_good _ _ (rest (fence_rows s.chain (s.table j))) (fence_call s.chain (s.table j)) (fence_judged s.chain (s.table j)) refl refl refl (⊎_elim (λ h. h rules) (λ h. h (g.tables j en).0)) refl)
  number_good (copying i a b) en = (
    _,
    refl,
    ruled_good _ _ (rest (copy_rows s.chain i (s.table a) (s.table b))) (copy_call s.chain i (s.table a) (s.table b)) (copy_judged s.chain i (s.table a) (s.table b)) refl refl refl
        (⊎_elim (λ h. h rules) (⊎_elim (λ h. h (g.tables a en.0).0) (λ h. h (g.tables b en.1).0))) refl,
  )
  number_good activating en = (_, refl, ruled_good _ _ (rest (activate_rows s.chain)) (activate_call s.chain) (activate_judged s.chain) refl refl refl (λ h. h rules) refl)
  number_good cancelling en = (_, refl, ruled_good _ _ (rest (cancel_rows s.chain)) (cancel_call s.chain) (cancel_judged s.chain) refl refl refl (λ h. h rules) refl)
  number_good (removing id) en = (_, refl, ruled_good _ _ (rest (remove_rows s.chain id)) (remove_call s.chain id) (remove_judged s.chain id) refl refl refl (λ h. h rules) refl)
  number_good (entering j id key) en =
      (_, refl, ruled_good _ _ (rest (enter_rows s.chain (s.table j) id key)) (enter_call s.chain (s.table j) id key) (enter_judged s.chain (s.table j) id key) refl refl refl (⊎_elim (λ h. h rules) (λ h. h (g.tables j en.0).0)) refl)
  number_good (halting j) en = (_, refl, record { whole = λ e. omega arith; client = λ e. absurd (omega arith) })

pub numbers_good : {s : StateB} → ReachB s → (x : EntryB) → Mem x s.trace → NumberGood x
numbers_good = every_entry NumberGood number_good

-- a number that the decoded system never gives, other than 2, is not given
never : (n : ℕ) → (n ≡ small_outlet → ⊥) → {s : StateB} → ReachB s → ((z : Entry) → Mem z (decode s).trace → z.number ≡ n → ⊥) → (x : EntryB) → Mem x s.trace → x.number ≡ n → ⊥
never n u {s} r h x m e =
    ⊎_elim (λ i. u (sym e ∙ ((entries_good r x m).hidden i).0)) (λ (d, i). h (entry_as x d) (to_trace s.trace m i) e) (event_cases x.event)

-- 22 is never given, nor is 10
pub never_fence_above : {s : StateB} → ReachB s → (x : EntryB) → Mem x s.trace → x.number ≡ fence_above → ⊥
never_fence_above {s} r = never fence_above (λ z. omega arith) r (never_22 (decode s) (bridge r).1)

pub never_session_over : {s : StateB} → ReachB s → (x : EntryB) → Mem x s.trace → x.number ≡ session_over → ⊥
never_session_over {s} r = never session_over (λ z. omega arith) r (never_10 (decode s) (bridge r).1)

-- no node makes answer 4
pub never_by_node : {s : StateB} → ReachB s → (x : EntryB) → Mem x s.trace → (j : ℕ) (p out q : List ℕ) → x.event ≡ stepping j p out → x.made ≡ q ∷ [] → (head_of q).answer ≡ answer_written → ⊥
unfolding packet_of
never_by_node {s} r x m j p out q i k a =
    let seen = is_seen (entries_good r x m) k i out (at_node j (packet_of p)) refl in
    no_node_acks (decode s) (bridge r).1 _ (to_trace s.trace m seen) j (packet_of p) (packet_of q) refl (subst (Mem (packet_of q)) (sym (ap (map packet_of) k)) (here refl)) a
