-- Demand 3 of the system over bytes, for every key, over every reachable state.
use Prim.Native.Nat.{ℕ, ◌<◌}
use mathlib.Core.Path.{◌≡◌, refl, sym, ap, ◌∙◌, subst, subst₂}
use mathlib.Core.List.Memᴰ.{append_left}
use mathlib.Core.List.Memᴰ.{append_right}
use mathlib.Core.List.Memᴰ.{head as here}
use mathlib.Core.List.Memᴰ.{map as mem_map}
use mathlib.Core.List.Memᴰ.{tail as there}
use mathlib.Core.List.{List, [], ◌∷◌, ◌++◌, map, append_assoc, Memᴰ as Mem}
use mathlib.Core.Logic.{⊎_elim}
use native.Mathlib.Omega.{arith}
use lib.ListN.{length, get_or}
use Rattle.wire.specs.Version.{AtMost}
use Rattle.wire.specs.Packet.{Packet, packet_of}
use Rattle.wire.specs.declared.Version.{Version}
use Rattle.store.specs.Table.{Table, table_of, slot_of, row, free_slot, count_of}
use Rattle.store.specs.Held.{Content, version_at}
use Rattle.store.proofs.Rows.{get_or_slots}
use Rattle.store.proofs.Rules.{length_table}
use Rattle.steps.specs.Chain.{members}
use Rattle.protocol.specs.System.{Event, Entry, Ghost, numbered, acked, shown, ghosts_of, all_ghosts, ghosts}
use Rattle.protocol.specs.Demand.{StandsFor as StandsForD, in_history as in_history_d, in_slot as in_slot_d, in_packet as in_packet_d, Growing, HoldsOrLater, Kept as KeptD, Seen, by_read, by_ack, ReadsRise as ReadsRiseD, Demand3}
use Rattle.protocol.proofs.Trace.{acked_trace, shown_trace, numbered_trace}
use Rattle.protocol.proofs.Main.{demand, get_or_mem}
use Rattle.claims.specs.Bytes.{IsNode, EntryB, StateB, holds_version, ReachB}
use Rattle.claims.specs.Headline.{Acks, Shows, Numbers, ChainOrder, StandsFor, in_history, in_slot, in_packet, NumbersRise, AckedHeld, ReadsRise, Demand3B}
use Rattle.claims.proofs.Decode.{events_of, entry_as, trace_of, decode, table_of_lem}
use Rattle.claims.proofs.Images.{SoundB}
use Rattle.claims.proofs.Bridge.{bridge, bridge_run}
use Rattle.claims.proofs.Entries.{EntryGood, entries_good, to_trace}
use Rattle.claims.proofs.Said.{shows, acks, numbers, shown_ghosts, given_ghosts, numbered_both}

-- ---- the history, split at an entry

pub trace_append : (a b : List EntryB) → trace_of (a ++ b) ≡ trace_of a ++ trace_of b
trace_append [] b = refl
trace_append (x ∷ a) b = ap (λ (l : List Entry). map (entry_as x) (events_of x.event) ++ l) (trace_append a b) ∙ sym (append_assoc (map (entry_as x) (events_of x.event)) (trace_of a) (trace_of b))

pub ghosts_append : (a b : List Entry) → all_ghosts (a ++ b) ≡ all_ghosts a ++ all_ghosts b
ghosts_append [] b = refl
ghosts_append (x ∷ a) b =
    ap (λ (l : List Ghost). ghosts_of x.event x.made x.before ++ l) (ghosts_append a b)
    ∙ sym (append_assoc (ghosts_of x.event x.made x.before) (all_ghosts a) (all_ghosts b))

split : (s : StateB) (later earlier : List EntryB) (x : EntryB) {d : Event} → s.trace ≡ later ++ (x ∷ earlier) → events_of x.event ≡ d ∷ []
    → ghosts (decode s) ≡ all_ghosts (trace_of later) ++ (ghosts_of d (map packet_of x.made) x.before ++ (all_ghosts (trace_of earlier) ++ s.origin))
split s later earlier x {d} e is =
    ap (λ (l : List EntryB). all_ghosts (trace_of l) ++ s.origin) e
    ∙ (ap (λ (l : List Ghost). l ++ s.origin) (ap all_ghosts (trace_append later (x ∷ earlier)) ∙ (ghosts_append (trace_of later) _
    ∙ ap (λ (l : List Ghost). all_ghosts (trace_of later) ++ l) (ap (λ (l : List Event). all_ghosts (map (entry_as x) l ++ trace_of earlier)) is)))
    ∙ (append_assoc (all_ghosts (trace_of later)) _ s.origin
    ∙ ap (λ (l : List Ghost). all_ghosts (trace_of later) ++ l) (append_assoc (ghosts_of d (map packet_of x.made) x.before) (all_ghosts (trace_of earlier)) s.origin)))

reads_suffix : (k : List ℕ) (a b : List Ghost) → ReadsRiseD k (a ++ b) → ReadsRiseD k b
reads_suffix k [] b h = h
reads_suffix k (numbered k' v c j u p ∷ a) b h = reads_suffix k a b h
reads_suffix k (acked k' v p ∷ a) b h = reads_suffix k a b h
reads_suffix k (shown k' v p ∷ a) b h = reads_suffix k a b h.1

growing_suffix : (k : List ℕ) (a b : List Ghost) → Growing k (a ++ b) → Growing k b
growing_suffix k [] b h = h
growing_suffix k (numbered k' v c j u p ∷ a) b h = growing_suffix k a b h.1
growing_suffix k (acked k' v p ∷ a) b h = growing_suffix k a b h
growing_suffix k (shown k' v p ∷ a) b h = growing_suffix k a b h

-- ---- demand 3

-- chain nodes are nodes
pub member_node : {s : StateB} → SoundB s → (j : ℕ) → Mem j (members s.chain) → IsNode j
member_node {s} g j m =
    let h = g.chain.rules.highest j m in
    let top = g.chain.highest in
    (some (nonzero), omega arith)
  where
    nonzero : j ≡ 0 → ⊥
    nonzero e = g.chain.rules.nonzero (subst (λ (i : ℕ). Mem i (members s.chain)) e m)

    some : (j ≡ 0 → ⊥) → 0 < j
    some n = omega arith

-- so what a chain node holds is what its decoded table holds
pub node_table : {s : StateB} → SoundB s → (j : ℕ) → Mem j (members s.chain) → (decode s).table j ≡ table_of (s.table j)
node_table {s} g j m = table_of_lem s.chain.count s.table j (member_node g j m)

node_holds : {s : StateB} → SoundB s → (k : List ℕ) (j : ℕ) → Mem j (members s.chain) → holds_version s j k ≡ version_at k ((decode s).table j).slots
node_holds g k j m = ap (λ (t : Table). version_at k t.slots) (sym (node_table g j m))

module _ {s : StateB} (r : ReachB s) (k : List ℕ) where
  sound : SoundB s
  sound = (bridge r).0

  decoded : Demand3 (decode s) k
  decoded = demand k (decode s) (bridge r).1

  -- entries of the trace, and of its earlier part
  good : (x : EntryB) → Mem x s.trace → EntryGood x
  good x m = entries_good r x m

  at : (later earlier : List EntryB) (x : EntryB) → s.trace ≡ later ++ (x ∷ earlier) → EntryGood x
  at later earlier x e = good x (subst (Mem x) (sym e) (append_right later (here refl)))

  before : (later earlier : List EntryB) (x y : EntryB) → s.trace ≡ later ++ (x ∷ earlier) → Mem y earlier → EntryGood y
  before later earlier x y e m = good y (subst (Mem y) (sym e) (append_right later (there m)))

  order : ChainOrder s k
  order m n h b =
      subst₂ AtMost (sym (node_holds sound k _ (get_or_mem (members s.chain) n b))) (sym (node_holds sound k _ (get_or_mem (members s.chain) m (omega arith))))
      (decoded.order m n h b)

  stands : {v : Version} {c : Content} → StandsFor s k v c → StandsForD (decode s) k v c
  unfolding packet_of
  stands {v} {c} (in_history x j m h) =
      let a = numbers (good x m) h in
      in_history_d j x.before (packet_of h.delivered) (append_left s.origin ((numbered_trace (trace_of s.trace) k v c j x.before (packet_of h.delivered)).1 (_, to_trace s.trace m a.seen, a.holds)))
  stands (in_slot j i x n b e ek ev ec h) =
      let is = table_of_lem s.chain.count s.table j n in
      in_slot_d j i x (subst (λ (t : Table). i < length t.slots) (sym is) (subst (λ (n : ℕ). i < n) (sym (length_table (s.table j))) b))
      (ap (λ (t : Table). get_or t.slots i free_slot) is ∙ (slot_at (s.table j) i b ∙ e)) ek ev ec h
    where
      slot_at : (t : List ℕ) (i : ℕ) → i < count_of t → get_or (table_of t).slots i free_slot ≡ slot_of (row t i)
      slot_at t i b = unfold table_of in get_or_slots (count_of t) t i free_slot b
  stands (in_packet p m ek ev ec h) = in_packet_d (packet_of p) (mem_map packet_of m) ek ev ec h

  -- a numbering of the decoded history is in the trace
  entry_of : {v : Version} {c : Content} → (j : ℕ) × (before : Version) × (origin : Packet) × Mem (numbered k v c j before origin) (ghosts (decode s)) → (x : EntryB) × (j : ℕ) × Mem x s.trace × Numbers x j k v c
  entry_of {v} {c} (j, b, o, m) = let (x, n, i) = (numbered_both r k v c j).0 (b, o, m) in (x, j, n, i)

  rises : NumbersRise s k
  rises later earlier x y e m i j u v c d hx hy =
      let ax = numbers (at later earlier x e) hx in
      let ay = numbers (before later earlier x y e m) hy in
      let here = split s later earlier x e ax.seen ∙ ap (λ (l : List Ghost). all_ghosts (trace_of later) ++ (l ++ (all_ghosts (trace_of earlier) ++ s.origin))) (given_ghosts _ ax.holds) in
      (growing_suffix k (all_ghosts (trace_of later)) _ (subst (Growing k) here decoded.growing)).0 refl u d j y.before (packet_of hy.delivered)
      (append_left s.origin ((numbered_trace (trace_of earlier) k u d j y.before (packet_of hy.delivered)).1 (_, to_trace earlier m ay.seen, ay.holds)))

  held : AckedHeld s k
  held x v m h = record {
    content = kept.content;
    given = entry_of kept.given;
    held = λ t run j n.
        let (gt, d) = bridge_run sound run in
        subst (HoldsOrLater k v kept.content) (node_table gt j n) (kept.held (decode t) d j n);
  }
    where
      kept : KeptD (decode s) k v
      kept =
          let a = acks (good x m) h in
          decoded.acked_held v (packet_of h.packet) (append_left s.origin ((acked_trace (trace_of s.trace) k v (packet_of h.packet)).1 (_, to_trace s.trace m a.seen, a.holds)))

  reads : ReadsRise s k
  reads later earlier x y e m u v hx hy =
      let ax = shows (at later earlier x e) hx in
      let here = split s later earlier x e ax.seen ∙ ap (λ (l : List Ghost). all_ghosts (trace_of later) ++ (l ++ (all_ghosts (trace_of earlier) ++ s.origin))) (shown_ghosts _ ax.holds) in
      (reads_suffix k (all_ghosts (trace_of later)) _ (subst (ReadsRiseD k) here decoded.reads_rise)).0 refl u (⊎_elim read ack hy)
    where
      read : Shows y k u → Seen k u (all_ghosts (trace_of earlier) ++ s.origin)
      read h = let a = shows (before later earlier x y e m) h in by_read (packet_of h.packet) (append_left s.origin ((shown_trace (trace_of earlier) k u (packet_of h.packet)).1 (_, to_trace earlier m a.seen, a.holds)))

      ack : Acks y k u → Seen k u (all_ghosts (trace_of earlier) ++ s.origin)
      ack h = let a = acks (before later earlier x y e m) h in by_ack (packet_of h.packet) (append_left s.origin ((acked_trace (trace_of earlier) k u (packet_of h.packet)).1 (_, to_trace earlier m a.seen, a.holds)))

pub demand_b : (k : List ℕ) (s : StateB) → ReachB s → Demand3B s k
demand_b k s r = record {
  order = order r k;
  one_content = λ v c d h i. (decoded r k).one_content v c d (stands r k h) (stands r k i);
  all_numbered = λ v c h. entry_of r k ((decoded r k).all_numbered v c (stands r k h));
  numbers_rise = rises r k;
  acked_held = held r k;
  reads_rise = reads r k;
}
