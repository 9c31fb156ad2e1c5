-- A state over bytes as the decoded system sees it: tables as slots, packets as fields, entries of the trace as decoded ones.
use Prim.Native.Nat.{ℕ, ◌+◌, ◌^◌, ◌<◌, ◌≤◌}
use mathlib.Core.Path.{◌≡◌, refl, sym, ap, ap₂, ◌∙◌, subst, fun_ext}
use mathlib.Core.Bool.{Bool, ◌&&◌}
use mathlib.Core.List.{List, [], ◌∷◌, ◌++◌, map, map-append}
use lib.ListN.{length, get_or, take}
use lib.Dec.{ltb}
use borrow.Author.Tests.{ne_eqb, lt-ltb, le-ltb}
use Rattle.be.specs.Be.{put}
use Rattle.wire.specs.Numbers.{pick}
use Rattle.wire.specs.Packet.{Packet, packet_of, front_of, back_of, bytes_of, well_formed, Fit, sent_in, outlet_size, front_size, length_at}
use Rattle.wire.specs.declared.Version.{Version}
use Rattle.wire.proofs.Numbers.{pick_true, pick_false, pick_case, Reflects, reflect_and, reflect_ltb, reflects_yes}
use Rattle.wire.proofs.RoundTrip.{take_sent}
use Rattle.store.specs.Table.{Table, table_of, blank_table}
use Rattle.steps.specs.declared.Chain.{Chain}
use Rattle.protocol.specs.System.{State, Event, from_client, no_packet, at_relay, at_node, opens, fences, copies, activates, cancels, removes, enters, halts, Entry, entry, upd, becomes as becomes_d}
use Rattle.protocol.proofs.Upd.{upd_case, upd_same, upd_other}
use Rattle.claims.specs.Bytes.{IsNode, EventB, asking, relaying, stepping, opening, fencing, copying, activating, cancelling, removing, entering, halting, EntryB, StateB, first_packet, made_in, becomes}

-- ---- the image of a state

abbrev pub is_node : ℕ → Bool
is_node j = ltb 0 j && ltb j (256 ^ 2)

pub reflect_node : (j : ℕ) → Reflects (is_node j) (IsNode j)
reflect_node j = reflect_and (reflect_ltb 0 j) (reflect_ltb j (256 ^ 2))

-- the table of a node is what its bytes hold; where there can be no node it is blank
unfoldable pub tables_of : ℕ → (ℕ → List ℕ) → ℕ → Table
tables_of count t j = pick (is_node j) (table_of (t j)) (blank_table j count)

-- an event with an outlet that is too small is none: it changes nothing
abbrev pub roomy : List ℕ → Event → List Event
roomy out e = pick (ltb (length out) outlet_size) [] (e ∷ [])

-- what the decoded system sees of an event: one event or none
abbrev pub events_of : EventB → List Event
events_of (asking p out) = roomy out (pick (well_formed p) (from_client (packet_of p)) no_packet)
events_of (relaying p out) = roomy out (at_relay (packet_of p))
events_of (stepping j p out) = roomy out (at_node j (packet_of p))
events_of (opening after named fresh) = opens after named fresh ∷ []
events_of (fencing j) = fences j ∷ []
events_of (copying i a b) = copies i a b ∷ []
events_of activating = activates ∷ []
events_of cancelling = cancels ∷ []
events_of (removing id) = removes id ∷ []
events_of (entering j id key) = enters j id key ∷ []
events_of (halting j) = halts j ∷ []

-- an entry, once its event is known
abbrev pub entry_as : EntryB → Event → Entry
entry_as x e = entry e x.number (map packet_of x.made) x.before

abbrev pub trace_of : List EntryB → List Entry
trace_of [] = []
trace_of (x ∷ l) = map (entry_as x) (events_of x.event) ++ trace_of l

abbrev pub decode : StateB → State
decode s = record {
  chain = s.chain;
  table = tables_of s.chain.count s.table;
  halted = s.halted;
  packets = map packet_of s.packets;
  trace = trace_of s.trace;
  origin = s.origin;
}

-- ---- tables

pub table_of_lem : (count : ℕ) (t : ℕ → List ℕ) (j : ℕ) → IsNode j → tables_of count t j ≡ table_of (t j)
unfolding tables_of
table_of_lem count t j h = pick_true _ _ _ (reflects_yes (reflect_node j) h)

-- every node's table blank
pub tables_blank : (count : ℕ) (t : ℕ → List ℕ) → ((j : ℕ) → IsNode j → table_of (t j) ≡ blank_table j count) → (j : ℕ) → tables_of count t j ≡ blank_table j count
unfolding tables_of
tables_blank count t h j = pick_case (λ (x : Table). x ≡ blank_table j count) (is_node j) _ _ (λ e. h j ((reflect_node j).0 e)) (λ _. refl)

-- a node's table that is stored
pub tables_put : (count : ℕ) (t : ℕ → List ℕ) (j : ℕ) (b : List ℕ) → IsNode j → tables_of count (upd t j b) ≡ upd (tables_of count t) j (table_of b)
tables_put count t j b h = fun_ext (λ i. upd_case (λ (x : Table). tables_of count (upd t j b) i ≡ x) (tables_of count t) j (table_of b) i (same i) (other i))
  where
    same : (i : ℕ) → j ≡ i → tables_of count (upd t j b) i ≡ table_of b
    same i e = table_of_lem count (upd t j b) i (subst IsNode e h) ∙ ap table_of (ap (upd t j b) (sym e) ∙ upd_same t j b)

    other : (i : ℕ) → (j ≡ i → ⊥) → tables_of count (upd t j b) i ≡ tables_of count t i
    other i n = unfold tables_of in ap (λ (l : List ℕ). pick (is_node i) (table_of l) (blank_table i count)) (upd_other t j b i n)

-- ---- events

-- an event that the decoded system sees
pub seen : (s : StateB) (r : Chain) (t : ℕ → List ℕ) (h : ℕ → Bool) (q : List (List ℕ)) (e : EventB) (n : ℕ) (v : Version) {d : Event} {T : ℕ → Table} {Q : List Packet} {u : Version}
    → events_of e ≡ d ∷ [] → tables_of r.count t ≡ T → map packet_of q ≡ Q → v ≡ u
    → decode (becomes s r t h q e n v) ≡ becomes_d (decode s) r T h Q (entry d n Q u)
seen s r t h q e n v is f g w =
    let packets = map-append packet_of q s.packets ∙ ap (λ (l : List Packet). l ++ map packet_of s.packets) g in
    let trace : trace_of (becomes s r t h q e n v).trace ≡ _ = λ i. map (λ (d : Event). entry d n (g i) (w i)) (is i) ++ trace_of s.trace in
    λ i. record { chain = r; table = f i; halted = h; packets = packets i; trace = trace i; origin = s.origin }

-- one that it does not see
pub unseen : (s : StateB) (t : ℕ → List ℕ) (q : List (List ℕ)) (e : EventB) (n : ℕ) (v : Version)
    → events_of e ≡ [] → t ≡ s.table → q ≡ [] → decode (becomes s s.chain t s.halted q e n v) ≡ decode s
unseen s t q e n v is f g =
    let packets = ap (λ (l : List (List ℕ)). map packet_of (l ++ s.packets)) g in
    let trace = ap₂ (λ (l : List Event) (m : List (List ℕ)). map (λ (d : Event). entry d n (map packet_of m) v) l ++ trace_of s.trace) is g in
    λ i. record { chain = s.chain; table = tables_of s.chain.count (f i); halted = s.halted; packets = packets i; trace = trace i; origin = s.origin }

-- the outlet is large enough, or not
pub roomy_yes : (out : List ℕ) (d : Event) → outlet_size ≤ length out → roomy out d ≡ d ∷ []
roomy_yes out d h = pick_false _ _ _ (le-ltb _ _ h)

pub roomy_no : (out : List ℕ) (d : Event) → length out < outlet_size → roomy out d ≡ []
roomy_no out d h = pick_true _ _ _ (lt-ltb _ _ h)

-- ---- packets made

-- after a refusal none
pub made_none : (n : ℕ) (out : List ℕ) → (n ≡ 0 → ⊥) → made_in n out ≡ []
unfolding made_in
made_none n out h = pick_false _ _ _ (ne_eqb n 0 h)

-- the packet that was sent stands first in the outlet
length_at_lem : (out : List ℕ) (q : Packet) → get_or (sent_in out q) length_at 0 ≡ q.head.length
unfolding put bytes_of front_of back_of
length_at_lem out q = refl

pub made_one : (out : List ℕ) (q : Packet) → Fit q → made_in 0 (sent_in out q) ≡ bytes_of q ∷ []
unfolding made_in first_packet pick
made_one out q f = ap (λ (n : ℕ). take (front_size + n) (sent_in out q) ∷ []) (length_at_lem out q ∙ sym f.value) ∙ ap (λ (l : List ℕ). l ∷ []) (take_sent out q f)
