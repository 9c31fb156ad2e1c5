-- The definitions of specs/Parcels by what the code tests, the packet of an outlet, and the query of a line.
use Prim.Native.Nat.{ℕ, ◌+◌, ◌-◌, ◌≤◌, ◌<◌}
use mathlib.Core.Path.{◌≡◌, refl, sym, ap, ap₂, subst, ◌∙◌}
use mathlib.Core.List.{List, ◌++◌}
use native.Mathlib.Omega.{arith}
use borrow.Author.Tests.{ltb-true, ltb-false}
use lib.ListN.{length, get_or, take, drop, replicate, length-take, length-drop, take-append-drop, length-replicate, replicate-append-replicate}
use lib.Seq.{take-add, take-append_seam, drop_at}
use lib.Dec.{ltb}
use Rattle.std.specs.Prelude.{Result, slice_get}
use Rattle.wire.specs.Numbers.{Out, left}
use Rattle.wire.specs.Packet.{Packet, packet, front_size, key_size, outlet_size, length_at, value_of, write_call, sent_in, WriteGives}
use Rattle.wire.specs.declared.Head.{Head}
use Rattle.wire.proofs.Numbers.{pick_true, pick_case, reflects_yes, reflect_and, reflect_ltb, reflect_leb}
use Rattle.script.specs.Words as words
use Rattle.lines.specs.declared.output.Place.TheVariants.{Relay}
use Rattle.parcels.specs.declared.Fault.{Fault}
use Rattle.parcels.specs.declared.Parcel.{Parcel}
use Rattle.parcels.specs.declared.Parcels.{Parcels}
use Rattle.parcels.specs.Sizes.{most_parcels}
use Rattle.parcels.specs.Parcels.{bounded, count_of, part_in, packet_in, KeepGives}
use Rattle.parcels.specs.Query.{padded_key, query_of, query_for, outlet_of, SendGives}

-- ---- how many parcels there are

pub bounded_fits : (n : ℕ) → n ≤ most_parcels → bounded n ≡ n
unfolding bounded
bounded_fits n h = pick_case (λ (k : ℕ). k ≡ n) (ltb n most_parcels) n most_parcels (λ e. refl) (λ e. let g : most_parcels ≤ n = ltb-false _ _ e in omega arith)

pub count_fits : (ps : Parcels) → count_of ps ≤ most_parcels
unfolding count_of bounded
count_fits ps =
    pick_case (λ (k : ℕ). k ≤ most_parcels) (ltb ps.count most_parcels) ps.count most_parcels (λ e. let h : ps.count < most_parcels = ltb-true _ _ e in omega arith) (λ e. omega arith)

-- ---- a parcel that is there

pub part_there : (l : List Parcel) (n p : ℕ) → 0 < p → p ≤ n → part_in l n p ≡ slice_get l (p - 1)
unfolding part_in
part_there l n p h k = pick_true _ _ _ (reflects_yes (reflect_and (reflect_ltb 0 p) (reflect_leb p n)) (h, k))

-- ---- its packet

pub value_fits : (s : List ℕ) → length (value_of s) ≤ length s - front_size
unfolding value_of
value_fits s = simp (length-take, length-drop) (omega arith)

-- as many elements as a front has are that front
taken : (n : ℕ) (l : List ℕ) → take (length (take n l)) l ≡ take n l
taken n l = ap (take (length (take n l))) (sym (take-append-drop n l)) ∙ take-append_seam (take n l) (drop n l)

pub packet_cut : (o : List ℕ) → take (front_size + length (value_of o)) o ≡ packet_in o
unfolding packet_in value_of
packet_cut o = take-add front_size (length (value_of o)) o ∙ ap (λ (l : List ℕ). take front_size o ++ l) (taken (get_or o length_at 0) (drop front_size o))

-- ---- the query of a line

-- what is left of zeros
zeros_left : (j m : ℕ) → j ≤ m → drop j (replicate {A = ℕ} m 0) ≡ replicate (m - j) 0
zeros_left j m h =
    let n : j + (m - j) ≡ m = omega arith in
    let parts : replicate {A = ℕ} m 0 ≡ replicate j 0 ++ replicate (m - j) 0 = sym (replicate-append-replicate j (m - j) 0 ∙ ap (λ (k : ℕ). replicate {A = ℕ} k 0) n) in
    ap (drop j) parts ∙ drop_at (replicate j 0) (replicate (m - j) 0) j (length-replicate j 0)

pub key_padded : (l k r : List ℕ) → k ≡ words.key_of l → length k ≤ key_size → r ≡ k → r ++ drop (length k) (replicate key_size 0) ≡ padded_key l
unfolding padded_key
key_padded l k r e h f = ap₂ ◌++◌ (f ∙ e) (zeros_left (length k) key_size h ∙ ap (λ (t : List ℕ). replicate {A = ℕ} (key_size - length t) 0) e)

-- what is written of it is what its line says
pub sends : (a a' : Parcels) (l k v o : List ℕ) (op n : ℕ) (r : Result (Unit {0}) Fault) (h : Head) (w : Out (Unit {0})) → k ≡ padded_key l → v ≡ words.value_of l → n ≡ count_of a → h ≡ query_of op (n + 1) (length v)
    → WriteGives (replicate outlet_size 0) (packet h k v) w o
    → KeepGives a Relay o r a'
    → SendGives a op l r a'
unfolding outlet_of query_for
sends a a' l k v o op n r h w ek ev en eh g kept =
    let z = replicate {A = ℕ} outlet_size 0 in
    let head : h ≡ query_of op (count_of a + 1) (length (words.value_of l)) = eh ∙ ap₂ (λ (m : ℕ) (t : List ℕ). query_of op (m + 1) (length t)) en ev in
    let sent : packet h k v ≡ query_for op (count_of a + 1) l = λ i. packet (head i) (ek i) (ev i) in
    subst (λ (x : List ℕ). KeepGives a Relay x r a') (g.outlet ∙ ap (λ (p : Packet). left z (sent_in z) (write_call z p)) sent) kept
