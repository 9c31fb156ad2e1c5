-- Laws of what reading answers, and of an outlet that is emitted to.
use Prim.Native.Nat.{ℕ, ◌≤◌}
use mathlib.Core.Path.{◌≡◌}
use mathlib.Core.List.{List}
use mathlib.Core.Logic.{◌⊎◌, inl, inr}
use native.Mathlib.Omega.{arith}
use lib.ListN.{length}
use Rattle.wire.specs.Packet.{Packet, key_size, value_size, outlet_size, Formed, read_call, sent_in}
use Rattle.wire.specs.Numbers.{refuse, ok, malformed}
use Rattle.wire.specs.declared.Head.{Head}
use Rattle.wire.proofs.Numbers.{Reflects, reflects_yes, reflects_cases, reflect_and, reflect_eqb, reflect_leb, pick_true}
use Rattle.wire.proofs.Packet.{reflect_formed, ReadView, read_done, read_refused}
use Rattle.packet.specs.Emit.{room, emitted}

-- ---- what reading answers

pub read_fields : (p : List ℕ) (h : Head) → ok h ≡ read_call p → ReadView p h
read_fields p h e = go (reflects_cases (reflect_formed p))
  where
    go : Formed p ⊎ (Formed p → ⊥) → ReadView p h
    go (inl f) = let a = read_done p f in record { formed = f; head = cc }
    go (inr n) = let a = read_refused p n in absurd (let z : ◌≡◌ {A = ℕ} 0 1 = cc in omega arith)

pub read_unread : (p : List ℕ) (n : ℕ) → refuse n ≡ read_call p → (n ≡ malformed) × (Formed p → ⊥)
read_unread p n e = go (reflects_cases (reflect_formed p))
  where
    go : Formed p ⊎ (Formed p → ⊥) → (n ≡ malformed) × (Formed p → ⊥)
    go (inl f) = let a = read_done p f in absurd (let z : ◌≡◌ {A = ℕ} 0 1 = cc in omega arith)
    go (inr u) = let a = read_refused p u in (cc, u)

-- ---- an outlet that a packet is emitted to

-- whether it fits
reflect_room : (out : List ℕ) (p : Packet) → Reflects (room out p) ((outlet_size ≤ length out) × ((length p.key ≡ key_size) × (length p.value ≤ value_size)))
unfolding room
reflect_room out p = reflect_and (reflect_leb _ _) (reflect_and (reflect_eqb _ _) (reflect_leb _ _))

pub emit_done : (out : List ℕ) (p : Packet) → outlet_size ≤ length out → length p.key ≡ key_size → length p.value ≤ value_size → emitted out p ≡ sent_in out p
unfolding emitted
emit_done out p h k v = pick_true _ _ _ (reflects_yes (reflect_room out p) (h, (k, v)))
