-- Packets, slots and tables as bytes hold them: well-formed, by the rules, in range, made of bytes.
use Prim.Native.Nat.{ℕ, ◌+◌, ◌^◌, ◌<◌, ◌≤◌}
use mathlib.Core.Path.{◌≡◌, refl, ap, subst}
use mathlib.Core.List.{List}
use mathlib.Core.Logic.{◌↔◌}
use native.Mathlib.Omega.{arith}
use lib.ListN.{length, get_or, take, drop}
use Rattle.be.specs.Be.{Bytes}
use Rattle.be.proofs.Laws.{bytes_take, bytes_drop, bound}
use Rattle.wire.specs.Version.{zero_version}
use Rattle.wire.specs.Packet.{Packet, packet_of, bytes_of, sent_in, outlet_size, key_of, value_of, Formed, Fit, front_size, key_size, key_at, length_at}
use Rattle.wire.specs.declared.Version.{Version}
use Rattle.wire.proofs.RoundTrip.{Ranges, ranges, fit_packet, formed_bytes, read_write, take_sent, drop_sent, length_sent}
use Rattle.store.specs.Table.{Slot, Table, table_of, TableRules, free_slot, Used, never_written as used_never, has_value as used_value, was_deleted as used_deleted}
use Rattle.store.specs.Held.{Held, missing, holds, held, nothing, content_of, held_version, held_content, version_at, content_at}
use Rattle.store.proofs.Slot.{SlotFits, SlotBytes}
use Rattle.store.proofs.Rules.{SlotRules, slot_free, slot_used, table_rules, table_fits, table_bytes_lem}
use Rattle.steps.specs.Node.{Stands}
use Rattle.steps.proofs.NodeView.{content_value, content_gone, content_none}
use Rattle.steps.proofs.NodeDone.{held_stands}

-- ---- packets

-- a packet as its bytes hold it: well-formed, its fields in range, its key and value bytes
pub record Sound (p : Packet) : Type 0 where
  pub fit : Fit p
  pub ranges : Ranges p.head
  pub key : Bytes p.key
  pub value : Bytes p.value

pub sound_packet : (b : List ℕ) → Bytes b → Formed b → Sound (packet_of b)
unfolding packet_of key_of value_of
sound_packet b bs f =
    let s = f.size in
    record {
      fit = fit_packet b f;
      ranges = ranges b bs (omega arith);
      key = bytes_take key_size (drop key_at b) (bytes_drop key_at b bs);
      value = bytes_take (get_or b length_at 0) (drop front_size b) (bytes_drop front_size b bs);
    }

-- in an outlet: its first bytes are the packet and read as it, and the others stay
pub record InOutlet (out out' : List ℕ) (p : Packet) : Type 0 where
  pub size : length out' ≡ length out
  pub first : take (front_size + length p.value) out' ≡ bytes_of p
  pub others : drop (front_size + length p.value) out' ≡ drop (front_size + length p.value) out
  pub formed : Formed (bytes_of p)
  pub reads : packet_of (bytes_of p) ≡ p

pub sound_outlet : (out : List ℕ) (p : Packet) → Sound p → outlet_size ≤ length out → InOutlet out (sent_in out p) p
sound_outlet out p s h = record {
  size = length_sent out p s.fit h;
  first = take_sent out p s.fit;
  others = drop_sent out p s.fit;
  formed = formed_bytes p s.fit s.ranges;
  reads = read_write p s.fit s.ranges;
}

-- ---- tables and slots

-- a table as its bytes hold it
pub record SoundTable (t : Table) : Type 0 where
  pub id : t.id < 256 ^ 2
  pub rules : (i : ℕ) → SlotRules (get_or t.slots i free_slot)
  pub fits : (i : ℕ) → SlotFits (get_or t.slots i free_slot)
  pub bytes : (i : ℕ) → SlotBytes (get_or t.slots i free_slot)

pub sound_table : (t : List ℕ) → Bytes t → TableRules t → SoundTable (table_of t)
unfolding table_of
sound_table t b g =
    let s = g.size in
    record { id = bound 2 t 4 b (omega arith); rules = table_rules t g; fits = table_fits t g b; bytes = table_bytes_lem t g b }

-- a slot that a sound table holds is used, fits its row, and is made of bytes
pub record SoundSlot (s : Slot) : Type 0 where
  pub used : Used s.state (length s.value) s.version
  pub fits : SlotFits s
  pub bytes : SlotBytes s

pub sound_slot : (t : Table) (k : List ℕ) (s : Slot) → SoundTable t → held k t.slots ≡ holds s → SoundSlot s
sound_slot t k s g e = record { used = used (at SlotRules g.rules); fits = at SlotFits g.fits; bytes = at SlotBytes g.bytes }
  where
    h : (i : ℕ) × Stands k t.slots i s
    h = held_stands k t.slots s e

    at : (P : Slot → Type 0) → ((i : ℕ) → P (get_or t.slots i free_slot)) → P s
    at P f = subst P h.1.at (f h.0)

    used : SlotRules s → Used s.state (length s.value) s.version
    used (slot_free q) = absurd (h.1.used (ap (λ (y : Slot). y.state) q))
    used (slot_used k v u) = u

-- of a sound table 0.0 says that nothing is written under the key
pub zero_nothing : (t : Table) (k : List ℕ) → SoundTable t → (version_at k t.slots ≡ zero_version) ↔ (content_at k t.slots ≡ nothing)
zero_nothing t k g = go (held k t.slots) refl
  where
    slot : (s : Slot) → Used s.state (length s.value) s.version → (s.version ≡ zero_version) ↔ (content_of s ≡ nothing)
    slot s (used_never z n y) = (λ _. content_none s (λ e. omega arith) (λ e. omega arith), λ _. y)
    slot s (used_value z y q) = (
      λ e. absurd (omega (arith, ap (λ (v : Version). v.session.0) e)),
      λ e. absurd (let w = content_value s z in let z : ◌≡◌ {A = ℕ} 0 1 = cc in omega arith),
    )
    slot s (used_deleted z n y q) = (
      λ e. absurd (omega (arith, ap (λ (v : Version). v.session.0) e)),
      λ e. absurd (let w = content_gone s z in let z : ◌≡◌ {A = ℕ} 0 1 = cc in omega arith),
    )

    go : (h : Held) → held k t.slots ≡ h → (held_version h ≡ zero_version) ↔ (held_content h ≡ nothing)
    go missing e = (λ _. refl, λ _. refl)
    go (holds s) e = slot s (sound_slot t k s g e).used
