-- What the relay sends is a packet: well-formed, in range, made of bytes; and what a call of the relay step promises.
use Prim.Native.Nat.{ℕ, ◌^◌, ◌<◌, ◌≤◌}
use mathlib.Core.Path.{◌≡◌, refl, sym, ap, ◌∙◌, subst}
use mathlib.Core.List.{List, [], Memᴰ as Mem}
use mathlib.Core.Logic.{◌⊎◌, inl, inr}
use native.Mathlib.Omega.{arith}
use lib.ListN.{length}
use Rattle.be.specs.Be.{Bytes}
use Rattle.be.proofs.Laws.{bytes_nil}
use Rattle.wire.specs.Numbers.{Out, refuse, ok, number_of, left}
use Rattle.wire.specs.Version.{sequence}
use Rattle.wire.specs.Packet.{Packet, packet_of, sent_in, Shape, read as is_read, write as is_write, delete as is_delete, value as is_value, never_written as is_never, deleted as is_deleted, no_key as is_no_key, written as is_written, value_size, op_write, op_delete, query, answer_written}
use Rattle.wire.specs.declared.Version.{Version}
use Rattle.wire.proofs.Numbers.{refuse_inj}
use Rattle.steps.specs.declared.Chain.{Chain}
use Rattle.steps.specs.declared.Destination.TheVariants.{ToNode, ToClient}
use Rattle.steps.specs.Chain.{members, first_of, last_of, next_of, ChainRules}
use Rattle.steps.specs.Node.{Numbered}
use Rattle.steps.specs.Relay.{Outcome, Way, node, client, to_node, to_client, packet_sent, outcome_of, outcome_number, relay_step, relay_call, RelayGives}
use Rattle.steps.proofs.ChainIds.{first_mem, last_mem}
use Rattle.steps.proofs.ChainOrder.{next_mem}
use Rattle.steps.proofs.Relay.{some, relay_called}
use Rattle.steps.proofs.NodeSound.{Sound, sound_packet}
use Rattle.steps.proofs.NodeSends.{Altering, writes, deletes, altering, altered}
use Rattle.steps.proofs.RelayView.{RelayCase, new_read, new_write, handed, acknowledged, passed_on, relay_view}

-- ---- the packets

-- a record that keeps the rules, its numbers in range
pub record SoundChain (r : Chain) : Type 0 where
  pub rules : ChainRules r
  pub wiring : r.wiring.0 < 256 ^ 4
  pub session : r.session.0 < 256 ^ 2
  pub highest : r.highest < 256 ^ 2

sound_to_node : (r : Chain) (j : ℕ) (v : Version) (p : Packet) → SoundChain r → Mem j (members r) → Sound p → v.session.0 < 256 ^ 2 → v.sequence.0 < 256 ^ 4
    → Shape query p.head.op p.head.length v → Sound (to_node r j v p)
unfolding to_node
sound_to_node r j v p c m s hs hq shape =
    let g = s.ranges in
    let h = c.rules.highest j m in
    let top = c.highest in
    record {
      fit = record { shape = shape; small = s.fit.small; key = s.fit.key; value = s.fit.value };
      ranges = record {
        op = g.op;
        answer = omega arith;
        from = omega arith;
        to = omega arith;
        client = g.client;
        request = g.request;
        stamp = c.wiring;
        session = hs;
        sequence = hq;
        length = g.length;
      };
      key = s.key;
      value = s.value;
    }

sound_to_client : (answer : ℕ) (value : List ℕ) (p : Packet) → answer < 256 → Sound p → Bytes value → length value ≤ value_size
    → Shape answer p.head.op (length value) p.head.version → Sound (to_client answer value p)
unfolding to_client
sound_to_client answer value p a s b n shape =
    let g = s.ranges in
    record {
      fit = record { shape = shape; small = n; key = s.fit.key; value = refl };
      ranges = record {
        op = g.op;
        answer = a;
        from = omega arith;
        to = omega arith;
        client = g.client;
        request = g.request;
        stamp = omega arith;
        session = g.session;
        sequence = g.sequence;
        length = omega arith;
      };
      key = s.key;
      value = b;
    }

-- a packet that has a sequence has a session
with_session : {a o n : ℕ} {v : Version} → Shape a o n v → 0 < v.sequence.0 → 0 < v.session.0
with_session (is_read a o n z) h = absurd (omega (arith, ap (λ (u : Version). u.sequence.0) z))
with_session (is_write a o f) h = f h
with_session (is_delete a o n f) h = f h
with_session (is_value a o s q) h = s
with_session (is_never a o n z) h = absurd (omega (arith, ap (λ (u : Version). u.sequence.0) z))
with_session (is_deleted a o n s q) h = s
with_session (is_no_key a l m n z) h = absurd (omega (arith, ap (λ (u : Version). u.sequence.0) z))
with_session (is_written a o n s q) h = s

-- ---- what is sent is a packet

module _ (r : Chain) (p : Packet) (c : SoundChain r) (s : Sound p) where
  members_some : 0 < length (members r)
  members_some = some r p c.rules

  -- a query goes on under its own version
  on : (j : ℕ) → Mem j (members r) → p.head.answer ≡ query → Sound (to_node r j p.head.version p)
  on j m a =
      sound_to_node r j p.head.version p c m s s.ranges.session s.ranges.sequence
      (subst (λ (n : ℕ). Shape n p.head.op p.head.length p.head.version) a s.fit.shape)

  -- a numbered write or delete becomes answer 4
  ack : Numbered p → p.head.answer ≡ query → Sound (to_client answer_written [] p)
  ack n a =
      let some : 0 < p.head.version.sequence.0 = let z = n.1 in omega arith in
      sound_to_client answer_written [] p (omega arith) s bytes_nil (omega arith)
      (is_written refl (op (altering a n.0 s.fit.shape)) refl (with_session s.fit.shape some) some)
    where
      op : Altering p.head.op p.head.length → (p.head.op ≡ op_write) ⊎ (p.head.op ≡ op_delete)
      op (writes o) = inl o
      op (deletes o z) = inr o

  sends : {w : Way} → RelayCase r p w → Sound (packet_sent w)
  sends (new_read k) = subst (λ (w : Way). Sound (packet_sent w)) (sym k.goes) (on (last_of (members r)) (last_mem (members r) members_some) k.sender.asks)
  sends (new_write k) =
      subst (λ (w : Way). Sound (packet_sent w)) (sym k.goes)
      (sound_to_node r (first_of (members r)) (record { session = r.session; sequence = sequence 0 }) p c (first_mem (members r) members_some) s c.session (omega arith)
      (altered (λ h. absurd (omega arith)) (altering k.sender.asks k.alters s.fit.shape)))
  sends (handed k) =
      subst (λ (w : Way). Sound (packet_sent w)) (sym k.goes)
      (sound_to_client p.head.answer p.value p s.ranges.answer s s.value (let n = s.fit.value in omega (arith, s.fit.small))
      (subst (λ (n : ℕ). Shape p.head.answer p.head.op n p.head.version) (sym s.fit.value) s.fit.shape))
  sends (acknowledged k) = subst (λ (w : Way). Sound (packet_sent w)) (sym k.goes) (ack k.numbered k.asks)
  sends (passed_on k) =
      subst (λ (w : Way). Sound (packet_sent w)) (sym k.goes)
      (on (next_of p.head.from (members r)) (next_mem p.head.from (members r) k.sender.member k.inner) k.asks)

  pub relay_sends : (w : Way) → relay_step r p ≡ ok w → Sound (packet_sent w)
  relay_sends w e = sends (relay_view r p w e).case

-- ---- over bytes

pub relay_leaves : (r : Chain) (p out : List ℕ) (w : Way) → Bytes p → r.wiring.0 < 256 ^ 4 → r.session.0 < 256 ^ 2 → r.highest < 256 ^ 2 → relay_call r p out ≡ ok w → Sound (packet_sent w)
relay_leaves r p out w b hw hs hh e =
    let c = relay_called r p out w e in
    relay_sends r (packet_of p) (record { rules = c.rules; wiring = hw; session = hs; highest = hh }) (sound_packet p b c.formed) w c.step

-- ---- the outcome

pub outcome_number_lem : (o : Out Way) → outcome_number (outcome_of o) ≡ number_of o
outcome_number_lem (refuse n) = refl
outcome_number_lem (ok (node j p)) = refl
outcome_number_lem (ok (client p)) = refl

module _ {r : Chain} {p out : List ℕ} where
  -- no second outcome fits
  pub relay_once : {o₁ o₂ : Outcome} {out₁ out₂ : List ℕ} → RelayGives r p out o₁ out₁ → RelayGives r p out o₂ out₂ → (o₁ ≡ o₂) × (out₁ ≡ out₂)
  relay_once g h = (g.outcome ∙ sym h.outcome, g.outlet ∙ sym h.outlet)

  -- document 01's number of the outcome is the number of the answer
  pub relay_number_lem : {o : Outcome} {out' : List ℕ} → RelayGives r p out o out' → outcome_number o ≡ number_of (relay_call r p out)
  relay_number_lem g = ap outcome_number g.outcome ∙ outcome_number_lem (relay_call r p out)

  -- a packet that is dropped leaves the outlet as it was
  pub relay_dropped : {n : ℕ} {out' : List ℕ} → RelayGives r p out (refuse n) out' → (relay_call r p out ≡ refuse n) × (out' ≡ out)
  relay_dropped {n} {out'} g = go (relay_call r p out) refl g.outcome g.outlet
    where
      go : (o : Out Way) → relay_call r p out ≡ o → refuse n ≡ outcome_of o → ◌≡◌ {A = List ℕ} out' (left out (λ w. sent_in out (packet_sent w)) o) → (relay_call r p out ≡ refuse n) × (out' ≡ out)
      go (refuse m) d e a = (d ∙ ap refuse (sym (refuse_inj e)), a)
      go (ok (node j q)) d e a = absurd (let z : ◌≡◌ {A = ℕ} 0 1 = cc in omega arith)
      go (ok (client q)) d e a = absurd (let z : ◌≡◌ {A = ℕ} 0 1 = cc in omega arith)

  -- one that is sent stands in the outlet
  pub relay_to_node : {j : ℕ} {out' : List ℕ} → RelayGives r p out (ok (ToNode j)) out' → (q : Packet) × (relay_call r p out ≡ ok (node j q)) × (out' ≡ sent_in out q)
  relay_to_node {j} {out'} g = go (relay_call r p out) refl g.outcome g.outlet
    where
      go : (o : Out Way) → relay_call r p out ≡ o → ok (ToNode j) ≡ outcome_of o → ◌≡◌ {A = List ℕ} out' (left out (λ w. sent_in out (packet_sent w)) o)
          → (q : Packet) × (relay_call r p out ≡ ok (node j q)) × (out' ≡ sent_in out q)
      go (refuse m) d e a = absurd (let z : ◌≡◌ {A = ℕ} 0 1 = cc in omega arith)
      go (ok (node i q)) d e a = (q, d ∙ ap (λ (k : ℕ). ok (node k q)) (sym (let f : j ≡ i = cc in f)), a)
      go (ok (client q)) d e a = absurd (let z : ◌≡◌ {A = ℕ} 0 1 = cc in omega arith)

  pub relay_to_client : {out' : List ℕ} → RelayGives r p out (ok ToClient) out' → (q : Packet) × (relay_call r p out ≡ ok (client q)) × (out' ≡ sent_in out q)
  relay_to_client {out'} g = go (relay_call r p out) refl g.outcome g.outlet
    where
      go : (o : Out Way) → relay_call r p out ≡ o → ok ToClient ≡ outcome_of o → ◌≡◌ {A = List ℕ} out' (left out (λ w. sent_in out (packet_sent w)) o)
          → (q : Packet) × (relay_call r p out ≡ ok (client q)) × (out' ≡ sent_in out q)
      go (refuse m) d e a = absurd (let z : ◌≡◌ {A = ℕ} 0 1 = cc in omega arith)
      go (ok (node i q)) d e a = absurd (let z : ◌≡◌ {A = ℕ} 0 1 = cc in omega arith)
      go (ok (client q)) d e a = (q, d, a)
