-- Document 01, "The parts and the authority for each": a version is (session, sequence), ordered by session first.
-- A session is compared with a session, a sequence with a sequence, a stamp with a stamp, never one with the other.
use Rattle.std.specs.Prelude.{ℕ, ◌+◌, ◌<◌, ◌≤◌, ◌≡◌, Bool, ◌&&◌, ◌||◌, ◌⊎◌, ltb, eqb}
use Rattle.wire.specs.declared.Session.{Session}
use Rattle.wire.specs.declared.Sequence.{Sequence}
use Rattle.wire.specs.declared.Stamp.{Stamp}
use Rattle.wire.specs.declared.Version.{Version}
use Rattle.wire.specs.Numbers.{pick}

abbrev pub session : ℕ → Session
session s = record { 0 = s }

abbrev pub sequence : ℕ → Sequence
sequence q = record { 0 = q }

abbrev pub stamp : ℕ → Stamp
stamp n = record { 0 = n }

-- S.Q
abbrev pub version : ℕ → ℕ → Version
version s q = record { session = session s; sequence = sequence q }

-- 0.0
abbrev pub zero_version : Version
zero_version = version 0 0

abbrev pub less_session : Session → Session → Bool
less_session a b = ltb a.0 b.0

abbrev pub same_session : Session → Session → Bool
same_session a b = eqb a.0 b.0

abbrev pub less_sequence : Sequence → Sequence → Bool
less_sequence a b = ltb a.0 b.0

abbrev pub same_sequence : Sequence → Sequence → Bool
same_sequence a b = eqb a.0 b.0

abbrev pub less_stamp : Stamp → Stamp → Bool
less_stamp a b = ltb a.0 b.0

abbrev pub same_stamp : Stamp → Stamp → Bool
same_stamp a b = eqb a.0 b.0

-- the largest of each kind: 16 bits, 32 bits, 32 bits
abbrev pub top_session : ℕ
top_session = 65535

abbrev pub top_sequence : ℕ
top_sequence = 4294967295

abbrev pub top_stamp : ℕ
top_stamp = 4294967295

-- no number of the kind is left after it
abbrev pub last_session : Session → Bool
last_session s = eqb s.0 top_session

abbrev pub last_sequence : Sequence → Bool
last_sequence q = eqb q.0 top_sequence

abbrev pub last_stamp : Stamp → Bool
last_stamp n = eqb n.0 top_stamp

-- one more; the last stays as it is, and no step asks for more then (refusal 11)
unfoldable pub next_session : Session → Session
next_session s = pick (last_session s) s (session (s.0 + 1))

unfoldable pub next_sequence : Sequence → Sequence
next_sequence q = pick (last_sequence q) q (sequence (q.0 + 1))

unfoldable pub next_stamp : Stamp → Stamp
next_stamp n = pick (last_stamp n) n (stamp (n.0 + 1))

-- a is strictly newer than b
unfoldable pub newer : Version → Version → Bool
newer a b =
    less_session b.session a.session
    || (same_session b.session a.session && less_sequence b.sequence a.sequence)

-- the same order as a proposition: a below b, and a at most b
abbrev pub Below : Version → Version → Type 0
Below a b = (a.session.0 < b.session.0) ⊎ ((a.session.0 ≡ b.session.0) × (a.sequence.0 < b.sequence.0))

abbrev pub AtMost : Version → Version → Type 0
AtMost a b = (a.session.0 < b.session.0) ⊎ ((a.session.0 ≡ b.session.0) × (a.sequence.0 ≤ b.sequence.0))

-- 0.0; both over 0; sequence over 0 only with session over 0
abbrev pub is_zero : Version → Bool
is_zero v = eqb v.session.0 0 && eqb v.sequence.0 0

abbrev pub is_given : Version → Bool
is_given v = ltb 0 v.session.0 && ltb 0 v.sequence.0

abbrev pub is_orderly : Version → Bool
is_orderly v = eqb v.sequence.0 0 || ltb 0 v.session.0
