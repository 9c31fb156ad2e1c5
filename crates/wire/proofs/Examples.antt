-- Examples of packet writing: an outlet and what is left in it, and the numbers, each with what is nearest to it. And the last number of each kind.
use Prim.Native.Nat.{ℕ}
use mathlib.Core.Path.{◌≡◌, refl}
use mathlib.Core.List.{List, [], ◌∷◌, ◌++◌, map}
use mathlib.Core.Bool.{true, false}
use lib.ListN.{replicate}
use Rattle.be.specs.Be.{put}
use Rattle.wire.specs.Numbers.{Out, ok, refuse, done, guard, left, pick}
use Rattle.wire.specs.Version.{session, sequence, stamp, version, last_session, last_sequence, last_stamp, next_session, next_sequence, next_stamp}
use Rattle.wire.specs.declared.Session.{Session}
use Rattle.wire.specs.declared.Sequence.{Sequence}
use Rattle.wire.specs.declared.Stamp.{Stamp}
use Rattle.wire.specs.Packet.{Packet, packet, front_of, back_of, bytes_of, head_ok, packet_ok, write_call, sent_in}

-- a write under 1.2 with a length; key and value as they come
abbrev writing : ℕ → List ℕ → List ℕ → Packet
writing n key value = packet
    (record {
      op = 2;
      answer = 0;
      from = 3;
      to = 0;
      client = 4;
      request = 5;
      stamp = stamp 6;
      version = version 1 2;
      length = n;
    })
    key
    value

-- its first forty bytes
abbrev front : ℕ → List ℕ
front n =
    (2 ∷ 0 ∷ 0 ∷ 3 ∷ 0 ∷ 0 ∷ 0 ∷ 4 ∷ 0 ∷ 0 ∷ 0 ∷ 5 ∷ 0 ∷ 0 ∷ 0 ∷ 6 ∷ 0 ∷ 1 ∷ n ∷ 0 ∷ 0 ∷ 0 ∷ 0 ∷ 2 ∷ [])
    ++ replicate 16 9

pub record Call : Type 0 where
  pub outlet : List ℕ
  pub packet : Packet
  pub gives : Out (Unit {0})
  pub outlet' : List ℕ

-- into an outlet of a size; a refusal leaves it
abbrev written : ℕ → Packet → List ℕ → Call
written size p out' = record { outlet = replicate size 255; packet = p; gives = ok tt; outlet' = out' }

abbrev unwritten : ℕ → Packet → ℕ → Call
unwritten size p n = record { outlet = replicate size 255; packet = p; gives = refuse n; outlet' = replicate size 255 }

abbrev pub calls : List Call
calls =
    -- the packet is first, and the other bytes stay
    written 168 (writing 2 (replicate 16 9) (7 ∷ 8 ∷ [])) (front 2 ++ (7 ∷ 8 ∷ []) ++ replicate 126 255)
    ∷ written 168 (writing 128 (replicate 16 9) (replicate 128 7)) (front 128 ++ replicate 128 7)
    ∷ written 169 (writing 0 (replicate 16 9) []) (front 0 ++ replicate 129 255)
    -- 2, for a packet of 40 too, and with a key too short
    ∷ unwritten 167 (writing 128 (replicate 16 9) (replicate 128 7)) 2
    ∷ unwritten 167 (writing 0 (replicate 16 9) []) 2
    ∷ unwritten 167 (writing 0 (replicate 15 9) []) 2
    -- 3: a key too short, too long; a value shorter, longer than its length, too long
    ∷ unwritten 168 (writing 2 (replicate 15 9) (7 ∷ 8 ∷ [])) 3
    ∷ unwritten 168 (writing 2 (replicate 17 9) (7 ∷ 8 ∷ [])) 3
    ∷ unwritten 168 (writing 2 (replicate 16 9) (7 ∷ [])) 3
    ∷ unwritten 168 (writing 2 (replicate 16 9) (7 ∷ 8 ∷ 9 ∷ [])) 3
    ∷ unwritten 169 (writing 129 (replicate 16 9) (replicate 129 7)) 3
    ∷ []

-- answer and outlet of a call, and of its example
abbrev Left : Type 0
Left = Out (Unit {0}) × List ℕ

abbrev leaves : Call → Left
leaves c = let o = write_call c.outlet c.packet in (done o, left c.outlet (sent_in c.outlet) o)

pub write_examples : map leaves calls ≡ map (λ (c : Call). (c.gives, c.outlet')) calls
unfolding put guard front_of back_of bytes_of head_ok packet_ok write_call
write_examples = refl

-- ---- 16, 32 and 32 bits: the last session, sequence and stamp, and the one before; what follows it is the last

pub last_numbers : last_session (session 65534) ∷ last_session (session 65535) ∷ last_sequence (sequence 4294967294) ∷ last_sequence (sequence 4294967295) ∷ last_stamp (stamp 4294967294) ∷ last_stamp (stamp 4294967295) ∷ []
    ≡ false ∷ true ∷ false ∷ true ∷ false ∷ true ∷ []
last_numbers = refl

abbrev Next : Type 0
Next = Session × Sequence × Stamp

pub next_numbers : ◌≡◌ {A = Next} (next_session (session 65534), next_sequence (sequence 4294967294), next_stamp (stamp 4294967294)) (session 65535, sequence 4294967295, stamp 4294967295)
unfolding next_session next_sequence next_stamp pick
next_numbers = refl
