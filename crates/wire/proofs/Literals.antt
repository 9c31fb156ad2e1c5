-- Packets typed byte by byte from document 01's offsets, and by no encoder: what each reads as, and that none whose one rule is broken is well-formed.
use Prim.Native.Nat.{ℕ}
use mathlib.Core.Path.{◌≡◌, refl}
use mathlib.Core.List.{List, [], ◌∷◌, ◌++◌, map}
use lib.ListN.{drop, replicate}
use Rattle.wire.specs.Numbers.{Out, refuse, ok, guard, malformed}
use Rattle.wire.specs.Version.{stamp, version}
use Rattle.wire.specs.Packet.{Packet, packet, value_size, head_of, key_of, value_of, packet_of, front_of, back_of, bytes_of, head_ok, well_formed, read_call}
use Rattle.wire.specs.declared.Version.{Version}
use Rattle.wire.specs.declared.Head.{Head}

-- 2–3 from; 4–5 to; 6–7 client; 8–11 request; 12–15 stamp
abbrev names : List ℕ
names =
    0x11 ∷ 0x12 ∷ 0x21 ∷ 0x22 ∷ 0x31 ∷ 0x32 ∷ 0x41 ∷ 0x42 ∷ 0x43 ∷ 0x44 ∷ 0x51 ∷ 0x52 ∷ 0x53 ∷ 0x54 ∷ []

-- 24–39 key
abbrev key : List ℕ
key =
    0x81 ∷ 0x82 ∷ 0x83 ∷ 0x84 ∷ 0x85 ∷ 0x86 ∷ 0x87 ∷ 0x88 ∷ 0x89 ∷ 0x8a ∷ 0x8b ∷ 0x8c ∷ 0x8d ∷ 0x8e ∷ 0x8f ∷ 0x90 ∷ []

-- 0 op, 1 answer; the names; 16–17 session, 18 length, 19 zero, 20–23 sequence; the key; the value
abbrev typed_as : List ℕ → List ℕ → List ℕ → List ℕ → List ℕ
typed_as names start middle value = start ++ names ++ middle ++ key ++ value

abbrev typed : List ℕ → List ℕ → List ℕ → List ℕ
typed start middle value = start ++ names ++ middle ++ key ++ value

-- the same as fields
abbrev fields_as : ℕ → ℕ → ℕ → ℕ → ℕ → ℕ → ℕ → Version → ℕ → List ℕ → Packet
fields_as from to client request n op answer v size value = packet
    (record {
      op = op;
      answer = answer;
      from = from;
      to = to;
      client = client;
      request = request;
      stamp = stamp n;
      version = v;
      length = size;
    })
    key
    value

abbrev fields : ℕ → ℕ → Version → ℕ → List ℕ → Packet
fields op answer v n value = packet
    (record {
      op = op;
      answer = answer;
      from = 0x1112;
      to = 0x2122;
      client = 0x3132;
      request = 0x41424344;
      stamp = stamp 0x51525354;
      version = v;
      length = n;
    })
    key
    value

pub record Sample : Type 0 where
  pub bytes : List ℕ
  pub reads : Packet

abbrev sample : List ℕ → Packet → Sample
sample b p = record { bytes = b; reads = p }

-- a read whose names are typed so, and its from, to, client, request and stamp
abbrev asking : List ℕ → ℕ → ℕ → ℕ → ℕ → ℕ → Sample
asking names from to client request n =
    sample (typed_as names (1 ∷ 0 ∷ []) (0 ∷ 0 ∷ 0 ∷ 0 ∷ 0 ∷ 0 ∷ 0 ∷ 0 ∷ []) []) (fields_as from to client request n 1 0 (version 0 0) 0 [])

-- ---- packets: every op of a query, every answer, an empty write, writes and deletes without number, the longest value, and the least and the largest of each number

pub good : List Sample
good =
    sample (typed (1 ∷ 0 ∷ []) (0 ∷ 0 ∷ 0 ∷ 0 ∷ 0 ∷ 0 ∷ 0 ∷ 0 ∷ []) []) (fields 1 0 (version 0 0) 0 [])
    ∷ sample (typed (2 ∷ 0 ∷ []) (0x61 ∷ 0x62 ∷ 3 ∷ 0 ∷ 0x71 ∷ 0x72 ∷ 0x73 ∷ 0x74 ∷ []) (7 ∷ 8 ∷ 9 ∷ [])) (fields 2 0 (version 0x6162 0x71727374) 3 (7 ∷ 8 ∷ 9 ∷ []))
    ∷ sample (typed (2 ∷ 0 ∷ []) (0 ∷ 0 ∷ 0 ∷ 0 ∷ 0 ∷ 0 ∷ 0 ∷ 0 ∷ []) []) (fields 2 0 (version 0 0) 0 [])
    ∷ sample (typed (2 ∷ 0 ∷ []) (0x61 ∷ 0x62 ∷ 0x80 ∷ 0 ∷ 0 ∷ 0 ∷ 0 ∷ 0 ∷ []) (replicate value_size 0xab)) (fields 2 0 (version 0x6162 0) 0x80 (replicate value_size 0xab))
    ∷ sample (typed (3 ∷ 0 ∷ []) (0x61 ∷ 0x62 ∷ 0 ∷ 0 ∷ 0x71 ∷ 0x72 ∷ 0x73 ∷ 0x74 ∷ []) []) (fields 3 0 (version 0x6162 0x71727374) 0 [])
    ∷ sample (typed (3 ∷ 0 ∷ []) (0 ∷ 0 ∷ 0 ∷ 0 ∷ 0 ∷ 0 ∷ 0 ∷ 0 ∷ []) []) (fields 3 0 (version 0 0) 0 [])
    ∷ sample (typed (3 ∷ 0 ∷ []) (0x61 ∷ 0x62 ∷ 0 ∷ 0 ∷ 0 ∷ 0 ∷ 0 ∷ 0 ∷ []) []) (fields 3 0 (version 0x6162 0) 0 [])
    ∷ sample (typed (1 ∷ 1 ∷ []) (0x61 ∷ 0x62 ∷ 2 ∷ 0 ∷ 0x71 ∷ 0x72 ∷ 0x73 ∷ 0x74 ∷ []) (5 ∷ 6 ∷ [])) (fields 1 1 (version 0x6162 0x71727374) 2 (5 ∷ 6 ∷ []))
    ∷ sample (typed (1 ∷ 1 ∷ []) (0x61 ∷ 0x62 ∷ 0x80 ∷ 0 ∷ 0x71 ∷ 0x72 ∷ 0x73 ∷ 0x74 ∷ []) (replicate value_size 0xab)) (fields 1 1 (version 0x6162 0x71727374) 0x80 (replicate value_size 0xab))
    ∷ sample (typed (1 ∷ 2 ∷ []) (0 ∷ 0 ∷ 0 ∷ 0 ∷ 0 ∷ 0 ∷ 0 ∷ 0 ∷ []) []) (fields 1 2 (version 0 0) 0 [])
    ∷ sample (typed (1 ∷ 2 ∷ []) (0x61 ∷ 0x62 ∷ 0 ∷ 0 ∷ 0x71 ∷ 0x72 ∷ 0x73 ∷ 0x74 ∷ []) []) (fields 1 2 (version 0x6162 0x71727374) 0 [])
    ∷ sample (typed (1 ∷ 3 ∷ []) (0 ∷ 0 ∷ 0 ∷ 0 ∷ 0 ∷ 0 ∷ 0 ∷ 0 ∷ []) []) (fields 1 3 (version 0 0) 0 [])
    ∷ sample (typed (2 ∷ 3 ∷ []) (0 ∷ 0 ∷ 0 ∷ 0 ∷ 0 ∷ 0 ∷ 0 ∷ 0 ∷ []) []) (fields 2 3 (version 0 0) 0 [])
    ∷ sample (typed (3 ∷ 3 ∷ []) (0 ∷ 0 ∷ 0 ∷ 0 ∷ 0 ∷ 0 ∷ 0 ∷ 0 ∷ []) []) (fields 3 3 (version 0 0) 0 [])
    ∷ sample (typed (2 ∷ 4 ∷ []) (0x61 ∷ 0x62 ∷ 0 ∷ 0 ∷ 0x71 ∷ 0x72 ∷ 0x73 ∷ 0x74 ∷ []) []) (fields 2 4 (version 0x6162 0x71727374) 0 [])
    ∷ sample (typed (3 ∷ 4 ∷ []) (0x61 ∷ 0x62 ∷ 0 ∷ 0 ∷ 0x71 ∷ 0x72 ∷ 0x73 ∷ 0x74 ∷ []) []) (fields 3 4 (version 0x6162 0x71727374) 0 [])
    -- 0: from, to, client, request, stamp, and all of them
    ∷ asking (0 ∷ 0 ∷ 0x21 ∷ 0x22 ∷ 0x31 ∷ 0x32 ∷ 0x41 ∷ 0x42 ∷ 0x43 ∷ 0x44 ∷ 0x51 ∷ 0x52 ∷ 0x53 ∷ 0x54 ∷ []) 0 0x2122 0x3132 0x41424344 0x51525354
    ∷ asking (0x11 ∷ 0x12 ∷ 0 ∷ 0 ∷ 0x31 ∷ 0x32 ∷ 0x41 ∷ 0x42 ∷ 0x43 ∷ 0x44 ∷ 0x51 ∷ 0x52 ∷ 0x53 ∷ 0x54 ∷ []) 0x1112 0 0x3132 0x41424344 0x51525354
    ∷ asking (0x11 ∷ 0x12 ∷ 0x21 ∷ 0x22 ∷ 0 ∷ 0 ∷ 0x41 ∷ 0x42 ∷ 0x43 ∷ 0x44 ∷ 0x51 ∷ 0x52 ∷ 0x53 ∷ 0x54 ∷ []) 0x1112 0x2122 0 0x41424344 0x51525354
    ∷ asking (0x11 ∷ 0x12 ∷ 0x21 ∷ 0x22 ∷ 0x31 ∷ 0x32 ∷ 0 ∷ 0 ∷ 0 ∷ 0 ∷ 0x51 ∷ 0x52 ∷ 0x53 ∷ 0x54 ∷ []) 0x1112 0x2122 0x3132 0 0x51525354
    ∷ asking (0x11 ∷ 0x12 ∷ 0x21 ∷ 0x22 ∷ 0x31 ∷ 0x32 ∷ 0x41 ∷ 0x42 ∷ 0x43 ∷ 0x44 ∷ 0 ∷ 0 ∷ 0 ∷ 0 ∷ []) 0x1112 0x2122 0x3132 0x41424344 0
    ∷ asking (replicate 14 0) 0 0 0 0 0
    -- the largest: from, to, client, request, stamp, and all of them
    ∷ asking (0xff ∷ 0xff ∷ 0x21 ∷ 0x22 ∷ 0x31 ∷ 0x32 ∷ 0x41 ∷ 0x42 ∷ 0x43 ∷ 0x44 ∷ 0x51 ∷ 0x52 ∷ 0x53 ∷ 0x54 ∷ []) 65535 0x2122 0x3132 0x41424344 0x51525354
    ∷ asking (0x11 ∷ 0x12 ∷ 0xff ∷ 0xff ∷ 0x31 ∷ 0x32 ∷ 0x41 ∷ 0x42 ∷ 0x43 ∷ 0x44 ∷ 0x51 ∷ 0x52 ∷ 0x53 ∷ 0x54 ∷ []) 0x1112 65535 0x3132 0x41424344 0x51525354
    ∷ asking (0x11 ∷ 0x12 ∷ 0x21 ∷ 0x22 ∷ 0xff ∷ 0xff ∷ 0x41 ∷ 0x42 ∷ 0x43 ∷ 0x44 ∷ 0x51 ∷ 0x52 ∷ 0x53 ∷ 0x54 ∷ []) 0x1112 0x2122 65535 0x41424344 0x51525354
    ∷ asking (0x11 ∷ 0x12 ∷ 0x21 ∷ 0x22 ∷ 0x31 ∷ 0x32 ∷ 0xff ∷ 0xff ∷ 0xff ∷ 0xff ∷ 0x51 ∷ 0x52 ∷ 0x53 ∷ 0x54 ∷ []) 0x1112 0x2122 0x3132 4294967295 0x51525354
    ∷ asking (0x11 ∷ 0x12 ∷ 0x21 ∷ 0x22 ∷ 0x31 ∷ 0x32 ∷ 0x41 ∷ 0x42 ∷ 0x43 ∷ 0x44 ∷ 0xff ∷ 0xff ∷ 0xff ∷ 0xff ∷ []) 0x1112 0x2122 0x3132 0x41424344 4294967295
    ∷ asking (replicate 14 0xff) 65535 65535 65535 4294967295 4294967295
    -- the last session and the last sequence: of a write without a number, apart, and in every shape that has both
    ∷ sample (typed (2 ∷ 0 ∷ []) (0xff ∷ 0xff ∷ 0 ∷ 0 ∷ 0 ∷ 0 ∷ 0 ∷ 0 ∷ []) []) (fields 2 0 (version 65535 0) 0 [])
    ∷ sample (typed (2 ∷ 0 ∷ []) (0xff ∷ 0xff ∷ 0 ∷ 0 ∷ 0 ∷ 0 ∷ 0 ∷ 1 ∷ []) []) (fields 2 0 (version 65535 1) 0 [])
    ∷ sample (typed (2 ∷ 0 ∷ []) (0 ∷ 1 ∷ 0 ∷ 0 ∷ 0xff ∷ 0xff ∷ 0xff ∷ 0xff ∷ []) []) (fields 2 0 (version 1 4294967295) 0 [])
    ∷ sample (typed (2 ∷ 0 ∷ []) (0xff ∷ 0xff ∷ 1 ∷ 0 ∷ 0xff ∷ 0xff ∷ 0xff ∷ 0xff ∷ []) (0xff ∷ [])) (fields 2 0 (version 65535 4294967295) 1 (0xff ∷ []))
    ∷ sample (typed (3 ∷ 0 ∷ []) (0xff ∷ 0xff ∷ 0 ∷ 0 ∷ 0xff ∷ 0xff ∷ 0xff ∷ 0xff ∷ []) []) (fields 3 0 (version 65535 4294967295) 0 [])
    ∷ sample (typed (1 ∷ 1 ∷ []) (0xff ∷ 0xff ∷ 0 ∷ 0 ∷ 0xff ∷ 0xff ∷ 0xff ∷ 0xff ∷ []) []) (fields 1 1 (version 65535 4294967295) 0 [])
    ∷ sample (typed (1 ∷ 2 ∷ []) (0xff ∷ 0xff ∷ 0 ∷ 0 ∷ 0xff ∷ 0xff ∷ 0xff ∷ 0xff ∷ []) []) (fields 1 2 (version 65535 4294967295) 0 [])
    ∷ sample (typed (2 ∷ 4 ∷ []) (0xff ∷ 0xff ∷ 0 ∷ 0 ∷ 0xff ∷ 0xff ∷ 0xff ∷ 0xff ∷ []) []) (fields 2 4 (version 65535 4294967295) 0 [])
    ∷ sample (typed (3 ∷ 4 ∷ []) (0xff ∷ 0xff ∷ 0 ∷ 0 ∷ 0xff ∷ 0xff ∷ 0xff ∷ 0xff ∷ []) []) (fields 3 4 (version 65535 4294967295) 0 [])
    ∷ []

-- each is read, reads as its fields, and is what its fields are written as
abbrev Seen : Type 0
Seen = Out Head × Packet × List ℕ

pub good_packets : map {B = Seen} (λ (s : Sample). (read_call s.bytes, packet_of s.bytes, bytes_of s.reads)) good
    ≡ map (λ (s : Sample). (ok s.reads.head, s.reads, s.bytes)) good
unfolding good read_call guard well_formed head_ok packet_of head_of key_of value_of bytes_of front_of back_of
good_packets = refl

-- ---- damaged twins: one rule broken in each

pub damaged : List (List ℕ)
damaged =
    -- no byte, and a byte less than the key has
    []
    ∷ ((1 ∷ 0 ∷ []) ++ names ++ (0 ∷ 0 ∷ 0 ∷ 0 ∷ 0 ∷ 0 ∷ 0 ∷ 0 ∷ []) ++ drop 1 key)
    -- op 0, op 4, answer 5, byte 19
    ∷ typed (0 ∷ 0 ∷ []) (0 ∷ 0 ∷ 0 ∷ 0 ∷ 0 ∷ 0 ∷ 0 ∷ 0 ∷ []) []
    ∷ typed (4 ∷ 0 ∷ []) (0 ∷ 0 ∷ 0 ∷ 0 ∷ 0 ∷ 0 ∷ 0 ∷ 0 ∷ []) []
    ∷ typed (1 ∷ 5 ∷ []) (0 ∷ 0 ∷ 0 ∷ 0 ∷ 0 ∷ 0 ∷ 0 ∷ 0 ∷ []) []
    ∷ typed (1 ∷ 0 ∷ []) (0 ∷ 0 ∷ 0 ∷ 1 ∷ 0 ∷ 0 ∷ 0 ∷ 0 ∷ []) []
    -- a value too long; a length one under and one over the value's
    ∷ typed (2 ∷ 0 ∷ []) (0x61 ∷ 0x62 ∷ 0x81 ∷ 0 ∷ 0 ∷ 0 ∷ 0 ∷ 0 ∷ []) (0xab ∷ replicate value_size 0xab)
    ∷ typed (2 ∷ 0 ∷ []) (0x61 ∷ 0x62 ∷ 2 ∷ 0 ∷ 0x71 ∷ 0x72 ∷ 0x73 ∷ 0x74 ∷ []) (7 ∷ 8 ∷ 9 ∷ [])
    ∷ typed (2 ∷ 0 ∷ []) (0x61 ∷ 0x62 ∷ 4 ∷ 0 ∷ 0x71 ∷ 0x72 ∷ 0x73 ∷ 0x74 ∷ []) (7 ∷ 8 ∷ 9 ∷ [])
    -- a read query with a session, with a version, with a length
    ∷ typed (1 ∷ 0 ∷ []) (0 ∷ 1 ∷ 0 ∷ 0 ∷ 0 ∷ 0 ∷ 0 ∷ 0 ∷ []) []
    ∷ typed (1 ∷ 0 ∷ []) (0x61 ∷ 0x62 ∷ 0 ∷ 0 ∷ 0x71 ∷ 0x72 ∷ 0x73 ∷ 0x74 ∷ []) []
    ∷ typed (1 ∷ 0 ∷ []) (0 ∷ 0 ∷ 1 ∷ 0 ∷ 0 ∷ 0 ∷ 0 ∷ 0 ∷ []) (7 ∷ [])
    -- a delete with a length; a write and a delete with a sequence and no session
    ∷ typed (3 ∷ 0 ∷ []) (0x61 ∷ 0x62 ∷ 1 ∷ 0 ∷ 0x71 ∷ 0x72 ∷ 0x73 ∷ 0x74 ∷ []) (7 ∷ [])
    ∷ typed (2 ∷ 0 ∷ []) (0 ∷ 0 ∷ 3 ∷ 0 ∷ 0 ∷ 0 ∷ 0 ∷ 1 ∷ []) (7 ∷ 8 ∷ 9 ∷ [])
    ∷ typed (3 ∷ 0 ∷ []) (0 ∷ 0 ∷ 0 ∷ 0 ∷ 0 ∷ 0 ∷ 0 ∷ 1 ∷ []) []
    -- answer 1 to a write, without a version, with half of one
    ∷ typed (2 ∷ 1 ∷ []) (0x61 ∷ 0x62 ∷ 2 ∷ 0 ∷ 0x71 ∷ 0x72 ∷ 0x73 ∷ 0x74 ∷ []) (5 ∷ 6 ∷ [])
    ∷ typed (1 ∷ 1 ∷ []) (0 ∷ 0 ∷ 2 ∷ 0 ∷ 0 ∷ 0 ∷ 0 ∷ 0 ∷ []) (5 ∷ 6 ∷ [])
    ∷ typed (1 ∷ 1 ∷ []) (0 ∷ 1 ∷ 2 ∷ 0 ∷ 0 ∷ 0 ∷ 0 ∷ 0 ∷ []) (5 ∷ 6 ∷ [])
    ∷ typed (1 ∷ 1 ∷ []) (0 ∷ 0 ∷ 2 ∷ 0 ∷ 0 ∷ 0 ∷ 0 ∷ 1 ∷ []) (5 ∷ 6 ∷ [])
    -- answer 2 to a delete, with half a version, with a length
    ∷ typed (3 ∷ 2 ∷ []) (0x61 ∷ 0x62 ∷ 0 ∷ 0 ∷ 0x71 ∷ 0x72 ∷ 0x73 ∷ 0x74 ∷ []) []
    ∷ typed (1 ∷ 2 ∷ []) (0 ∷ 1 ∷ 0 ∷ 0 ∷ 0 ∷ 0 ∷ 0 ∷ 0 ∷ []) []
    ∷ typed (1 ∷ 2 ∷ []) (0 ∷ 0 ∷ 0 ∷ 0 ∷ 0 ∷ 0 ∷ 0 ∷ 1 ∷ []) []
    ∷ typed (1 ∷ 2 ∷ []) (0 ∷ 0 ∷ 1 ∷ 0 ∷ 0 ∷ 0 ∷ 0 ∷ 0 ∷ []) (7 ∷ [])
    -- answer 3 to op 0 and op 4, with a version, with a length
    ∷ typed (0 ∷ 3 ∷ []) (0 ∷ 0 ∷ 0 ∷ 0 ∷ 0 ∷ 0 ∷ 0 ∷ 0 ∷ []) []
    ∷ typed (4 ∷ 3 ∷ []) (0 ∷ 0 ∷ 0 ∷ 0 ∷ 0 ∷ 0 ∷ 0 ∷ 0 ∷ []) []
    ∷ typed (2 ∷ 3 ∷ []) (0x61 ∷ 0x62 ∷ 0 ∷ 0 ∷ 0x71 ∷ 0x72 ∷ 0x73 ∷ 0x74 ∷ []) []
    ∷ typed (2 ∷ 3 ∷ []) (0 ∷ 0 ∷ 1 ∷ 0 ∷ 0 ∷ 0 ∷ 0 ∷ 0 ∷ []) (7 ∷ [])
    -- answer 4 to a read, without a version, with half of one, with a length
    ∷ typed (1 ∷ 4 ∷ []) (0x61 ∷ 0x62 ∷ 0 ∷ 0 ∷ 0x71 ∷ 0x72 ∷ 0x73 ∷ 0x74 ∷ []) []
    ∷ typed (2 ∷ 4 ∷ []) (0 ∷ 0 ∷ 0 ∷ 0 ∷ 0 ∷ 0 ∷ 0 ∷ 0 ∷ []) []
    ∷ typed (2 ∷ 4 ∷ []) (0 ∷ 1 ∷ 0 ∷ 0 ∷ 0 ∷ 0 ∷ 0 ∷ 0 ∷ []) []
    ∷ typed (2 ∷ 4 ∷ []) (0 ∷ 0 ∷ 0 ∷ 0 ∷ 0 ∷ 0 ∷ 0 ∷ 1 ∷ []) []
    ∷ typed (2 ∷ 4 ∷ []) (0x61 ∷ 0x62 ∷ 1 ∷ 0 ∷ 0x71 ∷ 0x72 ∷ 0x73 ∷ 0x74 ∷ []) (7 ∷ [])
    ∷ []

-- none is read
pub damaged_packets : map read_call damaged ≡ map (λ (b : List ℕ). refuse malformed) damaged
unfolding damaged read_call guard well_formed head_ok head_of
damaged_packets = refl
