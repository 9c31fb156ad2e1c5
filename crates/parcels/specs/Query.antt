-- Document 01, "Bench": the query of a line that sends; keys are padded with zeros.
use Rattle.std.specs.Prelude.{ℕ, ◌+◌, ◌-◌, List, ◌++◌, length, replicate, Result}
use Rattle.wire.specs.Numbers.{left}
use Rattle.wire.specs.Version.{stamp, version}
use Rattle.wire.specs.Packet.{Packet, packet, query, key_size, outlet_size, write_call, sent_in}
use Rattle.wire.specs.declared.Head.{Head}
use Rattle.script.specs.Words.{key_of, value_of}
use Rattle.lines.specs.declared.output.Place.TheVariants.{Relay}
use Rattle.parcels.specs.declared.Fault.{Fault}
use Rattle.parcels.specs.declared.Parcels.{Parcels}
use Rattle.parcels.specs.Parcels.{count_of, KeepGives}

-- the key of a line, padded
unfoldable pub padded_key : List ℕ → List ℕ
padded_key line = key_of line ++ replicate (key_size - length (key_of line)) 0

-- a client's packet for the relay
unfoldable pub query_of : ℕ → ℕ → ℕ → Head
query_of op request n = record {
  op = op;
  answer = query;
  from = 0;
  to = 0;
  client = 1;
  request = request;
  stamp = stamp 0;
  version = version 0 0;
  length = n;
}

unfoldable pub query_for : ℕ → ℕ → List ℕ → Packet
query_for op request line = packet (query_of op request (length (value_of line))) (padded_key line) (value_of line)

-- an outlet of zeros that it is written to; what is no packet is not written
unfoldable pub outlet_of : Packet → List ℕ
outlet_of p = left (replicate outlet_size 0) (sent_in (replicate outlet_size 0)) (write_call (replicate outlet_size 0) p)

-- what a line that sends promises: its query is kept for the relay, and its request number is the parcel's
abbrev pub SendGives : Parcels → ℕ → List ℕ → Result (Unit {0}) Fault → Parcels → Type 0
SendGives ps op line outcome ps' = KeepGives ps Relay (outlet_of (query_for op (count_of ps + 1) line)) outcome ps'
