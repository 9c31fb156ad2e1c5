-- Document 01, "Bench": 64 parcels, numbered from 1, that never vanish; where each goes, its packet, and one more.
use Rattle.std.specs.Prelude.{ℕ, ◌+◌, ◌-◌, ◌≡◌, List, [], ◌++◌, Bool, ◌&&◌, take, replicate, eqb, ltb, leb, Option, Some, None, Result, Ok, Err, slice_get, slice_set}
use Rattle.wire.specs.Numbers.{pick}
use Rattle.wire.specs.Packet.{front_size, outlet_size, value_of}
use Rattle.lines.specs.declared.output.Place.{Place}
use Rattle.lines.specs.declared.output.Place.TheVariants.{Client}
use Rattle.parcels.specs.declared.Fault.{Fault}
use Rattle.parcels.specs.declared.Fault.TheVariants.{Refused, Halted, Unclear}
use Rattle.parcels.specs.declared.Parcel.{Parcel}
use Rattle.parcels.specs.declared.Parcels.{Parcels}
use Rattle.parcels.specs.Sizes.{most_parcels, halted, unclear}

-- the number of a fault
abbrev pub number_of : Fault → ℕ
number_of (Refused n) = n
number_of Halted = halted
number_of Unclear = unclear

-- ---- the parcels there are

-- a count, but no more than there can be
unfoldable pub bounded : ℕ → ℕ
bounded n = pick (ltb n most_parcels) n most_parcels

-- how many there are
unfoldable pub count_of : Parcels → ℕ
count_of ps = bounded ps.count

-- a parcel of n, numbered from 1
abbrev pub is_there : ℕ → ℕ → Bool
is_there n p = ltb 0 p && leb p n

-- none where there is no such parcel
unfoldable pub part_in : List Parcel → ℕ → ℕ → Option Parcel
part_in l n p = pick (is_there n p) (slice_get l (p - 1)) None

unfoldable pub part_of : Parcels → ℕ → Option Parcel
part_of ps p = part_in ps.parcels (count_of ps) p

-- ---- where a parcel goes, and its packet

-- where there is no parcel, to a client
abbrev pub place_in : Option Parcel → Place
place_in None = Client
place_in (Some x) = x.to

unfoldable pub to_of : Parcels → ℕ → Place
to_of ps p = place_in (part_of ps p)

-- to a client, so nowhere, where there is no room for another
unfoldable pub destination_of : Parcels → ℕ → Place
destination_of ps p = pick (eqb (count_of ps) most_parcels) Client (to_of ps p)

-- the packet that an outlet begins with: front and value
unfoldable pub packet_in : List ℕ → List ℕ
packet_in outlet = take front_size outlet ++ value_of outlet

-- nothing where there is no parcel
abbrev pub bytes_in : Option Parcel → List ℕ
bytes_in None = []
bytes_in (Some x) = packet_in x.outlet

unfoldable pub packet_at : Parcels → ℕ → List ℕ
packet_at ps p = bytes_in (part_of ps p)

abbrev pub parcel : Place → List ℕ → Parcel
parcel to outlet = record { to = to; outlet = outlet }

-- ---- at first

-- none is counted; every place goes to a client, with an outlet of zeros
abbrev pub none_yet : Parcels
none_yet = record { parcels = replicate most_parcels (parcel Client (replicate outlet_size 0)); count = 0 }

-- ---- a parcel more

-- behind n others, which are then one more
unfoldable pub placed : Parcels → ℕ → Place → List ℕ → Parcels
placed ps n to outlet = record { parcels = slice_set ps.parcels n (parcel to outlet); count = n + 1 }

-- the outcome and the parcels; all is as before where there is no room
unfoldable pub keep_outcome : Parcels → Result (Unit {0}) Fault
keep_outcome ps = pick (eqb (count_of ps) most_parcels) (Err Unclear) (Ok tt)

unfoldable pub kept : Parcels → Place → List ℕ → Parcels
kept ps to outlet = pick (eqb (count_of ps) most_parcels) ps (placed ps (count_of ps) to outlet)

-- what keeping promises: its outcome, and the parcels afterwards
pub record KeepGives (ps : Parcels) (to : Place) (outlet : List ℕ) (outcome : Result (Unit {0}) Fault) (ps' : Parcels) : Type 0 where
  pub answer : outcome ≡ keep_outcome ps
  pub after : ps' ≡ kept ps to outlet
