-- A classic capture: a file header, and records one behind another, of which the last may be cut.
use Rattle.std.specs.Prelude.{ℕ, ◌-◌, ◌/◌, ◌==◌, ◌≡◌, Bool, ◌&&◌, List, [], ◌∷◌, ◌++◌, length, take, drop, nat_lt, nat_le, true, false, Some, None, Result, Ok, Err, if◌then◌else◌}
use Rattle.std.specs.declared.option.Option.{Option}
use Rattle.byteorder.specs.Endian.{big_number, little_number}
use Rattle.pcap_intake.specs.declared.kind.CaptureKind.{CaptureKind}
use Rattle.pcap_intake.specs.declared.kind.Endian.{Endian}
use Rattle.pcap_intake.specs.declared.kind.Endian.TheVariants as order
use Rattle.pcap_intake.specs.declared.kind.LinkLayer.{LinkLayer}
use Rattle.pcap_intake.specs.declared.kind.LinkLayer.TheVariants as link
use Rattle.pcap_intake.specs.declared.kind.Resolution.{Resolution}
use Rattle.pcap_intake.specs.declared.kind.Resolution.TheVariants as resolution
use Rattle.pcap_intake.specs.declared.refused.CaptureRefused.{CaptureRefused}
use Rattle.pcap_intake.specs.declared.refused.CaptureRefused.TheVariants.{Refused}
use Rattle.pcap_intake.specs.declared.refused.CaptureWhy.TheVariants.{Short, Magic, Version, LinkType}

-- the number in the n bytes from a place on, in the capture's order
abbrev pub number_at : Endian → (place n : ℕ) → List ℕ → ℕ
number_at order.Big place n bytes = big_number n (drop place bytes)
number_at order.Little place n bytes = little_number n (drop place bytes)

-- the first four bytes are a1 b2 c3 d4, or the same backwards
abbrev pub order_of : List ℕ → Option Endian
order_of bytes =
    if big_number 4 bytes == 0xa1b2c3d4 then Some order.Big
    else if big_number 4 bytes == 0xd4c3b2a1 then Some order.Little
    else None

-- version 2.4
abbrev pub is_version : Endian → List ℕ → Bool
is_version order bytes = (number_at order 4 2 bytes == 2) && (number_at order 6 2 bytes == 4)

-- the link types that are read: Ethernet, and IP with no frame around it
abbrev pub link_of : ℕ → Option LinkLayer
link_of number = if number == 1 then Some link.Ethernet else if number == 101 then Some link.RawIp else None

abbrev pub header_by_link : Endian → Option LinkLayer → Result CaptureKind CaptureRefused
header_by_link order None = Err (Refused 20 LinkType)
header_by_link order (Some link) = Ok (record { order = order; resolution = resolution.Microseconds; link = link })

abbrev pub header_by_order : Option Endian → List ℕ → Result CaptureKind CaptureRefused
header_by_order None bytes = Err (Refused 0 Magic)
header_by_order (Some order) bytes =
    if is_version order bytes then header_by_link order (link_of (number_at order 20 4 bytes)) else Err (Refused 4 Version)

-- what the 24 bytes of the file header say, or the first of them that is wrong
unfoldable pub header_in : List ℕ → Result CaptureKind CaptureRefused
header_in bytes = if nat_lt (length bytes) 24 then Err (Refused (length bytes) Short) else header_by_order (order_of bytes) bytes

-- a record: a header of 16 bytes, and the bytes of a frame that were captured
pub record Captured : Type 0 where
  pub head : List ℕ
  pub frame : List ℕ

-- how many bytes were captured, by the header of a record
abbrev pub captured_length : Endian → List ℕ → ℕ
captured_length order head = number_at order 8 4 head

-- the second at which the frame was captured
abbrev pub second_of : Endian → List ℕ → ℕ
second_of order head = number_at order 0 4 head

-- the microseconds in a number of the parts of a second
abbrev pub microseconds_in : Resolution → ℕ → ℕ
microseconds_in resolution.Microseconds parts = parts
microseconds_in resolution.Nanoseconds parts = parts / 1000

-- and the microsecond in it
abbrev pub microsecond_of : CaptureKind → List ℕ → ℕ
microsecond_of kind head = microseconds_in kind.resolution (number_at kind.order 4 4 head)

pub record IsRecord (order : Endian) (r : Captured) : Type 0 where
  pub head : length r.head ≡ 16
  pub frame : length r.frame ≡ captured_length order r.head

-- whether these bytes begin with a whole record
abbrev pub has_record : Endian → List ℕ → Bool
has_record order bytes = nat_le 16 (length bytes) && nat_le (captured_length order bytes) (length bytes - 16)

-- these bytes begin with a whole record, which says this, and this stands behind it
pub record IsFirst (kind : CaptureKind) (bytes : List ℕ) (second microsecond : ℕ) (frame after : List ℕ) : Type 0 where
  pub whole : has_record kind.order bytes ≡ true
  pub second_is : second ≡ second_of kind.order bytes
  pub microsecond_is : microsecond ≡ microsecond_of kind bytes
  pub frame_is : frame ≡ take (captured_length kind.order bytes) (drop 16 bytes)
  pub after_is : after ≡ drop (captured_length kind.order bytes) (drop 16 bytes)

-- the bytes are these records, of which the latest stands first, and then the rest
abbrev pub Begins : Endian → (bytes : List ℕ) → List Captured → (rest : List ℕ) → Type 0
Begins order bytes [] rest = bytes ≡ rest
Begins order bytes (r ∷ before) rest = IsRecord order r × Begins order bytes before (r.head ++ (r.frame ++ rest))

-- all records of a capture, of which the latest stands first; what is left holds no whole one
pub record HasRecords (order : Endian) (bytes : List ℕ) (records : List Captured) (left : List ℕ) : Type 0 where
  pub begins : Begins order (drop 24 bytes) records left
  pub ended : has_record order left ≡ false
