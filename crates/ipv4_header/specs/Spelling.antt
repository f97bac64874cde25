-- The bytes of an IPv4 header (RFC 791, section 3.1).
use Rattle.std.specs.Prelude.{ℕ, ◌+◌, ◌*◌, ◌/◌, List, [], ◌∷◌, ◌++◌, take}
use Rattle.byteorder.specs.Endian.{big_bytes}
use Rattle.ipv4_header.specs.Sums.{checksum_of}
use Rattle.ipv4_header.specs.declared.fields.Header.{Header}

-- version 4 in the upper four bits, and the header's length in words of 32 bits in the lower four
abbrev pub first_byte : Header → ℕ
first_byte h = 4 * 16 + (5 + h.option_length / 4)

-- the fields in their order, with this checksum
abbrev pub fields_of : Header → ℕ → List ℕ
fields_of h checksum =
    (first_byte h ∷ h.tos ∷ []) ++ big_bytes 2 h.total_length
    ++ big_bytes 2 h.identification ++ big_bytes 2 h.flags_fragment
    ++ (h.ttl ∷ h.protocol ∷ []) ++ big_bytes 2 checksum
    ++ big_bytes 4 h.source
    ++ big_bytes 4 h.destination

-- the fields and the options, with this checksum
abbrev pub spelled_with : Header → ℕ → List ℕ
spelled_with h checksum = fields_of h checksum ++ take h.option_length h.options

-- the header's checksum, whatever stands in its field
abbrev pub right_checksum : Header → ℕ
right_checksum h = checksum_of (spelled_with h 0)

-- the bytes of the header with its right checksum
unfoldable pub spelled : Header → List ℕ
spelled h = spelled_with h (right_checksum h)

-- the header with its right checksum in the field
abbrev pub corrected : Header → Header
corrected h = record h { checksum = right_checksum h }
