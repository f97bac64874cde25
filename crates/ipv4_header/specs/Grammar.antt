-- What an IPv4 header is, by the places of its fields (RFC 791, section 3.1).
use Rattle.std.specs.Prelude.{ℕ, ◌-◌, ◌*◌, ◌/◌, ◌%◌, ◌==◌, nat_lt, Bool, ◌&&◌, ◌||◌, not, List, ◌++◌, length, take, drop, slice_index, slice_range, replicate, Some, None, if◌then◌else◌}
use Rattle.std.specs.declared.option.Option.{Option}
use Rattle.byteorder.specs.Endian.{big_number}
use Rattle.ipv4_header.specs.Sums.{ones_sum}
use Rattle.ipv4_header.specs.declared.fields.Header.{Header}
use Rattle.ipv4_header.specs.declared.fields.HeaderRefused.{HeaderRefused}
use Rattle.ipv4_header.specs.declared.fields.HeaderRefused.TheVariants.{Short, Version, HeaderLength, TotalLength, Checksum}

-- the number in the n bytes from a place on, the highest first
abbrev pub number_at : ℕ → ℕ → List ℕ → ℕ
number_at place n packet = big_number n (drop place packet)

-- the format of the header: the upper four bits of byte 0
abbrev pub version_of : List ℕ → ℕ
version_of packet = slice_index packet 0 / 16

-- the length of the header in bytes: the lower four bits of byte 0 count it in words of 32 bits
abbrev pub header_length_of : List ℕ → ℕ
header_length_of packet = slice_index packet 0 % 16 * 4

-- the length of the whole packet in bytes
abbrev pub total_length_of : List ℕ → ℕ
total_length_of packet = number_at 2 2 packet

-- the checksum field
abbrev pub checksum_field_of : List ℕ → ℕ
checksum_field_of packet = number_at 10 2 packet

-- fewer bytes than a header without options has
abbrev pub is_short : List ℕ → Bool
is_short packet = nat_lt (length packet) 20

-- the header's length is below the least one, five words, or its bytes are not all there
abbrev pub is_header_cut : List ℕ → Bool
is_header_cut packet = nat_lt (header_length_of packet) 20 || nat_lt (length packet) (header_length_of packet)

-- the packet would end inside its header
abbrev pub is_total_below : List ℕ → Bool
is_total_below packet = nat_lt (total_length_of packet) (header_length_of packet)

-- the checksum is set, and the header with it does not sum to all ones (RFC 1071, section 1)
abbrev pub is_sum_wrong : List ℕ → Bool
is_sum_wrong packet = not (checksum_field_of packet == 0) && not (ones_sum (take (header_length_of packet) packet) == 65535)

-- the first rule that a packet's header breaks, if any
unfoldable pub refusal_of : List ℕ → Option HeaderRefused
refusal_of packet =
    if is_short packet then Some Short
    else if not (version_of packet == 4) then Some Version
    else if is_header_cut packet then Some HeaderLength
    else if is_total_below packet then Some TotalLength
    else if is_sum_wrong packet then Some Checksum
    else None

-- the options: what stands between byte 20 and the header's end
abbrev pub options_of : List ℕ → List ℕ
options_of packet = slice_range packet 20 (header_length_of packet)

-- the fields, each at its place, and zeros behind the options
unfoldable pub header_in : List ℕ → Header
header_in packet = record {
  tos = slice_index packet 1;
  total_length = total_length_of packet;
  identification = number_at 4 2 packet;
  flags_fragment = number_at 6 2 packet;
  ttl = slice_index packet 8;
  protocol = slice_index packet 9;
  checksum = checksum_field_of packet;
  source = number_at 12 4 packet;
  destination = number_at 16 4 packet;
  options = options_of packet ++ replicate (40 - length (options_of packet)) 0;
  option_length = header_length_of packet - 20;
}
