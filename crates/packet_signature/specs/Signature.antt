-- The signature of a packet: what no router changes on the way, and eight bytes of payload.
use Rattle.std.specs.Prelude.{ℕ, ◌++◌, ◌==◌, Bool, ◌||◌, List, take, map, slice_index, if◌then◌else◌}
use Rattle.std.specs.List.{range_with_len}
use Rattle.spie_base.specs.declared.types.Sig.{Sig}
use Rattle.ipv4_header.specs.Grammar.{header_length_of, total_length_of}

-- the packet as a list without end: its bytes up to its total length, as far as they are given, and
-- then zeros
abbrev pub endless : List ℕ → ℕ → ℕ
endless packet i = slice_index (take (total_length_of packet) packet) i

-- the places of the header that routers change: Type of Service, Time to Live and the header checksum
abbrev pub is_changing : ℕ → Bool
is_changing i = (i == 1) || (i == 8) || (i == 10) || (i == 11)

-- a list without end, with zeros at the places that routers change
abbrev pub masked : (ℕ → ℕ) → ℕ → ℕ
masked bytes i = if is_changing i then 0 else bytes i

-- the first 20 bytes without what routers change, and the 8 bytes behind the header
unfoldable pub signature_of : List ℕ → Sig
signature_of packet = record {
  bytes = map (masked (endless packet)) (range_with_len 0 20) ++ map (endless packet) (range_with_len (header_length_of packet) 8);
}
