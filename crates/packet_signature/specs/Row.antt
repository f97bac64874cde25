-- What a router keeps of a transform of a packet, by the signatures before and after it.
use Rattle.std.specs.Prelude.{ℕ, Bool, nat_eq, List, ◌++◌, take, drop, slice_range, if◌then◌else◌}
use Rattle.std.specs.Cmp.Lexicographic.{pointwise}
use Rattle.byteorder.specs.Endian.{big_number}
use Rattle.sha2.specs.Sha256.{sha256}
use Rattle.spie_base.specs.declared.types.Sig.{Sig}
use Rattle.packet_signature.specs.declared.rows.Kind.{Kind}
use Rattle.packet_signature.specs.declared.rows.Kind.TheVariants.{Frag, Nat, Icmp, Ipip, Decap}
use Rattle.packet_signature.specs.declared.rows.RowData.{RowData}
use Rattle.packet_signature.specs.declared.rows.RowData.TheVariants.{Direct, Indirect}
use Rattle.packet_signature.specs.declared.rows.Row.{Row}

-- the first eight bytes of the SHA-256 of a signature, as a number
abbrev pub key_of : Sig → ℕ
key_of s = big_number 8 (sha256 s.bytes)

-- the bytes that fragmentation changes: the total length, and the flags with the fragment offset
abbrev pub fragment_bytes : Sig → List ℕ
fragment_bytes s = slice_range s.bytes 2 4 ++ slice_range s.bytes 6 8

-- all the others
abbrev pub other_bytes : Sig → List ℕ
other_bytes s = take 2 s.bytes ++ slice_range s.bytes 4 6 ++ drop 8 s.bytes

-- whether two signatures differ in the fragment bytes at most
abbrev pub agree : Sig → Sig → Bool
agree old new = pointwise nat_eq (other_bytes old) (other_bytes new)

-- a fragment is kept by its old fragment bytes, where it changed no others, and all else by its old signature
abbrev pub data_of : Kind → Sig → Sig → RowData
data_of Frag old new = if agree old new then Direct (fragment_bytes old) else Indirect old
data_of Nat old new = Indirect old
data_of Icmp old new = Indirect old
data_of Ipip old new = Indirect old
data_of Decap old new = Indirect old

-- the row of a transform, found by the key of the new signature
unfoldable pub row_of : Kind → Sig → Sig → Row
row_of kind old new = record { key = key_of new; kind = kind; old = data_of kind old new }

-- the signature with these fragment bytes put in
abbrev pub with_fragment_bytes : Sig → List ℕ → Sig
with_fragment_bytes s bytes =
    record { bytes = take 2 s.bytes ++ take 2 bytes ++ slice_range s.bytes 4 6 ++ drop 2 bytes ++ drop 8 s.bytes }

-- the signature before a transform, from its row and the signature after it
abbrev pub restored : RowData → Sig → Sig
restored (Direct bytes) s = with_fragment_bytes s bytes
restored (Indirect old) s = old

unfoldable pub inverse_of : Row → Sig → Sig
inverse_of row s = restored row.old s
