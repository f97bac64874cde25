-- What holds of the rows of all transforms.
use Rattle.std.specs.Prelude.{◌≡◌, length}
use Rattle.spie_base.specs.declared.types.Sig.{Sig}
use Rattle.packet_signature.specs.declared.rows.Kind.{Kind}
use Rattle.packet_signature.specs.Row.{row_of, inverse_of}

-- the inverse of a row on the new signature is the old one, for signatures of 28 bytes
abbrev pub InverseGivesOld : Type 0
InverseGivesOld = (kind : Kind) (old new : Sig) → length old.bytes ≡ 28 → length new.bytes ≡ 28 → inverse_of (row_of kind old new) new ≡ old
