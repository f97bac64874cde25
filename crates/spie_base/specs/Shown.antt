-- What a router shows to a flood.
use Rattle.std.specs.Prelude.{Bool, List}
use Rattle.spie_base.specs.declared.types.Sig.{Sig}

-- whether a page that is at hand has all marks of a signature; the signatures that a packet may have had before
-- this router; and whether a page of the window is expired or can't be read
pub record Shown : Type 0 where
  pub hit : Sig → Bool
  pub origins : Sig → List Sig
  pub missing : Bool
