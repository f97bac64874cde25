-- The signatures that one may have been before a router, while they are gathered.
use Rattle.std.specs.Prelude.{List}
use Rattle.spie_base.specs.declared.Sig.{Sig}

-- a signature, and what it may have been
pub record Gathered : Type 0 where
  pub sig : Sig
  pub olds : List Sig
