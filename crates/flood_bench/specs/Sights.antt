-- What a bench's router shows.
use Rattle.std.specs.Prelude.{Bool, false, cond, List, [], ◌∷◌}
use Rattle.std.specs.Str.{bytes_eq}
use Rattle.spie_base.specs.declared.Sig.{Sig}

-- whether a list begins with a signature
abbrev pub begins : List Sig → Sig → Bool
begins [] sig = false
begins (x ∷ xs) sig = bytes_eq x.bytes sig.bytes

-- the whole list at its first signature, and the signature itself at any other
abbrev pub origins_by : List Sig → Sig → List Sig
origins_by table sig = cond (begins table sig) table (sig ∷ [])
