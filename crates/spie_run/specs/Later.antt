-- Traces of later versions, which are read and not yet replayed. Once they are, this module goes, with what `Run`,
-- `Replies` and `replies` say of it.
use Rattle.std.specs.Prelude.{ℕ, ◌≡◌, ◌⊎◌, List, Bool, false, codes, nat_eq}
use Rattle.std.specs.List.{starts_with}
use Rattle.trace_format.specs.Fault.{IsFault}
use Rattle.trace_format.specs.Trace.{IsTrace}
use Rattle.trace_format.specs.declared.Trace.{Trace}
use Rattle.trace_format.specs.declared.TraceRefused.{TraceRefused}
use Rattle.trace_format.specs.declared.WhyRefused.TheVariants.{Field}

-- the first line names version 1, which alone is replayed
abbrev pub is_first_version : (input : List ℕ) → Bool
is_first_version input = starts_with nat_eq input (codes "spie-trace 1\n")

-- a trace of a later version is refused as one of an unknown version is
pub record IsLaterVersion (input : List ℕ) (fault : TraceRefused) : Type 0 where
  pub trace : Trace
  pub read : IsTrace input trace
  pub later : is_first_version input ≡ false
  pub named : fault ≡ record { line = 1; why = Field }

-- why an input is not replayed
abbrev pub IsUnreplayed : (input : List ℕ) → TraceRefused → Type 0
IsUnreplayed input fault = IsFault input fault ⊎ IsLaterVersion input fault
