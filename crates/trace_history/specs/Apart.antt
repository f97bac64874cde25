-- Histories in whose segments records stand alone: such a segment has no rotation and no watch. What workers beside an
-- operator answer is then what one worker answers.
use Rattle.std.specs.Prelude.{◌≡◌, ◌⊎◌, List, [], ◌∷◌, Bool, true, false, IsTrue}
use Rattle.trace_format.specs.declared.Line.{Line}
use Rattle.trace_format.specs.declared.What.{What}
use Rattle.trace_format.specs.declared.What.TheVariants.{Fwd, Xf, Rotate, Archive, Watch, Tick, Query, End}
use Rattle.trace_history.specs.History.{Event, rotated, watched, History}
use Rattle.trace_history.specs.Receipts.{is_barrier, receipts, segment}

-- no rotation and no watch
abbrev pub IsQuiet : Event → Type 0
IsQuiet (rotated router page) = ⊥
IsQuiet (watched router sig answer) = ⊥
IsQuiet _ = Unit {0}

abbrev pub AreQuiet : (seg : History) → Type 0
AreQuiet [] = Unit {0}
AreQuiet (moment ∷ seg) = AreQuiet seg × IsQuiet moment.event

-- a segment has no records, or no rotations and no watches
abbrev pub IsApart : (seg : History) → Type 0
IsApart seg = (receipts seg ≡ []) ⊎ AreQuiet seg

-- so has each segment that has ended
abbrev pub AreApart : History → Type 0
AreApart [] = Unit {0}
AreApart (moment ∷ history) = AreApart history × (IsTrue (is_barrier moment.event) → IsApart (segment history))

-- ---- the lines of a trace

-- what stands in a segment so far: records, or rotations and watches
pub record Stood : Type 0 where
  pub records : Bool
  pub others : Bool

abbrev pub none_stood : Stood
none_stood = record { records = false; others = false }

-- a line stands apart from those of its segment before it
abbrev pub FitsApart : Stood → What → Type 0
FitsApart stood (Fwd router packet) = stood.others ≡ false
FitsApart stood (Xf router kind old new) = stood.others ≡ false
FitsApart stood (Rotate router) = stood.records ≡ false
FitsApart stood (Watch router packet) = stood.records ≡ false
FitsApart stood _ = Unit {0}

abbrev pub stood_after : Stood → What → Stood
stood_after stood (Fwd router packet) = record stood { records = true }
stood_after stood (Xf router kind old new) = record stood { records = true }
stood_after stood (Rotate router) = record stood { others = true }
stood_after stood (Watch router packet) = record stood { others = true }
stood_after stood (Archive router) = stood
stood_after stood (Tick time) = none_stood
stood_after stood (Query router packet time) = none_stood
stood_after stood End = none_stood

abbrev pub AreLinesApart : Stood → List Line → Type 0
AreLinesApart stood [] = Unit {0}
AreLinesApart stood (line ∷ more) = FitsApart stood line.what × AreLinesApart (stood_after stood line.what) more
