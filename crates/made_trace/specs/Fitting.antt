-- Lines that may stand behind others, one after another. No public clause cites this module.
use Rattle.std.specs.Prelude.{ℕ, ◌≡◌, ◌≤◌, List, [], ◌∷◌, length}
use Rattle.line_text.specs.Fields.{LeavesOut}
use Rattle.topology.specs.Layout.{Layout}
use Rattle.trace_format.specs.Before.{archived_of, clock_of, count_of, is_query, is_record, is_rotate, is_tick, layout_of, sigs_of, version_of}
use Rattle.trace_format.specs.Said.{Said}
use Rattle.trace_format.specs.Trace.{IsLine}
use Rattle.trace_format.specs.Words.{stage_of}
use Rattle.trace_format.specs.declared.version.Version.TheVariants.{First}
use Rattle.trace_format.specs.declared.words.Stage.TheVariants as stage
use Rattle.made_trace.specs.Lines.{line_of}

-- a line of at most 99 bytes that may stand behind these
pub record Fits (before : List Said) (s : Said) : Type 0 where
  pub short : length (line_of s) ≤ 99
  pub whole : LeavesOut 10 (line_of s)
  pub is_line : IsLine before (line_of s) s

abbrev pub AllFit : (before : List Said) → List Said → Type 0
AllFit before [] = Unit {0}
AllFit before (s ∷ more) = Fits before s × AllFit (s ∷ before) more

-- what lines behind `begin` have told and counted
pub record Stands (layout : Layout) (before : List Said) (packets records rotates ticks queries clock : ℕ) : Type 0 where
  pub version_is : version_of before ≡ First
  pub stage_is : stage_of before ≡ stage.Body
  pub layout_is : layout_of before ≡ layout
  pub packets_are : length (sigs_of before) ≡ packets
  pub records_are : count_of is_record before ≡ records
  pub rotates_are : count_of is_rotate before ≡ rotates
  pub ticks_are : count_of is_tick before ≡ ticks
  pub queries_are : count_of is_query before ≡ queries
  pub time_is : clock_of before ≡ clock

-- nothing was archived since the last tick or query
abbrev pub IsFresh : List Said → Type 0
IsFresh before = archived_of before ≡ []
