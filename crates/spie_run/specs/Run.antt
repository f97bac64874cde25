-- What a run answers, and what it reads, writes and keeps.
--
-- Read `Ran` first, at the end: it is the promise of the program, by what the arguments ask for, the status, and what
-- source, sink, shelf and yard tell before the run and after it.
use Rattle.std.specs.Prelude.{ℕ, ◌+◌, ◌≤◌, ◌≡◌, ◌⊎◌, ◌↔◌, List, [], length, Some, None, IsSome, true, false}
use Rattle.std.specs.declared.option.Option.{Option}
use Rattle.std.specs.Io.KnownBytes.{Consumes, Appends, IsAtEnd}
use Rattle.spie_base.specs.Causes.{Rose}
use Rattle.spie_base.specs.Transfer.{AppendsFront}
use Rattle.spie_base.specs.declared.Status.{Status}
use Rattle.spie_base.specs.declared.Status.TheVariants as status
use Rattle.made_trace.specs.Made.{made_text, made_trace}
use Rattle.play_script.specs.Fault as script_text
use Rattle.play_script.specs.Report.{IsReport}
use Rattle.play_script.specs.Script.{IsScript}
use Rattle.play_script.specs.declared.script.PlayScript.{PlayScript}
use Rattle.router_account.specs.Shelves.{ShelfView}
use Rattle.trace_format.specs.Limits.{most_bytes}
use Rattle.trace_format.specs.Trace.{IsTrace}
use Rattle.trace_format.specs.declared.Trace.{Trace}
use Rattle.trace_format.specs.declared.TraceRefused.{TraceRefused}
use Rattle.trace_history.specs.Replay.{ReplayViews}
use Rattle.trace_history.specs.Workers.{IsReplayedBy, YardView}
use Rattle.trace_history.specs.declared.Totals.{Totals}
use Rattle.trace_replay.specs.Summary.{load_line}
use Rattle.spie_run.specs.Captures.{IsCaptureText, IsCountText, IsCaptureRefusal}
use Rattle.spie_run.specs.Certificates.{SaysYes, SaysNo, IsCertificateRefusal}
use Rattle.spie_run.specs.Later.{is_first_version, IsUnreplayed}
use Rattle.spie_run.specs.Refusals.{fault_text}
use Rattle.spie_run.specs.Words.{is_replay, reads}
use Rattle.spie_run.specs.declared.words.Command.{Command}
use Rattle.spie_run.specs.declared.words.Command.TheVariants.{Replay, Play, Pcap, PcapCount, Make, Load, Check}
use Rattle.spie_run.specs.declared.words.Making.{Making}

-- what a run was lent to keep pages in, before it and after it
pub record Keeping : Type 0 where
  pub shelves : ReplayViews
  pub yard_before : List YardView
  pub yard_after : List YardView

-- shelf and yard are after a run as they were before it
abbrev pub IsUntouched : Keeping → Type 0
IsUntouched kept = (kept.shelves.shelf_after ≡ kept.shelves.shelf_before) × (kept.yard_after ≡ kept.yard_before)

-- the input is a trace, and the output is the report of a replay of it by so many workers over a shelf, which leaves the
-- yard
pub record Reports (workers : ℕ) (kept : Keeping) (input output : List ℕ) : Type 0 where
  pub trace : Trace
  pub totals : Totals
  pub read : IsTrace input trace
  pub version : is_first_version input ≡ true
  pub replayed : IsReplayedBy workers trace output totals kept.shelves kept.yard_after

-- the input is a script, and the output is the text of its steps, done in order from the start
pub record Plays (kept : Keeping) (input output : List ℕ) : Type 0 where
  pub script : PlayScript
  pub read : IsScript input script
  pub played : IsReport script output
  pub untouched : IsUntouched kept

-- the output is the made trace
pub record Makes (made : Making) (kept : Keeping) (output : List ℕ) : Type 0 where
  pub text : output ≡ made_text made.seed made.packets
  pub untouched : IsUntouched kept

-- the made text is the made trace, and the output is one line that sums up a replay of it by so many workers over a shelf,
-- which leaves the yard
pub record Loads (made : Making) (workers : ℕ) (kept : Keeping) (output : List ℕ) : Type 0 where
  pub report : List ℕ
  pub totals : Totals
  pub is_trace : IsTrace (made_text made.seed made.packets) (made_trace made.seed made.packets)
  pub replayed : IsReplayedBy workers (made_trace made.seed made.packets) report totals kept.shelves kept.yard_after
  pub says : output ≡ load_line made.seed made.packets (made_trace made.seed made.packets) report totals

-- the output is what the command makes of the input, for the router of this name where it speaks of one
abbrev pub Outputs : Command → (name : List ℕ) → Keeping → (input output : List ℕ) → Type 0
Outputs (Replay workers) name kept input output = Reports workers kept input output
Outputs Play name kept input output = Plays kept input output
Outputs (Pcap first skip) name kept input output = IsCaptureText name first skip input output × IsUntouched kept
Outputs PcapCount name kept input output = IsCountText input output × IsUntouched kept
Outputs (Make made) name kept input output = Makes made kept output
Outputs (Load made workers) name kept input output = Loads made workers kept output
Outputs Check name kept input output = SaysYes input output × IsUntouched kept

-- the input has a first fault, and the output says so
pub record NamesFault (IsFaultOf : List ℕ → TraceRefused → Type 0) (input output : List ℕ) : Type 0 where
  pub fault : TraceRefused
  pub first : IsFaultOf input fault
  pub says : output ≡ fault_text fault

-- the output says why the input is no trace that is replayed, no script, no capture or no certificate. What is made is never refused
abbrev pub SaysWhy : Command → (input output : List ℕ) → Type 0
SaysWhy (Replay workers) input output = NamesFault IsUnreplayed input output
SaysWhy Play input output = NamesFault script_text.IsFault input output
SaysWhy (Pcap first skip) input output = IsCaptureRefusal input output
SaysWhy PcapCount input output = IsCaptureRefusal input output
SaysWhy (Make made) input output = ⊥
SaysWhy (Load made workers) input output = ⊥
SaysWhy Check input output = IsCertificateRefusal input output

-- the input is refused, the output says why, and shelf and yard were not used
pub record Refuses (command : Command) (kept : Keeping) (input output : List ℕ) : Type 0 where
  pub why : SaysWhy command input output
  pub untouched : IsUntouched kept

-- the output says no to the input, and shelf and yard were not used. Only `check` says no
abbrev pub Denies : Command → Keeping → (input output : List ℕ) → Type 0
Denies Check kept input output = SaysNo input output × IsUntouched kept
Denies _ kept input output = ⊥

-- what is written at the end of a run that read its input
abbrev pub Answers : Command → (name : List ℕ) → Status → Keeping → (input output : List ℕ) → Type 0
Answers command name status.Done kept input output = Outputs command name kept input output
Answers command name status.No kept input output = Denies command kept input output
Answers command name status.TraceRefused kept input output = Refuses command kept input output
Answers command name _ kept input output = ⊥

abbrev pub keeping : ReplayViews → (yard_before yard_after : List YardView) → Keeping
keeping shelves before after = record { shelves = shelves; yard_before = before; yard_after = after }

-- ---- what a run was lent

-- what is told of a source or a sink: the bytes that are left, or were written, and how many of its calls have failed
pub record Told : Type 0 where
  pub bytes : Option (List ℕ)
  pub faults : ℕ

-- all that a run was lent, at one time
pub record Views : Type 0 where
  pub source : Told
  pub sink : Told
  pub shelf : ShelfView
  pub yard : List YardView

abbrev pub told : {X : Type 0} → (X → Option (List ℕ)) → (X → ℕ) → X → Told
told bytes faults x = record { bytes = bytes x; faults = faults x }

abbrev pub views : (source sink : Told) → (shelf : ShelfView) → (yard : List YardView) → Views
views source sink shelf yard = record { source = source; sink = sink; shelf = shelf; yard = yard }

-- shelf and yard before a run and after it
abbrev pub kept_between : (before after : Views) → Keeping
kept_between before after = keeping (record { shelf_before = before.shelf; shelf_after = after.shelf }) before.yard after.yard

-- an input was read to its end, or to one byte past its limit
abbrev pub IsReadOut : (before after : Told) → (input : List ℕ) → Type 0
IsReadOut before after input =
    Consumes before.bytes after.bytes input × (IsAtEnd after.bytes ⊎ (length input ≡ most_bytes + 1))

-- nothing was read
pub record IsNothingRead (before after : Told) (input : List ℕ) : Type 0 where
  pub nothing : input ≡ []
  pub still : after ≡ before

-- a command that reads an input read it whole, and another nothing
abbrev pub IsReadWhole : Command → (before after : Told) → (input : List ℕ) → Type 0
IsReadWhole (Make made) before after input = IsNothingRead before after input
IsReadWhole (Load made workers) before after input = IsNothingRead before after input
IsReadWhole _ before after input = Consumes before.bytes after.bytes input × IsAtEnd after.bytes

-- a command that reads an input read it out, and another nothing
abbrev pub IsReadFor : Command → (before after : Told) → (input : List ℕ) → Type 0
IsReadFor (Make made) before after input = IsNothingRead before after input
IsReadFor (Load made workers) before after input = IsNothingRead before after input
IsReadFor _ before after input = IsReadOut before after input

-- a text was written whole
abbrev pub IsWhole : (before after : Told) → (text : List ℕ) → Type 0
IsWhole before after text = Appends before.bytes after.bytes text × (after.faults ≡ before.faults)

-- a prefix of a text stands, and the sink has failed
abbrev pub IsCut : (before after : Told) → (text : List ℕ) → Type 0
IsCut before after text = AppendsFront before.bytes after.bytes text × Rose before.faults after.faults

-- a text is written whole, or the answer is that it was not
pub record Delivered (want answer : Status) (before after : Told) (text : List ℕ) : Type 0 where
  pub later : before.faults ≤ after.faults
  pub outcome : ((answer ≡ want) × IsWhole before after text) ⊎ ((answer ≡ status.WriteFault) × IsCut before after text)

-- ---- the statuses

-- Done: the input was read to its end, or the command reads none, and what the arguments ask for was made of it and written
pub record IsDone (wanted : Option Command) (name : List ℕ) (before after : Views) : Type 0 where
  pub command : Command
  pub input : List ℕ
  pub output : List ℕ
  pub asked : wanted ≡ Some command
  pub read : IsReadWhole command before.source after.source input
  pub made : Outputs command name (kept_between before after) input output
  pub written : Appends before.sink.bytes after.sink.bytes output

-- No: the input was read to its end, it is a certificate of which a line fails, and the line that says so was written
pub record IsDenied (wanted : Option Command) (before after : Views) : Type 0 where
  pub input : List ℕ
  pub output : List ℕ
  pub asked : wanted ≡ Some Check
  pub read : IsReadWhole Check before.source after.source input
  pub denies : Denies Check (kept_between before after) input output
  pub written : Appends before.sink.bytes after.sink.bytes output

-- TraceRefused: the input was read out, it is refused, and the line that says so was written
pub record IsRefused (wanted : Option Command) (before after : Views) : Type 0 where
  pub command : Command
  pub input : List ℕ
  pub output : List ℕ
  pub asked : wanted ≡ Some command
  pub read : IsReadOut before.source after.source input
  pub refuses : Refuses command (kept_between before after) input output
  pub written : Appends before.sink.bytes after.sink.bytes output

-- WriteFault: the input was read out, or the command reads none, what was to be written was made, and a prefix of it stands
pub record IsCutShort (wanted : Option Command) (name : List ℕ) (before after : Views) : Type 0 where
  pub command : Command
  pub input : List ℕ
  pub status : Status
  pub output : List ℕ
  pub asked : wanted ≡ Some command
  pub read : IsReadFor command before.source after.source input
  pub answers : Answers command name status (kept_between before after) input output
  pub front : AppendsFront before.sink.bytes after.sink.bytes output

-- the statuses of a run in which neither source nor sink failed, and whose arguments are right
abbrev pub IsFaultless : Status → Type 0
IsFaultless status.Done = Unit {0}
IsFaultless status.No = Unit {0}
IsFaultless status.TraceRefused = Unit {0}
IsFaultless status.NoMemory = Unit {0}
IsFaultless _ = ⊥

-- the statuses of a run that replays nothing
abbrev pub IsIdle : Status → Type 0
IsIdle status.No = Unit {0}
IsIdle status.Usage = Unit {0}
IsIdle status.ReadFault = Unit {0}
IsIdle status.TraceRefused = Unit {0}
IsIdle _ = ⊥

-- the statuses of a run that fills no yard
abbrev pub IsUnopened : Status → Type 0
IsUnopened status.Done = ⊥
IsUnopened status.WriteFault = ⊥
IsUnopened _ = Unit {0}

abbrev pub HasFailed : (before after : Told) → Type 0
HasFailed before after = Rose before.faults after.faults

-- neither source nor sink has failed
abbrev pub NoneFailed : (before after : Views) → Type 0
NoneFailed before after = (HasFailed before.source after.source → ⊥) × (HasFailed before.sink after.sink → ⊥)

-- the counts of faults of source and sink are as they were
abbrev pub CountsStay : (before after : Views) → Type 0
CountsStay before after = (after.source.faults ≡ before.source.faults) × (after.sink.faults ≡ before.sink.faults)

-- A run whose arguments ask for this, or for nothing where they are wrong, and name this router, ended so
pub record Ran (wanted : Option Command) (name : List ℕ) (before after : Views) (answer : Status) : Type 0 where
  -- what was read and written
  pub done : answer ≡ status.Done → IsDone wanted name before after
  pub denied : answer ≡ status.No → IsDenied wanted before after
  pub refused : answer ≡ status.TraceRefused → IsRefused wanted before after
  pub cut_short : answer ≡ status.WriteFault → IsCutShort wanted name before after
  -- when each status comes
  pub usage : (answer ≡ status.Usage) ↔ (wanted ≡ None)
  pub read_fault : answer ≡ status.ReadFault → HasFailed before.source after.source
  pub write_fault : answer ≡ status.WriteFault → HasFailed before.sink after.sink
  -- the counts of faults stay where nothing failed
  pub faultless : IsFaultless answer → CountsStay before after
  pub read_first : answer ≡ status.WriteFault → after.source.faults ≡ before.source.faults
  -- a command that reads no input leaves the source as it was
  pub unread : (command : Command) → wanted ≡ Some command → reads command ≡ false → after.source ≡ before.source
  -- the shelf stays as it was where nothing is replayed
  pub idle : IsIdle answer → after.shelf ≡ before.shelf
  pub shelfless : (command : Command) → wanted ≡ Some command → is_replay command ≡ false → after.shelf ≡ before.shelf
  -- and the yard, but where a replay was done
  pub unopened : IsUnopened answer → after.yard ≡ before.yard
  pub yardless : (command : Command) → wanted ≡ Some command → is_replay command ≡ false → after.yard ≡ before.yard
  -- with right arguments and no fault a run is done, or says no, or its input is refused, or memory was refused
  pub complete : IsSome wanted → NoneFailed before after → IsFaultless answer
