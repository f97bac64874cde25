-- The record lines of a segment, what they record, and whose turn each is.
use Rattle.std.specs.Prelude.{ℕ, ◌+◌, ◌-◌, ◌%◌, ◌==◌, ◌≡◌, ◌<◌, if◌then◌else◌, List, [], ◌∷◌, ◌++◌, length, map, take, drop, slice_index_or, true}
use Rattle.std.specs.List.{flat_map}
use Rattle.spie_base.specs.declared.Entry.{Entry}
use Rattle.spie_base.specs.declared.PageNo.{PageNo}
use Rattle.spie_base.specs.declared.Sig.{Sig}
use Rattle.trace_format.specs.Sound.{IsWithin, is_recording}
use Rattle.trace_format.specs.declared.Line.{Line}
use Rattle.trace_format.specs.declared.Trace.{Trace}
use Rattle.trace_format.specs.declared.What.{What}
use Rattle.trace_format.specs.declared.What.TheVariants.{Fwd, Xf}
use Rattle.trace_history.specs.History.{Hop, same, changed}
use Rattle.trace_history.specs.Receipts.{Receipt}
use Rattle.trace_history.specs.Routers.{count}
use Rattle.trace_history.specs.Workers.{entry_by}

-- ---- lines

-- what a list of lines gives past its end
abbrev pub no_line : Line
no_line = record { number = 0; what = Fwd (record { number = 0 }) 0 }

abbrev pub line_at : List Line → (place : ℕ) → Line
line_at lines place = slice_index_or lines place no_line

abbrev pub lines_at : List Line → (places : List ℕ) → List Line
lines_at lines places = map (line_at lines) places

-- the lines from a place to before another
abbrev pub lines_between : List Line → (from to : ℕ) → List Line
lines_between lines from to = take (to - from) (drop from lines)

-- the places of the record lines among lines of which the first stands at place `from`
abbrev pub record_places : (from : ℕ) → List Line → List ℕ
record_places from [] = []
record_places from (line ∷ lines) =
    (if is_recording line.what then from ∷ [] else []) ++ record_places (from + 1) lines

-- the places of the record lines of a segment that has the lines from one place to before another
abbrev pub segment_places : List Line → (from to : ℕ) → List ℕ
segment_places lines from to = record_places from (lines_between lines from to)

-- the place is that of a record line, and the router and the packets that the line names are there
pub record IsRecordAt (t : Trace) (place : ℕ) : Type 0 where
  pub within : place < length t.lines
  pub recording : is_recording (line_at t.lines place).what ≡ true
  pub named : IsWithin (count t) (length t.sigs) (line_at t.lines place).what

-- ---- turns

-- of items, the first of which has number `from`, those of one of W workers: number j is worker j % W's
abbrev pub turns_of : {A : Type 0} → (W worker from : ℕ) → List A → List A
turns_of W worker from [] = []
turns_of W worker from (x ∷ xs) = (if from % W == worker then x ∷ [] else []) ++ turns_of W worker (from + 1) xs

-- ---- what is recorded

abbrev pub no_sig : Sig
no_sig = record { bytes = [] }

abbrev pub sig_at : List Sig → (packet : ℕ) → Sig
sig_at sigs packet = slice_index_or sigs packet no_sig

-- what a record line records
abbrev pub hop_of : List Sig → What → Hop
hop_of sigs (Fwd router packet) = record { router = router.number; sig = sig_at sigs packet; origin = same }
hop_of sigs (Xf router kind old new) =
    record { router = router.number; sig = sig_at sigs new; origin = changed kind (sig_at sigs old) }
hop_of sigs _ = record { router = 0; sig = no_sig; origin = same }

-- the receipts of record lines, by the pages that their records entered
abbrev pub receipts_by : List Sig → List Line → List PageNo → List Receipt
receipts_by sigs [] pages = []
receipts_by sigs (line ∷ lines) [] = []
receipts_by sigs (line ∷ lines) (page ∷ pages) =
    record { hop = hop_of sigs line.what; page = page.number } ∷ receipts_by sigs lines pages

-- the entries of a router, by receipts
abbrev pub entries_by : (router : ℕ) → List Receipt → List Entry
entries_by router xs = flat_map (entry_by router) xs
