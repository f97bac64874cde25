-- What `pcap` writes, and which captures it refuses.
use Rattle.std.specs.Prelude.{ℕ, ◌≡◌, ◌≤◌, ◌<◌, ◌⊎◌, List, [], ◌∷◌, ◌++◌, length, codes, decimal, Err, if◌then◌else◌}
use Rattle.line_text.specs.Writing.{spaced}
use Rattle.pcap_intake.specs.Capture.{header_in}
use Rattle.pcap_intake.specs.Intake.{AreLinesOf, Lines}
use Rattle.pcap_intake.specs.declared.Counts.{Counts}
use Rattle.pcap_intake.specs.declared.CaptureRefused.TheVariants.{Refused}
use Rattle.pcap_intake.specs.declared.CaptureWhy.{CaptureWhy}
use Rattle.pcap_intake.specs.declared.CaptureWhy.TheVariants.{Short, Magic, Version, LinkType}
use Rattle.trace_format.specs.Limits.{most_bytes}
use Rattle.spie_run.specs.Refusals.{refusal_text}

-- the text is that of the capture's packets, as this router forwarded them
pub record IsCaptureText (name : List ℕ) (first skip : ℕ) (input output : List ℕ) : Type 0 where
  pub lines : Lines
  pub are : AreLinesOf input name first skip lines
  pub says : output ≡ lines.text

-- a field's name, and the number
abbrev pub counted : (name : List ℕ) → ℕ → List ℕ
counted name count = spaced name ++ spaced (decimal count)

-- the good packets
abbrev pub good_text : Counts → List ℕ
good_text counts = counted (codes "taken") counts.taken ++ counted (codes "skipped") counts.skipped ++ counted (codes "left") counts.left

-- the other records
abbrev pub other_text : Counts → List ℕ
other_text counts = counted (codes "other") counts.other ++ counted (codes "refused") counts.refused ++ counted (codes "cut") (if counts.cut then 1 else 0)

-- one line
abbrev pub count_text : Counts → List ℕ
count_text counts = codes "capture" ++ good_text counts ++ other_text counts ++ 10 ∷ []

-- the line has the counts of the capture, which are the same for any router
pub record IsCountText (input output : List ℕ) : Type 0 where
  pub name : List ℕ
  pub lines : Lines
  pub are : AreLinesOf input name 0 0 lines
  pub says : output ≡ count_text lines.counts

-- the word of a rule on the header of a capture's file
abbrev pub capture_why_word : CaptureWhy → List ℕ
capture_why_word Short = codes "short"
capture_why_word Magic = codes "magic"
capture_why_word Version = codes "version"
capture_why_word LinkType = codes "link-type"

-- the line names the first rule that the header breaks, and the place
pub record IsHeaderRefusal (input output : List ℕ) : Type 0 where
  pub place : ℕ
  pub why : CaptureWhy
  pub first : header_in input ≡ Err (Refused place why)
  pub says : output ≡ refusal_text place (capture_why_word why)

-- more bytes than are read come before all that the header says
abbrev pub IsCaptureRefusal : (input output : List ℕ) → Type 0
IsCaptureRefusal input output = (most_bytes < length input) × (output ≡ codes "refused 0 too-long\n") ⊎ (length input ≤ most_bytes) × IsHeaderRefusal input output
