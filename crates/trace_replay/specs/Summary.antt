-- The line that sums up the replay of a made trace.
use Rattle.std.specs.Prelude.{ℕ, List, [], ◌∷◌, ◌++◌, Bool, true, false, length, filter, codes, decimal}
use Rattle.hex.specs.Hex.{encode_lower}
use Rattle.sha2.specs.Sha256.{sha256}
use Rattle.line_text.specs.Writing.{spaced}
use Rattle.trace_format.specs.Sound.{records}
use Rattle.trace_format.specs.declared.Line.{Line}
use Rattle.trace_format.specs.declared.Trace.{Trace}
use Rattle.trace_format.specs.declared.What.{What}
use Rattle.trace_format.specs.declared.What.TheVariants as what
use Rattle.trace_history.specs.declared.Totals.{Totals}

-- whether a line asks for the routers of a packet
abbrev pub is_asking : What → Bool
is_asking (what.Query router packet time) = true
is_asking _ = false

-- the lines that do
abbrev pub queries : List Line → List Line
queries lines = filter (λ line. is_asking line.what) lines

-- what was made
abbrev pub load_head : (seed packets : ℕ) → List ℕ
load_head seed packets = codes "load" ++ spaced (decimal seed) ++ spaced (codes "packets") ++ spaced (decimal packets)

-- how many of its lines record a packet, and how many ask for one
abbrev pub load_lines : Trace → List ℕ
load_lines t = spaced (codes "records") ++ spaced (decimal (length (records t.lines))) ++ spaced (codes "queries") ++ spaced (decimal (length (queries t.lines)))

-- the sums over all answers
abbrev pub load_found : Totals → List ℕ
load_found totals = spaced (codes "nodes") ++ spaced (decimal totals.nodes) ++ spaced (codes "edges") ++ spaced (decimal totals.edges)

abbrev pub load_left : Totals → List ℕ
load_left totals = spaced (codes "unknown") ++ spaced (decimal totals.unknown) ++ spaced (codes "clear") ++ spaced (decimal totals.clear)

-- the SHA-256 of the report, in lower case, and the line's end
abbrev pub load_digest : (report : List ℕ) → List ℕ
load_digest report = spaced (codes "sha256") ++ spaced (encode_lower (sha256 report)) ++ 10 ∷ []

-- one line: what was made, of how many lines, what was found, and the digest of the whole report
abbrev pub load_line : (seed packets : ℕ) → Trace → (report : List ℕ) → Totals → List ℕ
load_line seed packets t report totals =
    load_head seed packets ++ load_lines t ++ (load_found totals ++ load_left totals) ++ load_digest report
