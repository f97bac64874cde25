-- The one way in which each line of a made trace is spelled.
use Rattle.std.specs.Prelude.{ℕ, List, [], ◌∷◌, ◌++◌, codes, decimal}
use Rattle.std.specs.List.{flat_map}
use Rattle.std.specs.Int.{w64, to_be_bytes}
use Rattle.hex.specs.Hex.{encode_lower}
use Rattle.line_text.specs.Writing.{spaced}
use Rattle.trace_format.specs.Said.{Said}
use Rattle.trace_format.specs.Said as said
use Rattle.trace_format.specs.Spelling.{kind_word}
use Rattle.trace_format.specs.Versions.{version_text}

-- the fields of a line. Hex digits are in lower case
abbrev pub said_fields : Said → List (List ℕ)
said_fields (said.Version version) = codes "spie-trace" ∷ version_text version ∷ []
said_fields (said.Shape r) = codes "shape" ∷ decimal r.k ∷ decimal r.n ∷ decimal r.limit ∷ decimal r.span ∷ decimal r.keep ∷ decimal r.age ∷ decimal r.width ∷ encode_lower (to_be_bytes w64 r.base) ∷ []
said_fields (said.Router name region) = codes "router" ∷ name ∷ region ∷ []
said_fields (said.Link one other delay) = codes "link" ∷ one ∷ other ∷ []
said_fields (said.Pages name k n limit) = codes "pages" ∷ name ∷ decimal k ∷ decimal n ∷ decimal limit ∷ []
said_fields said.Begin = codes "begin" ∷ []
said_fields (said.Packet bytes) = codes "packet" ∷ encode_lower bytes ∷ []
said_fields (said.Fwd name packet) = codes "fwd" ∷ name ∷ decimal packet ∷ []
said_fields (said.Xf name kind old new) = codes "xf" ∷ name ∷ kind_word kind ∷ decimal old ∷ decimal new ∷ []
said_fields (said.Rotate name) = codes "rotate" ∷ name ∷ []
said_fields (said.Archive name) = codes "archive" ∷ name ∷ []
said_fields (said.Watch name packet) = codes "watch" ∷ name ∷ decimal packet ∷ []
said_fields (said.Tick time) = codes "tick" ∷ decimal time ∷ []
said_fields (said.Query name packet time) = codes "query" ∷ name ∷ decimal packet ∷ decimal time ∷ []
said_fields said.End = codes "end" ∷ []

-- fields with a space between each two
abbrev pub joined : List (List ℕ) → List ℕ
joined [] = []
joined (first ∷ more) = first ++ flat_map spaced more

abbrev pub line_of : Said → List ℕ
line_of s = joined (said_fields s)

-- a line, and a line feed
abbrev pub said_line : Said → List ℕ
said_line s = line_of s ++ 10 ∷ []

abbrev pub lines_text : List Said → List ℕ
lines_text lines = flat_map said_line lines
