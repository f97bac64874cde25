-- What the private functions of the reader answer, line by line. `read_certificate` itself is promised by `Language`.
use Rattle.std.specs.Prelude.{ℕ, zero, suc, ◌+◌, ◌*◌, ◌-◌, ◌^◌, List, [], ◌∷◌, ◌++◌, length, take, drop, Bool, true, false, not, ◌==◌, if◌then◌else◌, nat_lt, Result, Ok, Err, codes}
use Rattle.std.specs.Char.{is_ascii_uppercase}
use Rattle.std.specs.Str.{bytes_eq}
use Rattle.std.specs.List.{list_all}
use Rattle.std.specs.declared.option.Option.{Option}
use Rattle.std.specs.declared.option.Option.TheVariants.{None, Some}
use Rattle.std.specs.Int.{w64, from_be_bytes}
use Rattle.hex.specs.Hex.{decode_sized}
use Rattle.hex.specs.declared.error.FromHexError.{FromHexError}
use Rattle.spie_base.specs.Decimal.{number_in}
use Rattle.spie_base.specs.declared.types.PageNo.{PageNo}
use Rattle.spie_base.specs.declared.types.PageShape.{PageShape}
use Rattle.spie_base.specs.declared.types.Sig.{Sig}
use Rattle.spie_base.specs.declared.types.TheConstants.{K_MOST, N_LEAST, N_MOST}
use Rattle.packet_signature.specs.declared.rows.Kind.{Kind}
use Rattle.packet_signature.specs.declared.rows.Kind.TheVariants as kind
use Rattle.packet_signature.specs.declared.rows.Row.{Row}
use Rattle.packet_signature.specs.declared.rows.RowData.{RowData}
use Rattle.packet_signature.specs.declared.rows.RowData.TheVariants.{Direct, Indirect}
use Rattle.topology.specs.declared.limits.TheConstants.{ROUTERS_MOST}
use Rattle.reverse_flood.specs.declared.graphs.Node.{Node}
use Rattle.reverse_flood.specs.declared.graphs.Edge.{Edge}
use Rattle.line_text.specs.Answers.{◌>>=◌}
use Rattle.line_text.specs.Reading as texts
use Rattle.line_text.specs.Reading.{Reader}
use Rattle.line_text.specs.Text.{fields}
use Rattle.evidence_text.specs.declared.certificates.Certificate.{Certificate}
use Rattle.evidence_text.specs.declared.certificates.Link.{Link}
use Rattle.evidence_text.specs.declared.certificates.Named.{Named}
use Rattle.evidence_text.specs.declared.refused.CheckWhy.{CheckWhy}
use Rattle.evidence_text.specs.declared.refused.CheckWhy.TheVariants as why
use Rattle.evidence_text.specs.declared.refused.CheckFault.{CheckFault}
use Rattle.evidence_text.specs.declared.words.Stage.TheVariants as stage
use Rattle.evidence_text.specs.declared.words.Word.{Word}
use Rattle.evidence_text.specs.declared.words.Word.TheVariants as word
use Rattle.evidence_text.specs.Before.{Known, known_of, told_in, certificate_in}
use Rattle.evidence_text.specs.Language.{refusals, most_bytes, with_last, with_page, with_row_in, size_in}
use Rattle.evidence_text.specs.Order.{is_over, stands}
use Rattle.evidence_text.specs.Said.{Said, VersionLine, RoutersLine, LinkLine, StartLine, RouterLine, PageLine, RowLine, NodeLine, EdgeLine, UnknownLine, ClearLine, EndLine, EarlyLine}
use Rattle.evidence_text.specs.Spelling.{word_text, arity, are_early}

-- ---- fields

abbrev pub number_by : Option ℕ → ℕ → Result ℕ CheckWhy
number_by None least = Err why.Field
number_by (Some n) least = if nat_lt n least then Err why.Field else Ok n

-- a field that is a number from least to most
unfoldable pub number : List ℕ → ℕ → ℕ → Result ℕ CheckWhy
number field least most = number_by (number_in field most) least

-- a number below a bound of at most 32 bits
unfoldable pub below : List ℕ → ℕ → Result ℕ CheckWhy
below field bound = number field 0 4294967295 >>= (λ n. if nat_lt n bound then Ok n else Err why.Field)

abbrev pub is_small : ℕ → Bool
is_small b = not (is_ascii_uppercase b)

abbrev pub decoded : Result (List ℕ) FromHexError → Option (List ℕ)
decoded (Ok bytes) = Some bytes
decoded (Err e) = None

-- the bytes of so many pairs of hex digits in lower case
unfoldable pub lower_in : ℕ → List ℕ → Option (List ℕ)
lower_in n field = if list_all is_small field then decoded (decode_sized field n) else None

abbrev pub sig_by : Option (List ℕ) → Result Sig CheckWhy
sig_by None = Err why.Field
sig_by (Some bytes) = Ok (record { bytes = bytes })

unfoldable pub sig_in : List ℕ → Result Sig CheckWhy
sig_in field = sig_by (lower_in 28 field)

abbrev pub word64_by : Option (List ℕ) → Result ℕ CheckWhy
word64_by None = Err why.Field
word64_by (Some bytes) = Ok (from_be_bytes w64 bytes)

unfoldable pub word64_in : List ℕ → Result ℕ CheckWhy
word64_in field = word64_by (lower_in 8 field)

-- so many words from the front of a field
unfoldable pub some_words : ℕ → List ℕ → Result (List ℕ) CheckWhy
some_words zero field = Ok []
some_words (suc count) field = word64_in (take 16 field) >>= (λ w. some_words count (drop 16 field) >>= (λ more. Ok (w ∷ more)))

unfoldable pub words_in : (n : ℕ) → List ℕ → Result (List ℕ) CheckWhy
words_in n field = if length field == 16 * 2 ^ (n - 6) then some_words (2 ^ (n - 6)) field else Err why.Field

unfoldable pub kind_in : List ℕ → Result Kind CheckWhy
kind_in field =
    if bytes_eq field (codes "frag") then Ok kind.Frag else
    (if bytes_eq field (codes "nat") then Ok kind.Nat else
    (if bytes_eq field (codes "icmp") then Ok kind.Icmp else
    (if bytes_eq field (codes "ipip") then Ok kind.Ipip else
    (if bytes_eq field (codes "decap") then Ok kind.Decap else Err why.Field))))

abbrev pub direct_by : Option (List ℕ) → Result RowData CheckWhy
direct_by None = Err why.Field
direct_by (Some bytes) = Ok (Direct bytes)

-- only a fragment's row has its data in it
unfoldable pub direct_in : Kind → List ℕ → Result RowData CheckWhy
direct_in kind.Frag field = direct_by (lower_in 4 field)
direct_in _ field = Err why.Field

unfoldable pub indirect_in : List ℕ → Result RowData CheckWhy
indirect_in field = sig_in field >>= (λ old. Ok (Indirect old))

unfoldable pub data_in : Kind → (w field : List ℕ) → Result RowData CheckWhy
data_in k w field =
    if bytes_eq w (codes "direct") then direct_in k field else
    (if bytes_eq w (codes "indirect") then indirect_in field else Err why.Field)

unfoldable pub place_in : List ℕ → Result (Option ℕ) CheckWhy
place_in field = if bytes_eq field (codes "-") then Ok None else (number field 0 4294967295 >>= (λ n. Ok (Some n)))

unfoldable pub flag_in : List ℕ → Result Bool CheckWhy
flag_in field =
    if bytes_eq field (codes "0") then Ok false else
    (if bytes_eq field (codes "1") then Ok true else Err why.Field)

unfoldable pub pair_in : (count : ℕ) → (router sig : List ℕ) → Result Node CheckWhy
pair_in count router sig = do
  r ← below router count
  s ← sig_in sig
  Ok (record { router = record { number = r }; sig = s })

-- ---- what stands behind a word

unfoldable pub version_rest : List (List ℕ) → Result (Unit {0}) CheckWhy
version_rest (version ∷ []) = if bytes_eq version (codes "1") then Ok tt else Err why.Field
version_rest _ = Err why.Fields

unfoldable pub routers_rest : List (List ℕ) → Result ℕ CheckWhy
routers_rest (count ∷ []) = number count 1 ROUTERS_MOST
routers_rest _ = Err why.Fields

unfoldable pub link_fields : (count : ℕ) → (low high : List ℕ) → Result Link CheckWhy
link_fields count low high = do
  l ← below low count
  h ← below high count
  if nat_lt l h then Ok (record { low = record { number = l }; high = record { number = h } }) else Err why.Field

unfoldable pub link_rest : (count : ℕ) → List (List ℕ) → Result Link CheckWhy
link_rest count (low ∷ high ∷ []) = link_fields count low high
link_rest count _ = Err why.Fields

unfoldable pub pair_rest : (count : ℕ) → List (List ℕ) → Result Node CheckWhy
pair_rest count (router ∷ sig ∷ []) = pair_in count router sig
pair_rest count _ = Err why.Fields

unfoldable pub shape_fields : (count : ℕ) → (router k n base : List ℕ) → Result PageShape CheckWhy
shape_fields count router k n base = do
  r ← below router count
  k ← number k 1 K_MOST
  n ← number n N_LEAST N_MOST
  base ← word64_in base
  Ok (record { k = k; n = n; base = base; router = record { number = r } })

unfoldable pub router_fields : (count : ℕ) → (router k n base missing : List ℕ) → Result (PageShape × Bool) CheckWhy
router_fields count router k n base missing = do
  shape ← shape_fields count router k n base
  missing ← flag_in missing
  Ok (shape, missing)

unfoldable pub router_rest : (count : ℕ) → List (List ℕ) → Result (PageShape × Bool) CheckWhy
router_rest count (router ∷ k ∷ n ∷ base ∷ missing ∷ []) = router_fields count router k n base missing
router_rest count _ = Err why.Fields

unfoldable pub page_fields : (n : ℕ) → (page words : List ℕ) → Result (PageNo × List ℕ) CheckWhy
page_fields n page words = do
  p ← number page 0 4294967295
  ws ← words_in n words
  Ok (record { number = p }, ws)

unfoldable pub page_rest : (n : ℕ) → List (List ℕ) → Result (PageNo × List ℕ) CheckWhy
page_rest n (page ∷ words ∷ []) = page_fields n page words
page_rest n _ = Err why.Fields

unfoldable pub row_fields : (key k w old : List ℕ) → Result Row CheckWhy
row_fields key k w old = do
  key ← word64_in key
  k ← kind_in k
  old ← data_in k w old
  Ok (record { key = key; kind = k; old = old })

unfoldable pub row_rest : List (List ℕ) → Result Row CheckWhy
row_rest (key ∷ k ∷ w ∷ old ∷ []) = row_fields key k w old
row_rest _ = Err why.Fields

unfoldable pub node_fields : (count : ℕ) → (router sig from : List ℕ) → Result Named CheckWhy
node_fields count router sig from = do
  n ← pair_in count router sig
  place ← place_in from
  Ok (record { node = n; from = place })

unfoldable pub node_rest : (count : ℕ) → List (List ℕ) → Result Named CheckWhy
node_rest count (router ∷ sig ∷ from ∷ []) = node_fields count router sig from
node_rest count _ = Err why.Fields

unfoldable pub edge_fields : (count : ℕ) → (down sig up old : List ℕ) → Result Edge CheckWhy
edge_fields count down sig up old = do
  d ← pair_in count down sig
  u ← pair_in count up old
  Ok (record { down = d; up = u })

unfoldable pub edge_rest : (count : ℕ) → List (List ℕ) → Result Edge CheckWhy
edge_rest count (down ∷ sig ∷ up ∷ old ∷ []) = edge_fields count down sig up old
edge_rest count _ = Err why.Fields

unfoldable pub end_rest : List (List ℕ) → Result (Unit {0}) CheckWhy
end_rest [] = Ok tt
end_rest _ = Err why.Fields

-- the rule that a line breaks before it is known how many routers there are, or how large a page is
unfoldable pub early_why : Word → List (List ℕ) → CheckWhy
early_why w rest = if length rest == arity w then (if are_early w rest then why.Order else why.Field) else why.Fields

-- ---- lines

-- what is known with one more line
unfoldable pub grown : Known → Said → Known
grown known VersionLine = record known { stage = stage.Routers; read = known.read + 1 }
grown known (RoutersLine count) = record known { stage = stage.Links; read = known.read + 1; count = Some count }
grown known (LinkLine link) = record known { stage = stage.Links; read = known.read + 1; link = Some link; links = known.links ++ link ∷ [] }
grown known (StartLine start) = record known { stage = stage.Pages; read = known.read + 1; start = start }
grown known (RouterLine shape missing) = record known { stage = stage.Pages; read = known.read + 1; told = known.told + 1; n = Some shape.n; page = None; routers = known.routers ++ record { shape = shape; missing = missing; pages = [] } ∷ [] }
grown known (PageLine page words) = record known { stage = stage.Pages; read = known.read + 1; page = Some page.number; routers = with_last (with_page page (size_in known.n) words) known.routers }
grown known (RowLine row) = record known { stage = stage.Pages; read = known.read + 1; routers = with_last (with_row_in row) known.routers }
grown known (NodeLine named) = record known { stage = stage.Nodes; read = known.read + 1; nodes = known.nodes ++ named ∷ [] }
grown known (EdgeLine edge) = record known { stage = stage.Edges; read = known.read + 1; edges = known.edges ++ edge ∷ [] }
grown known (UnknownLine node) = record known { stage = stage.Unknown; read = known.read + 1; unknown = known.unknown ++ node ∷ [] }
grown known (ClearLine node) = record known { stage = stage.Clear; read = known.read + 1; clear = known.clear ++ node ∷ [] }
grown known EndLine = record known { stage = stage.Over; read = known.read + 1 }
grown known (EarlyLine w rest) = record known { read = known.read + 1 }

-- one more line, where it may stand
unfoldable pub accept : Known → Said → Result Known CheckWhy
accept known said = if stands (told_in known) said then Ok (grown known said) else Err why.Order

unfoldable pub version_line : Known → List (List ℕ) → Result Known CheckWhy
version_line known rest = version_rest rest >>= (λ fits. accept known VersionLine)

unfoldable pub routers_line : Known → List (List ℕ) → Result Known CheckWhy
routers_line known rest = routers_rest rest >>= (λ count. accept known (RoutersLine count))

unfoldable pub link_line : Known → Option ℕ → List (List ℕ) → Result Known CheckWhy
link_line known None rest = Err (early_why word.Link rest)
link_line known (Some count) rest = link_rest count rest >>= (λ link. accept known (LinkLine link))

unfoldable pub start_line : Known → Option ℕ → List (List ℕ) → Result Known CheckWhy
start_line known None rest = Err (early_why word.Start rest)
start_line known (Some count) rest = pair_rest count rest >>= (λ start. accept known (StartLine start))

unfoldable pub router_line : Known → Option ℕ → List (List ℕ) → Result Known CheckWhy
router_line known None rest = Err (early_why word.Router rest)
router_line known (Some count) rest = router_rest count rest >>= (λ r. accept known (RouterLine r.0 r.1))

unfoldable pub page_line : Known → Option ℕ → List (List ℕ) → Result Known CheckWhy
page_line known None rest = Err (early_why word.Page rest)
page_line known (Some n) rest = page_rest n rest >>= (λ p. accept known (PageLine p.0 p.1))

unfoldable pub row_line : Known → List (List ℕ) → Result Known CheckWhy
row_line known rest = row_rest rest >>= (λ row. accept known (RowLine row))

unfoldable pub node_line : Known → Option ℕ → List (List ℕ) → Result Known CheckWhy
node_line known None rest = Err (early_why word.Node rest)
node_line known (Some count) rest = node_rest count rest >>= (λ named. accept known (NodeLine named))

unfoldable pub edge_line : Known → Option ℕ → List (List ℕ) → Result Known CheckWhy
edge_line known None rest = Err (early_why word.Edge rest)
edge_line known (Some count) rest = edge_rest count rest >>= (λ edge. accept known (EdgeLine edge))

unfoldable pub unknown_line : Known → Option ℕ → List (List ℕ) → Result Known CheckWhy
unknown_line known None rest = Err (early_why word.Unknown rest)
unknown_line known (Some count) rest = pair_rest count rest >>= (λ node. accept known (UnknownLine node))

unfoldable pub clear_line : Known → Option ℕ → List (List ℕ) → Result Known CheckWhy
clear_line known None rest = Err (early_why word.Clear rest)
clear_line known (Some count) rest = pair_rest count rest >>= (λ node. accept known (ClearLine node))

unfoldable pub end_line : Known → List (List ℕ) → Result Known CheckWhy
end_line known rest = end_rest rest >>= (λ fits. accept known EndLine)

-- the word that a field is
unfoldable pub word_of : List ℕ → Option Word
word_of field =
    if bytes_eq field (word_text word.Edge) then Some word.Edge else
    (if bytes_eq field (word_text word.Row) then Some word.Row else
    (if bytes_eq field (word_text word.Node) then Some word.Node else
    (if bytes_eq field (word_text word.Clear) then Some word.Clear else
    (if bytes_eq field (word_text word.Unknown) then Some word.Unknown else
    (if bytes_eq field (word_text word.Page) then Some word.Page else
    (if bytes_eq field (word_text word.Link) then Some word.Link else
    (if bytes_eq field (word_text word.Router) then Some word.Router else
    (if bytes_eq field (word_text word.Start) then Some word.Start else
    (if bytes_eq field (word_text word.End) then Some word.End else
    (if bytes_eq field (word_text word.Routers) then Some word.Routers else
    (if bytes_eq field (word_text word.Version) then Some word.Version else None)))))))))))

-- one more line, by its word and the fields behind it
unfoldable pub line_by : Known → Word → List (List ℕ) → Result Known CheckWhy
line_by known word.Version rest = version_line known rest
line_by known word.Routers rest = routers_line known rest
line_by known word.Link rest = link_line known known.count rest
line_by known word.Start rest = start_line known known.count rest
line_by known word.Router rest = router_line known known.count rest
line_by known word.Page rest = page_line known known.n rest
line_by known word.Row rest = row_line known rest
line_by known word.Node rest = node_line known known.count rest
line_by known word.Edge rest = edge_line known known.count rest
line_by known word.Unknown rest = unknown_line known known.count rest
line_by known word.Clear rest = clear_line known known.count rest
line_by known word.End rest = end_line known rest

abbrev pub by_word : Known → Option Word → List (List ℕ) → Result Known CheckWhy
by_word known None rest = Err why.Word
by_word known (Some w) rest = line_by known w rest

abbrev pub by_fields : Known → List (List ℕ) → Result Known CheckWhy
by_fields known [] = Err why.Word
by_fields known (w ∷ rest) = by_word known (word_of w) rest

-- what is known with one more line, or the rule that the line breaks
unfoldable pub read_line : Known → List ℕ → Result Known CheckWhy
read_line known text = by_fields known (fields text)

-- what is known of a certificate's lines, and how one more is read
abbrev pub reader : Reader Said Known CheckWhy Certificate
reader = record {
  known_of = known_of;
  is_over = λ known. is_over known.stage;
  count = λ known. known.read;
  read_line = read_line;
  value_of = certificate_in;
}

-- one line after another
unfoldable pub read_lines : Known → List (List ℕ) → Result Known CheckFault
read_lines known parts = texts.read_lines refusals reader known parts

-- the certificate that a text is, or its fault
unfoldable pub read_of : List ℕ → Result Certificate CheckFault
read_of text = texts.read_text refusals reader most_bytes text
