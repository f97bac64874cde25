-- How a line is spelled. What it says has one spelling.
use Rattle.std.specs.Prelude.{ℕ, ◌^◌, ◌≤◌, ◌<◌, ◌-◌, ◌≡◌, List, [], ◌∷◌, ◌||◌, ◌&&◌, ◌==◌, All, Bool, true, false, length, codes, nat_le, nat_lt, is_some}
use Rattle.std.specs.declared.option.Option.{Option}
use Rattle.std.specs.declared.option.Option.TheVariants.{None, Some}
use Rattle.std.specs.Cmp.Lexicographic.{slice_cmp}
use Rattle.std.specs.Fmt.{decimal}
use Rattle.std.specs.Int.{w64, is_in_range, to_be_bytes}
use Rattle.std.specs.List.{flat_map, list_all}
use Rattle.std.specs.Ordering.{is_lt, nat_cmp}
use Rattle.std.specs.Str.{bytes_eq}
use Rattle.hex.specs.Hex.{IsBytes, encode_lower}
use Rattle.spie_base.specs.Decimal.{is_plain, number_in}
use Rattle.spie_base.specs.Shapes.{IsShape}
use Rattle.spie_base.specs.declared.types.Sig.{Sig}
use Rattle.spie_base.specs.declared.types.TheConstants.{K_MOST, N_LEAST, N_MOST}
use Rattle.packet_signature.specs.declared.rows.Kind.{Kind}
use Rattle.packet_signature.specs.declared.rows.Kind.TheVariants as kind
use Rattle.packet_signature.specs.declared.rows.RowData.{RowData}
use Rattle.packet_signature.specs.declared.rows.RowData.TheVariants.{Direct, Indirect}
use Rattle.topology.specs.declared.limits.TheConstants.{ROUTERS_MOST}
use Rattle.reverse_flood.specs.declared.graphs.Node.{Node}
use Rattle.evidence_text.specs.declared.words.Word.{Word}
use Rattle.evidence_text.specs.declared.words.Word.TheVariants as word
use Rattle.evidence_text.specs.Said.{Said, VersionLine, RoutersLine, LinkLine, StartLine, RouterLine, PageLine, RowLine, NodeLine, EdgeLine, UnknownLine, ClearLine, EndLine, EarlyLine}

-- ---- words

abbrev pub word_text : Word → List ℕ
word_text word.Version = codes "spie-certificate"
word_text word.Routers = codes "routers"
word_text word.Link = codes "link"
word_text word.Start = codes "start"
word_text word.Router = codes "router"
word_text word.Page = codes "page"
word_text word.Row = codes "row"
word_text word.Node = codes "node"
word_text word.Edge = codes "edge"
word_text word.Unknown = codes "unknown"
word_text word.Clear = codes "clear"
word_text word.End = codes "end"

-- the number of fields behind the word
abbrev pub arity : Word → ℕ
arity word.Version = 1
arity word.Routers = 1
arity word.Link = 2
arity word.Start = 2
arity word.Router = 5
arity word.Page = 2
arity word.Row = 4
arity word.Node = 3
arity word.Edge = 4
arity word.Unknown = 2
arity word.Clear = 2
arity word.End = 0

abbrev pub word_said : Said → Word
word_said VersionLine = word.Version
word_said (RoutersLine count) = word.Routers
word_said (LinkLine link) = word.Link
word_said (StartLine start) = word.Start
word_said (RouterLine shape missing) = word.Router
word_said (PageLine page words) = word.Page
word_said (RowLine row) = word.Row
word_said (NodeLine named) = word.Node
word_said (EdgeLine edge) = word.Edge
word_said (UnknownLine node) = word.Unknown
word_said (ClearLine node) = word.Clear
word_said EndLine = word.End
word_said (EarlyLine w rest) = w

-- ---- fields

-- 56 hex digits
abbrev pub sig_text : Sig → List ℕ
sig_text sig = encode_lower sig.bytes

-- 16 hex digits
abbrev pub word64_text : ℕ → List ℕ
word64_text n = encode_lower (to_be_bytes w64 n)

abbrev pub words_text : List ℕ → List ℕ
words_text words = flat_map word64_text words

abbrev pub pair : Node → List (List ℕ)
pair n = decimal n.router.number ∷ sig_text n.sig ∷ []

abbrev pub kind_word : Kind → List ℕ
kind_word kind.Frag = codes "frag"
kind_word kind.Nat = codes "nat"
kind_word kind.Icmp = codes "icmp"
kind_word kind.Ipip = codes "ipip"
kind_word kind.Decap = codes "decap"

abbrev pub data_word : RowData → List ℕ
data_word (Direct bytes) = codes "direct"
data_word (Indirect old) = codes "indirect"

abbrev pub data_text : RowData → List ℕ
data_text (Direct bytes) = encode_lower bytes
data_text (Indirect old) = sig_text old

-- the place of an earlier node, or a dash
abbrev pub from_text : Option ℕ → List ℕ
from_text None = codes "-"
from_text (Some place) = decimal place

abbrev pub flag_text : Bool → List ℕ
flag_text false = codes "0"
flag_text true = codes "1"

-- the fields behind the word
abbrev pub rest_of : Said → List (List ℕ)
rest_of VersionLine = codes "1" ∷ []
rest_of (RoutersLine count) = decimal count ∷ []
rest_of (LinkLine l) = decimal l.low.number ∷ decimal l.high.number ∷ []
rest_of (StartLine start) = pair start
rest_of (RouterLine shape missing) = decimal shape.router.number ∷ decimal shape.k ∷ decimal shape.n ∷ word64_text shape.base ∷ flag_text missing ∷ []
rest_of (PageLine page words) = decimal page.number ∷ words_text words ∷ []
rest_of (RowLine row) = word64_text row.key ∷ kind_word row.kind ∷ data_word row.old ∷ data_text row.old ∷ []
rest_of (NodeLine x) = decimal x.node.router.number ∷ sig_text x.node.sig ∷ from_text x.from ∷ []
rest_of (EdgeLine e) = decimal e.down.router.number ∷ sig_text e.down.sig ∷ decimal e.up.router.number ∷ sig_text e.up.sig ∷ []
rest_of (UnknownLine n) = pair n
rest_of (ClearLine n) = pair n
rest_of EndLine = []
rest_of (EarlyLine w rest) = rest

abbrev pub fields_of : Said → List (List ℕ)
fields_of said = word_text (word_said said) ∷ rest_of said

-- ---- the form of fields

-- what the lines before tell of the form of a line: how many routers there are, and the bits of a position in the pages
-- of the latest router
pub record Bounds : Type 0 where
  pub routers : Option ℕ
  pub n : Option ℕ

abbrev pub IsRouter : Option ℕ → ℕ → Type 0
IsRouter None router = ⊥
IsRouter (Some count) router = router < count

abbrev pub IsSig : Sig → Type 0
IsSig sig = (length sig.bytes ≡ 28) × IsBytes sig.bytes

abbrev pub IsPair : Option ℕ → Node → Type 0
IsPair routers n = IsRouter routers n.router.number × IsSig n.sig

-- the words of a page, where its size is known
abbrev pub AreWords : Option ℕ → List ℕ → Type 0
AreWords None words = ⊥
AreWords (Some n) words = (length words ≡ 2 ^ (n - 6)) × All (λ w. w < 2 ^ 64) words

-- only a fragment is kept by the bytes that fragmentation changes
abbrev pub IsData : Kind → RowData → Type 0
IsData kind.Frag (Direct bytes) = (length bytes ≡ 4) × IsBytes bytes
IsData _ (Direct bytes) = ⊥
IsData _ (Indirect old) = IsSig old

abbrev pub IsPlace : Option ℕ → Type 0
IsPlace None = Unit {0}
IsPlace (Some place) = place < 2 ^ 32

-- ---- fields before it is known how many routers there are, or how large a page is

-- hex digits in lower case
abbrev pub is_lower_digit : ℕ → Bool
is_lower_digit digit = is_in_range 48 57 digit || is_in_range 97 102 digit

abbrev pub is_hex : List ℕ → Bool
is_hex field = list_all is_lower_digit field

abbrev pub is_sig_text : List ℕ → Bool
is_sig_text field = (length field == 56) && is_hex field

abbrev pub is_word64_text : List ℕ → Bool
is_word64_text field = (length field == 16) && is_hex field

-- the first number is the lower: it has fewer digits, or as many and the lower one where they first differ
abbrev pub is_lower_text : List ℕ → List ℕ → Bool
is_lower_text a b = nat_lt (length a) (length b) || ((length a == length b) && is_lt (slice_cmp nat_cmp a b))

abbrev pub is_from : (least : ℕ) → Option ℕ → Bool
is_from least None = false
is_from least (Some n) = nat_le least n

-- a decimal number from least to most
abbrev pub is_within : List ℕ → (least most : ℕ) → Bool
is_within field least most = is_from least (number_in field most)

abbrev pub is_place_text : List ℕ → Bool
is_place_text field = bytes_eq field (codes "-") || is_some (number_in field 4294967295)

abbrev pub is_flag_text : List ℕ → Bool
is_flag_text field = bytes_eq field (codes "0") || bytes_eq field (codes "1")

abbrev pub are_shape : (k n base missing : List ℕ) → Bool
are_shape k n base missing = is_within k 1 K_MOST && (is_within n N_LEAST N_MOST && (is_word64_text base && is_flag_text missing))

-- a router is any decimal number, without needless zeros as ever
abbrev pub are_early : Word → List (List ℕ) → Bool
are_early word.Link (a ∷ b ∷ []) = is_plain a && (is_plain b && is_lower_text a b)
are_early word.Start (router ∷ sig ∷ []) = is_plain router && is_sig_text sig
are_early word.Router (router ∷ k ∷ n ∷ base ∷ missing ∷ []) = is_plain router && are_shape k n base missing
are_early word.Page (page ∷ digits ∷ []) = is_some (number_in page 4294967295) && is_hex digits
are_early word.Node (router ∷ sig ∷ from ∷ []) = is_plain router && (is_sig_text sig && is_place_text from)
are_early word.Edge (router ∷ sig ∷ other ∷ old ∷ []) = (is_plain router && is_sig_text sig) && (is_plain other && is_sig_text old)
are_early word.Unknown (router ∷ sig ∷ []) = is_plain router && is_sig_text sig
are_early word.Clear (router ∷ sig ∷ []) = is_plain router && is_sig_text sig
are_early _ _ = false

-- a page needs a router before it, any other line only how many there are
abbrev pub IsEarly : Bounds → Word → Type 0
IsEarly b word.Page = b.n ≡ None
IsEarly b w = b.routers ≡ None

-- ---- the form of a line

abbrev pub IsFormed : Bounds → Said → Type 0
IsFormed b VersionLine = Unit {0}
IsFormed b (RoutersLine count) = (1 ≤ count) × (count ≤ ROUTERS_MOST)
IsFormed b (LinkLine l) = IsRouter b.routers l.low.number × IsRouter b.routers l.high.number × (l.low.number < l.high.number)
IsFormed b (StartLine start) = IsPair b.routers start
IsFormed b (RouterLine shape missing) = IsRouter b.routers shape.router.number × IsShape shape × (shape.base < 2 ^ 64)
IsFormed b (PageLine page words) = (page.number < 2 ^ 32) × AreWords b.n words
IsFormed b (RowLine row) = (row.key < 2 ^ 64) × IsData row.kind row.old
IsFormed b (NodeLine x) = IsPair b.routers x.node × IsPlace x.from
IsFormed b (EdgeLine e) = IsPair b.routers e.down × IsPair b.routers e.up
IsFormed b (UnknownLine n) = IsPair b.routers n
IsFormed b (ClearLine n) = IsPair b.routers n
IsFormed b EndLine = Unit {0}
IsFormed b (EarlyLine w rest) = IsEarly b w × (are_early w rest ≡ true)

-- the fields of a line that says this
pub record Spells (b : Bounds) (said : Said) (fields : List (List ℕ)) : Type 0 where
  pub are : fields ≡ fields_of said
  pub formed : IsFormed b said
