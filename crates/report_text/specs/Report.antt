-- How the lines of a report are spelled.
use Rattle.std.specs.Prelude.{ℕ, ◌<◌, List, [], ◌∷◌, ◌++◌, length, codes, slice_index_or, decimal, Some, None}
use Rattle.std.specs.declared.option.Option.{Option}
use Rattle.hex.specs.Hex.{encode_lower}
use Rattle.line_text.specs.Writing.{line_text, listed}
use Rattle.spie_base.specs.declared.Sig.{Sig}
use Rattle.spie_base.specs.declared.RouterId.{RouterId}
use Rattle.spie_base.specs.declared.PageNo.{PageNo}
use Rattle.spie_base.specs.declared.PageRange.{PageRange}
use Rattle.reverse_flood.specs.declared.Node.{Node}
use Rattle.report_text.specs.declared.items.Bad.{Bad}
use Rattle.report_text.specs.declared.items.CauseWord.{CauseWord}
use Rattle.report_text.specs.declared.items.CauseWord.TheVariants.{Failed, Other, Absent, Broken}
use Rattle.report_text.specs.declared.items.Item.{Item}
use Rattle.report_text.specs.declared.items.Item.TheVariants.{Head, Entered, Opened, Archived, Seen, NotSeen, Unknown, Tick, Closed, Left, Query, Pages, NodeLine, EdgeLine, UnknownLine, Answer, End}

-- 56 lower-case hex digits
abbrev pub sig_text : Sig → List ℕ
sig_text sig = encode_lower sig.bytes

-- the name of a router
abbrev pub name_of : List (List ℕ) → RouterId → List ℕ
name_of names router = slice_index_or names router.number []

abbrev pub page_text : PageNo → List ℕ
page_text page = decimal page.number

abbrev pub pages_text : List PageNo → List ℕ
pages_text pages = listed page_text pages

-- the first and the last page, or a dash
abbrev pub range_text : Option PageRange → List ℕ
range_text None = codes "-"
range_text (Some range) = page_text range.first ++ codes "-" ++ page_text range.last

abbrev pub cause_text : CauseWord → List ℕ
cause_text Failed = codes "failed"
cause_text Other = codes "other"
cause_text Absent = codes "absent"
cause_text Broken = codes "broken"

abbrev pub bad_one : Bad → List ℕ
bad_one bad = page_text bad.page ++ codes ":" ++ cause_text bad.cause

abbrev pub bad_text : List Bad → List ℕ
bad_text bads = listed bad_one bads

-- the fields of a pair: the router's name and the signature
abbrev pub pair : List (List ℕ) → Node → List (List ℕ)
pair names node = name_of names node.router ∷ sig_text node.sig ∷ []

-- the line that an item is
unfoldable pub item_text : List (List ℕ) → Item → List ℕ
item_text names Head = codes "spie-report 1\n"
item_text names (Entered line page) = line_text line (codes "in" ∷ page_text page ∷ [])
item_text names (Opened line page) = line_text line (codes "opened" ∷ page_text page ∷ [])
item_text names (Archived line router put kept) = line_text line (codes "archived" ∷ name_of names router ∷ codes "put" ∷ pages_text put ∷ codes "kept" ∷ pages_text kept ∷ [])
item_text names (Seen line) = line_text line (codes "seen" ∷ [])
item_text names (NotSeen line) = line_text line (codes "not-seen" ∷ [])
item_text names (Unknown line) = line_text line (codes "unknown" ∷ [])
item_text names (Tick line time) = line_text line (codes "tick" ∷ decimal time ∷ [])
item_text names (Closed line router page bits) = line_text line (codes "closed" ∷ name_of names router ∷ page_text page ∷ decimal bits ∷ [])
item_text names (Left line router page) = line_text line (codes "left" ∷ name_of names router ∷ page_text page ∷ [])
item_text names (Query line) = line_text line (codes "query" ∷ [])
item_text names (Pages line router expired unreadable used) = line_text line (codes "pages" ∷ name_of names router ∷ codes "expired" ∷ range_text expired ∷ codes "unreadable" ∷ bad_text unreadable ∷ codes "used" ∷ pages_text used ∷ [])
item_text names (NodeLine line node) = line_text line (codes "node" ∷ pair names node)
item_text names (EdgeLine line edge) = line_text line (codes "edge" ∷ pair names edge.down ++ pair names edge.up)
item_text names (UnknownLine line node) = line_text line (codes "unknown" ∷ pair names node)
item_text names (Answer line nodes edges unknown clear) = line_text line (codes "answer" ∷ codes "nodes" ∷ decimal nodes ∷ codes "edges" ∷ decimal edges ∷ codes "unknown" ∷ decimal unknown ∷ codes "clear" ∷ decimal clear ∷ [])
item_text names (End line) = line_text line (codes "end" ∷ [])

-- a router that exists
abbrev pub IsNamed : List (List ℕ) → RouterId → Type 0
IsNamed names router = router.number < length names

-- an item's routers exist
abbrev pub IsPrintable : List (List ℕ) → Item → Type 0
IsPrintable names Head = Unit {0}
IsPrintable names (Entered line page) = Unit {0}
IsPrintable names (Opened line page) = Unit {0}
IsPrintable names (Archived line router put kept) = IsNamed names router
IsPrintable names (Seen line) = Unit {0}
IsPrintable names (NotSeen line) = Unit {0}
IsPrintable names (Unknown line) = Unit {0}
IsPrintable names (Tick line time) = Unit {0}
IsPrintable names (Closed line router page bits) = IsNamed names router
IsPrintable names (Left line router page) = IsNamed names router
IsPrintable names (Query line) = Unit {0}
IsPrintable names (Pages line router expired unreadable used) = IsNamed names router
IsPrintable names (NodeLine line node) = IsNamed names node.router
IsPrintable names (EdgeLine line edge) = IsNamed names edge.down.router × IsNamed names edge.up.router
IsPrintable names (UnknownLine line node) = IsNamed names node.router
IsPrintable names (Answer line nodes edges unknown clear) = Unit {0}
IsPrintable names (End line) = Unit {0}
