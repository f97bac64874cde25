-- What the form of a text gives: what whoever judges a certificate may rest on.
use Rattle.std.specs.Prelude.{ℕ, ◌+◌, ◌≤◌, ◌<◌, ◌^◌, ◌-◌, ◌≡◌, List, All, length, slice_get, Some}
use Rattle.std.specs.List.{sum_by}
use Rattle.std.specs.List.Sorted.{IsStrictlySortedBy}
use Rattle.std.specs.Ordering.{nat_cmp}
use Rattle.bloom_page.specs.Bits.{members_of}
use Rattle.packet_signature.specs.declared.rows.Row.{Row}
use Rattle.reverse_flood.specs.declared.graphs.Node.{Node}
use Rattle.reverse_flood.specs.declared.graphs.Edge.{Edge}
use Rattle.spie_base.specs.Shapes.{IsShape}
use Rattle.topology.specs.declared.limits.TheConstants.{ROUTERS_MOST}
use Rattle.evidence_text.specs.declared.certificates.Certificate.{Certificate}
use Rattle.evidence_text.specs.declared.certificates.Link.{Link}
use Rattle.evidence_text.specs.declared.certificates.Named.{Named}
use Rattle.evidence_text.specs.declared.certificates.PageEvidence.{PageEvidence}
use Rattle.evidence_text.specs.declared.certificates.RouterPages.{RouterPages}
use Rattle.evidence_text.specs.Language.{most_bytes}
use Rattle.evidence_text.specs.Order.{link_cmp}
use Rattle.evidence_text.specs.Spelling.{IsData, IsPlace, IsSig}

-- ---- lines

-- the lines of a page: its own, and one of each row
abbrev pub page_lines : PageEvidence → ℕ
page_lines e = length e.rows + 1

abbrev pub router_lines : RouterPages → ℕ
router_lines r = sum_by page_lines r.pages + 1

-- the lines before the first line of the answer: the two first, one of each link, the start's, and those of the routers
abbrev pub lines_before : Certificate → ℕ
lines_before c = 3 + length c.links + sum_by router_lines c.routers

-- all lines: also those of the answer, and the last
abbrev pub lines_in : Certificate → ℕ
lines_in c = lines_before c + length c.nodes + length c.edges + length c.unknown + length c.clear + 1

-- ---- parts

pub record IsRow (row : Row) : Type 0 where
  pub key : row.key < 2 ^ 64
  pub old : IsData row.kind row.old

-- the bits are some words, as many as 2 ^ n bits have
pub record IsPage (n : ℕ) (e : PageEvidence) : Type 0 where
  pub number : e.page.number < 2 ^ 32
  pub words : List ℕ
  pub count : length words ≡ 2 ^ (n - 6)
  pub each : All (λ w. w < 2 ^ 64) words
  pub bits : e.bits ≡ record { n = n; members = members_of words }
  pub rows : All IsRow e.rows

-- the router with this number: its pages ascend
pub record IsRouterAt (router : ℕ) (r : RouterPages) : Type 0 where
  pub number : r.shape.router.number ≡ router
  pub in_range : IsShape r.shape
  pub base : r.shape.base < 2 ^ 64
  pub ascend : IsStrictlySortedBy (λ (a b : PageEvidence). nat_cmp a.page.number b.page.number) r.pages
  pub pages : All (IsPage r.shape.n) r.pages

abbrev pub IsKnownPair : (routers : ℕ) → Node → Type 0
IsKnownPair routers n = (n.router.number < routers) × IsSig n.sig

abbrev pub IsKnownNode : (routers : ℕ) → Named → Type 0
IsKnownNode routers x = IsKnownPair routers x.node × IsPlace x.from

abbrev pub IsKnownEdge : (routers : ℕ) → Edge → Type 0
IsKnownEdge routers e = IsKnownPair routers e.down × IsKnownPair routers e.up

-- a link of two routers, the lower first
abbrev pub IsKnownLink : (routers : ℕ) → Link → Type 0
IsKnownLink routers l = (l.low.number < l.high.number) × (l.high.number < routers)

-- ---- the whole

pub record IsJudgeable (c : Certificate) : Type 0 where
  pub some : 1 ≤ length c.routers
  pub few : length c.routers ≤ ROUTERS_MOST
  pub routers : (router : ℕ) (r : RouterPages) → slice_get c.routers router ≡ Some r → IsRouterAt router r
  pub links : All (IsKnownLink (length c.routers)) c.links
  pub links_ascend : IsStrictlySortedBy link_cmp c.links
  pub start : IsKnownPair (length c.routers) c.start
  pub nodes : All (IsKnownNode (length c.routers)) c.nodes
  pub edges : All (IsKnownEdge (length c.routers)) c.edges
  pub unknown : All (IsKnownPair (length c.routers)) c.unknown
  pub clear : All (IsKnownPair (length c.routers)) c.clear
  -- a line has a line end at least
  pub lines : lines_in c ≤ most_bytes
