-- Where a line may stand, and what the lines before it tell. They stand from the latest to the first.
use Rattle.std.specs.Prelude.{ℕ, ◌+◌, ◌==◌, ◌&&◌, List, [], ◌∷◌, Bool, true, false, nat_le}
use Rattle.std.specs.declared.option.Option.{Option}
use Rattle.std.specs.declared.option.Option.TheVariants.{None, Some}
use Rattle.std.specs.Ordering.{is_lt, nat_cmp, ordering_then}
use Rattle.std.specs.declared.cmp.Ordering.{Ordering}
use Rattle.spie_base.specs.Order.{router_cmp}
use Rattle.evidence_text.specs.declared.certificates.Link.{Link}
use Rattle.evidence_text.specs.declared.words.Stage.{Stage}
use Rattle.evidence_text.specs.declared.words.Stage.TheVariants as stage
use Rattle.evidence_text.specs.Said.{Said, VersionLine, RoutersLine, LinkLine, StartLine, RouterLine, PageLine, RowLine, NodeLine, EdgeLine, UnknownLine, ClearLine, EndLine, EarlyLine}
use Rattle.evidence_text.specs.Spelling.{Bounds}

-- ---- what the lines before tell

-- how far they go
abbrev pub stage_of : List Said → Stage
stage_of [] = stage.Version
stage_of (VersionLine ∷ before) = stage.Routers
stage_of (RoutersLine count ∷ before) = stage.Links
stage_of (LinkLine link ∷ before) = stage.Links
stage_of (StartLine start ∷ before) = stage.Pages
stage_of (RouterLine shape missing ∷ before) = stage.Pages
stage_of (PageLine page words ∷ before) = stage.Pages
stage_of (RowLine row ∷ before) = stage.Pages
stage_of (NodeLine named ∷ before) = stage.Nodes
stage_of (EdgeLine edge ∷ before) = stage.Edges
stage_of (UnknownLine node ∷ before) = stage.Unknown
stage_of (ClearLine node ∷ before) = stage.Clear
stage_of (EndLine ∷ before) = stage.Over
stage_of (EarlyLine w rest ∷ before) = stage_of before

-- how many routers there are to be
abbrev pub count_of : List Said → Option ℕ
count_of [] = None
count_of (RoutersLine count ∷ before) = Some count
count_of (_ ∷ before) = count_of before

-- how many were told
abbrev pub routers_told : List Said → ℕ
routers_told [] = 0
routers_told (RouterLine shape missing ∷ before) = routers_told before + 1
routers_told (_ ∷ before) = routers_told before

-- the bits of a position in the pages of the latest router
abbrev pub n_of : List Said → Option ℕ
n_of [] = None
n_of (RouterLine shape missing ∷ before) = Some shape.n
n_of (_ ∷ before) = n_of before

abbrev pub bounds_of : List Said → Bounds
bounds_of before = record { routers = count_of before; n = n_of before }

abbrev pub last_link : List Said → Option Link
last_link [] = None
last_link (LinkLine link ∷ before) = Some link
last_link (_ ∷ before) = last_link before

-- the latest page of the latest router
abbrev pub last_page : List Said → Option ℕ
last_page [] = None
last_page (RouterLine shape missing ∷ before) = None
last_page (PageLine page words ∷ before) = Some page.number
last_page (_ ∷ before) = last_page before

-- all that matters for the order
pub record Told : Type 0 where
  pub stage : Stage
  pub count : Option ℕ
  pub told : ℕ
  pub link : Option Link
  pub page : Option ℕ

abbrev pub told_by : List Said → Told
told_by before = record { stage = stage_of before; count = count_of before; told = routers_told before; link = last_link before; page = last_page before }

-- ---- the order

abbrev pub link_cmp : Link → Link → Ordering
link_cmp a b = ordering_then (router_cmp a.low b.low) (router_cmp a.high b.high)

abbrev pub is_link_above : Option Link → Link → Bool
is_link_above None link = true
is_link_above (Some latest) link = is_lt (link_cmp latest link)

abbrev pub is_page_above : Option ℕ → ℕ → Bool
is_page_above None page = true
is_page_above (Some latest) page = is_lt (nat_cmp latest page)

abbrev pub is_there : Option ℕ → Bool
is_there None = false
is_there (Some page) = true

-- all routers were told
abbrev pub is_count : Option ℕ → ℕ → Bool
is_count None routers = false
is_count (Some count) routers = count == routers

abbrev pub is_over : Stage → Bool
is_over stage.Over = true
is_over _ = false

abbrev pub at_version : Stage → Bool
at_version stage.Version = true
at_version _ = false

abbrev pub at_routers : Stage → Bool
at_routers stage.Routers = true
at_routers _ = false

abbrev pub at_links : Stage → Bool
at_links stage.Links = true
at_links _ = false

abbrev pub at_pages : Stage → Bool
at_pages stage.Pages = true
at_pages _ = false

-- the parts of an answer, in their order
abbrev pub rank : Stage → ℕ
rank stage.Pages = 1
rank stage.Nodes = 2
rank stage.Edges = 3
rank stage.Unknown = 4
rank stage.Clear = 5
rank _ = 7

-- a part of the answer may begin or go on
abbrev pub may_answer : Told → ℕ → Bool
may_answer t part = is_count t.count t.told && nat_le (rank t.stage) part

abbrev pub stands : Told → Said → Bool
stands t VersionLine = at_version t.stage
stands t (RoutersLine count) = at_routers t.stage
stands t (LinkLine link) = at_links t.stage && is_link_above t.link link
stands t (StartLine start) = at_links t.stage
stands t (RouterLine shape missing) = at_pages t.stage && (shape.router.number == t.told)
stands t (PageLine page words) = at_pages t.stage && is_page_above t.page page.number
stands t (RowLine row) = at_pages t.stage && is_there t.page
stands t (NodeLine named) = may_answer t 2
stands t (EdgeLine edge) = may_answer t 3
stands t (UnknownLine node) = may_answer t 4
stands t (ClearLine node) = may_answer t 5
stands t EndLine = may_answer t 6
stands t (EarlyLine w rest) = false
