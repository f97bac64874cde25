-- One line more.
use Rattle.std.proofs.Common.{ℕ, ◌≡◌, ◌+◌, List, [], ◌∷◌, refl, ap, ◌∙◌, arith, lit<, true, false, nat_le, ◌==◌}
use Rattle.std.proofs.lemmas.Bool.{eqb-true}
use Rattle.std.proofs.lemmas.List.Elements.{All-nil}
use Rattle.std.proofs.lemmas.List.Sums.{sum_by-append}
use Rattle.std.specs.declared.option.Option.TheVariants.{None}
use Rattle.spie_base.proofs.Booleans.{both_held}
use Rattle.reverse_flood.specs.declared.graphs.Node.{Node}
use Rattle.reverse_flood.specs.declared.graphs.Edge.{Edge}
use Rattle.spie_base.specs.declared.types.PageNo.{PageNo}
use Rattle.spie_base.specs.declared.types.PageShape.{PageShape}
use Rattle.std.specs.Prelude.{Bool}
use Rattle.packet_signature.specs.declared.rows.Row.{Row}
use Rattle.evidence_text.proofs.Holding.{IsLinkIn, IsNamedIn, IsEdgeIn, Holds, version_is, routers_is, links_is, pages_is, answer_heads, answer_started, opening_none, opening_first, pages_started, push_all, push_link, known_first, one_more, heads}
use Rattle.evidence_text.proofs.RouterFacts.{push_router, added_page, added_row}
use Rattle.evidence_text.proofs.Ascents.{sorted_none}
use Rattle.evidence_text.specs.Judgeable.{router_lines}
use Rattle.evidence_text.specs.Language.{IsLine, links_of, start_of, routers_of, nodes_of, edges_of, unknown_of, clear_of}
use Rattle.evidence_text.specs.Order.{stage_of, count_of, routers_told, n_of, last_link, last_page, link_cmp, is_link_above, is_page_above, is_there, is_count, at_links, at_pages, rank}
use Rattle.evidence_text.specs.Said.{Said, VersionLine, RoutersLine, LinkLine, StartLine, RouterLine, PageLine, RowLine, NodeLine, EdgeLine, UnknownLine, ClearLine, EndLine, EarlyLine}
use Rattle.evidence_text.specs.Spelling.{IsPair}
use Rattle.evidence_text.specs.declared.certificates.Link.{Link}
use Rattle.evidence_text.specs.declared.certificates.Named.{Named}
use Rattle.evidence_text.specs.declared.words.Stage.TheVariants as stage

pub at_first : Holds []
at_first = record { some = tt; opening = refl; routers = tt; told = refl; latest = (refl, refl); whole = tt; links = All-nil _; links_ascend = sorted_none link_cmp; latest_link = refl; start = tt; nodes = All-nil _; edges = All-nil _; unknown = All-nil _; clear = All-nil _; read = refl }

version_holds : (before : List Said) (line : List ℕ) → Holds before → IsLine before line VersionLine → Holds (VersionLine ∷ before)
version_holds before line h l =
    let s : stage_of before ≡ stage.Version = version_is (stage_of before) l.stands in
    let at : heads (stage_of before) ≡ 0 = ap heads s in
    let all = h.read in
    record {
      some = h.some;
      opening = opening_first (stage_of before) (count_of before) s h.opening;
      routers = h.routers;
      told = h.told;
      latest = h.latest;
      whole = tt;
      links = h.links;
      links_ascend = h.links_ascend;
      latest_link = h.latest_link;
      start = tt;
      nodes = h.nodes;
      edges = h.edges;
      unknown = h.unknown;
      clear = h.clear;
      read = omega (arith, at, all);
    }

routers_holds : (before : List Said) (line : List ℕ) (count : ℕ) → Holds before → IsLine before line (RoutersLine count) → Holds (RoutersLine count ∷ before)
routers_holds before line count h l =
    let s : stage_of before ≡ stage.Routers = routers_is (stage_of before) l.stands in
    let at : heads (stage_of before) ≡ 1 = ap heads s in
    let none : count_of before ≡ None = opening_none (stage_of before) (count_of before) s h.opening in
    let all = h.read in
    record {
      some = l.spelled.formed;
      opening = tt;
      routers = h.routers;
      told = h.told;
      latest = h.latest;
      whole = tt;
      links = known_first (λ l c. IsLinkIn c l) (links_of before) (count_of before) count none (λ l bad. bad.0) h.links;
      links_ascend = h.links_ascend;
      latest_link = h.latest_link;
      start = tt;
      nodes = known_first (λ x c. IsNamedIn c x) (nodes_of before) (count_of before) count none (λ x bad. bad.0.0) h.nodes;
      edges = known_first (λ e c. IsEdgeIn c e) (edges_of before) (count_of before) count none (λ e bad. bad.0.0) h.edges;
      unknown = known_first (λ n c. IsPair c n) (unknown_of before) (count_of before) count none (λ n bad. bad.0) h.unknown;
      clear = known_first (λ n c. IsPair c n) (clear_of before) (count_of before) count none (λ n bad. bad.0) h.clear;
      read = omega (arith, at, all);
    }

link_holds : (before : List Said) (line : List ℕ) (link : Link) → Holds before → IsLine before line (LinkLine link) → Holds (LinkLine link ∷ before)
link_holds before line link h l =
    let both = both_held (at_links (stage_of before)) (is_link_above (last_link before) link) l.stands in
    let at : heads (stage_of before) ≡ 2 = ap heads (links_is (stage_of before) both.0) in
    let all = h.read in
    let more = one_more (links_of before) link in
    record {
      some = h.some;
      opening = tt;
      routers = h.routers;
      told = h.told;
      latest = h.latest;
      whole = tt;
      links = let P : Link → Type 0 = λ z. IsLinkIn (count_of before) z in push_all P (links_of before) link h.links l.spelled.formed;
      links_ascend = push_link (links_of before) (last_link before) link h.links_ascend h.latest_link both.1;
      latest_link = record { before = links_of before; are = refl };
      start = tt;
      nodes = h.nodes;
      edges = h.edges;
      unknown = h.unknown;
      clear = h.clear;
      read = omega (arith, at, all, more);
    }

start_holds : (before : List Said) (line : List ℕ) (start : Node) → Holds before → IsLine before line (StartLine start) → Holds (StartLine start ∷ before)
start_holds before line start h l =
    let at : heads (stage_of before) ≡ 2 = ap heads (links_is (stage_of before) l.stands) in
    let all = h.read in
    record {
      some = h.some;
      opening = tt;
      routers = h.routers;
      told = h.told;
      latest = h.latest;
      whole = tt;
      links = h.links;
      links_ascend = h.links_ascend;
      latest_link = h.latest_link;
      start = l.spelled.formed;
      nodes = h.nodes;
      edges = h.edges;
      unknown = h.unknown;
      clear = h.clear;
      read = omega (arith, at, all);
    }

router_holds : (before : List Said) (line : List ℕ) (shape : PageShape) (missing : Bool) → Holds before → IsLine before line (RouterLine shape missing) → Holds (RouterLine shape missing ∷ before)
router_holds before line shape missing h l =
    let both = both_held (at_pages (stage_of before)) (shape.router.number == routers_told before) l.stands in
    let s : stage_of before ≡ stage.Pages = pages_is (stage_of before) both.0 in
    let at : heads (stage_of before) ≡ 3 = ap heads s in
    let place : shape.router.number ≡ routers_told before = eqb-true (shape.router.number) (routers_told before) both.1 in
    let all = h.read in
    let told = h.told in
    let more = one_more (routers_of before) (record { shape = shape; missing = missing; pages = [] }) in
    let lines = sum_by-append router_lines (routers_of before) (record { shape = shape; missing = missing; pages = [] } ∷ []) in
    record {
      some = h.some;
      opening = tt;
      routers = push_router 0 (routers_of before) (record { shape = shape; missing = missing; pages = [] }) h.routers (record { number = place ∙ omega (arith, told); in_range = l.spelled.formed.1; base = l.spelled.formed.2; ascend = sorted_none _; pages = All-nil _ });
      told = more ∙ ap (λ k. k + 1) told;
      latest = record { before = routers_of before; latest = record { shape = shape; missing = missing; pages = [] }; are = refl; size = refl; pages = refl };
      whole = tt;
      links = h.links;
      links_ascend = h.links_ascend;
      latest_link = h.latest_link;
      start = pages_started (stage_of before) (count_of before) (start_of before) s h.start;
      nodes = h.nodes;
      edges = h.edges;
      unknown = h.unknown;
      clear = h.clear;
      read = omega (arith, at, all, lines);
    }

page_holds : (before : List Said) (line : List ℕ) (page : PageNo) (words : List ℕ) → Holds before → IsLine before line (PageLine page words) → Holds (PageLine page words ∷ before)
page_holds before line page words h l =
    let both = both_held (at_pages (stage_of before)) (is_page_above (last_page before) page.number) l.stands in
    let s : stage_of before ≡ stage.Pages = pages_is (stage_of before) both.0 in
    let at : heads (stage_of before) ≡ 3 = ap heads s in
    let added = added_page (routers_of before) (n_of before) (last_page before) page words h.routers h.latest l.spelled.formed.1 l.spelled.formed.0 both.1 in
    let all = h.read in
    let lines = added.lines in
    record {
      some = h.some;
      opening = tt;
      routers = added.routers;
      told = added.long ∙ h.told;
      latest = added.latest;
      whole = tt;
      links = h.links;
      links_ascend = h.links_ascend;
      latest_link = h.latest_link;
      start = pages_started (stage_of before) (count_of before) (start_of before) s h.start;
      nodes = h.nodes;
      edges = h.edges;
      unknown = h.unknown;
      clear = h.clear;
      read = omega (arith, at, all, lines);
    }

row_holds : (before : List Said) (line : List ℕ) (row : Row) → Holds before → IsLine before line (RowLine row) → Holds (RowLine row ∷ before)
row_holds before line row h l =
    let both = both_held (at_pages (stage_of before)) (is_there (last_page before)) l.stands in
    let s : stage_of before ≡ stage.Pages = pages_is (stage_of before) both.0 in
    let at : heads (stage_of before) ≡ 3 = ap heads s in
    let added = added_row (routers_of before) (n_of before) (last_page before) row h.routers h.latest both.1 (record { key = l.spelled.formed.0; old = l.spelled.formed.1 }) in
    let all = h.read in
    let lines = added.lines in
    record {
      some = h.some;
      opening = tt;
      routers = added.routers;
      told = added.long ∙ h.told;
      latest = added.latest;
      whole = tt;
      links = h.links;
      links_ascend = h.links_ascend;
      latest_link = h.latest_link;
      start = pages_started (stage_of before) (count_of before) (start_of before) s h.start;
      nodes = h.nodes;
      edges = h.edges;
      unknown = h.unknown;
      clear = h.clear;
      read = omega (arith, at, all, lines);
    }

node_holds : (before : List Said) (line : List ℕ) (named : Named) → Holds before → IsLine before line (NodeLine named) → Holds (NodeLine named ∷ before)
node_holds before line named h l =
    let both = both_held (is_count (count_of before) (routers_told before)) (nat_le (rank (stage_of before)) 2) l.stands in
    let at : heads (stage_of before) ≡ 3 = answer_heads (stage_of before) 2 (lit< tt) both.1 in
    let all = h.read in
    let more = one_more (nodes_of before) named in
    record {
      some = h.some;
      opening = tt;
      routers = h.routers;
      told = h.told;
      latest = h.latest;
      whole = both.0;
      links = h.links;
      links_ascend = h.links_ascend;
      latest_link = h.latest_link;
      start = answer_started (stage_of before) (count_of before) (start_of before) 2 (lit< tt) both.1 h.start;
      nodes = let P : Named → Type 0 = λ z. IsNamedIn (count_of before) z in push_all P (nodes_of before) named h.nodes l.spelled.formed;
      edges = h.edges;
      unknown = h.unknown;
      clear = h.clear;
      read = omega (arith, at, all, more);
    }

edge_holds : (before : List Said) (line : List ℕ) (edge : Edge) → Holds before → IsLine before line (EdgeLine edge) → Holds (EdgeLine edge ∷ before)
edge_holds before line edge h l =
    let both = both_held (is_count (count_of before) (routers_told before)) (nat_le (rank (stage_of before)) 3) l.stands in
    let at : heads (stage_of before) ≡ 3 = answer_heads (stage_of before) 3 (lit< tt) both.1 in
    let all = h.read in
    let more = one_more (edges_of before) edge in
    record {
      some = h.some;
      opening = tt;
      routers = h.routers;
      told = h.told;
      latest = h.latest;
      whole = both.0;
      links = h.links;
      links_ascend = h.links_ascend;
      latest_link = h.latest_link;
      start = answer_started (stage_of before) (count_of before) (start_of before) 3 (lit< tt) both.1 h.start;
      nodes = h.nodes;
      edges = let P : Edge → Type 0 = λ z. IsEdgeIn (count_of before) z in push_all P (edges_of before) edge h.edges l.spelled.formed;
      unknown = h.unknown;
      clear = h.clear;
      read = omega (arith, at, all, more);
    }

unknown_holds : (before : List Said) (line : List ℕ) (node : Node) → Holds before → IsLine before line (UnknownLine node) → Holds (UnknownLine node ∷ before)
unknown_holds before line node h l =
    let both = both_held (is_count (count_of before) (routers_told before)) (nat_le (rank (stage_of before)) 4) l.stands in
    let at : heads (stage_of before) ≡ 3 = answer_heads (stage_of before) 4 (lit< tt) both.1 in
    let all = h.read in
    let more = one_more (unknown_of before) node in
    record {
      some = h.some;
      opening = tt;
      routers = h.routers;
      told = h.told;
      latest = h.latest;
      whole = both.0;
      links = h.links;
      links_ascend = h.links_ascend;
      latest_link = h.latest_link;
      start = answer_started (stage_of before) (count_of before) (start_of before) 4 (lit< tt) both.1 h.start;
      nodes = h.nodes;
      edges = h.edges;
      unknown = let P : Node → Type 0 = λ z. IsPair (count_of before) z in push_all P (unknown_of before) node h.unknown l.spelled.formed;
      clear = h.clear;
      read = omega (arith, at, all, more);
    }

clear_holds : (before : List Said) (line : List ℕ) (node : Node) → Holds before → IsLine before line (ClearLine node) → Holds (ClearLine node ∷ before)
clear_holds before line node h l =
    let both = both_held (is_count (count_of before) (routers_told before)) (nat_le (rank (stage_of before)) 5) l.stands in
    let at : heads (stage_of before) ≡ 3 = answer_heads (stage_of before) 5 (lit< tt) both.1 in
    let all = h.read in
    let more = one_more (clear_of before) node in
    record {
      some = h.some;
      opening = tt;
      routers = h.routers;
      told = h.told;
      latest = h.latest;
      whole = both.0;
      links = h.links;
      links_ascend = h.links_ascend;
      latest_link = h.latest_link;
      start = answer_started (stage_of before) (count_of before) (start_of before) 5 (lit< tt) both.1 h.start;
      nodes = h.nodes;
      edges = h.edges;
      unknown = h.unknown;
      clear = let P : Node → Type 0 = λ z. IsPair (count_of before) z in push_all P (clear_of before) node h.clear l.spelled.formed;
      read = omega (arith, at, all, more);
    }

end_holds : (before : List Said) (line : List ℕ) → Holds before → IsLine before line EndLine → Holds (EndLine ∷ before)
end_holds before line h l =
    let both = both_held (is_count (count_of before) (routers_told before)) (nat_le (rank (stage_of before)) 6) l.stands in
    let at : heads (stage_of before) ≡ 3 = answer_heads (stage_of before) 6 (lit< tt) both.1 in
    let all = h.read in
    record {
      some = h.some;
      opening = tt;
      routers = h.routers;
      told = h.told;
      latest = h.latest;
      whole = both.0;
      links = h.links;
      links_ascend = h.links_ascend;
      latest_link = h.latest_link;
      start = answer_started (stage_of before) (count_of before) (start_of before) 6 (lit< tt) both.1 h.start;
      nodes = h.nodes;
      edges = h.edges;
      unknown = h.unknown;
      clear = h.clear;
      read = omega (arith, at, all);
    }

pub holds : (before : List Said) (line : List ℕ) (said : Said) → Holds before → IsLine before line said → Holds (said ∷ before)
holds before line VersionLine h l = version_holds before line h l
holds before line (RoutersLine count) h l = routers_holds before line count h l
holds before line (LinkLine link) h l = link_holds before line link h l
holds before line (StartLine start) h l = start_holds before line start h l
holds before line (RouterLine shape missing) h l = router_holds before line shape missing h l
holds before line (PageLine page words) h l = page_holds before line page words h l
holds before line (RowLine row) h l = row_holds before line row h l
holds before line (NodeLine named) h l = node_holds before line named h l
holds before line (EdgeLine edge) h l = edge_holds before line edge h l
holds before line (UnknownLine node) h l = unknown_holds before line node h l
holds before line (ClearLine node) h l = clear_holds before line node h l
holds before line EndLine h l = end_holds before line h l
holds before line (EarlyLine w rest) h l = let never : false ≡ true = l.stands in absurd (cc)
