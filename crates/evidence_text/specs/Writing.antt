-- How a certificate is written.
use Rattle.std.specs.Prelude.{ℕ, List, [], ◌∷◌, ◌++◌, decimal, length}
use Rattle.std.specs.List.{flat_map}
use Rattle.bloom_page.specs.Sets.{words_of}
use Rattle.line_text.specs.Writing.{spaced}
use Rattle.spie_base.specs.declared.types.PageShape.{PageShape}
use Rattle.packet_signature.specs.declared.rows.Row.{Row}
use Rattle.reverse_flood.specs.declared.graphs.Node.{Node}
use Rattle.reverse_flood.specs.declared.graphs.Edge.{Edge}
use Rattle.evidence_text.specs.declared.certificates.Certificate.{Certificate}
use Rattle.evidence_text.specs.declared.certificates.Link.{Link}
use Rattle.evidence_text.specs.declared.certificates.Named.{Named}
use Rattle.evidence_text.specs.declared.certificates.PageEvidence.{PageEvidence}
use Rattle.evidence_text.specs.declared.certificates.RouterPages.{RouterPages}
use Rattle.evidence_text.specs.Said.{Said, VersionLine, RoutersLine, LinkLine, StartLine, RouterLine, PageLine, RowLine, NodeLine, EdgeLine, UnknownLine, ClearLine, EndLine}
use Rattle.evidence_text.specs.Spelling.{word_said, word_text, word64_text, rest_of}

-- the word, each other field behind a space, and a line feed
abbrev pub line_of : Said → List ℕ
line_of said = word_text (word_said said) ++ flat_map spaced (rest_of said) ++ 10 ∷ []

-- the numbers that fix a router's pages
abbrev pub shape_text : PageShape → List ℕ
shape_text s = spaced (decimal s.router.number) ++ spaced (decimal s.k) ++ spaced (decimal s.n) ++ spaced (word64_text s.base)

abbrev pub link_text : Link → List ℕ
link_text link = line_of (LinkLine link)

abbrev pub row_text : Row → List ℕ
row_text row = line_of (RowLine row)

-- a page, and its rows
abbrev pub page_text : PageEvidence → List ℕ
page_text e = line_of (PageLine e.page (words_of e.bits)) ++ flat_map row_text e.rows

-- a router, and its pages
abbrev pub router_text : RouterPages → List ℕ
router_text r = line_of (RouterLine r.shape r.missing) ++ flat_map page_text r.pages

abbrev pub node_text : Named → List ℕ
node_text named = line_of (NodeLine named)

abbrev pub edge_text : Edge → List ℕ
edge_text edge = line_of (EdgeLine edge)

abbrev pub unknown_text : Node → List ℕ
unknown_text node = line_of (UnknownLine node)

abbrev pub clear_text : Node → List ℕ
clear_text node = line_of (ClearLine node)

-- what was read
abbrev pub evidence_text : Certificate → List ℕ
evidence_text c = line_of VersionLine ++ line_of (RoutersLine (length c.routers)) ++ flat_map link_text c.links ++ line_of (StartLine c.start) ++ flat_map router_text c.routers

-- and what it shows
abbrev pub answer_text : Certificate → List ℕ
answer_text c = flat_map node_text c.nodes ++ flat_map edge_text c.edges ++ flat_map unknown_text c.unknown ++ flat_map clear_text c.clear ++ line_of EndLine

abbrev pub certificate_text : Certificate → List ℕ
certificate_text c = evidence_text c ++ answer_text c
