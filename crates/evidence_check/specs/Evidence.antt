-- What the pages of a certificate show, and what a flood over them reads.
use Rattle.std.specs.Prelude.{List, map}
use Rattle.spie_base.specs.Ascending.{in_order}
use Rattle.spie_base.specs.Order.{sig_cmp}
use Rattle.spie_base.specs.Shown.{Shown}
use Rattle.used_pages.specs.UsedPages.{UsedPage, is_hit, origins_of}
use Rattle.topology.specs.Layout.{Layout, empty, link_of}
use Rattle.topology.specs.declared.links.Link as topology
use Rattle.reverse_flood.specs.Flood.{Net, net_of}
use Rattle.evidence_text.specs.declared.certificates.Certificate.{Certificate}
use Rattle.evidence_text.specs.declared.certificates.Link.{Link}
use Rattle.evidence_text.specs.declared.certificates.PageEvidence.{PageEvidence}
use Rattle.evidence_text.specs.declared.certificates.RouterPages.{RouterPages}

-- a page as a query uses it
abbrev pub stated_page : PageEvidence → UsedPage
stated_page e = record { number = e.page.number; held = record { bits = e.bits.members; rows = e.rows } }

abbrev pub stated_pages : RouterPages → List UsedPage
stated_pages r = map stated_page r.pages

-- what the pages of a router show: hits and origins are those of its used pages
abbrev pub stated_sight : RouterPages → Shown
stated_sight r = record {
  hit = is_hit r.shape (stated_pages r);
  origins = λ sig. in_order sig_cmp (origins_of (stated_pages r) sig);
  missing = r.missing;
}

-- delays say nothing of a flood
abbrev pub stated_link : Link → topology.Link
stated_link link = link_of link.low.number link.high.number 0

-- routers that are linked so
abbrev pub stated_links : List Link → Layout
stated_links links = record empty { links = map stated_link links }

-- what a flood over the pages of a certificate reads
abbrev pub stated_net : Certificate → Net
stated_net c = net_of stated_sight c.routers (stated_links c.links)
