use Rattle.std.proofs.Common.{ℕ, List, Option, Some, None, length}
use Rattle.reverse_flood.specs.Flood.{Net, net_of}
use Rattle.reverse_flood.specs.declared.graphs.Edge.{Edge}
use Rattle.evidence_text.specs.declared.certificates.Link.{Link}
use Rattle.evidence_check.specs.Evidence.{stated_links}
use Rattle.evidence_check.specs.Judging.{EdgeAt, named_nodes}
use Rattle.evidence_check.specs.Lines.{IsFirstBad}
use Rattle.evidence_check.proofs.Judged.{first_edge, marked_noted, moved}
use Rattle.evidence_check.proofs.judging.judge_edges.Goals as goal

pub returns-in-Some : goal.returns-in-Some
returns-in-Some g c =
    let net : List Link → Net = λ links. net_of g.S.Sighting.shown c.args.sights.now (stated_links links) in
    let cert = c.args.certificate.now in
    first_edge (net cert.links) cert c.in-Some.place c.requires.nodes
    (moved (λ (links : List Link) (edges : List Edge) (bad : Option ℕ). IsFirstBad (length edges) (EdgeAt (net links) (named_nodes cert) edges) bad)
    c.items-links.result.now cert.links c.items-edges.result.now cert.edges c.in_ok-bad.bad (Some c.in-Some.place)
    c.items-links.ensures c.items-edges.ensures c.in-Some.is (c.in_ok-bad.ensures (named_nodes cert) (marked_noted (net cert.links) cert c.args.pairs.now c.requires.marked)))

pub returns-in-None : goal.returns-in-None
returns-in-None g c =
    let net : List Link → Net = λ links. net_of g.S.Sighting.shown c.args.sights.now (stated_links links) in
    let cert = c.args.certificate.now in
    moved (λ (links : List Link) (edges : List Edge) (bad : Option ℕ). IsFirstBad (length edges) (EdgeAt (net links) (named_nodes cert) edges) bad)
    c.items-links.result.now cert.links c.items-edges.result.now cert.edges c.in_ok-bad.bad None
    c.items-links.ensures c.items-edges.ensures c.in-None.is (c.in_ok-bad.ensures (named_nodes cert) (marked_noted (net cert.links) cert c.args.pairs.now c.requires.marked))
