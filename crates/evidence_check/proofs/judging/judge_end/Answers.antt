use Rattle.std.proofs.Common.{ℕ, List, IsTrue, ◌↔◌, length, map, refl, sym, subst}
use Rattle.reverse_flood.specs.Flood.{Net, net_of}
use Rattle.evidence_text.specs.declared.certificates.Link.{Link}
use Rattle.evidence_check.specs.Evidence.{stated_links}
use Rattle.std.specs.List.Sorted.{IsStrictlySortedBy}
use Rattle.reverse_flood.specs.Flood.{edge_cmp}
use Rattle.reverse_flood.specs.declared.graphs.Edge.{Edge}
use Rattle.evidence_text.specs.declared.certificates.Named.{Named}
use Rattle.evidence_check.specs.declared.pairs.Pairs.{Pairs}
use Rattle.evidence_check.specs.Judging.{IsAskedBy, named_node}
use Rattle.evidence_check.specs.Lines.{ExistNamed}
use Rattle.evidence_check.specs.Pairs.{AreListed, WaysAt}
use Rattle.evidence_check.proofs.Judged.{edges_ascend, end_unlisted, end_untold, end_whole, moved}
use Rattle.evidence_check.proofs.judging.judge_end.Goals as goal

pub all_listed-requires-clause-exist : goal.all_listed-requires-clause-exist
all_listed-requires-clause-exist g c = subst (ExistNamed (length c.args.sights.now)) (sym c.items-nodes.ensures) c.requires.routers.nodes

pub all_ways-requires-clause-exist : goal.all_ways-requires-clause-exist
all_ways-requires-clause-exist g c = subst (ExistNamed (length c.args.sights.now)) (sym c.items-nodes.ensures) c.requires.routers.nodes

pub all_ways-requires-clause-sorted : goal.all_ways-requires-clause-sorted
all_ways-requires-clause-sorted g c =
    let cert = c.args.certificate.now in
    subst (IsStrictlySortedBy edge_cmp) (sym c.items-edges.ensures) (edges_ascend (net_of g.S.Sighting.shown c.args.sights.now (stated_links cert.links)) cert c.requires.edges)

pub returns-then-not-listed : goal.returns-then-not-listed
returns-then-not-listed g c =
    let net : List Link → Net = λ links. net_of g.S.Sighting.shown c.args.sights.now (stated_links links) in
    let cert = c.args.certificate.now in
    let pairs = c.args.pairs.now in
    end_unlisted (net cert.links) cert pairs (length c.args.sights.now) c.requires.routers.few c.requires.routers.start c.requires.routers.nodes c.requires.routers.links c.requires.kept c.in_ok-listed.listed c.requires.nodes c.requires.edges c.requires.left
    (moved (λ (links : List Link) (nodes : List Named) (p : Pairs). IsTrue c.in_ok-listed.listed ↔ AreListed p (IsAskedBy (net links) cert.start (map named_node nodes)))
    c.items-links.result.now cert.links c.items-nodes.result.now cert.nodes pairs pairs c.items-links.ensures c.items-nodes.ensures refl c.in_ok-listed.ensures)
    c.if-not-listed.true

pub returns-then-not-told : goal.returns-then-not-told
returns-then-not-told g c =
    let net : List Link → Net = λ links. net_of g.S.Sighting.shown c.args.sights.now (stated_links links) in
    let cert = c.args.certificate.now in
    let pairs = c.args.pairs.now in
    end_untold (net cert.links) cert pairs (length c.args.sights.now) c.requires.routers.few c.requires.routers.start c.requires.routers.nodes c.requires.routers.links c.requires.kept c.in_ok-told.told c.requires.nodes c.requires.edges c.requires.left
    (moved (λ (links : List Link) (nodes : List Named) (edges : List Edge). IsTrue c.in_ok-told.told ↔ ((place : ℕ) → WaysAt (net links) pairs edges nodes place))
    c.items-links.result.now cert.links c.items-nodes.result.now cert.nodes c.items-edges.result.now cert.edges c.items-links.ensures c.items-nodes.ensures c.items-edges.ensures c.in_ok-told.ensures)
    c.if-not-told.true

pub returns : goal.returns
returns g c =
    let net : List Link → Net = λ links. net_of g.S.Sighting.shown c.args.sights.now (stated_links links) in
    let cert = c.args.certificate.now in
    let pairs = c.args.pairs.now in
    let listed = moved (λ (links : List Link) (nodes : List Named) (p : Pairs). IsTrue c.in_ok-listed.listed ↔ AreListed p (IsAskedBy (net links) cert.start (map named_node nodes)))
    c.items-links.result.now cert.links c.items-nodes.result.now cert.nodes pairs pairs c.items-links.ensures c.items-nodes.ensures refl c.in_ok-listed.ensures in
    let told = moved (λ (links : List Link) (nodes : List Named) (edges : List Edge). IsTrue c.in_ok-told.told ↔ ((place : ℕ) → WaysAt (net links) pairs edges nodes place))
    c.items-links.result.now cert.links c.items-nodes.result.now cert.nodes c.items-edges.result.now cert.edges c.items-links.ensures c.items-nodes.ensures c.items-edges.ensures c.in_ok-told.ensures in
    end_whole (net cert.links) cert pairs (length c.args.sights.now) c.requires.routers.few c.requires.routers.start c.requires.routers.nodes c.requires.routers.links c.requires.kept c.requires.nodes c.requires.edges c.requires.left
    (listed.0 c.if-not-listed.false) (told.0 c.if-not-told.false)
