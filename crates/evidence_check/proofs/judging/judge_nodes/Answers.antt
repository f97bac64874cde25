use Rattle.std.proofs.Common.{ℕ, List, Option, Some, None, length, map, sym, subst}
use Rattle.reverse_flood.specs.Flood.{Net, net_of}
use Rattle.evidence_text.specs.declared.certificates.Link.{Link}
use Rattle.evidence_text.specs.declared.certificates.Named.{Named}
use Rattle.evidence_check.specs.Evidence.{stated_links}
use Rattle.evidence_check.specs.Judging.{IsAskedBy, NodeAt, named_node}
use Rattle.evidence_check.specs.Pairs.{AreNoted, Asks}
use Rattle.evidence_check.specs.Lines.{ExistNamed, IsFirstBad}
use Rattle.evidence_check.proofs.Judged.{first_node, moved}
use Rattle.evidence_check.proofs.judging.judge_nodes.Goals as goal

pub first_bad_node-requires-clause-exist : goal.first_bad_node-requires-clause-exist
first_bad_node-requires-clause-exist g c = subst (ExistNamed (length c.args.sights.now)) (sym c.items-nodes.ensures) c.requires.routers.nodes

pub returns-in-Some-clause-found : goal.returns-in-Some-clause-found
returns-in-Some-clause-found g c =
    let net : List Link → Net = λ links. net_of g.S.Sighting.shown c.args.sights.now (stated_links links) in
    first_node (net c.args.certificate.now.links) c.args.certificate.now c.in-Some.place
    (moved (λ (links : List Link) (nodes : List Named) (bad : Option ℕ). IsFirstBad (length nodes) (NodeAt (net links) c.args.certificate.now.start nodes) bad)
    c.items-links.result.now c.args.certificate.now.links c.items-nodes.result.now c.args.certificate.now.nodes c.in_ok-bad.bad (Some c.in-Some.place)
    c.items-links.ensures c.items-nodes.ensures c.in-Some.is c.in_ok-bad.ensures.first)

pub mark_asked-requires-clause-exist : goal.mark_asked-requires-clause-exist
mark_asked-requires-clause-exist g c = subst (ExistNamed (length c.args.sights.now)) (sym c.items-nodes.ensures) c.requires.routers.nodes

pub returns-in_ok-mark_asked-in-None-clause-found : goal.returns-in_ok-mark_asked-in-None-clause-found
returns-in_ok-mark_asked-in-None-clause-found g c =
    let net : List Link → Net = λ links. net_of g.S.Sighting.shown c.args.sights.now (stated_links links) in
    moved (λ (links : List Link) (nodes : List Named) (bad : Option ℕ). IsFirstBad (length nodes) (NodeAt (net links) c.args.certificate.now.start nodes) bad)
    c.items-links.result.now c.args.certificate.now.links c.items-nodes.result.now c.args.certificate.now.nodes c.in_ok-bad.bad None
    c.items-links.ensures c.items-nodes.ensures c.in-None.is c.in_ok-bad.ensures.first

pub returns-in_ok-mark_asked-in-None-clause-marked : goal.returns-in_ok-mark_asked-in-None-clause-marked
returns-in_ok-mark_asked-in-None-clause-marked g c = λ none.
    let net : List Link → Net = λ links. net_of g.S.Sighting.shown c.args.sights.now (stated_links links) in
    let start = c.args.certificate.now.start in
    let named = c.first_bad_node.new.pairs in
    record {
      named = named;
      fresh = c.in_ok-bad.ensures.fresh;
      noted = subst (λ (nodes : List Named). AreNoted named (map named_node nodes)) c.items-nodes.ensures (c.in_ok-bad.ensures.noted c.in-None.is);
      asks = moved (λ (links : List Link) (nodes : List Named) (bad : Option ℕ). Asks (IsAskedBy (net links) start (map named_node nodes)) named c.mark_asked.new.pairs)
          c.items-links.result.now c.args.certificate.now.links c.items-nodes.result.now c.args.certificate.now.nodes c.in_ok-bad.bad None
          c.items-links.ensures c.items-nodes.ensures c.in-None.is c.in_ok-mark_asked-in-None.ensures.asks;
    }
