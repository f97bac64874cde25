use Rattle.std.proofs.Common.{◌<◌, [], length, slice_index_or, None, arith}
use Rattle.std.proofs.lemmas.List.Elements.{Contains-get_or}
use Rattle.std.proofs.lemmas.Option.{slice_get-get_or}
use Rattle.reverse_flood.specs.Flood.{net_of}
use Rattle.evidence_text.specs.declared.certificates.Named.{Named}
use Rattle.evidence_check.specs.Evidence.{stated_links}
use Rattle.evidence_check.specs.Judging.{named_node}
use Rattle.evidence_check.proofs.NodeFacts.{from_by, taken_at}
use Rattle.evidence_check.proofs.nodes.comes_from.Goals as goal

abbrev blank : Named
blank = record { node = record { router = record { number = 0 }; sig = record { bytes = [] } }; from = None }

pub is_step-requires-clause-exists : goal.is_step-requires-clause-exists
is_step-requires-clause-exists g c =
    let lt : c.in-Some.from < length c.args.nodes.now = omega (arith, c.requires.within, c.if-earlier-place.false) in
    c.requires.exist _ (Contains-get_or c.args.nodes.now c.in-Some.from blank lt)

pub returns-clause-from : goal.returns-clause-from
returns-clause-from g c =
    let net = net_of g.S.Sighting.shown c.args.sights.now (stated_links c.args.links.now) in
    let before : c.in-Some.from < c.args.place = omega (arith, c.if-earlier-place.false) in
    let lt : c.in-Some.from < length c.args.nodes.now = omega (arith, c.requires.within, before) in
    let x : Named = slice_index_or c.args.nodes.now c.in-Some.from blank in
    from_by net _ c.args.node.now c.args.from c.in-Some.from x.node c.is_step.result c.in-Some.is
    (taken_at named_node c.args.nodes.now c.in-Some.from c.args.place x before (slice_get-get_or c.args.nodes.now c.in-Some.from blank lt))
    c.is_step.ensures.step
