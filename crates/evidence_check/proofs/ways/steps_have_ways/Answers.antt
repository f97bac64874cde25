use Rattle.std.proofs.Common.{length}
use Rattle.std.specs.List.{Contains, flat_map}
use Rattle.reverse_flood.specs.Flood.{IsStep, net_of}
use Rattle.reverse_flood.specs.Leads.{pairs_with}
use Rattle.evidence_check.specs.Evidence.{stated_links}
use Rattle.evidence_check.specs.Pairs.{HasWay}
use Rattle.evidence_check.proofs.OriginWalks.{few_beside, over_same, steps_same}
use Rattle.evidence_check.proofs.ways.steps_have_ways.Goals as goal

pub origins_have_ways-requires-clause-few : goal.origins_have_ways-requires-clause-few
origins_have_ways-requires-clause-few g c = few_beside (net_of g.S.Sighting.shown c.args.sights.now (stated_links c.args.links.now)) c.args.node.now (length c.args.sights.now) c.beside-routers.result.now c.beside-routers.ensures c.requires.links c.requires.few

pub returns : goal.returns
returns g c =
    let net = net_of g.S.Sighting.shown c.args.sights.now (stated_links c.args.links.now) in
    let same = steps_same net c.args.node.now c.beside-routers.result.now c.in_ok-origins.origins.items c.deref.result.now c.deref.ensures.value c.in_ok-origins.ensures c.beside-routers.ensures in
    over_same (Contains (flat_map (pairs_with c.beside-routers.result.now) c.deref.result.now)) (IsStep net c.args.node.now) same (HasWay c.args.pairs.now c.args.edges.now c.args.node.now) c.in_ok-told.told c.in_ok-told.ensures
