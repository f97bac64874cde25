use Rattle.std.proofs.Common.{length}
use Rattle.std.specs.List.{Contains, flat_map}
use Rattle.reverse_flood.specs.Flood.{IsStep, net_of}
use Rattle.reverse_flood.specs.Leads.{pairs_with}
use Rattle.evidence_check.specs.Evidence.{stated_links}
use Rattle.evidence_check.proofs.OriginWalks.{few_beside, steps_same}
use Rattle.evidence_check.proofs.PairFacts.{asks_same}
use Rattle.evidence_check.proofs.walk.ask_steps.Goals as goal

pub ask_origins-requires-clause-few : goal.ask_origins-requires-clause-few
ask_origins-requires-clause-few g c = few_beside (net_of g.S.Sighting.shown c.args.sights.now (stated_links c.args.links.now)) c.args.node.now (length c.args.sights.now) c.beside.result.now c.beside.ensures c.requires.links c.requires.few

pub returns-clause-asks : goal.returns-clause-asks
returns-clause-asks g c =
    let net = net_of g.S.Sighting.shown c.args.sights.now (stated_links c.args.links.now) in
    let same = steps_same net c.args.node.now c.beside.result.now c.in_ok-origins.origins.items c.deref.result.now c.deref.ensures.value c.in_ok-origins.ensures c.beside.ensures in
    asks_same (Contains (flat_map (pairs_with c.beside.result.now) c.deref.result.now)) (IsStep net c.args.node.now) c.args.pairs.now c.ask_origins.new.pairs same c.in_ok-ask_origins.ensures.asks
