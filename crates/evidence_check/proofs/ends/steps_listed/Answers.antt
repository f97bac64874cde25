use Rattle.std.proofs.Common.{◌≡◌, true, length}
use Rattle.std.specs.List.{Contains, flat_map}
use Rattle.reverse_flood.specs.Flood.{IsStep, net_of}
use Rattle.reverse_flood.specs.Leads.{pairs_with}
use Rattle.evidence_check.specs.Evidence.{stated_links}
use Rattle.evidence_check.specs.Pairs.{is_listed}
use Rattle.evidence_check.proofs.OriginWalks.{few_beside, over_same, steps_same}
use Rattle.evidence_check.proofs.ends.steps_listed.Goals as goal

pub origins_listed-requires-clause-few : goal.origins_listed-requires-clause-few
origins_listed-requires-clause-few g c = few_beside (net_of g.S.Sighting.shown c.args.sights.now (stated_links c.args.links.now)) c.args.node.now (length c.args.sights.now) c.beside.result.now c.beside.ensures c.requires.links c.requires.few

pub returns : goal.returns
returns g c =
    let net = net_of g.S.Sighting.shown c.args.sights.now (stated_links c.args.links.now) in
    let same = steps_same net c.args.node.now c.beside.result.now c.in_ok-origins.origins.items c.deref.result.now c.deref.ensures.value c.in_ok-origins.ensures c.beside.ensures in
    over_same (Contains (flat_map (pairs_with c.beside.result.now) c.deref.result.now)) (IsStep net c.args.node.now) same (λ n. is_listed c.args.pairs.now n ≡ true) c.in_ok-listed.listed c.in_ok-listed.ensures
