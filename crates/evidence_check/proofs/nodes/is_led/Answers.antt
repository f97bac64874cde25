use Rattle.std.proofs.Common.{◌≡◌, length, map, take, arith}
use Rattle.reverse_flood.specs.Flood.{net_of}
use Rattle.evidence_check.specs.Evidence.{stated_links}
use Rattle.evidence_check.specs.Judging.{named_node}
use Rattle.evidence_check.proofs.NodeFacts.{led_by, taken_length}
use Rattle.evidence_check.proofs.nodes.is_led.Goals as goal

pub returns-clause-led : goal.returns-clause-led
returns-clause-led g c =
    let net = net_of g.S.Sighting.shown c.args.sights.now (stated_links c.args.links.now) in
    let before = take c.args.place (map named_node c.args.nodes.now) in
    let long : length before ≡ c.args.place = taken_length named_node c.args.nodes.now c.args.place c.requires.within in
    led_by net c.args.start.now before c.args.named.now c.comes_from.result (λ none. omega (arith, long, none, c.if-place-eq0.false)) c.comes_from.ensures.from
