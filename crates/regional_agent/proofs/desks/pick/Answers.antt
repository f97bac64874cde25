use Rattle.std.proofs.lemmas.List.Elements.{Contains-get_or}
use Rattle.regional_agent.proofs.desks.pick.Goals as goal

pub region-requires : goal.region-requires
region-requires c = c.requires.exist _ (Contains-get_or c.args.round.now c.loop-node.node-index _ c.loop-node-test.true)
