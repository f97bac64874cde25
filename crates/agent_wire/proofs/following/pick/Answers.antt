use Rattle.std.proofs.lemmas.List.Elements.{Contains-get_or}
use Rattle.agent_wire.proofs.following.pick.Goals as goal

pub region-requires : goal.region-requires
region-requires c = c.requires.exist _ (Contains-get_or c.args.pairs.now c.loop-pair.pair-index _ c.loop-pair-test.true)
