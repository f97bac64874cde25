use Rattle.regional_agent.proofs.regions.flood_region.Goals as goal

pub flood_within-requires-clause-exist : goal.flood_within-requires-clause-exist
flood_within-requires-clause-exist g c = λ n h. (c.requires.home n h).exists
