use Rattle.network_tests.proofs.tests.regions.flooded.Goals as goal

pub flood_region-requires-clause-home : goal.flood_region-requires-clause-home
flood_region-requires-clause-home c = (c.lie_in.ensures).0 c.if-lie_in.true
