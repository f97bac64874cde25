use Rattle.std.proofs.Common.{refl}
use Rattle.evidence_check.specs.Sights.{IsShaped}
use Rattle.evidence_check.proofs.SightFacts.{has_item}
use Rattle.evidence_check.proofs.sights.sights_of.Goals as goal

pub of-requires-clause-shape : goal.of-requires-clause-shape
of-requires-clause-shape c =
    let s : IsShaped c.router-item.result = c.requires.shapes c.router-item.result (has_item c.args.routers.now c.args.routers.now c.loop-router.router-index c.router-item.result refl c.loop-router-test.true c.router-item.is) in
    s.shape

pub of-requires-clause-sizes : goal.of-requires-clause-sizes
of-requires-clause-sizes c =
    let s : IsShaped c.router-item.result = c.requires.shapes c.router-item.result (has_item c.args.routers.now c.args.routers.now c.loop-router.router-index c.router-item.result refl c.loop-router-test.true c.router-item.is) in
    s.sizes
