use Rattle.evidence_check.proofs.NearFacts.{near_is}
use Rattle.evidence_check.proofs.near.beside_one.Goals as goal

pub returns : goal.returns
returns c = near_is c.args.links.now c.args.router.number c.in_ok-found.found.items c.ascending.result c.in_ok-found.ensures c.ascending.ensures.ordered c.ascending.ensures.same
