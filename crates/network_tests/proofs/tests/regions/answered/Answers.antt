use Rattle.std.proofs.Common.{List, subst}
use Rattle.reverse_flood.specs.declared.Node.{Node}
use Rattle.regional_agent.specs.Answers.{AreHome}
use Rattle.network_tests.proofs.tests.regions.answered.Goals as goal

pub answer_region-requires-clause-home : goal.answer_region-requires-clause-home
answer_region-requires-clause-home c =
    let Home : List Node → Type 0 = λ entries. AreHome c.args.topology.now c.args.region entries in
    subst Home c.deref.ensures.value ((c.lie_in.ensures).0 c.if-lie_in.true)
