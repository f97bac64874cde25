use Rattle.std.proofs.Common.{subst, sym, List}
use Rattle.reverse_flood.specs.declared.graphs.Node.{Node}
use Rattle.regional_agent.specs.Answers.{AreHome}
use Rattle.regional_agent.proofs.answers.answer_region.Goals as goal

pub flood_region-requires-clause-home : goal.flood_region-requires-clause-home
flood_region-requires-clause-home g c =
    let P : List Node → Type 0 = λ l. AreHome c.args.topology.now c.args.region l in
    subst P (sym c.deref.ensures.value) c.requires.home
