use Rattle.std.proofs.Common.{ℕ, subst, sym}
use Rattle.regional_agent.specs.Answers.{AreHome}
use Rattle.agent_wire.proofs.agents.Agent.answer.Goals as goal

pub reply_to-requires-clause-home : goal.reply_to-requires-clause-home
reply_to-requires-clause-home g c =
    let own = c.is_own.ensures.0 c.if-not-is_own.false in
    let At : ℕ → Type 0 = λ r. AreHome c.args.topology.now r c.in-Ask.request.entries in
    subst At (sym own.region_is) own.home
