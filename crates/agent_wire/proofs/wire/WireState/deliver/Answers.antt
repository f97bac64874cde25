use Rattle.agent_wire.proofs.LinkFacts.{answer_stood, asked_home, read_at}
use Rattle.agent_wire.proofs.wire.WireState.deliver.Goals as goal

pub reply-requires-clause-home : goal.reply-requires-clause-home
reply-requires-clause-home g c =
    asked_home c.args.topology.now c.args.self.now c.args.at c.in-Ask.request c.requires.begun (read_at _ _ _ _ _ c.message.ensures c.in-Ok.ensures.read c.in-Ok.ensures.plain c.in-Ask.is)

pub take-requires : goal.take-requires
take-requires g c = record {
  exists = answer_stood c.args.topology.now c.args.self.now c.args.at c.in-Answer.reply c.requires.begun (read_at _ _ _ _ _ c.message.ensures c.in-Ok.ensures.read c.in-Ok.ensures.plain c.in-Answer.is);
}
