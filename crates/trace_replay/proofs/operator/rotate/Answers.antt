use Rattle.trace_replay.specs.Aways.{besides, reads}
use Rattle.trace_replay.proofs.OperatorLines.{may_rotate, rotates}
use Rattle.trace_replay.proofs.operator.rotate.Goals as goal

pub rotate-requires-clause-ready : goal.rotate-requires-clause-ready
rotate-requires-clause-ready g c =
    may_rotate besides reads c.args.trace.now c.args.line.now c.args.agents.now c.index-agents-at.result c.args.clock c.args.answers.now.items c.requires.ready.0 c.requires.ready.1 c.args.router c.requires.is

pub returns-clause-does : goal.returns-clause-does
returns-clause-does g c = λ now.
    rotates besides reads c.args.trace.now c.args.line.now c.args.agents.now c.index-agents-at.result c.rotate.new.self c.args.clock c.args.answers.now.items c.push_answer.new.answers.items now now
    c.args.router c.in_ok-page.page.number c.requires.is c.in_ok-page.ensures.page c.in_ok-page.ensures.turned c.in_ok-page.ensures.reads c.in_ok-push_answer.ensures
