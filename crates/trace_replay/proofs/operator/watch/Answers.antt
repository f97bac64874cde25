use Rattle.std.proofs.Common.{inr}
use Rattle.trace_replay.specs.Aways.{besides, reads}
use Rattle.trace_replay.proofs.AnsweredBeside.{answered_by}
use Rattle.trace_replay.proofs.OperatorLines.{may_watch, watches}
use Rattle.trace_replay.proofs.operator.watch.Goals as goal

pub watch-seen-requires-clause-stands : goal.watch-seen-requires-clause-stands
watch-seen-requires-clause-stands c =
    let has = may_watch besides reads c.args.trace.now c.args.line.now c.args.agents.now c.index-agents-at.result c.args.clock c.args.answers.now.items c.requires.ready.0 c.requires.ready.1 c.args.router c.args.packet c.requires.is in
    (has.0, has.1, has.2, inr (has.3, has.4))

pub returns-clause-does : goal.returns-clause-does
returns-clause-does c = λ now.
    let e = c.watch-seen.ensures in
    watches besides reads c.args.trace.now c.args.line.now c.args.agents.now c.index-agents-at.result c.watch-seen.new.self c.args.clock c.args.answers.now.items c.push_answer.new.answers.items now now
    c.args.router c.args.packet c.sig_of-sig.result c.watch-seen.result c.requires.is c.sig_of-sig.ensures
    (λ rules l u away at. answered_by rules l c.args.clock c.sig_of-sig.result c.watch-seen.new.self c.watch-seen.result (e.beside_seen rules l u away at) (e.beside_unseen rules l u away at))
    e.beside_same e.reads c.in_ok-push_answer.ensures
