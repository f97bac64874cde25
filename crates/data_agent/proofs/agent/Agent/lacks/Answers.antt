use Rattle.std.proofs.Common.{◌≡◌, arith}
use Rattle.data_agent.proofs.Places.{lacking_first}
use Rattle.data_agent.proofs.Watching.{lacking_gone}
use Rattle.data_agent.proofs.agent.Agent.lacks.Goals as goal

pub returns-then-window-first-clause-here : goal.returns-then-window-first-clause-here
returns-then-window-first-clause-here c =
    let first : c.first-first.result ≡ c.args.self.now.catalogue.gone = c.first-first.ensures in
    lacking_first c.args.self.now c.args.window.now.first.number c.args.window.now.last.number c.requires.some (omega (arith, c.if-window-first.true))

pub returns-then-window-first-clause-lacking : goal.returns-then-window-first-clause-lacking
returns-then-window-first-clause-lacking c = λ rules l s.
    let first : c.first-first.result ≡ c.args.self.now.catalogue.gone = c.first-first.ensures in
    lacking_gone c.args.self.now rules l c.args.window.now.first.number c.args.window.now.last.number s c.requires.some (omega (arith, c.if-window-first.true))
