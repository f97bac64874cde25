use Rattle.std.proofs.Common.{◌<◌, ◌∙◌, sym, arith}
use Rattle.std.proofs.lemmas.Bool.Decides.{nat_tests}
use Rattle.data_agent.proofs.LastEntries.{below_last, below_none}
use Rattle.data_agent.proofs.passes.has_recorded.Goals as goal

pub returns-in-Some : goal.returns-in-Some
returns-in-Some c = λ e.
    let low : c.in-Some.entry.page.number < c.args.page.number = grind (arith, nat_tests) in
    below_last c.args.pass.now.floor c.args.page.number c.args.pass.now.entries c.in-Some.entry c.rises.ensures (sym c.last.ensures ∙ c.in-Some.is) low

pub returns-in-None : goal.returns-in-None
returns-in-None c = λ e. below_none c.args.page.number c.args.pass.now.entries (sym c.last.ensures ∙ c.in-None.is)
