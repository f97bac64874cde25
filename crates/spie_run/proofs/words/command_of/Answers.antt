use Rattle.spie_run.proofs.words.command_of.Goals as goal

pub returns-then-eq-4-clause-range : goal.returns-then-eq-4-clause-range
returns-then-eq-4-clause-range g = g.make_of.ensures.range g.args.most
