use Rattle.gate_core.specs.declared.steps.Act.TheVariants as act
use Rattle.page_gate.proofs.words.Words.settle.Given as goal

abbrev pub ghosts-settle_as : goal.ghosts-settle_as
ghosts-settle_as a = record { shape = a.self.now.shape; act = act.Settle a.slot }
