use Rattle.gate_core.specs.declared.steps.Act.TheVariants as act
use Rattle.page_gate.proofs.words.Words.probe.Given as goal

abbrev pub ghosts-probe_as : goal.ghosts-probe_as
ghosts-probe_as a = record { shape = a.self.now.shape; act = act.Probe a.slot a.at }
