use Rattle.data_agent.proofs.Keeping.{kept_probes, probed_bits, probed_table}
use Rattle.data_agent.proofs.slots.probe_page.Goals as goal

pub returns-clause-plane : goal.returns-clause-plane
returns-clause-plane c = probed_table c.args.plane.now.shape c.args.page.number c.args.sig.now c.args.keeper.now c.probe.new.keeper c.probe.result c.probe.ensures.reads

pub returns-clause-found : goal.returns-clause-found
returns-clause-found c = λ entries first last s. probed_bits c.args.plane.now.shape c.args.keeper.now entries first last c.args.page.number c.args.sig.now c.probe.result s c.probe.ensures.alone

pub returns-clause-same : goal.returns-clause-same
returns-clause-same c = λ entries first last s. kept_probes c.args.plane.now.shape c.args.page.number c.args.sig.now c.args.keeper.now c.probe.new.keeper c.probe.result entries first last c.probe.ensures.reads c.probe.ensures.met s
