use Rattle.std.proofs.Common.{sym, subst}
use Rattle.gate_core.specs.Views.{Slot}
use Rattle.gate_core.specs.Acts.{CanProbe}
use Rattle.gate_core.proofs.Probes.{probe_done, probe_declined}
use Rattle.gate_core.proofs.core_data.CoreData.probe.Goals as goal

pub returns-then-can_probe : goal.returns-then-can_probe
returns-then-can_probe c =
    probe_done c.args.self.now c.probe_bit.new.self c.requires.holds c.requires.room c.args.slot c.args.at c.requires.near c.requires.within
    (subst (λ (x : Slot). CanProbe x.phase) c.slot.ensures (c.can_probe.ensures.0 c.if-can_probe.true)) c.probe_bit.result c.probe_bit.ensures.others c.probe_bit.ensures.noted c.probe_bit.ensures.probe_room c.probe_bit.ensures.answer

pub returns-else-can_probe : goal.returns-else-can_probe
returns-else-can_probe c =
    probe_declined c.args.self.now c.decline.new.self c.requires.holds c.args.slot c.args.at c.decline.result
    (λ can. let y = c.can_probe.ensures.1 (subst (λ (x : Slot). CanProbe x.phase) (sym c.slot.ensures) can) in let n = c.if-can_probe.false in cc) c.decline.ensures.kept c.decline.ensures.answer
