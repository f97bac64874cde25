use Rattle.std.proofs.Common.{refl}
use Rattle.pcap_intake.proofs.Pages.{take_more}
use Rattle.pcap_intake.proofs.intake.add_good.Goals as goal

pub returns-clause-added : goal.returns-clause-added
returns-clause-added c packets a =
    rw (← c.bytes.ensures.value)
    (take_more _ _ _ packets _ _ c.add.new.self _ _ a c.if-counts-plan.false c.if-counts-plan-2.false refl refl refl c.in_ok-add.ensures.base c.in_ok-add.ensures.text c.in_ok-add.ensures.clock)
