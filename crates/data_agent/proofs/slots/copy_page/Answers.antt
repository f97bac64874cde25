use Rattle.std.proofs.Common.{arith}
use Rattle.data_agent.proofs.Keeping.{copied_bits, copied_kept, copied_size, copied_table, stands_in}
use Rattle.data_agent.proofs.slots.copy_page.Goals as goal

pub snapshot-requires-clause-alone : goal.snapshot-requires-clause-alone
snapshot-requires-clause-alone c = let (entries, first, s) = c.requires.stands in s.alone

pub snapshot-requires-clause-stands : goal.snapshot-requires-clause-stands
snapshot-requires-clause-stands c = let (entries, first, s) = c.requires.stands in stands_in c.args.plane.now.shape c.args.keeper.now entries first c.args.page.number s c.args.page.number s.order (omega arith)

pub returns-clause-plane : goal.returns-clause-plane
returns-clause-plane c = copied_table c.snapshot.result c.args.keeper.now c.snapshot.new.keeper c.snapshot.ensures.probes c.snapshot.ensures.unchanged

pub returns-clause-size : goal.returns-clause-size
returns-clause-size c = copied_size c.args.plane.now.shape c.snapshot.result c.args.keeper.now c.args.page.number c.snapshot.ensures.exact

pub returns-clause-bits : goal.returns-clause-bits
returns-clause-bits c = copied_bits c.args.plane.now.shape c.snapshot.result c.args.keeper.now c.args.page.number c.snapshot.ensures.exact

pub returns-clause-same : goal.returns-clause-same
returns-clause-same c = copied_kept c.args.plane.now.shape c.snapshot.result c.args.keeper.now c.snapshot.new.keeper c.snapshot.ensures.probes c.snapshot.ensures.met c.snapshot.ensures.unchanged
