use Rattle.std.proofs.Common.{arith, ◌∙◌, ap, length}
use Rattle.bloom_page.specs.Sets.{PageSet}
use Rattle.data_agent.proofs.Keeping.{kept_probed, only_table, stands_in}
use Rattle.data_agent.proofs.SameMembers.{marked_members}
use Rattle.data_agent.proofs.slots.fill_page.Goals as goal

pub fill-requires-clause-alone : goal.fill-requires-clause-alone
fill-requires-clause-alone c = let (entries, first, s) = c.requires.stands in s.alone

pub fill-requires-clause-stands : goal.fill-requires-clause-stands
fill-requires-clause-stands c = let (entries, first, s) = c.requires.stands in stands_in c.args.plane.now.shape c.args.keeper.now entries first c.args.page.number s c.args.page.number s.order (omega arith)

pub returns-clause-plane : goal.returns-clause-plane
returns-clause-plane c = only_table c.args.keeper.now c.fill.new.keeper c.fill.ensures.probes

pub returns-clause-count : goal.returns-clause-count
returns-clause-count c = λ entries first last s. c.fill.ensures.exact ∙ ap (λ (set : PageSet). length set.members) (marked_members c.args.plane.now.shape c.args.keeper.now.view.entries entries c.args.page.number s.has)

pub returns-clause-same : goal.returns-clause-same
returns-clause-same c = λ entries first last s. kept_probed c.args.plane.now.shape c.args.keeper.now c.fill.new.keeper entries first last c.fill.ensures.probes c.fill.ensures.met s
