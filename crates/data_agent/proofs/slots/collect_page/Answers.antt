use Rattle.data_agent.proofs.CollectedPages.{collected_alone, collected_gathered, collected_minded, collected_room, collected_words}
use Rattle.data_agent.proofs.slots.collect_page.Goals as goal

pub returns-clause-same : goal.returns-clause-same
returns-clause-same c = collected_words c.args.plane.now.shape c.collect.result c.args.keeper.now c.collect.new.keeper c.args.page.number _ c.requires.quiet c.requires.stands c.collect.ensures.keeper c.collect.ensures.unchanged

pub returns-clause-free : goal.returns-clause-free
returns-clause-free c = collected_room c.args.plane.now.shape c.collect.result c.args.keeper.now c.collect.new.keeper c.args.page.number _ c.requires.quiet c.requires.stands c.collect.ensures.keeper

pub returns-clause-taken : goal.returns-clause-taken
returns-clause-taken c = collected_minded c.args.plane.now.shape c.collect.result c.args.keeper.now c.collect.new.keeper c.args.page.number _ c.requires.quiet c.collect.ensures.keeper c.collect.ensures.met c.collect.ensures.open

pub returns-clause-gathered : goal.returns-clause-gathered
returns-clause-gathered c = collected_gathered c.args.plane.now.shape c.collect.result c.args.keeper.now c.collect.new.keeper c.args.page.number _ c.collect.ensures.keeper c.collect.ensures.marks

pub returns-clause-alone : goal.returns-clause-alone
returns-clause-alone c = collected_alone c.args.plane.now.shape c.collect.result c.args.keeper.now c.collect.new.keeper c.args.page.number _ c.collect.ensures.keeper c.collect.ensures.alone
