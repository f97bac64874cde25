use Rattle.std.proofs.Common.{lit<}
use Rattle.router_account.specs.Ledger.{first_ledger, nothing_unfinished}
use Rattle.agent_tests.specs.TwoPasses.{the_rules}
use Rattle.agent_tests.proofs.Turns.{late_one, turned_on}
use Rattle.agent_tests.proofs.tests.passes.turned.Goals as goal

pub rotate-requires-clause-ready : goal.rotate-requires-clause-ready
rotate-requires-clause-ready g c = (the_rules, first_ledger 2, nothing_unfinished, record { out = 2; since = 0 }, c.requires.at.stands, late_one, (lit< tt))

pub returns-clause-at : goal.returns-clause-at
returns-clause-at g c = turned_on c.rotate.result c.args.agent.now c.rotate.new.self (first_ledger 2) 5 c.requires.at c.rotate.ensures.turned
