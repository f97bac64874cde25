use Rattle.std.proofs.Common.{refl, inr}
use Rattle.router_account.specs.Ledger.{nothing_unfinished}
use Rattle.agent_tests.specs.TwoPasses.{after_four, the_rules}
use Rattle.agent_tests.proofs.Turns.{archived_on}
use Rattle.agent_tests.proofs.tests.passes.note_archival.Goals as goal

pub archive-requires-clause-noted : goal.archive-requires-clause-noted
archive-requires-clause-noted c = inr (record { out = 2; since = 0 }, (the_rules, after_four, nothing_unfinished, c.requires.at.stands, refl))

pub returns-clause-archived : goal.returns-clause-archived
returns-clause-archived c = archived_on _ _ _ _ _ c.archive.result c.args.agent.now c.archive.new.self c.requires.at c.archive.ensures.noted
