use Rattle.std.proofs.Common.{inr}
use Rattle.router_account.specs.Ledger.{at_archive}
use Rattle.agent_tests.specs.TwoPasses.{after_four, the_rules}
use Rattle.agent_tests.proofs.tests.passes.watched.Goals as goal

pub watch-requires-clause-stands : goal.watch-requires-clause-stands
watch-requires-clause-stands c = let s = c.requires.archived in (the_rules, at_archive after_four, s.unfinished, inr (record { out = 2; since = 0 }, s.stands))

pub returns-clause-archived : goal.returns-clause-archived
returns-clause-archived c =
    let s = c.requires.archived in
    record { unfinished = s.unfinished; stands = c.watch.ensures.beside_same the_rules (at_archive after_four) s.unfinished (record { out = 2; since = 0 }) s.stands }
