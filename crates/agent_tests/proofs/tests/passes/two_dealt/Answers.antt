use Rattle.router_account.specs.Ledger.{first_ledger, nothing_unfinished}
use Rattle.agent_tests.specs.TwoPasses.{the_rules}
use Rattle.agent_tests.proofs.Turns.{none_put}
use Rattle.agent_tests.proofs.tests.passes.two_dealt.Goals as goal

pub returns-clause-at : goal.returns-clause-at
returns-clause-at c = record { stands = c.in_ok-passes.ensures.beside the_rules (first_ledger 2) nothing_unfinished c.in_ok-plane.ensures.first (none_put the_rules (first_ledger 2)) }
