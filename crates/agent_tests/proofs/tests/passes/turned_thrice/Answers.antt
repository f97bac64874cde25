use Rattle.std.proofs.Common.{lit<}
use Rattle.router_account.specs.Ledger.{nothing_unfinished, turned_at}
use Rattle.data_agent.specs.Beside.{Away}
use Rattle.agent_tests.specs.TwoPasses.{after_one, the_rules}
use Rattle.agent_tests.proofs.Turns.{late_four, late_three, late_two, turned_on}
use Rattle.agent_tests.proofs.tests.passes.turned_thrice.Goals as goal

pub rotate-requires-clause-ready : goal.rotate-requires-clause-ready
rotate-requires-clause-ready g c = (the_rules, after_one, nothing_unfinished, record { out = 2; since = 0 }, c.requires.at.stands, late_two, (lit< tt))

pub rotate-requires-2-clause-ready : goal.rotate-requires-2-clause-ready
rotate-requires-2-clause-ready g c =
    let away : Away = record { out = 2; since = 0 } in
    (the_rules, turned_at after_one 5, nothing_unfinished, away, c.in_ok-rotate.ensures.turned the_rules after_one nothing_unfinished away c.requires.at.stands, late_three, (lit< tt))

pub rotate-requires-3-clause-ready : goal.rotate-requires-3-clause-ready
rotate-requires-3-clause-ready g c =
    let away : Away = record { out = 2; since = 0 } in
    let s = c.in_ok-rotate.ensures.turned the_rules after_one nothing_unfinished away c.requires.at.stands in
    (the_rules, turned_at (turned_at after_one 5) 6, nothing_unfinished, away, c.in_ok-rotate-2.ensures.turned the_rules (turned_at after_one 5) nothing_unfinished away s, late_four, (lit< tt))

pub returns-clause-at : goal.returns-clause-at
returns-clause-at g c =
    let away : Away = record { out = 2; since = 0 } in
    let s = c.in_ok-rotate.ensures.turned the_rules after_one nothing_unfinished away c.requires.at.stands in
    let t = c.in_ok-rotate-2.ensures.turned the_rules (turned_at after_one 5) nothing_unfinished away s in
    turned_on c.rotate-3.result c.rotate-2.new.self c.rotate-3.new.self (turned_at (turned_at after_one 5) 6) 7 (record { stands = t }) c.rotate-3.ensures.turned
