use Rattle.std.proofs.Common.{List, flat_map, lit<}
use Rattle.spie_base.specs.declared.Entry.{Entry}
use Rattle.page_gate.specs.Held.{PassHeld}
use Rattle.router_account.specs.Ledger.{at_archive}
use Rattle.agent_tests.specs.TwoPasses.{after_four, the_rules}
use Rattle.agent_tests.proofs.Turns.{from_first, gathered_in, late_gathered, late_tick, with_entries}
use Rattle.agent_tests.proofs.tests.passes.ticked.Goals as goal

pub gather-requires-clause-away : goal.gather-requires-clause-away
gather-requires-clause-away c = let s = c.requires.archived in (the_rules, at_archive after_four, s.unfinished, record { out = 2; since = 0 }, s.stands, c.requires.two, from_first c.args.passes.items)

pub barrier-requires-clause-ready : goal.barrier-requires-clause-ready
barrier-requires-clause-ready c =
    let s = c.requires.archived in
    let l = at_archive after_four in
    let more : List Entry = flat_map (λ (p : PassHeld). p.entries) c.args.passes.items in (
      the_rules,
      with_entries l more,
      s.unfinished,
      c.gather.ensures.stands the_rules l s.unfinished (record { out = 2; since = 0 }) s.stands (from_first c.args.passes.items) (with_entries l more) (gathered_in l more),
      late_gathered after_four more 8 late_tick,
      λ tick. lit< tt,
    )
