use Rattle.std.proofs.Common.{◌≡◌, ◌++◌, map}
use Rattle.std.specs.List.{flat_map}
use Rattle.report_text.specs.Report.{item_text}
use Rattle.router_account.specs.Account.{below}
use Rattle.data_agent.specs.Seeing.{told_by}
use Rattle.trace_replay.specs.Asking.{item_at}
use Rattle.trace_replay.proofs.queries.push_pages.Given as goal

abbrev pub invariant-loop-router : goal.invariant-loop-router
invariant-loop-router l =
    l.out.items ≡ l.fn.out.items ++ flat_map (item_text l.topology.names) (map (item_at told_by l.sights l.line) (below l.router))
