use Rattle.std.proofs.Common.{◌≡◌, ◌++◌}
use Rattle.std.specs.List.{flat_map}
use Rattle.report_text.specs.Report.{item_text}
use Rattle.router_account.specs.Account.{below}
use Rattle.trace_history.specs.Report.{left_items}
use Rattle.trace_replay.specs.Printing.{lefts_of}
use Rattle.trace_replay.proofs.barriers.push_left.Given as goal

abbrev pub invariant-loop-router : goal.invariant-loop-router
invariant-loop-router l = l.out.items ≡ l.fn.out.items ++ flat_map (item_text l.topology.names) (flat_map (left_items l.line (lefts_of l.barriers)) (below l.router))
