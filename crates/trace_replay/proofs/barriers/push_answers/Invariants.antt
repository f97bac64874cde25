use Rattle.std.proofs.Common.{◌≡◌, ◌++◌, take}
use Rattle.std.specs.List.{flat_map}
use Rattle.report_text.specs.Report.{item_text}
use Rattle.trace_replay.specs.Printing.{splits_of}
use Rattle.trace_replay.specs.Segments.{numbered, pending_items}
use Rattle.trace_replay.proofs.barriers.push_answers.Given as goal

abbrev pub invariant-loop-place : goal.invariant-loop-place
invariant-loop-place l = l.out.items ≡ l.fn.out.items ++ flat_map (item_text l.topology.names) (pending_items (splits_of l.barriers) (numbered l.lines l.first (take l.place l.answers)))
