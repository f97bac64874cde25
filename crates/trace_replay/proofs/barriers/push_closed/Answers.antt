use Rattle.std.proofs.Common.{◌∙◌, ap, ◌++◌}
use Rattle.std.specs.List.{flat_map}
use Rattle.std.specs.Prelude.{option_map}
use Rattle.report_text.specs.Report.{item_text}
use Rattle.data_agent.specs.declared.Barrier.{Barrier}
use Rattle.data_agent.specs.Calls.{closing_of}
use Rattle.trace_history.specs.Report.{closing_items}
use Rattle.trace_replay.specs.Barriers.{closed_of}
use Rattle.trace_replay.proofs.Pieces.{router_more, barrier_is}
use Rattle.trace_replay.proofs.barriers.push_closed.Goals as goal

pub loop-router-preserved : goal.loop-router-preserved
loop-router-preserved c =
    let f = item_text c.args.topology.now.names in
    let r = c.loop-router.router in
    router_more f (closed_of c.args.barriers.now c.args.line) c.args.out.now.items r c.loop-router.out.items c.push_closing.new.out.items c.loop-router.invariant
    (c.in_ok-push_closing.ensures
    ∙ ap (λ (b : Barrier). c.loop-router.out.items ++ flat_map f (closing_items c.args.line r (option_map closing_of b.closed)))
    (barrier_is c.args.barriers.now r _ _ c.index-barriers-router.result c.requires c.routers-routers.ensures.count c.loop-router-test.true))
