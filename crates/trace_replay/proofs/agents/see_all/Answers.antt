use Rattle.std.proofs.Common.{sym, subst, ◌+◌, List}
use Rattle.data_agent.specs.Planes.{IsPrepared}
use Rattle.data_agent.specs.Standing.{StandsFor}
use Rattle.data_agent.specs.declared.Agent.{Agent}
use Rattle.data_agent.specs.declared.Sight.{Sight}
use Rattle.data_agent.specs.Seeing.{shown_by, told_by}
use Rattle.router_account.specs.Shelves.{view_of}
use Rattle.trace_replay.specs.Agents.{IsPast, SeesUpTo}
use Rattle.trace_replay.proofs.Seeing.{sees_more}
use Rattle.trace_replay.proofs.agents.see_all.Goals as goal

pub sight-requires : goal.sight-requires
sight-requires g c =
    let P = λ (y : Agent). IsPast StandsFor c.args.time y in
    record {
      prepared = subst IsPrepared (sym c.agent-item.is) (c.requires.prepared c.loop-agent.agent-index c.agent-item.result c.loop-agent-test.true);
      past = subst P (sym c.agent-item.is) (c.requires.past c.loop-agent.agent-index c.agent-item.result c.loop-agent-test.true);
    }

pub loop-agent-preserved : goal.loop-agent-preserved
loop-agent-preserved g c =
    let view = view_of g.H.Shelf.tells g.H.Shelf.contents g.H.Shelf.faults in
    let e = c.in_ok-sight.ensures in
    let P = λ (ss : List Sight). SeesUpTo StandsFor shown_by told_by c.args.time (c.loop-agent.agent-index + 1) c.args.agents.now ss (view c.args.shelf.now) (view c.sight.new.shelf) in
    subst P (sym c.in_ok-push.ensures.items) (sees_more StandsFor shown_by told_by c.args.time c.loop-agent.agent-index c.args.agents.now c.loop-agent.sights.items
    c.agent-item.result c.agent-item.result c.in_ok-sight.sight (view c.args.shelf.now) (view c.loop-agent.shelf) (view c.sight.new.shelf)
    c.loop-agent-test.true c.agent-item.is c.loop-agent.invariant e.later e.still e.seen e.paid e.all_true e.only_faults e.read_from e.unchanged)
