use Rattle.data_agent.specs.Standing.{StandsFor}
use Rattle.data_agent.specs.Seeing.{shown_by, told_by}
use Rattle.router_account.specs.Shelves.{view_of}
use Rattle.trace_replay.specs.Agents.{SeesUpTo}
use Rattle.trace_replay.proofs.agents.see_all.Given as goal

abbrev pub invariant-loop-agent : goal.invariant-loop-agent
invariant-loop-agent g l =
    SeesUpTo StandsFor shown_by told_by l.time l.agent-index l.agents l.sights.items
    (view_of g.H.Shelf.tells g.H.Shelf.contents g.H.Shelf.faults l.fn.shelf) (view_of g.H.Shelf.tells g.H.Shelf.contents g.H.Shelf.faults l.shelf)
