use Rattle.std.proofs.Common.{List, length, subst, sym, arith}
use Rattle.page_gate.specs.Held.{PlaneId}
use Rattle.data_agent.specs.Standing.{StandsFor}
use Rattle.data_agent.specs.declared.Agent.{Agent}
use Rattle.trace_format.specs.declared.Line.{Line}
use Rattle.trace_history.specs.Workers.{IsReplayedBy}
use Rattle.trace_replay.specs.Agents.{views_of}
use Rattle.router_account.specs.Shelves.{view_of}
use Rattle.trace_replay.specs.Loop.{HasDone}
use Rattle.trace_replay.specs.Segments.{no_line}
use Rattle.trace_replay.specs.Yards.{AreBeside, by_workers, yard_views}
use Rattle.trace_replay.proofs.Begun.{replayed}
use Rattle.trace_replay.proofs.Sighted.{written_back}
use Rattle.trace_replay.proofs.alone.replay_alone.Goals as goal

pub returns-clause-replayed : goal.returns-clause-replayed
returns-clause-replayed g c =
    let view = view_of g.H.Shelf.tells g.H.Shelf.contents g.H.Shelf.faults in
    let t = c.args.trace.now in
    let planes = c.in_ok-planes.planes.items in
    let agents = c.replay_lines.new.agents in
    let D = λ (xs : List Line). HasDone (by_workers 1) StandsFor t (view c.args.shelf.now) (length xs) agents c.in_ok-state.state (view c.replay_lines.new.shelf) in
    let B = λ (ps : List PlaneId). AreBeside ps agents in
    let Y = λ (xs : List Agent). IsReplayedBy 1 t c.of.result c.in_ok-state.state.totals (views_of g.H.Shelf.tells g.H.Shelf.contents g.H.Shelf.faults c.args.shelf.now c.replay_lines.new.shelf) (yard_views planes xs) in
    subst Y (sym (written_back c.in_ok-planes.agents.len c.in_ok-planes.agents.items agents (omega arith)))
    (replayed 1 t (view c.args.shelf.now) (view c.replay_lines.new.shelf) no_line planes agents c.in_ok-state.state c.of.result c.requires.sound
    (subst D c.items.ensures c.in_ok-state.ensures.done) c.of.ensures (subst B c.deref.ensures.value c.in_ok-state.ensures.beside)
    (λ r p l. c.in_ok-planes.ensures.shapes r p (let n = c.routers.ensures.count in omega (arith, l, n))))
