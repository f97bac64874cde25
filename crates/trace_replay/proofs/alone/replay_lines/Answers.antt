use Rattle.data_agent.specs.Standing.{StandsFor}
use Rattle.router_account.specs.Shelves.{view_of}
use Rattle.trace_replay.specs.Yards.{by_workers}
use Rattle.trace_replay.proofs.Begun.{stands_begun, done_begun}
use Rattle.trace_replay.proofs.alone.replay_lines.Goals as goal

pub all_lines-requires-clause-begins : goal.all_lines-requires-clause-begins
all_lines-requires-clause-begins g c =
    let view = view_of g.H.Shelf.tells g.H.Shelf.contents g.H.Shelf.faults in
    let t = c.args.trace.now in
    let s = c.in_ok-state.state in
    let now = view c.args.shelf.now in
    let agents = c.args.agents.now in
    done_begun (by_workers 1) StandsFor t agents s now c.requires.sound c.in_ok-state.ensures
    (stands_begun (by_workers 1) StandsFor t agents s now c.requires.opened.count_is c.requires.opened.first c.requires.opened.empty c.in_ok-state.ensures)
