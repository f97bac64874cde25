use Rattle.std.proofs.Common.{◌∙◌, List, subst, sym, arith}
use Rattle.page_gate.specs.Held.{PlaneId}
use Rattle.data_agent.specs.Standing.{StandsFor}
use Rattle.data_agent.specs.declared.Agent.{Agent}
use Rattle.router_account.specs.Shelves.{view_of}
use Rattle.trace_history.specs.Workers.{IsReplayedBy}
use Rattle.trace_replay.specs.Agents.{views_of}
use Rattle.trace_replay.specs.Loop.{HasDone}
use Rattle.trace_replay.specs.Segments.{no_line}
use Rattle.trace_replay.specs.Yards.{AreBeside, by_workers, yard_views}
use Rattle.trace_replay.proofs.Begun.{stands_begun, done_begun, replayed}
use Rattle.trace_replay.proofs.Sighted.{written_back}
use Rattle.trace_replay.proofs.segments.replay_together.Goals as goal

pub all_segments-requires-clause-begins : goal.all_segments-requires-clause-begins
all_segments-requires-clause-begins g c = λ κs lives.
    let view = view_of g.H.Shelf.tells g.H.Shelf.contents g.H.Shelf.faults in
    let way = by_workers c.args.workers in
    let t = c.args.trace.now in
    let s = c.in_ok-state.state in
    let now = view c.args.shelf.now in
    let agents = c.in_ok-planes.agents.items in
    let opened = c.in_ok-planes.ensures in
    let n = c.routers-routers.ensures.count in
    let P : List Agent → Type 0 = λ xs. HasDone way StandsFor t now 0 xs s now in
    subst P (sym c.deref_mut.ensures.value)
    (done_begun way StandsFor t agents s now c.requires.sound c.in_ok-state.ensures
    (stands_begun way StandsFor t agents s now (opened.count_is ∙ n) (λ r d l. opened.first r d (omega (arith, l, n))) (λ r d l. opened.empty r d (omega (arith, l, n))) c.in_ok-state.ensures))

pub returns-clause-replayed : goal.returns-clause-replayed
returns-clause-replayed g c =
    let view = view_of g.H.Shelf.tells g.H.Shelf.contents g.H.Shelf.faults in
    let W = c.args.workers in
    let t = c.args.trace.now in
    let planes = c.in_ok-planes.planes.items in
    let agents = c.all_segments.new.agents in
    let s = c.all_segments.new.state in
    let B = λ (ps : List PlaneId). AreBeside ps agents in
    let Y = λ (xs : List Agent). IsReplayedBy W t c.of.result s.totals (views_of g.H.Shelf.tells g.H.Shelf.contents g.H.Shelf.faults c.args.shelf.now c.all_segments.new.shelf) (yard_views planes xs) in
    subst Y (sym (written_back c.in_ok-planes.agents.len c.in_ok-planes.agents.items agents (omega arith)))
    (replayed W t (view c.args.shelf.now) (view c.all_segments.new.shelf) no_line planes agents s c.of.result c.requires.sound
    c.in_ok-all_segments.ensures.done c.of.ensures (subst B c.deref.ensures.value c.in_ok-all_segments.ensures.beside)
    (λ r p l. c.in_ok-planes.ensures.shapes r p (let n = c.routers-routers.ensures.count in omega (arith, l, n))))
