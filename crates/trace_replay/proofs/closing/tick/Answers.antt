use Rattle.std.proofs.Common.{◌<◌, subst, refl, List, arith}
use Rattle.trace_format.specs.declared.What.{What}
use Rattle.trace_format.specs.Sound.{FitsClock, HasTime}
use Rattle.trace_replay.specs.Yards.{by_workers}
use Rattle.data_agent.specs.declared.Barrier.{Barrier}
use Rattle.data_agent.specs.Standing.{StandsFor}
use Rattle.router_account.specs.Shelves.{view_of}
use Rattle.trace_replay.specs.Barriers.{PrintsPending, Prints, tick_items}
use Rattle.trace_replay.proofs.Closes.{agents_ready, answers_named, answers_there, tick_closes}
use Rattle.trace_replay.proofs.closing.tick.Goals as goal

pub pass_all-requires-clause-ready : goal.pass_all-requires-clause-ready
pass_all-requires-clause-ready g c =
    let view = view_of g.H.Shelf.tells g.H.Shelf.contents g.H.Shelf.faults in
    let P : What → Type 0 = λ w. FitsClock c.args.state.now.clock w in
    let up : c.args.state.now.clock < c.args.time = subst P c.requires.is c.requires.ready.1.4.timed in
    agents_ready (by_workers c.requires.ready.0) StandsFor c.args.trace.now c.args.line.now c.args.agents.now c.args.state.now (view c.args.shelf.now) c.requires.ready.1 c.args.time _ (omega (arith, up)) (subst HasTime c.requires.is c.requires.ready.1.4.time)

pub print_answers-requires-clause-named : goal.print_answers-requires-clause-named
print_answers-requires-clause-named g c =
    let view = view_of g.H.Shelf.tells g.H.Shelf.contents g.H.Shelf.faults in
    answers_named (by_workers c.requires.ready.0) StandsFor c.args.trace.now c.args.line.now c.args.agents.now c.args.state.now (view c.args.shelf.now) c.requires.ready.1

pub print_answers-requires-clause-there : goal.print_answers-requires-clause-there
print_answers-requires-clause-there g c =
    let view = view_of g.H.Shelf.tells g.H.Shelf.contents g.H.Shelf.faults in
    answers_there (by_workers c.requires.ready.0) StandsFor c.args.trace.now c.args.line.now c.args.agents.now c.args.state.now (view c.args.shelf.now) c.requires.ready.1

pub returns-clause-closes : goal.returns-clause-closes
returns-clause-closes g c = λ W start history seg old fits.
    let view = view_of g.H.Shelf.tells g.H.Shelf.contents g.H.Shelf.faults in
    let t = c.args.trace.now in
    let s = c.args.state.now in
    let mid = c.print_answers.new.state in
    let new = c.print_tick.new.state in
    let P : List Barrier → Type 0 = λ bs. PrintsPending t bs s mid in
    let Q : List Barrier → Type 0 = λ bs. Prints t (tick_items t bs c.args.line.now.number c.args.time) c.args.time mid new in
    tick_closes (by_workers W) StandsFor t start history seg c.args.agents.now c.pass_all.new.agents s (view c.args.shelf.now) (view c.pass_all.new.shelf) old
    c.args.time _ c.in_ok-barriers.barriers.items c.in_ok-barriers.ensures.passed refl c.args.line.now c.requires.is fits.timed fits.time mid new
    (subst P c.deref.ensures.value c.in_ok-print_answers.ensures) (subst Q c.deref-2.ensures.value c.in_ok-print_tick.ensures) c.in_ok-barriers.ensures.entries
