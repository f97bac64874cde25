use Rattle.std.proofs.Common.{ℕ, refl, subst, List, arith}
use Rattle.trace_replay.specs.Yards.{by_workers}
use Rattle.data_agent.specs.declared.Barrier.{Barrier}
use Rattle.data_agent.specs.Standing.{StandsFor}
use Rattle.router_account.specs.Shelves.{view_of}
use Rattle.trace_replay.specs.Barriers.{PrintsPending, Prints, end_items}
use Rattle.trace_replay.proofs.Closes.{agents_ready, answers_named, answers_there, end_closes}
use Rattle.trace_replay.proofs.closing.end.Goals as goal

pub pass_all-requires-clause-ready : goal.pass_all-requires-clause-ready
pass_all-requires-clause-ready g c =
    let view = view_of g.H.Shelf.tells g.H.Shelf.contents g.H.Shelf.faults in
    agents_ready (by_workers c.requires.ready.0) StandsFor c.args.trace.now c.args.line.now c.args.agents.now c.args.state.now (view c.args.shelf.now) c.requires.ready.1 c.args.state.now.clock _ (omega arith) c.requires.ready.1.3.clock_fits

pub print_answers-requires-clause-named : goal.print_answers-requires-clause-named
print_answers-requires-clause-named g c =
    let view = view_of g.H.Shelf.tells g.H.Shelf.contents g.H.Shelf.faults in
    answers_named (by_workers c.requires.ready.0) StandsFor c.args.trace.now c.args.line.now c.args.agents.now c.args.state.now (view c.args.shelf.now) c.requires.ready.1

pub print_answers-requires-clause-there : goal.print_answers-requires-clause-there
print_answers-requires-clause-there g c =
    let view = view_of g.H.Shelf.tells g.H.Shelf.contents g.H.Shelf.faults in
    answers_there (by_workers c.requires.ready.0) StandsFor c.args.trace.now c.args.line.now c.args.agents.now c.args.state.now (view c.args.shelf.now) c.requires.ready.1

pub returns-clause-closes : goal.returns-clause-closes
returns-clause-closes g c = λ W start history seg old fits.
    let view = view_of g.H.Shelf.tells g.H.Shelf.contents g.H.Shelf.faults in
    let t = c.args.trace.now in
    let s = c.args.state.now in
    let mid = c.print_answers.new.state in
    let new = c.print_end.new.state in
    let P : List Barrier → Type 0 = λ bs. PrintsPending t bs s mid in
    let R : List Barrier → Type 0 = λ bs. Prints t (end_items t bs c.args.line.now.number) mid.clock mid new in
    let Q : ℕ → Type 0 = λ clock. Prints t (end_items t c.in_ok-barriers.barriers.items c.args.line.now.number) clock mid new in
    let pends = subst P c.deref.ensures.value c.in_ok-print_answers.ensures in
    end_closes (by_workers W) StandsFor t start history seg c.args.agents.now c.pass_all.new.agents s (view c.args.shelf.now) (view c.pass_all.new.shelf) old
    s.clock _ c.in_ok-barriers.barriers.items c.in_ok-barriers.ensures.passed refl refl c.args.line.now c.requires.is mid new
    pends (subst Q pends.clock (subst R c.deref-2.ensures.value c.in_ok-print_end.ensures)) c.in_ok-barriers.ensures.entries
