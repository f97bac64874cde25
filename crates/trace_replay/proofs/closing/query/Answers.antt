use Rattle.std.proofs.Common.{subst, List, length, arith}
use Rattle.reverse_flood.specs.Flood.{net_of, IsFlood}
use Rattle.data_agent.specs.Planes.{entries_of}
use Rattle.trace_replay.specs.Yards.{by_workers}
use Rattle.data_agent.specs.declared.Barrier.{Barrier}
use Rattle.data_agent.specs.Standing.{StandsFor}
use Rattle.data_agent.specs.declared.Sight.{Sight}
use Rattle.data_agent.specs.Seeing.{shown_by, told_by}
use Rattle.router_account.specs.Shelves.{view_of}
use Rattle.trace_replay.specs.Asking.{PrintsQuery, query_items}
use Rattle.trace_replay.specs.Barriers.{PrintsPending}
use Rattle.trace_replay.proofs.Asked.{agents_past, router_exists, query_closes}
use Rattle.trace_replay.proofs.Closes.{agents_ready, answers_named, answers_there, answers_there}
use Rattle.trace_replay.proofs.Named.{graph_named}
use Rattle.trace_replay.proofs.Preparing.{passes_kept, past_standing, entries_twice}
use Rattle.trace_replay.proofs.closing.query.Goals as goal

pub pass_all-requires-clause-ready : goal.pass_all-requires-clause-ready
pass_all-requires-clause-ready g c =
    let view = view_of g.H.Shelf.tells g.H.Shelf.contents g.H.Shelf.faults in
    agents_ready (by_workers c.requires.ready.0) StandsFor c.args.trace.now c.args.line.now c.args.agents.now c.args.state.now (view c.args.shelf.now) c.requires.ready.1 c.args.state.now.clock _ (omega arith) c.requires.ready.1.3.clock_fits

pub see_all-requires-clause-past : goal.see_all-requires-clause-past
see_all-requires-clause-past g c =
    let view = view_of g.H.Shelf.tells g.H.Shelf.contents g.H.Shelf.faults in
    agents_past (by_workers c.requires.ready.0) StandsFor c.args.trace.now c.args.line.now c.args.agents.now c.prepare_all.new.agents c.args.state.now (view c.args.shelf.now) (view c.pass_all.new.shelf) c.requires.ready.1
    c.in_ok-barriers.barriers.items (passes_kept StandsFor c.args.state.now.clock _ c.args.agents.now c.pass_all.new.agents c.prepare_all.new.agents c.in_ok-barriers.barriers.items _ _ c.in_ok-barriers.ensures.passed c.in_ok-prepare_all.ensures.same) c.args.time
    (router_exists (by_workers c.requires.ready.0) StandsFor c.args.trace.now c.args.line.now c.args.agents.now c.args.state.now (view c.args.shelf.now) c.args.router c.args.packet c.args.time c.requires.is c.requires.ready.1).1

pub prepare_all-requires-clause-stands : goal.prepare_all-requires-clause-stands
prepare_all-requires-clause-stands g c =
    let view = view_of g.H.Shelf.tells g.H.Shelf.contents g.H.Shelf.faults in
    past_standing StandsFor c.args.time c.pass_all.new.agents
    (agents_past (by_workers c.requires.ready.0) StandsFor c.args.trace.now c.args.line.now c.args.agents.now c.pass_all.new.agents c.args.state.now (view c.args.shelf.now) (view c.pass_all.new.shelf) c.requires.ready.1
    c.in_ok-barriers.barriers.items c.in_ok-barriers.ensures.passed c.args.time
    (router_exists (by_workers c.requires.ready.0) StandsFor c.args.trace.now c.args.line.now c.args.agents.now c.args.state.now (view c.args.shelf.now) c.args.router c.args.packet c.args.time c.requires.is c.requires.ready.1).1)

pub print_answers-requires-clause-named : goal.print_answers-requires-clause-named
print_answers-requires-clause-named g c =
    let view = view_of g.H.Shelf.tells g.H.Shelf.contents g.H.Shelf.faults in
    answers_named (by_workers c.requires.ready.0) StandsFor c.args.trace.now c.args.line.now c.args.agents.now c.args.state.now (view c.args.shelf.now) c.requires.ready.1

pub print_query-requires-clause-named : goal.print_query-requires-clause-named
print_query-requires-clause-named g c =
    let view = view_of g.H.Shelf.tells g.H.Shelf.contents g.H.Shelf.faults in
    graph_named c.args.trace.now.topology.names (net_of shown_by c.deref.result.now c.args.trace.now.topology) (record { router = c.args.router; sig = c.sig_of-sig.result }) c.in_ok-graph.graph
    (router_exists (by_workers c.requires.ready.0) StandsFor c.args.trace.now c.args.line.now c.args.agents.now c.args.state.now (view c.args.shelf.now) c.args.router c.args.packet c.args.time c.requires.is c.requires.ready.1).0
    (λ a b h. (c.requires.links.ends a b h).1) c.in_ok-graph.ensures.graph

pub print_answers-requires-clause-there : goal.print_answers-requires-clause-there
print_answers-requires-clause-there g c =
    let view = view_of g.H.Shelf.tells g.H.Shelf.contents g.H.Shelf.faults in
    answers_there (by_workers c.requires.ready.0) StandsFor c.args.trace.now c.args.line.now c.args.agents.now c.args.state.now (view c.args.shelf.now) c.requires.ready.1

pub returns-clause-closes : goal.returns-clause-closes
returns-clause-closes g c = λ W start history seg old fits.
    let view = view_of g.H.Shelf.tells g.H.Shelf.contents g.H.Shelf.faults in
    let shown = shown_by in
    let told = told_by in
    let t = c.args.trace.now in
    let s = c.args.state.now in
    let mid = c.print_answers.new.state in
    let new = c.print_query.new.state in
    let graph = c.in_ok-graph.graph in
    let bs = c.in_ok-barriers.barriers.items in
    let ss = c.in_ok-sights.sights.items in
    let line = c.args.line.now.number in
    let F = λ (xs : List Sight). IsFlood (net_of shown xs t.topology) (record { router = c.args.router; sig = c.sig_of-sig.result }) graph in
    let P : List Barrier → Type 0 = λ xs. PrintsPending t xs s mid in
    let Q1 = λ (xs : List Barrier). PrintsQuery t (query_items told (length t.topology.names) xs c.deref-4.result.now line graph) graph mid new in
    let Q2 = λ (xs : List Sight). PrintsQuery t (query_items told (length t.topology.names) bs xs line graph) graph mid new in
    query_closes (by_workers W) StandsFor shown told t start history seg c.args.agents.now c.prepare_all.new.agents s (view c.args.shelf.now) (view c.pass_all.new.shelf) (view c.see_all.new.shelf) old
    bs (passes_kept StandsFor s.clock _ c.args.agents.now c.pass_all.new.agents c.prepare_all.new.agents bs _ _ c.in_ok-barriers.ensures.passed c.in_ok-prepare_all.ensures.same) c.args.time ss c.in_ok-sights.ensures c.args.line.now c.args.router c.args.packet c.sig_of-sig.result c.requires.is c.sig_of-sig.ensures
    (router_exists (by_workers c.requires.ready.0) StandsFor t c.args.line.now c.args.agents.now s (view c.args.shelf.now) c.args.router c.args.packet c.args.time c.requires.is c.requires.ready.1).0
    (λ a b h. (c.requires.links.ends a b h).1) graph
    (subst F c.deref.ensures.value c.in_ok-graph.ensures.graph) mid new
    (subst P c.deref-2.ensures.value c.in_ok-print_answers.ensures)
    (subst Q2 c.deref-4.ensures.value (subst Q1 c.deref-3.ensures.value c.in_ok-print_query.ensures))
    (entries_twice entries_of c.args.agents.now c.pass_all.new.agents c.prepare_all.new.agents c.in_ok-barriers.ensures.entries c.in_ok-prepare_all.ensures.entries)
