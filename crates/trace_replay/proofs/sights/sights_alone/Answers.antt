use Rattle.std.proofs.Common.{List, Vec, Global, false, ◌∙◌, sym, refl, subst, arith}
use Rattle.std.specs.List.{All}
use Rattle.std.proofs.lemmas.Result.{IfOk-weaker}
use Rattle.data_agent.specs.Planes.{IsPrepared}
use Rattle.data_agent.specs.Seeing.{shown_by, told_by}
use Rattle.data_agent.specs.Standing.{StandsFor}
use Rattle.data_agent.specs.declared.Agent.{Agent}
use Rattle.data_agent.specs.declared.Sight.{Sight}
use Rattle.trace_replay.specs.Agents.{IsReady, IsPast, PassesAll, SeesAll}
use Rattle.router_account.specs.Shelves.{view_of}
use Rattle.trace_replay.specs.Sights.{AreSights}
use Rattle.trace_replay.specs.Yards.{AllKeepStanding, IsStanding, by_workers}
use Rattle.trace_replay.proofs.Preparing.{passes_kept, past_standing}
use Rattle.trace_replay.proofs.Sighted.{written_back, ready_there, past_there, sights_there}
use Rattle.trace_replay.proofs.sights.sights_alone.Goals as goal

pub pass_all-requires-clause-ready : goal.pass_all-requires-clause-ready
pass_all-requires-clause-ready g c =
    let view = view_of g.H.Shelf.tells g.H.Shelf.contents g.H.Shelf.faults in
    let agents = c.replay_lines.new.agents in
    let R = λ (xs : List Agent). All (IsReady StandsFor c.in_ok-state.state.clock false) xs in
    subst R (sym (c.deref_mut-2.ensures.value ∙ written_back c.in_ok-planes.agents.len c.in_ok-planes.agents.items agents (omega arith)))
    (ready_there (by_workers 1) StandsFor shown_by told_by c.args.trace.now (view c.args.shelf.now) c.requires.sound agents c.in_ok-state.state (view c.replay_lines.new.shelf)
    c.items-lines.result.now c.items-lines.ensures c.find_query-place.result.0 c.find_query-place.ensures.there c.in_ok-state.ensures.done
    c.args.line c.find_query-place.result.1 c.find_query-place.ensures.time)

pub prepare_all-requires-clause-stands : goal.prepare_all-requires-clause-stands
prepare_all-requires-clause-stands g c =
    let view = view_of g.H.Shelf.tells g.H.Shelf.contents g.H.Shelf.faults in
    let time = c.find_query-place.result.1 in
    let agents = c.replay_lines.new.agents in
    let passed = c.pass_all.new.agents in
    let bs = c.in_ok-_barriers._barriers.items in
    let P = λ (xs : List Agent). PassesAll StandsFor c.in_ok-state.state.clock false xs passed bs (view c.replay_lines.new.shelf) (view c.pass_all.new.shelf) in
    let S = λ (xs : List Agent). All (IsStanding StandsFor) xs in
    let first = c.deref_mut-2.ensures.value ∙ written_back c.in_ok-planes.agents.len c.in_ok-planes.agents.items agents (omega arith) in
    subst S (sym (c.deref_mut-3.ensures.value ∙ written_back c.in_ok-planes.agents.len _ passed (omega arith)))
    (past_standing StandsFor time passed
    (past_there (by_workers 1) StandsFor shown_by told_by c.args.trace.now (view c.args.shelf.now) c.requires.sound agents c.in_ok-state.state (view c.replay_lines.new.shelf)
    c.items-lines.result.now c.items-lines.ensures c.find_query-place.result.0 c.find_query-place.ensures.there c.in_ok-state.ensures.done
    c.args.line time c.find_query-place.ensures.time passed (view c.pass_all.new.shelf) bs (subst P first c.in_ok-_barriers.ensures.passed)))

pub see_all-requires-clause-past : goal.see_all-requires-clause-past
see_all-requires-clause-past g c =
    let view = view_of g.H.Shelf.tells g.H.Shelf.contents g.H.Shelf.faults in
    let time = c.find_query-place.result.1 in
    let agents = c.replay_lines.new.agents in
    let passed = c.pass_all.new.agents in
    let prepared = c.prepare_all.new.agents in
    let bs = c.in_ok-_barriers._barriers.items in
    let P = λ (xs : List Agent). PassesAll StandsFor c.in_ok-state.state.clock false xs passed bs (view c.replay_lines.new.shelf) (view c.pass_all.new.shelf) in
    let K = λ (xs : List Agent). AllKeepStanding StandsFor xs prepared in
    let R = λ (xs : List Agent). All (IsPast StandsFor time) xs in
    let first = c.deref_mut-2.ensures.value ∙ written_back c.in_ok-planes.agents.len c.in_ok-planes.agents.items agents (omega arith) in
    let second = c.deref_mut-3.ensures.value ∙ written_back c.in_ok-planes.agents.len _ passed (omega arith) in
    subst R (sym (c.deref-4.ensures.value ∙ written_back c.in_ok-planes.agents.len _ prepared (omega arith)))
    (past_there (by_workers 1) StandsFor shown_by told_by c.args.trace.now (view c.args.shelf.now) c.requires.sound agents c.in_ok-state.state (view c.replay_lines.new.shelf)
    c.items-lines.result.now c.items-lines.ensures c.find_query-place.result.0 c.find_query-place.ensures.there c.in_ok-state.ensures.done
    c.args.line time c.find_query-place.ensures.time prepared (view c.pass_all.new.shelf) bs
    (passes_kept StandsFor c.in_ok-state.state.clock false agents passed prepared bs _ _ (subst P first c.in_ok-_barriers.ensures.passed) (subst K second c.in_ok-prepare_all.ensures.same)))

pub see_all-requires-clause-prepared : goal.see_all-requires-clause-prepared
see_all-requires-clause-prepared g c =
    let R = λ (xs : List Agent). All IsPrepared xs in
    subst R (sym (c.deref-4.ensures.value ∙ written_back c.in_ok-planes.agents.len _ c.prepare_all.new.agents (omega arith))) c.in_ok-prepare_all.ensures.prepared

pub returns : goal.returns
returns g c =
    let view = view_of g.H.Shelf.tells g.H.Shelf.contents g.H.Shelf.faults in
    let t = c.args.trace.now in
    let time = c.find_query-place.result.1 in
    let agents = c.replay_lines.new.agents in
    let passed = c.pass_all.new.agents in
    let prepared = c.prepare_all.new.agents in
    let bs = c.in_ok-_barriers._barriers.items in
    let mid = view c.pass_all.new.shelf in
    let now = view c.see_all.new.shelf in
    let P = λ (xs : List Agent). PassesAll StandsFor c.in_ok-state.state.clock false xs passed bs (view c.replay_lines.new.shelf) mid in
    let K = λ (xs : List Agent). AllKeepStanding StandsFor xs prepared in
    let first = c.deref_mut-2.ensures.value ∙ written_back c.in_ok-planes.agents.len c.in_ok-planes.agents.items agents (omega arith) in
    let second = c.deref_mut-3.ensures.value ∙ written_back c.in_ok-planes.agents.len _ passed (omega arith) in
    let third = c.deref-4.ensures.value ∙ written_back c.in_ok-planes.agents.len _ prepared (omega arith) in
    let V = λ (sights : Vec Sight Global). SeesAll StandsFor shown_by told_by time c.deref-4.result.now sights.items mid now in
    let W = λ (sights : Vec Sight Global). AreSights shown_by told_by t c.args.line sights.items (record { shelf_before = view c.args.shelf.now; shelf_after = now }) in
    IfOk-weaker c.see_all.result V W
    (λ sights sees.
    let S = λ (xs : List Agent). SeesAll StandsFor shown_by told_by time xs sights.items mid now in
    sights_there (by_workers 1) StandsFor shown_by told_by t (view c.args.shelf.now) c.requires.sound agents c.in_ok-state.state (view c.replay_lines.new.shelf)
    c.items-lines.result.now c.items-lines.ensures c.find_query-place.result.0 c.find_query-place.ensures.there c.in_ok-state.ensures.done
    c.args.line time c.find_query-place.ensures.time
    refl prepared mid now bs (passes_kept StandsFor c.in_ok-state.state.clock false agents passed prepared bs _ _ (subst P first c.in_ok-_barriers.ensures.passed) (subst K second c.in_ok-prepare_all.ensures.same))
    sights.items (subst S third sees))
    c.see_all.ensures
