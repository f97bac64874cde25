use Rattle.std.proofs.Common.{ℕ, List, ◌++◌, ◌∙◌, length, sym, subst, refl, ap}
use Rattle.router_account.specs.Shelves.{view_of}
use Rattle.data_agent.specs.Standing.{StandsFor}
use Rattle.trace_format.specs.declared.Line.{Line}
use Rattle.trace_history.specs.Routers.{RouterRules}
use Rattle.router_account.specs.Ledger.{Ledger, Unfinished}
use Rattle.trace_replay.specs.declared.state.Answer.{Answer}
use Rattle.trace_replay.specs.Aways.{besides, reads}
use Rattle.trace_replay.specs.Concluding.{AddsRows, HavePagesFor, MayAddRows, all_answers, receipts_for}
use Rattle.trace_replay.specs.Merging.{operations}
use Rattle.trace_replay.specs.Operating.{IsAtLine, OperatesFrom}
use Rattle.trace_workers.specs.Records.{lines_between}
use Rattle.trace_replay.proofs.Readied.{all_standing, operator_ready, workers_ready}
use Rattle.trace_replay.proofs.SegmentDone.{done, given_long, may_add_rows, may_gather_now, pages_now}
use Rattle.trace_replay.proofs.segment.do_lines.Goals as goal

pub deal_all-requires-clause-stands : goal.deal_all-requires-clause-stands
deal_all-requires-clause-stands g c =
    let view = view_of g.H.Shelf.tells g.H.Shelf.contents g.H.Shelf.faults in
    let t = c.args.trace.now in
    let from = c.args.from in
    let to = c.args.to in
    let W = c.args.workers in
    let planes = c.args.planes.now in
    let a0 = c.args.agents.now in
    let s = c.args.state.now in
    let was = view c.args.shelf.now in
    let g0 = c.args.given.now.items in
    let L = c.requires.lines in
    all_standing t from to W planes c.requires.sound c.requires.is a0 s was c.requires.ready

pub beside-requires-clause-workers : goal.beside-requires-clause-workers
beside-requires-clause-workers g c = λ κs lives.
    let view = view_of g.H.Shelf.tells g.H.Shelf.contents g.H.Shelf.faults in
    let t = c.args.trace.now in
    let from = c.args.from in
    let to = c.args.to in
    let W = c.args.workers in
    let planes = c.args.planes.now in
    let a0 = c.args.agents.now in
    let s = c.args.state.now in
    let was = view c.args.shelf.now in
    let g0 = c.args.given.now.items in
    let L = c.requires.lines in
    let a1 = c.deal_all.new.agents in
    let j1 = c.deal_out.new.jobs in
    let j2 = c.deal_all.new.jobs in
    let out = c.in_ok-deal_out.ensures in
    let dealt = c.in_ok-deal_all.ensures in
    let long1 = out.passes.many ∙ c.requires.jobs.many in
    workers_ready t from to W planes c.requires.sound c.requires.is a0 j1 j2 (c.requires.beside.count ∙ c.requires.ready.2.count_is) c.requires.beside.count out.shares dealt.passes

pub beside-requires-clause-ready : goal.beside-requires-clause-ready
beside-requires-clause-ready g c = λ κs lives.
    let view = view_of g.H.Shelf.tells g.H.Shelf.contents g.H.Shelf.faults in
    let t = c.args.trace.now in
    let from = c.args.from in
    let to = c.args.to in
    let W = c.args.workers in
    let planes = c.args.planes.now in
    let a0 = c.args.agents.now in
    let s = c.args.state.now in
    let was = view c.args.shelf.now in
    let g0 = c.args.given.now.items in
    let L = c.requires.lines in
    let a1 = c.deal_all.new.agents in
    let j1 = c.deal_out.new.jobs in
    let j2 = c.deal_all.new.jobs in
    let out = c.in_ok-deal_out.ensures in
    let dealt = c.in_ok-deal_all.ensures in
    let long1 = out.passes.many ∙ c.requires.jobs.many in
    let P : List Line → Type 0 = λ ls. IsAtLine besides reads t ls 0 a1 s.clock g0 was in
    subst P (sym L) (operator_ready t from to W planes c.requires.sound c.requires.is a0 a1 s was c.requires.ready dealt.dealt c.requires.beside.count g0 c.requires.given)

pub gather_all-requires-clause-ready : goal.gather_all-requires-clause-ready
gather_all-requires-clause-ready g c =
    let view = view_of g.H.Shelf.tells g.H.Shelf.contents g.H.Shelf.faults in
    let t = c.args.trace.now in
    let from = c.args.from in
    let to = c.args.to in
    let W = c.args.workers in
    let planes = c.args.planes.now in
    let a0 = c.args.agents.now in
    let s = c.args.state.now in
    let was = view c.args.shelf.now in
    let g0 = c.args.given.now.items in
    let L = c.requires.lines in
    let a1 = c.deal_all.new.agents in
    let j1 = c.deal_out.new.jobs in
    let j2 = c.deal_all.new.jobs in
    let out = c.in_ok-deal_out.ensures in
    let dealt = c.in_ok-deal_all.ensures in
    let long1 = out.passes.many ∙ c.requires.jobs.many in
    let a2 = c.beside.new.agents in
    let j3 = c.beside.new.jobs in
    let g1 = c.beside.new.given.items in
    let now = view c.beside.new.shelf in
    let e = c.in_ok-beside.ensures in
    let Q : List Line → Type 0 = λ ls. OperatesFrom besides reads t ls 0 (length ls) a1 a2 s.clock g0 g1 was now in
    let operates = subst Q L e.operates in
    may_gather_now t from to W planes a0 a1 a2 j1 j2 j3 s was now g0 g1 c.requires.sound c.requires.is c.requires.some long1 c.requires.beside.count c.requires.given out.shares dealt.dealt dealt.passes e.workers operates c.requires.ready.0 c.requires.ready.1 c.requires.ready.2 c.requires.ready.3

pub add_rows-requires-clause-pages : goal.add_rows-requires-clause-pages
add_rows-requires-clause-pages g c =
    let view = view_of g.H.Shelf.tells g.H.Shelf.contents g.H.Shelf.faults in
    let t = c.args.trace.now in
    let from = c.args.from in
    let to = c.args.to in
    let W = c.args.workers in
    let planes = c.args.planes.now in
    let a0 = c.args.agents.now in
    let s = c.args.state.now in
    let was = view c.args.shelf.now in
    let g0 = c.args.given.now.items in
    let L = c.requires.lines in
    let a1 = c.deal_all.new.agents in
    let j1 = c.deal_out.new.jobs in
    let j2 = c.deal_all.new.jobs in
    let out = c.in_ok-deal_out.ensures in
    let dealt = c.in_ok-deal_all.ensures in
    let long1 = out.passes.many ∙ c.requires.jobs.many in
    let a2 = c.beside.new.agents in
    let j3 = c.beside.new.jobs in
    let g1 = c.beside.new.given.items in
    let now = view c.beside.new.shelf in
    let e = c.in_ok-beside.ensures in
    let Q : List Line → Type 0 = λ ls. OperatesFrom besides reads t ls 0 (length ls) a1 a2 s.clock g0 g1 was now in
    let operates = subst Q L e.operates in
    let a3 = c.gather_all.new.agents in
    let j4 = c.gather_all.new.jobs in
    let back = c.gather_all.ensures in
    let P : List Line → Type 0 = λ ls. HavePagesFor ls j4 in
    subst P (sym L) (pages_now t from to W planes a0 a1 a2 j1 j2 j3 s was now g0 g1 c.requires.sound c.requires.is c.requires.some long1 c.requires.beside.count c.requires.given out.shares dealt.dealt dealt.passes e.workers operates c.requires.ready.0 c.requires.ready.1 c.requires.ready.2 c.requires.ready.3 a3 j4 back.gathered back.jobs c.entries_exist.ensures)

pub add_rows-requires-clause-ready : goal.add_rows-requires-clause-ready
add_rows-requires-clause-ready g c =
    let view = view_of g.H.Shelf.tells g.H.Shelf.contents g.H.Shelf.faults in
    let t = c.args.trace.now in
    let from = c.args.from in
    let to = c.args.to in
    let W = c.args.workers in
    let planes = c.args.planes.now in
    let a0 = c.args.agents.now in
    let s = c.args.state.now in
    let was = view c.args.shelf.now in
    let g0 = c.args.given.now.items in
    let L = c.requires.lines in
    let a1 = c.deal_all.new.agents in
    let j1 = c.deal_out.new.jobs in
    let j2 = c.deal_all.new.jobs in
    let out = c.in_ok-deal_out.ensures in
    let dealt = c.in_ok-deal_all.ensures in
    let long1 = out.passes.many ∙ c.requires.jobs.many in
    let a2 = c.beside.new.agents in
    let j3 = c.beside.new.jobs in
    let g1 = c.beside.new.given.items in
    let now = view c.beside.new.shelf in
    let e = c.in_ok-beside.ensures in
    let Q : List Line → Type 0 = λ ls. OperatesFrom besides reads t ls 0 (length ls) a1 a2 s.clock g0 g1 was now in
    let operates = subst Q L e.operates in
    let a3 = c.gather_all.new.agents in
    let j4 = c.gather_all.new.jobs in
    let back = c.gather_all.ensures in
    let P : List Line → Type 0 = λ ls. (rules : RouterRules) × (ls2 : ℕ → Ledger) × (us : ℕ → Unfinished) × MayAddRows StandsFor rules ls2 us (receipts_for t ls j4) a3 in
    subst P (sym L) (may_add_rows t from to W planes a0 a1 a2 j1 j2 j3 s was now g0 g1 c.requires.sound c.requires.is c.requires.some long1 c.requires.beside.count c.requires.given out.shares dealt.dealt dealt.passes e.workers operates c.requires.ready.0 c.requires.ready.1 c.requires.ready.2 c.requires.ready.3 a3 j4 back.gathered back.jobs c.entries_exist.ensures)

pub answer_all-requires-clause-pages : goal.answer_all-requires-clause-pages
answer_all-requires-clause-pages g c =
    let view = view_of g.H.Shelf.tells g.H.Shelf.contents g.H.Shelf.faults in
    let t = c.args.trace.now in
    let from = c.args.from in
    let to = c.args.to in
    let W = c.args.workers in
    let planes = c.args.planes.now in
    let a0 = c.args.agents.now in
    let s = c.args.state.now in
    let was = view c.args.shelf.now in
    let g0 = c.args.given.now.items in
    let L = c.requires.lines in
    let a1 = c.deal_all.new.agents in
    let j1 = c.deal_out.new.jobs in
    let j2 = c.deal_all.new.jobs in
    let out = c.in_ok-deal_out.ensures in
    let dealt = c.in_ok-deal_all.ensures in
    let long1 = out.passes.many ∙ c.requires.jobs.many in
    let a2 = c.beside.new.agents in
    let j3 = c.beside.new.jobs in
    let g1 = c.beside.new.given.items in
    let now = view c.beside.new.shelf in
    let e = c.in_ok-beside.ensures in
    let Q : List Line → Type 0 = λ ls. OperatesFrom besides reads t ls 0 (length ls) a1 a2 s.clock g0 g1 was now in
    let operates = subst Q L e.operates in
    let a3 = c.gather_all.new.agents in
    let j4 = c.gather_all.new.jobs in
    let back = c.gather_all.ensures in
    let P : List Line → Type 0 = λ ls. HavePagesFor ls j4 in
    subst P (sym L) (pages_now t from to W planes a0 a1 a2 j1 j2 j3 s was now g0 g1 c.requires.sound c.requires.is c.requires.some long1 c.requires.beside.count c.requires.given out.shares dealt.dealt dealt.passes e.workers operates c.requires.ready.0 c.requires.ready.1 c.requires.ready.2 c.requires.ready.3 a3 j4 back.gathered back.jobs c.entries_exist.ensures)

pub answer_all-requires-clause-given : goal.answer_all-requires-clause-given
answer_all-requires-clause-given g c =
    let view = view_of g.H.Shelf.tells g.H.Shelf.contents g.H.Shelf.faults in
    let t = c.args.trace.now in
    let from = c.args.from in
    let to = c.args.to in
    let W = c.args.workers in
    let planes = c.args.planes.now in
    let a0 = c.args.agents.now in
    let s = c.args.state.now in
    let was = view c.args.shelf.now in
    let g0 = c.args.given.now.items in
    let L = c.requires.lines in
    let a1 = c.deal_all.new.agents in
    let j1 = c.deal_out.new.jobs in
    let j2 = c.deal_all.new.jobs in
    let out = c.in_ok-deal_out.ensures in
    let dealt = c.in_ok-deal_all.ensures in
    let long1 = out.passes.many ∙ c.requires.jobs.many in
    let a2 = c.beside.new.agents in
    let j3 = c.beside.new.jobs in
    let g1 = c.beside.new.given.items in
    let now = view c.beside.new.shelf in
    let e = c.in_ok-beside.ensures in
    let Q : List Line → Type 0 = λ ls. OperatesFrom besides reads t ls 0 (length ls) a1 a2 s.clock g0 g1 was now in
    let operates = subst Q L e.operates in
    ap (λ (xs : List Answer). length xs) c.deref.ensures.value ∙ given_long t from to W planes a0 a1 a2 j1 j2 j3 s was now g0 g1 c.requires.sound c.requires.is c.requires.some long1 c.requires.beside.count c.requires.given out.shares dealt.dealt dealt.passes e.workers operates c.requires.ready.0 c.requires.ready.1 c.requires.ready.2 c.requires.ready.3 ∙ ap (λ (ls : List Line). length (operations ls)) (sym L)

pub returns-clause-does : goal.returns-clause-does
returns-clause-does g c = λ start history old fit.
    let view = view_of g.H.Shelf.tells g.H.Shelf.contents g.H.Shelf.faults in
    let t = c.args.trace.now in
    let from = c.args.from in
    let to = c.args.to in
    let W = c.args.workers in
    let planes = c.args.planes.now in
    let a0 = c.args.agents.now in
    let s = c.args.state.now in
    let was = view c.args.shelf.now in
    let g0 = c.args.given.now.items in
    let L = c.requires.lines in
    let a1 = c.deal_all.new.agents in
    let j1 = c.deal_out.new.jobs in
    let j2 = c.deal_all.new.jobs in
    let out = c.in_ok-deal_out.ensures in
    let dealt = c.in_ok-deal_all.ensures in
    let long1 = out.passes.many ∙ c.requires.jobs.many in
    let a2 = c.beside.new.agents in
    let j3 = c.beside.new.jobs in
    let g1 = c.beside.new.given.items in
    let now = view c.beside.new.shelf in
    let e = c.in_ok-beside.ensures in
    let Q : List Line → Type 0 = λ ls. OperatesFrom besides reads t ls 0 (length ls) a1 a2 s.clock g0 g1 was now in
    let operates = subst Q L e.operates in
    let a3 = c.gather_all.new.agents in
    let j4 = c.gather_all.new.jobs in
    let back = c.gather_all.ensures in
    let a4 = c.add_rows.new.agents in
    let R : List Line → Type 0 = λ ls. AddsRows StandsFor (receipts_for t ls j4) a3 a4 in
    let answers = c.in_ok-answer_all.ensures ∙ ap (λ (ls : List Line). s.answers.items ++ all_answers ls j4 c.deref.result.now) L ∙ ap (λ (xs : List Answer). s.answers.items ++ all_answers (lines_between t.lines from to) j4 xs) c.deref.ensures.value in
    done t from to W planes a0 a1 a2 j1 j2 j3 s was now g0 g1 c.requires.sound c.requires.is c.requires.some long1 c.requires.beside.count c.requires.given out.shares dealt.dealt dealt.passes e.workers operates start history old fit a3 j4 back.gathered back.jobs c.entries_exist.ensures a4 _ (subst R L c.in_ok-add_rows.ensures.rows) dealt.entries e.entries c.in_ok-add_rows.ensures.entries refl refl refl refl answers
