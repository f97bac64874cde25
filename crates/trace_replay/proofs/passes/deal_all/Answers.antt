use Rattle.std.proofs.Common.{◌<◌, ◌∙◌, get_or, length, sym, ap, subst, arith}
use Rattle.data_agent.specs.declared.Agent.{Agent}
use Rattle.data_agent.specs.Planes.{entries_of}
use Rattle.data_agent.specs.Standing.{StandsFor}
use Rattle.page_gate.specs.Held.{PlaneId}
use Rattle.data_agent.specs.Beside.{fresh_pass}
use Rattle.trace_replay.specs.Yards.{IsStanding}
use Rattle.trace_replay.proofs.Beside.{beside_at}
use Rattle.trace_replay.proofs.DealtMore.{keep_more, next_same, dealt_more, fresh_length, fresh_at, fresh_more, columns_more}
use Rattle.trace_replay.proofs.passes.deal_all.Goals as goal

pub deal_one-requires-clause-stands : goal.deal_one-requires-clause-stands
deal_one-requires-clause-stands c =
    let i = c.loop-router.router in
    let x = c.index-agents-router.result in
    let so = c.loop-router.invariant.dealt in
    let n = c.requires.beside.count in
    let m = so.same in
    let t = c.loop-router-test.true in
    let within : i < length c.loop-router.agents = omega (arith, n, m, t) in
    let P : Agent → Type 0 = λ a. IsStanding StandsFor a in
    subst P (sym (next_same c.args.workers i c.args.agents.now c.loop-router.agents x x so within x)) (c.requires.stands i x (omega (arith, n, t)))

pub loop-router-preserved : goal.loop-router-preserved
loop-router-preserved c =
    let i = c.loop-router.router in
    let x = c.index-agents-router.result in
    let p = c.index-planes-router.result in
    let old = c.args.agents.now in
    let mid = c.loop-router.agents in
    let new = c.deal_one.new.agent in
    let inv = c.loop-router.invariant in
    let n = c.requires.beside.count in
    let m = inv.dealt.same in
    let t = c.loop-router-test.true in
    let within : i < length mid = omega (arith, n, m, t) in
    let e = c.in_ok-deal_one.ensures in
    let L = fresh_length c.args.planes.now old n in
    let pass = fresh_pass p (get_or mid i x) in
    let at = fresh_at c.args.planes.now old i p x pass n t in
    let is = at ∙ ap (λ (q : PlaneId). fresh_pass q (get_or old i x)) (sym c.index-planes-router.is) ∙ ap (λ (a : Agent). fresh_pass p a) (sym (next_same c.args.workers i old mid x new inv.dealt within x)) in
    record {
      beside = beside_at c.args.planes.now mid i p new inv.beside within c.index-planes-router.is e.own;
      entries = keep_more entries_of old mid i x new within e.entries inv.entries;
      dealt = dealt_more c.args.workers i old mid x new inv.dealt within e.dealt;
      passes = fresh_more i c.args.planes.now old c.args.jobs.now c.loop-router.jobs c.deal_one.new.jobs pass (omega (arith, L, t)) is inv.passes e.got;
      columns = columns_more c.args.workers i c.loop-router.columns.items c.deal_one.new.columns.items inv.columns e.column;
    }
