use Rattle.std.proofs.Common.{ℕ, ◌≡◌, ◌<◌, ◌+◌, ◌-◌, ◌∙◌, length, get_or, take, sym, ap, refl, subst, arith}
use Rattle.page_gate.specs.Held.{PlaneId}
use Rattle.trace_replay.specs.Dealt.{MayGather}
use Rattle.trace_replay.proofs.Beside.{beside_at}
use Rattle.trace_replay.proofs.TakenMore.{may_gather, column_there, columns_left, taken_more}
use Rattle.trace_replay.proofs.passes.gather_all.Goals as goal

pub gather_one-requires-clause-ready : goal.gather_one-requires-clause-ready
gather_one-requires-clause-ready c =
    let planes = c.args.planes.now in
    let n = length planes in
    let done = c.loop-done.done in
    let t = c.loop-done-test.true in
    let m = (n - 1) - done in
    let x = c.index-agents-router.result in
    let p = c.index-planes-router.result in
    let P : PlaneId → Type 0 = λ q. MayGather q (get_or c.loop-done.agents m x) c.loop-done.jobs in
    subst P (sym c.index-planes-router.is)
    (may_gather planes n m done c.args.jobs.now c.loop-done.jobs c.args.agents.now c.loop-done.agents c.requires.ready c.requires.beside.count c.loop-done.invariant.taken refl (omega (arith, t)) x p)

pub gather_one-requires-clause-column : goal.gather_one-requires-clause-column
gather_one-requires-clause-column c =
    let planes = c.args.planes.now in
    let n = length planes in
    let done = c.loop-done.done in
    let t = c.loop-done-test.true in
    let m = (n - 1) - done in
    column_there planes n m done c.args.jobs.now c.loop-done.jobs c.args.agents.now c.loop-done.agents c.requires.ready c.requires.beside.count c.loop-done.invariant.taken refl (omega (arith, t)) c.loop-done.columns.items c.loop-done.invariant.columns

pub loop-done-preserved : goal.loop-done-preserved
loop-done-preserved c =
    let planes = c.args.planes.now in
    let n = length planes in
    let done = c.loop-done.done in
    let t = c.loop-done-test.true in
    let m = (n - 1) - done in
    let m_is : n ≡ m + 1 + done = omega (arith, t) in
    let x = c.index-agents-router.result in
    let p = c.index-planes-router.result in
    let inv = c.loop-done.invariant in
    let e = c.gather_one.ensures in
    let same = inv.taken.same in
    let count = c.requires.beside.count in
    let within : m < length c.loop-done.agents = omega (arith, m_is, same, count) in
    record {
      beside = beside_at planes c.loop-done.agents m p c.gather_one.new.agent inv.beside within c.index-planes-router.is e.own;
      taken = taken_more planes n m done c.args.jobs.now c.loop-done.jobs c.args.agents.now c.loop-done.agents c.requires.ready count inv.taken refl m_is x c.gather_one.new.agent c.gather_one.new.jobs e.gathered.0 e.gathered.1 e.gathered.2;
      columns = columns_left planes n m done c.args.jobs.now c.loop-done.jobs c.args.agents.now c.loop-done.agents c.requires.ready count inv.taken refl m_is c.loop-done.columns.items c.gather_one.new.columns.items inv.columns e.columns;
    }

pub returns-clause-gathered : goal.returns-clause-gathered
returns-clause-gathered c =
    let t = c.loop-done-test.false in
    let inv = c.loop-done.invariant.taken in
    let count = c.requires.beside.count in
    let ended = c.loop-done.auto.done-end in
    record {
      same = inv.same;
      each = λ r a p l. inv.each r a p (omega (arith, t, l, count, ended)) (omega (arith, l, count));
    }

pub returns-clause-jobs : goal.returns-clause-jobs
returns-clause-jobs c =
    let t = c.loop-done-test.false in
    let inv = c.loop-done.invariant.taken in
    let ended = c.loop-done.auto.done-end in
    let none : length c.args.planes.now - c.loop-done.done ≡ 0 = omega (arith, t, ended) in
    record {
      many = inv.many;
      each = λ w d l.
          let had = inv.passes w d l in
          record { passes_are = had.passes_are ∙ ap (λ (k : ℕ). take k (get_or c.args.jobs.now w d).passes.items) none; room = had.room; places = had.places; pages = had.pages };
    }
