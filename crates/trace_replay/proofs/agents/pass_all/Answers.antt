use Rattle.std.proofs.Common.{sym, subst, ap, length, refl, get_or, set, ◌+◌, List, arith}
use Rattle.data_agent.specs.declared.Barrier.{Barrier}
use Rattle.data_agent.specs.Planes.{entries_of}
use Rattle.data_agent.specs.Standing.{StandsFor}
use Rattle.data_agent.specs.declared.Agent.{Agent}
use Rattle.trace_replay.specs.Agents.{IsReady, PassesUpTo}
use Rattle.router_account.specs.Shelves.{view_of}
use Rattle.trace_replay.proofs.Beside.{own_at, beside_at}
use Rattle.trace_replay.proofs.Preparing.{entries_all, entries_set}
use Rattle.trace_replay.proofs.Passing.{passes_more}
use Rattle.trace_replay.proofs.agents.pass_all.Goals as goal

pub barrier-requires-clause-own : goal.barrier-requires-clause-own
barrier-requires-clause-own g c =
    let n = c.loop-router.invariant.passed.same in
    own_at c.args.planes.now c.loop-router.agents c.loop-router.router c.index-planes-router.result c.index-agents-router.result c.loop-router.invariant.beside (omega (arith, n)) c.index-planes-router.is

pub barrier-requires-clause-ready : goal.barrier-requires-clause-ready
barrier-requires-clause-ready g c =
    let i = c.loop-router.router in
    let x = c.index-agents-router.result in
    let so = c.loop-router.invariant.passed in
    let n = so.same in
    let P = λ (y : Agent). IsReady StandsFor c.args.clock c.args.tick y in
    subst P (sym (so.rest i x (omega arith))) (c.requires.ready i x (omega (arith, n)))

pub loop-router-preserved : goal.loop-router-preserved
loop-router-preserved g c =
    let view = view_of g.H.Shelf.tells g.H.Shelf.contents g.H.Shelf.faults in
    let e = c.in_ok-barrier.ensures in
    let i = c.loop-router.router in
    let x = c.index-agents-router.result in
    let so = c.loop-router.invariant in
    let n = so.passed.same in
    let P = λ (bs : List Barrier). PassesUpTo StandsFor c.args.clock c.args.tick (i + 1) c.args.agents.now (set c.loop-router.agents i c.barrier.new.self) bs (view c.args.shelf.now) (view c.barrier.new.shelf) in
    record {
      beside = beside_at c.args.planes.now c.loop-router.agents i c.index-planes-router.result c.barrier.new.self so.beside (omega (arith, n)) c.index-planes-router.is e.own;
      entries = entries_set entries_of c.args.agents.now c.loop-router.agents i x c.barrier.new.self (omega (arith, n)) so.entries e.entries;
      passed = subst P (sym c.in_ok-push.ensures.items) (passes_more StandsFor c.args.clock c.args.tick i c.args.agents.now c.loop-router.agents c.loop-router.barriers.items
          (get_or c.loop-router.agents i x) x c.barrier.new.self c.in_ok-barrier.barrier (view c.args.shelf.now) (view c.loop-router.shelf) (view c.barrier.new.shelf)
          (omega (arith, n)) refl so.passed e.later e.still e.told e.passed e.paid e.holds e.others e.untouched);
    }

pub loop-router-init : goal.loop-router-init
loop-router-init g c = record {
  beside = c.requires.beside;
  entries = entries_all entries_of c.args.agents.now;
  passed = record {
    count = ap length c.new-barriers.ensures.items;
    same = refl;
    rest = λ r d l. refl;
    later = omega arith;
    still = refl;
    done = λ rules ls us all r d l. absurd (omega (arith, l));
    paid = λ rules ls us all. omega arith;
    holds = λ t rules ls us all held r l. absurd (omega (arith, l));
    others = λ t rules ls us all held r l m. held r m;
    untouched = λ t rules ls us all name apart. refl;
  };
}
