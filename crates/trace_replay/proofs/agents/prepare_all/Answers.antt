use Rattle.std.proofs.Common.{arith}
use Rattle.data_agent.specs.Planes.{IsPrepared, entries_of}
use Rattle.data_agent.specs.Standing.{StandsFor}
use Rattle.trace_replay.proofs.Beside.{own_at, beside_at}
use Rattle.trace_replay.proofs.Preparing.{each_set, entries_all, entries_set, kept_all, kept_set, kept_standing}
use Rattle.trace_replay.proofs.agents.prepare_all.Goals as goal

pub loop-router-init : goal.loop-router-init
loop-router-init c = record {
  beside = c.requires.beside;
  prepared = λ r a l. absurd (omega (arith, l));
  same = kept_all StandsFor c.args.agents.now;
  entries = entries_all entries_of c.args.agents.now;
}

pub prepare-requires-clause-own : goal.prepare-requires-clause-own
prepare-requires-clause-own c =
    let n = c.loop-router.invariant.same.count in
    own_at c.args.planes.now c.loop-router.agents c.loop-router.router c.index-planes-router.result c.index-agents-router.result c.loop-router.invariant.beside (omega (arith, n)) c.index-planes-router.is

pub prepare-requires-clause-stands : goal.prepare-requires-clause-stands
prepare-requires-clause-stands c =
    let i = c.loop-router.router in
    let n = c.loop-router.invariant.same.count in
    kept_standing StandsFor c.args.agents.now c.loop-router.agents i c.index-agents-router.result (omega (arith, n)) c.loop-router.invariant.same (c.requires.stands i c.index-agents-router.result (omega (arith, n)))

pub loop-router-preserved : goal.loop-router-preserved
loop-router-preserved c =
    let i = c.loop-router.router in
    let d = c.index-agents-router.result in
    let new = c.prepare.new.self in
    let so = c.loop-router.invariant in
    let n = so.same.count in
    let e = c.in_ok-prepare.ensures in
    record {
      beside = beside_at c.args.planes.now c.loop-router.agents i c.index-planes-router.result new so.beside (omega (arith, n)) c.index-planes-router.is e.own;
      prepared = each_set IsPrepared c.loop-router.agents new i (omega (arith, n)) so.prepared e.prepared;
      same = kept_set StandsFor c.args.agents.now c.loop-router.agents i d new (omega (arith, n)) so.same e.same;
      entries = entries_set entries_of c.args.agents.now c.loop-router.agents i d new (omega (arith, n)) so.entries e.entries;
    }
