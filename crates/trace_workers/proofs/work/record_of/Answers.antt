use Rattle.std.proofs.Common.{◌<◌, length, ap, arith}
use Rattle.trace_history.specs.Routers.{count}
use Rattle.trace_workers.proofs.work.record_of.Goals as goal

pub bounds-items-target : goal.bounds-items-target
bounds-items-target c = let n = c.target_of-target.ensures.named (count c.args.trace.now) (length c.args.trace.now.sigs) c.requires.named in let small : c.target_of-target.result.packet < length c.args.trace.now.sigs = n.1 in
    let e = ap length c.items.ensures in omega (arith, small, e)

pub returns-clause-within : goal.returns-clause-within
returns-clause-within c = (c.target_of-target.ensures.named (count c.args.trace.now) (length c.args.trace.now.sigs) c.requires.named).0
