use Rattle.std.proofs.Common.{arith}
use Rattle.trace_replay.proofs.Sighted.{found}
use Rattle.trace_replay.proofs.sights.find_query.Goals as goal

pub unreachable-requires : goal.unreachable-requires
unreachable-requires c = found c.args.lines.now c.args.number c.requires (λ j l. let e = c.loop-place-test.false in c.loop-place.invariant j (omega (arith, l, e)))
