use Rattle.std.proofs.Common.{arith}
use Rattle.agent_wire.proofs.ScheduleFacts.{keeps_none, keeps_then, rounds_more, rounds_none}
use Rattle.agent_wire.proofs.runs.finish.Goals as goal

pub loop-round-init : goal.loop-round-init
loop-round-init g c = record { asked = rounds_none _ _ _ _; kept = keeps_none _ _ _; few = omega arith }

pub loop-round-preserved : goal.loop-round-preserved
loop-round-preserved g c =
    let inv = c.loop-round.invariant in
    let few = inv.few in
    let counted = c.in_ok-counted-in-Err-Pending.ensures.few in
    record {
      asked = rounds_more _ _ _ _ _ _ _ _ _ inv.asked c.in_ok-counted-in-Err-Pending.ensures.round;
      kept = keeps_then _ _ _ _ _ inv.kept c.in_ok-counted-in-Err-Pending.ensures.kept;
      few = omega (arith, few, counted);
    }
