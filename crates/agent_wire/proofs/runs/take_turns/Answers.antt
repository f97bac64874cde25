use Rattle.std.proofs.Common.{arith}
use Rattle.agent_wire.proofs.ScheduleFacts.{keeps_none, keeps_then, state_more, turns_more, turns_none, word_at}
use Rattle.agent_wire.proofs.runs.take_turns.Goals as goal

pub loop-turn-init : goal.loop-turn-init
loop-turn-init g c = record {
  generator = c.seed_from_u64-generator.ensures.same;
  turned = turns_none _ _ _ _;
  kept = keeps_none _ _ _;
  few = omega arith;
}

pub loop-turn-preserved : goal.loop-turn-preserved
loop-turn-preserved g c =
    let inv = c.loop-turn.invariant in
    let few = inv.few in
    let counted = c.in_ok-repeated.ensures.few in
    record {
      generator = state_more c.args.seed c.loop-turn._turn _ _ c.next_word-word.ensures.after inv.generator;
      turned = turns_more _ _ _ _ _ _ _ _ _ _ _ inv.turned (word_at c.args.seed c.loop-turn._turn _ _ c.next_word-word.ensures.word inv.generator) c.event_of-event.ensures c.in_ok-repeated.ensures.counted;
      kept = keeps_then _ _ _ _ _ inv.kept c.in_ok-repeated.ensures.kept;
      few = omega (arith, few, counted);
    }
