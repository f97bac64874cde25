use Rattle.std.proofs.Common.{◌≡◌, length, vec_len, vec_capacity}
use Rattle.gate_core.specs.Start.{start_of}
use Rattle.gate_core.proofs.PlayFacts.{Along}
use Rattle.gate_core.proofs.playing.play.Given as goal

abbrev pub invariant-loop-step : goal.invariant-loop-step
invariant-loop-step l = record {
  along : Along record (start_of l.fn.shape l.passes) { room = length l.steps } l.fn.shape l.passes l.steps l.step-index l.state l.answers.items;
  place : vec_len l.answers ≡ l.step-index;
  capacity : vec_capacity l.answers ≡ length l.steps;
}
