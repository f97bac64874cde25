use Rattle.gate_core.proofs.PlayFacts.{step_grows, play_grows}
use Rattle.gate_core.proofs.laws.entries_stay.Goals as goal

pub returns : goal.returns
returns c = record {
  step = λ before after place act reply step. step_grows before place act after reply step;
  steps = λ before after steps replies played. play_grows before steps after replies played;
}
