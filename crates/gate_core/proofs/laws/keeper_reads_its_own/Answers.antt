use Rattle.gate_core.proofs.Readings.{looks_at_pointed, gate_met, bit_met}
use Rattle.gate_core.proofs.laws.keeper_reads_its_own.Goals as goal

pub returns : goal.returns
returns c = λ shape v role. record {
  pointed = looks_at_pointed shape v role;
  gate = λ s n m near. gate_met shape v role s n m near;
  bit = bit_met shape v role;
}
