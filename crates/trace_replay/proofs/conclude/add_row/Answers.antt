use Rattle.std.proofs.Common.{refl}
use Rattle.data_agent.specs.Standing.{StandsFor}
use Rattle.trace_replay.proofs.RowsAdded.{forward_adds}
use Rattle.trace_replay.proofs.conclude.add_row.Goals as goal

pub returns-in_default : goal.returns-in_default
returns-in_default c = record {
  beside = λ planes so. so;
  entries = λ r d. refl;
  row = forward_adds StandsFor c.args.trace.now c.args.line.now c.args.page.number c.args.agents.now c.requires.recording (λ router kind old new e. c.in_default.not-Xf router kind old new e);
}
