use Rattle.gate_core.specs.Moves.{first_plane}
use Rattle.gate_core.proofs.Every.{acts_keep}
use Rattle.gate_core.proofs.Runs.{run_keeps, starts_fresh}
use Rattle.gate_core.proofs.laws.runs_keep_the_invariant.Goals as goal

pub returns : goal.returns
returns c = record {
  act_kept = λ shape plane place v w a i n r at alive k. acts_keep shape plane.words plane.views r place v at alive a i n w k;
  kept = λ shape plane end moves r run. run_keeps shape plane moves end r run;
  at_start = λ shape words fresh. starts_fresh shape words fresh;
  always = λ shape words moves end fresh run. run_keeps shape (first_plane words) moves end (starts_fresh shape words fresh) run;
}
