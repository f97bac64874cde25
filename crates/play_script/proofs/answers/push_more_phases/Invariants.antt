use Rattle.std.proofs.Common.{◌≡◌, ◌++◌, ◌∷◌, take}
use Rattle.std.specs.List.{flat_map}
use Rattle.play_script.specs.Report.{phase_text}
use Rattle.play_script.proofs.answers.push_more_phases.Given as goal

abbrev pub invariant-loop-phase : goal.invariant-loop-phase
invariant-loop-phase l = l.out.items ≡ l.fn.out.items ++ flat_map (λ phase. 44 ∷ phase_text phase) (take l.phase-index l.phases)
