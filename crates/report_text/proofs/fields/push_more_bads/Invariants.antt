use Rattle.std.proofs.Common.{◌≡◌, ◌++◌, ◌∷◌, take}
use Rattle.std.specs.List.{flat_map}
use Rattle.report_text.specs.Report.{bad_one}
use Rattle.report_text.proofs.fields.push_more_bads.Given as goal

abbrev pub invariant-loop-bad : goal.invariant-loop-bad
invariant-loop-bad l = l.out.items ≡ l.fn.out.items ++ flat_map (λ bad. 44 ∷ bad_one bad) (take l.bad-index l.bads)
