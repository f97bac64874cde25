-- A line's stop is the whole text's.
use Rattle.std.proofs.Common.{ℕ, ◌≡◌, Result, Err}
use Rattle.evidence_text.specs.Outcomes.{rule_in, Ends, stopped}
use Rattle.line_text.specs.Answers.{Fails}
use Rattle.evidence_text.specs.declared.refused.CheckFault.{CheckFault}
use Rattle.evidence_text.specs.declared.refused.CheckWhy.{CheckWhy}
use Rattle.evidence_text.specs.declared.stops.Stop.{Stop}
use Rattle.evidence_text.specs.declared.stops.Stop.TheVariants as stop

pub stops : {X Y : Type 0} (e : Stop) (line : ℕ) (part : Result X CheckWhy) (whole : Result Y CheckFault) → Fails (rule_in e) part → ((why : CheckWhy) → part ≡ Err why → whole ≡ Err (record { line = line; why = why })) → Ends (stopped e line) whole
stops stop.NoMemory line part whole fails more = tt
stops (stop.Rule why) line part whole fails more = more why fails
