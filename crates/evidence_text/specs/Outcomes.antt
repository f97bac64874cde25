-- What a part of the reading gives: the answers of `line_text`, with the rules and faults of a certificate.
use Rattle.std.specs.Prelude.{ℕ, Result}
use Rattle.std.specs.declared.option.Option.{Option}
use Rattle.std.specs.declared.option.Option.TheVariants.{None, Some}
use Rattle.line_text.specs.Answers as answers
use Rattle.evidence_text.specs.declared.refused.CheckFault.{CheckFault}
use Rattle.evidence_text.specs.declared.refused.CheckRefused.{CheckRefused}
use Rattle.evidence_text.specs.declared.refused.CheckRefused.TheVariants as ends
use Rattle.evidence_text.specs.declared.refused.CheckWhy.{CheckWhy}
use Rattle.evidence_text.specs.declared.stops.Stop.{Stop}
use Rattle.evidence_text.specs.declared.stops.Stop.TheVariants as stop

-- the rule of a stop, where memory was not refused
abbrev pub rule_in : Stop → Option CheckWhy
rule_in stop.NoMemory = None
rule_in (stop.Rule why) = Some why

-- the fault of a refusal, where memory was not refused
abbrev pub fault_in : CheckRefused → Option CheckFault
fault_in ends.NoMemory = None
fault_in (ends.Refused fault) = Some fault

-- what was returned of a line
abbrev pub Gives : {X Y : Type 0} → (X → Y) → Result X Stop → Result Y CheckWhy → Type 0
Gives view result read = answers.Gives rule_in view result read

abbrev pub Ends : {Y : Type 0} → CheckRefused → Result Y CheckFault → Type 0
Ends e read = answers.Fails (fault_in e) read

-- what was returned of a whole text
abbrev pub Reads : {X Y : Type 0} → (X → Y) → Result X CheckRefused → Result Y CheckFault → Type 0
Reads view result read = answers.Gives fault_in view result read

-- this value, or a refusal with this fault, unless memory was refused
abbrev pub IsReadAs : {X : Type 0} → Result X CheckRefused → Result X CheckFault → Type 0
IsReadAs result wanted = answers.IsReadAs fault_in result wanted

-- where it is a refusal, its fault is one of these
abbrev pub RefusedWith : {X : Type 0} → Result X CheckRefused → (CheckFault → Type 0) → Type 0
RefusedWith result P = answers.RefusedWith fault_in result P

-- a line's stop, as the whole text's
abbrev pub stopped : Stop → ℕ → CheckRefused
stopped stop.NoMemory line = ends.NoMemory
stopped (stop.Rule why) line = ends.Refused (record { line = line; why = why })
