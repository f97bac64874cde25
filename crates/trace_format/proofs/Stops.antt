-- A line's stop is the whole text's.
use Rattle.std.proofs.Common.{ℕ, ◌≡◌, Result, Err}
use Rattle.trace_format.specs.Outcomes.{Fails, Ends, stopped}
use Rattle.trace_format.specs.declared.refused.TraceRefused.{TraceRefused}
use Rattle.trace_format.specs.declared.refused.WhyRefused.{WhyRefused}
use Rattle.trace_format.specs.declared.steps.Stop.{Stop}
use Rattle.trace_format.specs.declared.steps.Stop.TheVariants as stop

pub stops : {X Y : Type 0} (e : Stop) (line : ℕ) (part : Result X WhyRefused) (whole : Result Y TraceRefused) → Fails e part → ((why : WhyRefused) → part ≡ Err why → whole ≡ Err (record { line = line; why = why })) → Ends (stopped e line) whole
stops stop.NoMemory line part whole fails more = tt
stops (stop.Rule why) line part whole fails more = more why fails
