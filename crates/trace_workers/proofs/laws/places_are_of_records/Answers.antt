use Rattle.trace_workers.proofs.Segments.{places_are_of_records}
use Rattle.trace_workers.proofs.laws.places_are_of_records.Goals as goal

pub returns : goal.returns
returns c = places_are_of_records
