use Rattle.std.proofs.Common.{subst, arith}
use Rattle.archive_record.specs.declared.stop.Stop.{Stop}
use Rattle.archive_record.specs.Reading.{Stops, whole_at}
use Rattle.archive_record.proofs.RecordFacts.{whole_takes, is_one, is_none}
use Rattle.archive_record.proofs.Shrinking.{stops_within}
use Rattle.archive_record.proofs.reading.decode.Goals as goal

pub returns-in-Ok-clause-read : goal.returns-in-Ok-clause-read
returns-in-Ok-clause-read c = (whole_takes c.args.bytes.now c.in-Ok.record (λ i. omega (arith, c.type_inv.bytes i)) c.in-Ok.ensures).0

pub returns-in-Ok-clause-found : goal.returns-in-Ok-clause-found
returns-in-Ok-clause-found c = λ value plain is. is_one c.args.bytes.now c.in-Ok.record value c.in-Ok.ensures plain is

pub returns-in-Err-At-clause-found : goal.returns-in-Err-At-clause-found
returns-in-Err-At-clause-found c = λ value plain is. absurd (is_none c.args.bytes.now c.in-Err-At.left value (subst (λ (stop : Stop). Stops stop (whole_at c.args.bytes.now)) c.in-Err-At.field-0-is c.in-Err-At.ensures) plain is)

pub returns-in-Ok-clause-plain : goal.returns-in-Ok-clause-plain
returns-in-Ok-clause-plain c = (whole_takes c.args.bytes.now c.in-Ok.record (λ i. omega (arith, c.type_inv.bytes i)) c.in-Ok.ensures).1

pub overflow_sub-result : goal.overflow_sub-result
overflow_sub-result c = stops_within c.args.bytes.now c.in-Err-At.left (subst (λ (stop : Stop). Stops stop (whole_at c.args.bytes.now)) c.in-Err-At.field-0-is c.in-Err-At.ensures)
