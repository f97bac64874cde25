use Rattle.std.proofs.Common.{subst, arith}
use Rattle.wire_message.specs.declared.stop.Stop.{Stop}
use Rattle.wire_message.specs.Reading.{Stops, whole_at}
use Rattle.wire_message.proofs.MessageFacts.{whole_takes, is_one, is_none}
use Rattle.wire_message.proofs.Shrinking.{stops_within}
use Rattle.wire_message.proofs.reading.decode_message.Goals as goal

pub returns-in-Ok-clause-read : goal.returns-in-Ok-clause-read
returns-in-Ok-clause-read c = (whole_takes c.args.bytes.now c.in-Ok.message (λ i. omega (arith, c.type_inv.bytes i)) c.in-Ok.ensures).0

pub returns-in-Ok-clause-found : goal.returns-in-Ok-clause-found
returns-in-Ok-clause-found c = λ value plain is. is_one c.args.bytes.now c.in-Ok.message value c.in-Ok.ensures plain is

pub returns-in-Err-At-clause-found : goal.returns-in-Err-At-clause-found
returns-in-Err-At-clause-found c = λ value plain is. absurd (is_none c.args.bytes.now c.in-Err-At.left value (subst (λ (stop : Stop). Stops stop (whole_at c.args.bytes.now)) c.in-Err-At.field-0-is c.in-Err-At.ensures) plain is)

pub returns-in-Ok-clause-plain : goal.returns-in-Ok-clause-plain
returns-in-Ok-clause-plain c = (whole_takes c.args.bytes.now c.in-Ok.message (λ i. omega (arith, c.type_inv.bytes i)) c.in-Ok.ensures).1

pub overflow_sub-result : goal.overflow_sub-result
overflow_sub-result c = stops_within c.args.bytes.now c.in-Err-At.left (subst (λ (stop : Stop). Stops stop (whole_at c.args.bytes.now)) c.in-Err-At.field-0-is c.in-Err-At.ensures)
