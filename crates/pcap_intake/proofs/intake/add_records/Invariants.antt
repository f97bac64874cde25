use Rattle.std.proofs.Common.{length, drop}
use Rattle.pcap_intake.specs.Steps.{IsReached}
use Rattle.pcap_intake.proofs.intake.add_records.Given as goal

abbrev pub invariant-records : goal.invariant-records
invariant-records l = IsReached l.kind l.plan.name.now l.plan.first l.plan.skip (drop 24 l.bytes) l.rest l.written l.counts

abbrev pub decreases-records : goal.decreases-records
decreases-records l = length l.rest
