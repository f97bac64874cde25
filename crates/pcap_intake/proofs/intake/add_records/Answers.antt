use Rattle.std.proofs.Common.{length, drop, ◌-◌, arith}
use Rattle.std.proofs.lemmas.List.{take_all, length-drop}
use Rattle.pcap_intake.proofs.Counting.{at_start, can_rise, reached_more}
use Rattle.pcap_intake.proofs.intake.add_records.Goals as goal

pub records-init : goal.records-init
records-init c = at_start _ _ _ _ _ _ _ (take_all (length c.args.bytes.now - 24) (drop 24 c.args.bytes.now) (omega (arith, length-drop 24 c.args.bytes.now))) c.new-written.ensures

pub add_record-requires-clause-rise : goal.add_record-requires-clause-rise
add_record-requires-clause-rise c = can_rise _ _ _ _ _ _ _ _ c.records.invariant (omega (arith, length-drop 24 c.args.bytes.now))

pub records-preserved : goal.records-preserved
records-preserved c = reached_more _ _ _ _ _ _ _ _ _ _ _ _ _ _ c.records.invariant c.in-Some.ensures.next c.in_ok-add_record.ensures
