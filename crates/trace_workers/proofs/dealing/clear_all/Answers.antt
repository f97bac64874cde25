use Rattle.std.proofs.Common.{◌<◌, ◌∙◌, length, length-set, arith}
use Rattle.trace_workers.specs.Dealing.{IsCleared}
use Rattle.trace_workers.proofs.EachJob.{each_more, left_more}
use Rattle.trace_workers.proofs.dealing.clear_all.Goals as goal

pub loop-i-preserved : goal.loop-i-preserved
loop-i-preserved c = let was = c.loop-i.invariant in let i = c.loop-i.i in let jobs = c.loop-i.jobs in let x = c.index-jobs-i.result in let next = c.clear.new.job in let old = c.args.jobs.now in
    let within : i < length jobs = omega (arith, c.loop-i-test.true, c.loop-i.auto.jobs) in record {
      many = length-set jobs i next ∙ was.many;
      done = each_more old jobs i x next within IsCleared was.left was.done c.clear.ensures;
      left = left_more old jobs i x next within was.left;
    }
