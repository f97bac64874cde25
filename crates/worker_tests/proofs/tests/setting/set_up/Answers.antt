use Rattle.std.proofs.Common.{◌≡◌, length, sym, subst, arith}
use Rattle.std.proofs.lemmas.List.{with_items_is}
use Rattle.trace_workers.specs.Jobs.{AreReady}
use Rattle.worker_tests.proofs.tests.setting.set_up.Goals as goal

pub returns-clause-ready : goal.returns-clause-ready
returns-clause-ready c = let jobs = c.in_ok-jobs.jobs in let long : length c.fill.new.jobs ≡ jobs.len = omega (arith, c.fill.auto.jobs, c.deref_mut.ensures.len) in
    subst (AreReady c.args.trace.now c.fill.new.planes.items) (sym (with_items_is jobs c.fill.new.jobs long)) c.in_ok-fill.ensures.ready
