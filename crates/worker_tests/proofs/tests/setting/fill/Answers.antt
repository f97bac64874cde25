use Rattle.std.proofs.Common.{◌≡◌, ap, length, arith}
use Rattle.trace_history.specs.Routers.{count}
use Rattle.trace_workers.proofs.Readiness.{ready_of}
use Rattle.worker_tests.proofs.tests.setting.fill.Goals as goal

pub returns-clause-ready : goal.returns-clause-ready
returns-clause-ready c = let t = c.args.trace.now in let set = c.in_ok-add_plane-2.ensures.set in
    let none = ap length (c.requires.none.0) in let two = c.requires.routers in
    let many : length c.add_plane-2.new.planes.items ≡ count t = omega (arith, none, two, c.in_ok-add_plane.ensures.planes, c.in_ok-add_plane-2.ensures.planes) in
    ready_of t c.add_plane-2.new.planes.items c.args.from c.args.to c.add_plane-2.new.jobs many set.passes
    (c.in_ok-add_plane-2.ensures.shares t c.args.from c.args.to (c.in_ok-add_plane.ensures.shares t c.args.from c.args.to c.in_ok-deal_out.ensures.shares))
