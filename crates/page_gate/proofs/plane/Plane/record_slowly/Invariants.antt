use Rattle.page_gate.specs.Tried.{PassRetried}
use Rattle.page_gate.proofs.plane.Plane.record_slowly.Given as goal

abbrev pub invariant-tries : goal.invariant-tries
invariant-tries g l = PassRetried l.self.shape l.fn.pass l.pass
