use Rattle.std.proofs.Common.{◌≡◌, ◌++◌, take}
use Rattle.std.specs.List.{flat_map}
use Rattle.evidence_text.specs.Writing.{router_text}
use Rattle.evidence_text.proofs.writer.push_routers.Given as goal

abbrev pub invariant-loop-router : goal.invariant-loop-router
invariant-loop-router l = l.out.items ≡ l.fn.out.items ++ flat_map router_text (take l.router-index l.routers)
