use Rattle.std.proofs.Common.{◌≡◌, ◌+◌, take, length}
use Rattle.std.specs.List.{sum_by}
use Rattle.evidence_text.specs.Judgeable.{router_lines}
use Rattle.evidence_check.proofs.lines.lines_before.Given as goal

abbrev pub invariant-loop-router : goal.invariant-loop-router
invariant-loop-router l = l.lines ≡ 3 + length l.certificate.links + sum_by router_lines (take l.router-index l.certificate.routers)
