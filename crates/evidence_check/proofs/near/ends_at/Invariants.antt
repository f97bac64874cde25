use Rattle.std.proofs.Common.{◌≡◌, take}
use Rattle.std.specs.List.{flat_map}
use Rattle.evidence_check.specs.Steps.{across}
use Rattle.evidence_check.proofs.near.ends_at.Given as goal

abbrev pub invariant-loop-link : goal.invariant-loop-link
invariant-loop-link l = l.found.items ≡ flat_map (across l.router.number) (take l.link-index l.links)
