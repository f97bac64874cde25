use Rattle.std.proofs.Common.{◌∙◌, ap}
use Rattle.std.specs.List.{flat_map}
use Rattle.evidence_check.specs.Sights.{page_rows}
use Rattle.evidence_check.proofs.SightFacts.{indexed}
use Rattle.evidence_check.proofs.sights.PageSight.of.Goals as goal

pub invariant_of-result : goal.invariant_of-result
invariant_of-result c = indexed c.args.router.now c.of.result c.in_ok-rows.rows.items c.requires.shape c.requires.sizes (c.in_ok-rows.ensures ∙ ap (flat_map page_rows) c.items.ensures) c.of.ensures
