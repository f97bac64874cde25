use Rattle.std.proofs.Common.{◌≡◌, ◌+◌, take}
use Rattle.std.specs.List.{sum_by}
use Rattle.evidence_text.specs.Judgeable.{page_lines}
use Rattle.evidence_check.proofs.lines.router_lines.Given as goal

abbrev pub invariant-loop-page : goal.invariant-loop-page
invariant-loop-page l = l.lines ≡ sum_by page_lines (take l.page-index l.router.pages) + 1
