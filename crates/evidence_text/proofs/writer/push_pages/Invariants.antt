use Rattle.std.proofs.Common.{◌≡◌, ◌++◌, take}
use Rattle.std.specs.List.{flat_map}
use Rattle.evidence_text.specs.Writing.{page_text}
use Rattle.evidence_text.proofs.writer.push_pages.Given as goal

abbrev pub invariant-loop-evidence : goal.invariant-loop-evidence
invariant-loop-evidence l = l.out.items ≡ l.fn.out.items ++ flat_map page_text (take l.evidence-index l.pages)
