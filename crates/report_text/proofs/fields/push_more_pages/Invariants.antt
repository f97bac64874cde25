use Rattle.std.proofs.Common.{◌≡◌, ◌++◌, ◌∷◌, take}
use Rattle.std.specs.List.{flat_map}
use Rattle.report_text.specs.Report.{page_text}
use Rattle.report_text.proofs.fields.push_more_pages.Given as goal

abbrev pub invariant-loop-page : goal.invariant-loop-page
invariant-loop-page l = l.out.items ≡ l.fn.out.items ++ flat_map (λ page. 44 ∷ page_text page) (take l.page-index l.pages)
