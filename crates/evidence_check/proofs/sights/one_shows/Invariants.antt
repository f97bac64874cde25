use Rattle.std.proofs.Common.{◌≡◌, take, map, false}
use Rattle.std.specs.List.{list_any}
use Rattle.used_pages.specs.UsedPages.{holds_sig}
use Rattle.evidence_check.specs.Evidence.{stated_page}
use Rattle.evidence_check.proofs.sights.one_shows.Given as goal

-- no page so far shows the signature
abbrev pub invariant-loop-page : goal.invariant-loop-page
invariant-loop-page l = list_any (holds_sig l.router.shape l.sig) (map stated_page (take l.page-index l.router.pages)) ≡ false
