use Rattle.std.proofs.Common.{◌∙◌, sym}
use Rattle.std.specs.List.{Contains}
use Rattle.used_pages.specs.UsedPages.{holds_sig}
use Rattle.spie_base.proofs.Membership.{into_map}
use Rattle.evidence_check.specs.Evidence.{stated_page, stated_pages}
use Rattle.evidence_check.proofs.SightFacts.{any_has, has_item}
use Rattle.evidence_check.proofs.sights.one_shows.Goals as goal

pub shows-requires-clause-size : goal.shows-requires-clause-size
shows-requires-clause-size c = c.requires.sizes c.page-item.result (has_item c.args.router.now.pages c.items-page-items.result.now c.loop-page.page-index c.page-item.result c.items-page-items.ensures c.loop-page-test.true c.page-item.is)

pub returns-then-shows : goal.returns-then-shows
returns-then-shows c =
    let has : Contains c.args.router.now.pages c.page-item.result = has_item c.args.router.now.pages c.items-page-items.result.now c.loop-page.page-index c.page-item.result c.items-page-items.ensures c.loop-page-test.true c.page-item.is in
    sym (any_has (holds_sig c.args.router.now.shape c.args.sig.now) (stated_pages c.args.router.now) (stated_page c.page-item.result) (into_map stated_page c.args.router.now.pages c.page-item.result has) (sym c.shows.ensures ∙ c.if-shows.true))
