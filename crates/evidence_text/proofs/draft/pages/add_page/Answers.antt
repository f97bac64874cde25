use Rattle.evidence_text.proofs.LastItems.{put_back}
use Rattle.evidence_text.specs.Language.{with_page}
use Rattle.evidence_text.proofs.draft.pages.add_page.Goals as goal

pub returns : goal.returns
returns c = put_back (with_page c.args.page c.args.n c.args.words.items) _ _ _ _ _ c.in-Some.ensures.items c.in_ok-router_with.ensures c.in_ok-push.ensures.items
