use Rattle.evidence_text.proofs.LastItems.{put_back}
use Rattle.evidence_text.specs.Language.{with_row}
use Rattle.evidence_text.proofs.draft.pages.pages_with.Goals as goal

pub returns : goal.returns
returns c = put_back (with_row c.args.row) _ _ _ _ _ c.in-Some.ensures.items c.in_ok-page_with.ensures c.in_ok-push.ensures.items
