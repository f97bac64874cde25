use Rattle.evidence_text.proofs.LastItems.{put_back}
use Rattle.evidence_text.specs.Language.{with_row_in}
use Rattle.evidence_text.proofs.draft.pages.add_row.Goals as goal

pub returns : goal.returns
returns c = put_back (with_row_in c.args.row) _ _ _ _ _ c.in-Some.ensures.items c.in_ok-router_with_row.ensures c.in_ok-push.ensures.items
