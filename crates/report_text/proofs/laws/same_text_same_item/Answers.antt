use Rattle.report_text.proofs.SameText.{same_text}
use Rattle.report_text.proofs.laws.same_text_same_item.Goals as goal

pub returns : goal.returns
returns c = same_text
