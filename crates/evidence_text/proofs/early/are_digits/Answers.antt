use Rattle.std.proofs.Common.{◌∙◌, sym}
use Rattle.evidence_text.proofs.HexFields.{digits_all}
use Rattle.evidence_text.proofs.early.are_digits.Goals as goal

pub returns : goal.returns
returns c = c.all_digits.ensures ∙ sym (digits_all c.args.field.now)
