use Rattle.evidence_text.proofs.HexFields.{lower_none, lower_some, not_read}
use Rattle.evidence_text.proofs.fields.bytes_8.Goals as goal

pub returns-then-lower_hex_into : goal.returns-then-lower_hex_into
returns-then-lower_hex_into c = lower_some 8 c.args.field.now _ c.are_bytes.ensures c.lower_hex_into.ensures.size (c.lower_hex_into.ensures.read c.if-lower_hex_into.true)

pub returns-else-lower_hex_into : goal.returns-else-lower_hex_into
returns-else-lower_hex_into c = lower_none 8 c.args.field.now (λ bytes each count is. not_read _ (c.lower_hex_into.ensures.each bytes each count is) c.if-lower_hex_into.false)
