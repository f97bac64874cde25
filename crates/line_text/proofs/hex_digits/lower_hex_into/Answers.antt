use Rattle.std.proofs.Common.{sym, ◌∙◌, ap, not}
use Rattle.std.specs.Char.{is_ascii_uppercase}
use Rattle.std.specs.List.{list_all}
use Rattle.line_text.proofs.LowerHex.{lower_is_lower, never_refused, read_lower}
use Rattle.line_text.proofs.hex_digits.lower_hex_into.Goals as goal

pub returns-in-Ok-clause-read : goal.returns-in-Ok-clause-read
returns-in-Ok-clause-read c = λ plain. read_lower c.args.field.now _ _ _ c.decode_to_slice.ensures.value c.in-Ok.is (sym c.has_no_capital.ensures ∙ plain)

pub returns-in-Ok-clause-each : goal.returns-in-Ok-clause-each
returns-in-Ok-clause-each c = λ bytes small long is. c.has_no_capital.ensures ∙ ap (list_all (λ b. not (is_ascii_uppercase b))) is ∙ lower_is_lower bytes small

pub returns-in-Err-clause-each : goal.returns-in-Err-clause-each
returns-in-Err-clause-each c = λ bytes small long is. absurd (never_refused c.args.field.now _ _ _ bytes _ c.decode_to_slice.ensures.value small long is c.in-Err.is)
