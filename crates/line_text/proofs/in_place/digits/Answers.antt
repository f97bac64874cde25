use Rattle.std.proofs.Common.{◌+◌, ◌∙◌, sym, ap}
use Rattle.itoa.proofs.Decimal.{length_four}
use Rattle.line_text.proofs.in_place.digits.Goals as goal

pub returns-clause-count : goal.returns-clause-count
returns-clause-count c =
    ap (λ n. n + 4) c.few_digits-2.ensures.count ∙ sym (length_four c.args.number c.if-number-lt10000.false c.ranges.number.fits)
