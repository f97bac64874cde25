use Rattle.std.proofs.Common.{◌+◌, ◌/◌, ◌∙◌, sym, ap, arith}
use Rattle.itoa.proofs.Decimal.{length_one, length_two, length_pair}
use Rattle.line_text.proofs.in_place.few_digits.Goals as goal

pub returns-then-number-lt10-clause-count : goal.returns-then-number-lt10-clause-count
returns-then-number-lt10-clause-count c = sym (length_one c.args.number c.if-number-lt10.true)

pub returns-then-number-lt100-clause-count : goal.returns-then-number-lt100-clause-count
returns-then-number-lt100-clause-count c = sym (length_two c.args.number c.if-number-lt10.false c.if-number-lt100.true)

pub returns-then-number-lt1000-clause-count : goal.returns-then-number-lt1000-clause-count
returns-then-number-lt1000-clause-count c =
    sym (length_pair c.args.number c.if-number-lt100.false (omega arith) ∙ ap (λ n. n + 2) (length_one (c.args.number / 100) (omega arith)))

pub returns-else-number-lt1000-clause-count : goal.returns-else-number-lt1000-clause-count
returns-else-number-lt1000-clause-count c =
    sym (length_pair c.args.number c.if-number-lt100.false (omega arith) ∙ ap (λ n. n + 2) (length_two (c.args.number / 100) (omega arith) (omega arith)))
