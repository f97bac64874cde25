use Rattle.std.proofs.Common.{◌≡◌, ◌+◌, ◌-◌, ◌*◌, ◌<◌, length, take, drop, ap, arith, sym, ◌∙◌, Ok, Err}
use Rattle.std.proofs.lemmas.List.{length-drop}
use Rattle.evidence_text.proofs.SomeWords.{left, left_more, left_bad, left_none}
use Rattle.evidence_text.specs.Reading.{word64_in}
use Rattle.evidence_text.proofs.fields.some_words.Goals as goal

pub words-preserved : goal.words-preserved
words-preserved c =
    let e : word64_in (take 16 c.words.rest.now) ≡ Ok c.in-Ok.word = ap word64_in (sym c.split_at.ensures.front) ∙ sym c.in-Ok.ensures in
    let lt : c.words._at < c.args.count = omega (arith, c.words-test.true) in
    let all = left_more c.words.words.items c.words.rest.now c.in-Ok.word c.args.count c.words._at lt e ∙ c.words.invariant.all in
    let long = c.words.invariant.long in
    let rest : length (drop 16 c.words.rest.now) ≡ 16 * (c.args.count - (c.words._at + 1)) = length-drop 16 c.words.rest.now ∙ omega (arith, long, lt) in
    let many = c.words.invariant.many in
    let more = c.in_ok-push-in-Ok.ensures.len in
    record {
      all = rw (c.in_ok-push-in-Ok.ensures.items, c.split_at.ensures.back) all;
      many = omega (arith, many, more);
      long = rw c.split_at.ensures.back rest;
    }

pub returns-in-Err-clause-value : goal.returns-in-Err-clause-value
returns-in-Err-clause-value c =
    let e : word64_in (take 16 c.words.rest.now) ≡ Err c.in-Err.why = ap word64_in (sym c.split_at.ensures.front) ∙ sym c.in-Err.ensures in
    let lt : c.words._at < c.args.count = omega (arith, c.words-test.true) in
    sym c.words.invariant.all ∙ left_bad c.words.words.items c.words.rest.now c.in-Err.why c.args.count c.words._at lt e

pub returns-clause-value : goal.returns-clause-value
returns-clause-value c =
    let none : c.args.count - c.words._at ≡ 0 = omega (arith, c.words-test.false) in
    sym c.words.invariant.all ∙ ap (λ k. left c.words.words.items k c.words.rest.now) none ∙ left_none c.words.words.items c.words.rest.now
