use Rattle.std.proofs.Common.{◌∙◌, ◌<◌, ◌^◌, get_or, sum_by, count_ones, ap, arith}
use Rattle.std.proofs.Math.Seq.{take_all}
use Rattle.std.proofs.lemmas.List.Elements.{All-from_get_or}
use Rattle.bloom_page.proofs.Counting.{ones_more, ones_within, sum_by-count_ones}
use Rattle.bloom_page.proofs.words.ones_in.Goals as goal

pub loop-word-preserved : goal.loop-word-preserved
loop-word-preserved c = record {
  total = ones_more c.args.words.now c.loop-word.word-index _ c.loop-word-test.true c.loop-word.invariant.total;
  within = ones_within c.loop-word.word-index _ (get_or c.args.words.now c.loop-word.word-index 0) (omega (arith, c.type_inv.words c.loop-word.word-index)) c.loop-word.invariant.within;
}

pub returns-clause-count : goal.returns-clause-count
returns-clause-count c =
    c.loop-word.invariant.total ∙ ap (sum_by count_ones) (take_all c.loop-word.word-index c.args.words.now c.loop-word-test.false)
    ∙ sum_by-count_ones c.args.words.now (All-from_get_or (λ w. w < 2 ^ 64) c.args.words.now 0 (λ i within. omega (arith, c.type_inv.words i)))
