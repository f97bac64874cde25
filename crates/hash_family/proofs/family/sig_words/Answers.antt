use Rattle.std.proofs.Common.{◌∙◌, ◌+◌}
use Rattle.hash_family.specs.Positions.{sig_word}
use Rattle.hash_family.proofs.Filled.{fill_more, fill_all}
use Rattle.hash_family.proofs.Sums.{word_at}
use Rattle.hash_family.proofs.family.sig_words.Goals as goal

pub loop-j-preserved : goal.loop-j-preserved
loop-j-preserved c = fill_more (λ j. sig_word c.args.sig.now (j + 1)) 7 0 _ _ _ c.loop-j-test.true c.loop-j.invariant
    (c.from_be_bytes.ensures ∙ word_at c.args.sig.now c.loop-j.j)

pub returns : goal.returns
returns c = fill_all (λ j. sig_word c.args.sig.now (j + 1)) 7 0 _ _ c.loop-j-test.false c.loop-j.auto.j-end c.loop-j.invariant
