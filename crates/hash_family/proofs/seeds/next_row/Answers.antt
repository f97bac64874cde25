use Rattle.std.proofs.Common.{◌∙◌, sym, ap}
use Rattle.hash_family.specs.SplitMix.{grown, mixed, word}
use Rattle.hash_family.proofs.Filled.{fill_more, fill_all}
use Rattle.hash_family.proofs.Words.{state_after-more, word-of_state}
use Rattle.hash_family.proofs.seeds.next_row.Goals as goal

pub loop-j-preserved : goal.loop-j-preserved
loop-j-preserved c = record {
  row = fill_more (word c.args.generator.now) 8 0 _ _ _ c.loop-j-test.true c.loop-j.invariant.row
      (c.next_word.ensures.word ∙ ap (λ s. mixed (grown s)) c.loop-j.invariant.after ∙ sym (word-of_state c.args.generator.now c.loop-j.j));
  after = c.next_word.ensures.after ∙ ap grown c.loop-j.invariant.after ∙ sym (state_after-more c.args.generator.now c.loop-j.j);
}

pub returns-clause-row : goal.returns-clause-row
returns-clause-row c = fill_all (word c.args.generator.now) 8 0 _ _ c.loop-j-test.false c.loop-j.auto.j-end c.loop-j.invariant.row
