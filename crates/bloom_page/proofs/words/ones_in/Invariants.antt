use Rattle.std.proofs.Common.{◌≡◌, ◌≤◌, ◌*◌, take, sum_by, count_ones}
use Rattle.bloom_page.proofs.words.ones_in.Given as goal

abbrev pub invariant-loop-word : goal.invariant-loop-word
invariant-loop-word l = record {
  total : l.ones ≡ sum_by count_ones (take l.word-index l.words);
  within : l.ones ≤ 64 * l.word-index;
}
