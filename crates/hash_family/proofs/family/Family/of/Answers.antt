use Rattle.std.proofs.Common.{◌∙◌, ◌+◌, ◌*◌, ◌≡◌, ap, arith, map, replicate}
use Rattle.std.specs.List.{range_with_len}
use Rattle.hash_family.specs.Positions.{coefficient}
use Rattle.hash_family.specs.Rows.{row_of}
use Rattle.hash_family.specs.SplitMix.{word, state_after}
use Rattle.hash_family.proofs.Filled.{fill_more, filled_at, map_same}
use Rattle.hash_family.proofs.Words.{state_after-add, word-add}
use Rattle.hash_family.proofs.family.Family.of.Goals as goal

pub loop-i-preserved : goal.loop-i-preserved
loop-i-preserved c = record {
  rows = fill_more (row_of c.args.seed) 8 (replicate 8 0) _ _ _ (omega arith) c.loop-i.invariant.rows
      (c.next_row.ensures.row ∙ ap (λ s. map (word s) (range_with_len 0 8)) c.loop-i.invariant.generator
      ∙ map_same (word (state_after c.args.seed (8 * c.loop-i.i))) (coefficient c.args.seed c.loop-i.i) (word-add c.args.seed (8 * c.loop-i.i)) (range_with_len 0 8));
  generator = c.next_row.ensures.after ∙ ap (λ s. state_after s 8) c.loop-i.invariant.generator
      ∙ state_after-add c.args.seed (8 * c.loop-i.i) 8
      ∙ ap (state_after c.args.seed) (let e : 8 * c.loop-i.i + 8 ≡ 8 * (c.loop-i.i + 1) = omega arith in e);
}

pub invariant_of-result : goal.invariant_of-result
invariant_of-result c = record {
  each = λ i within. filled_at (row_of c.args.seed) 8 (replicate 8 0) c.loop-i.i c.loop-i.rows i c.loop-i.invariant.rows (omega arith);
  range = record { k_least = c.requires.k_least; k_most = c.requires.k_most; n_least = c.requires.n_least; n_most = c.requires.n_most };
}
