use Rattle.std.proofs.Common.{ℕ, All, sym, subst, ◌∙◌, ◌/◌, ◌^◌, ◌-◌, ◌<◌, take, ap, arith}
use Rattle.std.proofs.lemmas.List.Elements.{All-same}
use Rattle.std.proofs.lemmas.Option.{get_or_from_slice_get}
use Rattle.hash_family.specs.Positions.{position_by, positions_by}
use Rattle.hash_family.specs.Rows.{row_of, weighed}
use Rattle.hash_family.proofs.Filled.{fill_more, filled_front}
use Rattle.hash_family.proofs.PositionFacts.{position_from_row, positions_by-below}
use Rattle.hash_family.proofs.family.Family.positions.Goals as goal

pub loop-i-preserved : goal.loop-i-preserved
loop-i-preserved c =
    let most = c.self.invariant.range.k_most in
    record {
      at = fill_more (position_by c.self.inside.seed c.self.inside.n c.args.sig.now) 8 0 _ _ _ (omega arith) c.loop-i.invariant.at
          (c.top_bits.ensures.value
          ∙ ap (λ total. total / 2 ^ (64 - c.self.inside.n))
          (c.weighed.ensures
          ∙ ap (λ row. weighed row c.sig_words-words.result)
          (get_or_from_slice_get c.self.inside.rows c.loop-i.i (row_of c.self.inside.seed c.loop-i.i) _ (c.self.invariant.each c.loop-i.i (omega arith)))
          ∙ ap (weighed (row_of c.self.inside.seed c.loop-i.i)) c.sig_words-words.ensures)
          ∙ position_from_row c.self.inside.seed c.self.inside.n c.args.sig.now c.loop-i.i);
      count = c.loop-i.invariant.count;
    }

pub returns-clause-below : goal.returns-clause-below
returns-clause-below c = rw (← c.self.view_is)
    (subst (λ (n : ℕ). All (λ p. p < 2 ^ c.self.inside.n) (take n c.loop-i.marks.at)) (sym c.loop-i.invariant.count) (All-same (λ p. p < 2 ^ c.self.inside.n) (take c.self.inside.k c.loop-i.marks.at) (positions_by record { seed = c.self.inside.seed; k = c.self.inside.k; n = c.self.inside.n } c.args.sig.now)
    (filled_front (position_by c.self.inside.seed c.self.inside.n c.args.sig.now) 8 0 c.loop-i.i c.self.inside.k c.loop-i.marks.at (omega arith) (omega arith) c.loop-i.invariant.at)
    (positions_by-below record { seed = c.self.inside.seed; k = c.self.inside.k; n = c.self.inside.n } c.args.sig.now)))
