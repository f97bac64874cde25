use Rattle.std.proofs.Common.{◌∙◌, ℕ, ap}
use Rattle.made_trace.proofs.SplitMixWords.{word_is}
use Rattle.made_trace.proofs.draws.next_word.Goals as goal

pub returns-clause-word : goal.returns-clause-word
returns-clause-word c = ap (λ (p : ℕ × ℕ). p.0) c.next_word.ensures ∙ word_is c.args.generator.now
