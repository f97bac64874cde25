use Rattle.std.proofs.Common.{ℕ, get_or, ◌∙◌, ap}
use Rattle.gate_core.specs.Acts.{page_of, numbered}
use Rattle.gate_core.proofs.CoreFacts.{gate_is}
use Rattle.gate_core.proofs.core_data.CoreData.gate_page.Goals as goal

pub returns-clause-last : goal.returns-clause-last
returns-clause-last c =
    c.page.ensures ∙ ap (λ (n : ℕ). numbered (page_of n)) (c.word_at.ensures ∙ ap (λ (at : ℕ). get_or c.args.self.now.words.items at 0) c.gate_at.ensures)
    ∙ ap numbered (gate_is c.args.self.now c.requires.sound.holds c.args.slot c.requires.near)
