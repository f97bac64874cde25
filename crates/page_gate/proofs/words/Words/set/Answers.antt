use Rattle.std.proofs.Common.{ℕ, ◌/◌, sym, ap, ◌∙◌, arith}
use Rattle.gate_core.specs.Acts.{bit_place, record_word}
use Rattle.page_gate.proofs.Places.{mark_within}
use Rattle.page_gate.proofs.words.Words.set.Goals as goal

pub set_as-requires-clause-word : goal.set_as-requires-clause-word
set_as-requires-clause-word c = let shape = c.args.self.now.shape in let r = c.requires in let at = c.bits_at.ensures in let wide = c.args.self.now.wide in
    let within = mark_within shape c.args.slot c.args.page.number c.args.sig.now c.args.i c.args.mark c.args.self.now.in_range r.inside.2 r.mark in (
      at ∙ (ap (λ (p : ℕ). bit_place shape c.args.slot (p / 64)) r.mark ∙ ap (record_word shape) (sym r.inside.0)),
      omega arith,
    )
