use Rattle.std.proofs.Common.{◌≡◌, ℕ, ◌*◌, ◌/◌, subst, arith}
use Rattle.gate_core.specs.Acts.{bit_place}
use Rattle.gate_core.specs.Invariant.{Met}
use Rattle.page_gate.proofs.WholeWords.{word_met}
use Rattle.page_gate.proofs.words.Words.word.Goals as goal

pub returns-clause-word : goal.returns-clause-word
returns-clause-word c = let r = c.requires in let shape = c.args.self.now.shape in let v = c.args.seat.now.me.0 in let s = c.args.slot in let j = c.args.j in
    let e : 64 * j / 64 ≡ j = omega arith in
    word_met shape v c.args.page.number s j c.probe.result r.slot r.alone (subst (λ (i : ℕ). Met shape v (bit_place shape s i) c.probe.result) e c.probe.ensures.found)
