use Rattle.std.proofs.Common.{ℕ, ◌≤◌, List, length, ◌∙◌, sym, subst}
use Rattle.gate_core.specs.Marks.{width}
use Rattle.gate_core.proofs.CoreFacts.{collected_at, collected_past, taken_most}
use Rattle.gate_core.proofs.core_data.CoreData.taken_of.Goals as goal

pub returns-in-Some : goal.returns-in-Some
returns-in-Some c = let found = c.in-Some.ensures.lookup in
    let words = c.as_slice.ensures.value ∙ collected_at c.args.self.now c.requires.holds c.deref.result.now c.deref.ensures.value c.args.page.number c.in-Some.words.now found.3.0 found.1 in
    record {
      words = words;
      most = let P : List ℕ → Type 0 = λ ws. length ws ≤ width c.args.self.now.shape in subst P (sym words) (taken_most c.args.self.now c.requires.holds c.args.page.number);
    }

pub returns-in-None-clause-words : goal.returns-in-None-clause-words
returns-in-None-clause-words c = collected_past c.args.self.now c.requires.holds c.deref.result.now c.deref.ensures.value c.args.page.number c.in-None.ensures.lookup.3
