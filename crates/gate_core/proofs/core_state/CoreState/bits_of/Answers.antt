use Rattle.std.proofs.Common.{ℕ, ◌⊎◌, ◌↔◌, subst}
use Rattle.std.specs.List.{Contains}
use Rattle.bloom_page.specs.Bits.{members_of}
use Rattle.gate_core.specs.Core.{Core}
use Rattle.gate_core.specs.PageWords.{page_words, IsSetInside}
use Rattle.hash_family.specs.Entries.{IsMarked}
use Rattle.gate_core.proofs.PageMarks.{marks_are}
use Rattle.gate_core.proofs.core_state.CoreState.bits_of.Goals as goal

pub returns-clause-marks : goal.returns-clause-marks
returns-clause-marks c = λ p. let page : ℕ = c.args.page.number in
    let Told : Core → Type 0 = λ k. Contains (members_of (page_words k page)) p ↔ (IsMarked k.shape k.entries page p ⊎ IsSetInside k.shape page k.views p) in
    subst Told c.self.view_is (marks_are c.self.inside.kept c.self.invariant page p)
