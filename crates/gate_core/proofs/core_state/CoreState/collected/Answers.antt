use Rattle.std.proofs.Common.{ℕ, List, ◌≡◌, ◌↔◌, sym, subst, Bor, IfSome}
use Rattle.std.specs.List.{Contains}
use Rattle.bloom_page.specs.Bits.{members_of}
use Rattle.gate_core.specs.Views.{collected_of}
use Rattle.gate_core.specs.Invariant.{IsCollected}
use Rattle.gate_core.specs.Core.{Core, duties_of}
use Rattle.gate_core.specs.Kept.{core_of}
use Rattle.hash_family.specs.Entries.{IsMarked}
use Rattle.gate_core.proofs.Options.{if_some}
use Rattle.gate_core.proofs.PageMarks.{collected_are}
use Rattle.gate_core.proofs.core_state.CoreState.collected.Goals as goal

pub returns-clause-marks : goal.returns-clause-marks
returns-clause-marks c = let page : ℕ = c.args.page.number in let k : Core = core_of c.self.inside.kept in
    let Told : Core → List ℕ → Type 0 = λ k ws. (p : ℕ) → Contains (members_of ws) p ↔ IsMarked k.shape k.entries page p in
    let P : Core → Type 0 = λ k. IfSome c.collected.result (λ (words : Bor (List ℕ)). Told k words.now) in
    subst P c.self.view_is
    (if_some c.collected.result (IsCollected k.shape (duties_of k) page) (λ (words : Bor (List ℕ)). words.now ≡ collected_of (duties_of k) page) (λ (words : Bor (List ℕ)). Told k words.now)
    c.collected.ensures.whole.0 c.collected.ensures.words
    (λ words whole are. subst (Told k) (sym are) (λ p. collected_are c.self.inside.kept c.self.invariant page p whole)))
