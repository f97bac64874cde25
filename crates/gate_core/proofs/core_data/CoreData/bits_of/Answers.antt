use Rattle.std.proofs.Common.{ℕ, ◌+◌, List, length, ◌∙◌, sym, ap}
use Rattle.bloom_page.specs.Bits.{members_of}
use Rattle.gate_core.proofs.CoreFacts.{page_words_are}
use Rattle.gate_core.proofs.PageBits.{length-members_of-append}
use Rattle.gate_core.proofs.core_data.CoreData.bits_of.Goals as goal

pub returns : goal.returns
returns c = let taken : List ℕ = c.taken_of-taken.result.now in let live : List ℕ = c.live_from-live.result.now in
    ap (λ (n : ℕ). n + c.ones_in-2.result) c.ones_in.ensures.count
    ∙ ap (λ (n : ℕ). length (members_of taken) + n) c.ones_in-2.ensures.count
    ∙ sym (length-members_of-append taken live)
    ∙ ap (λ (ws : List ℕ). length (members_of ws)) (page_words_are c.args.self.now c.requires.holds c.args.page.number taken live c.slot_with.result c.taken_of-taken.ensures.words c.slot_with.ensures c.live_from-live.ensures.words)
