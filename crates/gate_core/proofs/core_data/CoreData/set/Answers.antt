use Rattle.std.proofs.Common.{ℕ, ◌<◌, ◌∙◌, bit_or, get_or, ap, arith}
use Rattle.gate_core.specs.declared.states.PassState.TheVariants.{Inside}
use Rattle.gate_core.specs.declared.steps.Act.TheVariants.{Set}
use Rattle.gate_core.proofs.RecordSteps.{record_refused}
use Rattle.gate_core.proofs.RecordPlane.{inside_near, next_mark, next_within}
use Rattle.gate_core.proofs.Sets.{cannot_set, mark_set}
use Rattle.gate_core.proofs.core_data.CoreData.set.Goals as goal

pub returns-in_default : goal.returns-in_default
returns-in_default c =
    record_refused c.args.self.now c.refuse.new.self c.args.place c.state_at-state.result Set c.refuse.result c.requires.holds c.requires.seat c.state_at-state.ensures
    (cannot_set c.args.self.now.shape c.state_at-state.result c.in_default.not-Inside) c.refuse.ensures.kept c.refuse.ensures.answer

pub returns-then-set-self : goal.returns-then-set-self
returns-then-set-self c =
    record_refused c.args.self.now c.refuse-then-set-self.new.self c.args.place (Inside c.in-Inside.slot c.in-Inside.page c.in-Inside.sig c.in-Inside.set) Set c.refuse-then-set-self.result
    c.requires.holds c.requires.seat c.in-Inside.ensures (λ (h : c.in-Inside.set < c.args.self.now.shape.k). let g = c.if-set-self.true in omega arith) c.refuse-then-set-self.ensures.kept c.refuse-then-set-self.ensures.answer

pub bits_at-at-requires-clause-slot : goal.bits_at-at-requires-clause-slot
bits_at-at-requires-clause-slot c = inside_near c.args.self.now c.requires.holds c.args.place c.requires.seat c.in-Inside.slot c.in-Inside.page c.in-Inside.sig c.in-Inside.set c.in-Inside.ensures

pub word_at-requires : goal.word_at-requires
word_at-requires c = let e = next_within c.args.self.now c.requires.holds c.args.place c.requires.seat c.in-Inside.slot c.in-Inside.page c.in-Inside.sig c.in-Inside.set c.in-Inside.ensures c.if-set-self.false c.index.result.now c.index.ensures c.from.result c.from.ensures in let f = c.bits_at-at.ensures in omega arith

pub write-requires-clause-word : goal.write-requires-clause-word
write-requires-clause-word c = let e = next_within c.args.self.now c.requires.holds c.args.place c.requires.seat c.in-Inside.slot c.in-Inside.page c.in-Inside.sig c.in-Inside.set c.in-Inside.ensures c.if-set-self.false c.index.result.now c.index.ensures c.from.result c.from.ensures in let f = c.bits_at-at.ensures in omega arith

pub returns : goal.returns
returns c = let mark : ℕ = get_or c.index.result.now.marks.at c.from.result 0 in
    mark_set c.args.self.now c.write.new.self c.args.place c.requires.holds c.requires.seat c.requires.room
    c.in-Inside.slot c.in-Inside.page c.in-Inside.sig c.in-Inside.set c.in-Inside.ensures c.if-set-self.false
    mark c.bits_at-at.result (bit_or c.word_at.result c.bit_of.result) (next_mark c.args.self.now c.requires.holds c.args.place c.requires.seat c.in-Inside.slot c.in-Inside.page c.in-Inside.sig c.in-Inside.set c.in-Inside.ensures c.if-set-self.false c.index.result.now c.index.ensures c.from.result c.from.ensures) c.bits_at-at.ensures
    (ap (λ (n : ℕ). bit_or n c.bit_of.result) c.word_at.ensures ∙ ap (λ (b : ℕ). bit_or (get_or c.args.self.now.words.items c.bits_at-at.result 0) b) c.bit_of.ensures)
    c.write.ensures.seat c.write.ensures.entries c.write.ensures.visits
