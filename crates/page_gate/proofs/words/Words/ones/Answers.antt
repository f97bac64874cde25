use Rattle.std.proofs.Common.{◌≡◌, ◌*◌, ℕ, List, count_by, ap, ◌∙◌, subst, arith}
use Rattle.std.specs.List.{range_with_len}
use Rattle.spie_base.specs.declared.types.Entry.{Entry}
use Rattle.bloom_page.proofs.Counting.{ones_within}
use Rattle.hash_family.specs.Entries.{is_marked}
use Rattle.page_gate.specs.Probes.{IsWordOf}
use Rattle.page_gate.proofs.WholeWords.{notes_more, noted_entries, ones_of_word, ones_most, ones_all}
use Rattle.page_gate.proofs.words.Words.ones.Goals as goal

pub overflow_add-ones : goal.overflow_add-ones
overflow_add-ones c = let inv = c.loop-j.invariant in let shape = c.args.self.now.shape in
    let most = ones_most shape c.args.seat.now.me.0.entries c.args.page.number (64 * c.loop-j.j) c.loop-j.ones inv.ones in
    let all = ones_within c.loop-j.j c.loop-j.ones c.word.result c.word.type_inv most in
    let few = c.width-j-end.ensures.most in let lt = c.loop-j-test.true in omega arith

pub loop-j-preserved : goal.loop-j-preserved
loop-j-preserved c = let inv = c.loop-j.invariant in let v = c.args.seat.now.me.0 in let shape = c.args.self.now.shape in let page = c.args.page.number in
    record {
      notes = notes_more c.args.seat.now c.loop-j.seat c.word.new.seat inv.notes c.word.ensures.notes;
      ones = ones_of_word shape v.entries page c.loop-j.j c.word.result c.loop-j.ones (let lt = c.loop-j-test.true in let wide = c.width-j-end.ensures.exact in omega arith) c.word.type_inv
          (subst (λ (es : List Entry). IsWordOf shape es page c.loop-j.j c.word.result) (noted_entries c.args.seat.now c.loop-j.seat inv.notes) c.word.ensures.word) inv.ones;
      met = λ _. c.word.ensures.met;
    }

pub returns-clause-ones : goal.returns-clause-ones
returns-clause-ones c = let inv = c.loop-j.invariant in let shape = c.args.self.now.shape in let entries = c.args.seat.now.me.0.entries in let page = c.args.page.number in
    let end : c.loop-j.j ≡ c.width-j-end.result = omega (arith, c.loop-j.auto.j-end, c.loop-j-test.false) in
    ones_all shape entries page c.loop-j.ones c.args.self.now.in_range (inv.ones ∙ ap (λ (n : ℕ). count_by (is_marked shape entries page) (range_with_len 0 (64 * n))) (end ∙ c.width-j-end.ensures.exact))
