use Rattle.std.proofs.Common.{◌≡◌, ◌<◌, ℕ, List, length, get_or, sym, ◌∙◌, subst, arith}
use Rattle.spie_base.specs.declared.types.Entry.{Entry}
use Rattle.page_gate.specs.Probes.{IsWordOf}
use Rattle.page_gate.proofs.WholeWords.{notes_more, noted_entries, each_more, words_set, length-more}
use Rattle.page_gate.proofs.words.Words.copy.Goals as goal

pub loop-j-preserved : goal.loop-j-preserved
loop-j-preserved c = let inv = c.loop-j.invariant in let v = c.args.seat.now.me.0 in let shape = c.args.self.now.shape in let page = c.args.page.number in
    let p = c.push_reserved.ensures in let words = c.loop-j.words in let n = c.word.result in
    let long : c.loop-j.j ≡ length words.items = sym inv.taken ∙ words.ok.0 in
    let word : IsWordOf shape v.entries page (length words.items) n = subst (λ (i : ℕ). IsWordOf shape v.entries page i n) long (subst (λ (es : List Entry). IsWordOf shape es page c.loop-j.j n) (noted_entries c.args.seat.now c.loop-j.seat inv.notes) c.word.ensures.word) in
    record {
      notes = notes_more c.args.seat.now c.loop-j.seat c.word.new.seat inv.notes c.word.ensures.notes;
      taken = let a = p.len in let b = inv.taken in omega arith;
      room = let a = p.capacity in let b = inv.room in omega arith;
      each = subst (λ (ws : List ℕ). (i : ℕ) → i < length ws → IsWordOf shape v.entries page i (get_or ws i 0)) (sym p.items)
          (λ i lt. each_more shape v.entries page words.items n inv.each word i (subst (λ (m : ℕ). i < m) (length-more words.items n) lt));
      met = λ _. c.word.ensures.met;
    }

pub returns-clause-set : goal.returns-clause-set
returns-clause-set c = let inv = c.loop-j.invariant in let words = c.loop-j.words in
    let end : c.loop-j.j ≡ c.width-width.result = omega (arith, c.loop-j.auto.j-end, c.loop-j-test.false) in
    words_set c.args.self.now.shape c.args.seat.now.me.0.entries c.args.page.number words.items c.args.self.now.in_range (sym words.ok.0 ∙ inv.taken ∙ end ∙ c.width-width.ensures.exact) inv.each
