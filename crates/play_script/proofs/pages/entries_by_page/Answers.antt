use Rattle.std.proofs.Common.{◌≤◌, ◌+◌, ap, arith, sym, subst, List, ℕ}
use Rattle.std.proofs.lemmas.Grind.{common_steps}
use Rattle.play_script.proofs.Counts.{Each, counted, passed_over, few}
use Rattle.play_script.proofs.pages.entries_by_page.Goals as goal
use Rattle.play_script.proofs.pages.entries_by_page.Goals.{then-page-len, else-page-len}

pub overflow_add-index_mut : goal.overflow_add-index_mut
overflow_add-index_mut c =
    let q : c.index_mut.result.now ≤ c.loop-entry.entry-index = few c.loop-entry.counts.items c.args.pages c.args.entries.now c.loop-entry.entry-index c.index_mut.result.now (grind (arith, common_steps)) c.loop-entry.invariant.size c.index_mut.ensures.value c.loop-entry.invariant.each in
    omega arith

pub loop-entry-preserved : goal.loop-entry-preserved
loop-entry-preserved c = elim c.if-page-len.branch [
  | then-page-len w ↦ record {
    size = grind (arith, common_steps);
    each = (let P : List ℕ → Type 0 = λ z. Each z c.args.pages c.args.entries.now (c.loop-entry.entry-index + 1) in subst P (sym (ap (λ z. z.items) w.counts-is)) (counted c.loop-entry.counts.items c.args.pages c.args.entries.now c.loop-entry.entry-index w.index_mut.result.now c.loop-entry-test.true (grind (arith, common_steps)) w.index_mut.ensures.value c.loop-entry.invariant.each));
  }
  | else-page-len w ↦ record {
    size = grind (arith, common_steps);
    each = (let P : List ℕ → Type 0 = λ z. Each z c.args.pages c.args.entries.now (c.loop-entry.entry-index + 1) in subst P (sym (ap (λ z. z.items) w.counts-is)) (passed_over c.loop-entry.counts.items c.args.pages c.args.entries.now c.loop-entry.entry-index c.loop-entry-test.true (grind (arith, common_steps)) c.loop-entry.invariant.each));
  }
]
