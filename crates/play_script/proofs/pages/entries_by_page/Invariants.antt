use Rattle.std.proofs.Common.{◌≡◌, ◌<◌, ◌==◌, ℕ, length, take, count_by, slice_index}
use Rattle.spie_base.specs.declared.types.Entry.{Entry}
use Rattle.play_script.proofs.pages.entries_by_page.Given as goal

abbrev pub invariant-loop-entry : goal.invariant-loop-entry
invariant-loop-entry l = record {
  size : length l.counts.items ≡ l.pages;
  each : (p : ℕ) → p < l.pages → slice_index l.counts.items p ≡ count_by (λ (e : Entry). e.page.number == p) (take l.entry-index l.entries);
}
