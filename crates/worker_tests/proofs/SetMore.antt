-- One plane more.
use Rattle.std.proofs.Common.{◌≡◌, ◌<◌, List, [], ◌∷◌, ◌++◌, length, get_or, sym, ap, ap₂, ◌∙◌, arith}
use Rattle.std.proofs.lemmas.List.{map-append}
use Rattle.page_gate.specs.Held.{PlaneId, PassHeld, Held}
use Rattle.trace_workers.specs.declared.jobs.Job.{Job}
use Rattle.trace_workers.specs.Columns.{HaveGot}
use Rattle.trace_workers.specs.Jobs.{tables_of}
use Rattle.worker_tests.specs.Settings.{AreSet}

pub set_more : (planes : List PlaneId) (keepers : List Held) (jobs after : List Job) (plane : PlaneId) (keeper : Held) (pass : PassHeld) → AreSet planes keepers jobs → keeper.table ≡ plane.table → pass.table ≡ plane.table → HaveGot jobs after pass
    → AreSet (planes ++ plane ∷ []) (keepers ++ keeper ∷ []) after
set_more planes keepers jobs after plane keeper pass set k p got = let many = got.many in record {
  keepers_fit = map-append (λ (x : Held). x.table) keepers (keeper ∷ []) ∙ ap₂ (λ ts t. ts ++ t ∷ []) set.keepers_fit k ∙ sym (map-append (λ (x : PlaneId). x.table) planes (plane ∷ []));
  workers = many ∙ set.workers;
  passes = λ w d lt. let low : w < length jobs = omega arith in
      ap tables_of (got.each w d low).passes ∙ map-append (λ (x : PassHeld). x.table) (get_or jobs w d).passes.items (pass ∷ []) ∙ ap₂ (λ ts t. ts ++ t ∷ []) (set.passes w d low) p ∙ sym (map-append (λ (x : PlaneId). x.table) planes (plane ∷ []));
  room = λ w d lt. let low : w < length jobs = omega arith in let r = (got.each w d low).room in let s = set.room w d low in omega arith;
}
