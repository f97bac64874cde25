-- One line more is dealt.
use Rattle.std.proofs.Common.{◌≡◌, ℕ, ◌+◌, ◌<◌, ◌≤◌, List, ◌++◌, length, length-append, sym, ap, ap₂, ◌∙◌, arith}
use Rattle.trace_format.specs.declared.Line.{Line}
use Rattle.trace_workers.specs.declared.jobs.Job.{Job}
use Rattle.trace_workers.specs.Dealing.{HaveMore, HaveTurns, place_by}
use Rattle.trace_workers.specs.Jobs.{KeepPasses}
use Rattle.trace_workers.specs.Records.{turns_of, segment_places}
use Rattle.trace_workers.proofs.Segments.{segment_more}
use Rattle.trace_workers.proofs.Turns.{turns-append}

pub count_grows : (lines : List Line) (from place n m : ℕ) → from ≤ place → place < length lines → n ≡ length (segment_places lines from place) → m ≡ n + length (place_by lines place) → m ≡ length (segment_places lines from (place + 1))
count_grows lines from place n m le small was now = now ∙ ap (λ k. k + length (place_by lines place)) was ∙ sym (length-append (segment_places lines from place) (place_by lines place)) ∙ ap length (sym (segment_more lines from place le small))

pub turns_grow : (lines : List Line) (from place n : ℕ) (old jobs : List Job) → from ≤ place → place < length lines → n ≡ length (segment_places lines from place) → HaveTurns lines from place old → HaveMore n (place_by lines place) old jobs
    → HaveTurns lines from (place + 1) jobs
turns_grow lines from place n old jobs le small is was more = let many = more.many in record {
  places = λ w d lt. let low : w < length old = omega arith in
      let z : n ≡ 0 + length (segment_places lines from place) = omega arith in
      (more.each w d low).places ∙ ap₂ (λ xs k. xs ++ turns_of (length old) w k (place_by lines place)) (was.places w d low) z
      ∙ sym (turns-append (length old) w 0 (segment_places lines from place) (place_by lines place)) ∙ ap (turns_of (length old) w 0) (sym (segment_more lines from place le small))
      ∙ ap (λ k. turns_of k w 0 (segment_places lines from (place + 1))) (sym many);
  pages = λ w d lt. let low : w < length old = omega arith in (more.each w d low).pages ∙ was.pages w d low;
}

pub passes_kept : (a b c : List Job) → KeepPasses a b → KeepPasses b c → KeepPasses a c
passes_kept a b c h k = let many = h.many in record { many = k.many ∙ h.many; each = λ w d lt. k.each w d (omega arith) ∙ h.each w d lt }
