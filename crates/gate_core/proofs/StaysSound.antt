-- A step keeps what holds of the data.
use Rattle.std.proofs.Common.{◌≡◌, ℕ, ◌<◌, length, map, sym, ◌∙◌, subst, arith}
use Rattle.std.specs.Prelude.{All}
use Rattle.std.proofs.lemmas.List.Elements.{All-append, All-map}
use Rattle.gate_core.specs.declared.steps.Act.{Act}
use Rattle.gate_core.specs.declared.steps.StepAnswer.{StepAnswer}
use Rattle.gate_core.specs.declared.core_data.CoreData.{CoreData}
use Rattle.gate_core.specs.Kept.{notes_of, core_of, DoesAct}
use Rattle.gate_core.specs.Sound.{IsSound}
use Rattle.gate_core.proofs.KeptViews.{length-views_from}
use Rattle.gate_core.proofs.StepFacts.{actors_stay, entries_grow}

pub still_sound : (m m' : CoreData) (place : ℕ) (a : Act) (reply : StepAnswer) → IsSound m → place < length m.seats.items → DoesAct m m' place a reply → IsSound m'
still_sound m m' place a reply sound there does =
    let step = does.stepped in
    let long : length m'.seats.items ≡ length m.seats.items =
    sym (length-views_from (notes_of m') 0 m'.seats.items) ∙ (actors_stay (core_of m) place a (core_of m') reply step ∙ length-views_from (notes_of m) 0 m.seats.items) in
    let (more, grown, by) = entries_grow (core_of m) place a (core_of m') reply step in
    let P : ℕ → Type 0 = λ z. z < length m'.seats.items in
    let old : All P m.entries.places.items = λ k d lt. let a = sound.finishers k d lt in omega arith in
    record {
      holds = does.holds;
      finishers = subst (All P) (sym by) (All-append P m.entries.places.items (map (λ _. place) more) old (All-map P (λ _. place) more (λ k d lt. omega arith)));
    }
