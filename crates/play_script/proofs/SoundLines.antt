-- A script is sound.
use Rattle.std.proofs.Common.{count_by, ℕ, ◌≡◌, ◌+◌, ◌-◌, ◌*◌, ◌^◌, ◌≤◌, ◌<◌, List, [], ◌∷◌, ◌++◌, length, refl, sym, ◌∙◌, subst, arith, Bool, true, false, nat_lt, nat_le, lit≤, length-append}
use Rattle.std.proofs.lemmas.Bool.Decides.{nat_tests}
use Rattle.std.proofs.lemmas.List.Folds.{list_all-append}
use Rattle.std.proofs.lemmas.List.Sums.{count_by-le-length}
use Rattle.std.proofs.lemmas.Nat.{pow-add}
use Rattle.std.specs.List.{list_all}
use Rattle.gate_core.specs.Core.{is_within}
use Rattle.gate_core.specs.Play.{is_step, is_actor, opens_page}
use Rattle.gate_core.specs.declared.limits.TheConstants.{MOST_PASSES}
use Rattle.spie_base.proofs.Booleans.{both_hold}
use Rattle.spie_base.proofs.Bounds.{past}
use Rattle.gate_core.specs.Marks.{size}
use Rattle.gate_core.specs.declared.steps.Act.{Act}
use Rattle.gate_core.specs.declared.steps.Act.TheVariants as act
use Rattle.gate_core.specs.declared.steps.Actor.{Actor}
use Rattle.gate_core.specs.declared.steps.Actor.TheVariants as actor
use Rattle.gate_core.specs.declared.steps.Step.{Step}
use Rattle.spie_base.specs.declared.types.PageShape.{PageShape}
use Rattle.play_script.specs.Limits.{most_steps, IsCore}
use Rattle.line_text.proofs.Readings.{along}
use Rattle.line_text.specs.Text.{lines}
use Rattle.play_script.proofs.Again.{IsNarrow}
use Rattle.play_script.specs.Before.{script_of, shape_of, passes_of, steps_of}
use Rattle.play_script.specs.Said.{Said}
use Rattle.play_script.specs.Said as said
use Rattle.play_script.specs.Script.{scripts, IsLine, IsScript}
use Rattle.play_script.specs.Sound.{IsSound}
use Rattle.play_script.specs.Spelling.{Spells, SpellsAct, IsActor}
use Rattle.play_script.specs.Words.{stage_of, may_come}
use Rattle.play_script.specs.declared.script.PlayScript.{PlayScript}
use Rattle.play_script.specs.declared.words.Stage.{Stage}
use Rattle.play_script.specs.declared.words.Stage.TheVariants as stage

actor_is : (passes : ℕ) (who : Actor) (field : List ℕ) → IsActor passes who field → is_actor passes who ≡ true
actor_is passes actor.Keeper field h = refl
actor_is passes (actor.Pass n) field h = past _ _ h.1

-- 2^n is so many words of 64 bits
by_words : (m : ℕ) → 2 ^ (m + 6) ≡ 64 * 2 ^ m
by_words m = let e : 2 ^ (6 + m) ≡ 2 ^ 6 * 2 ^ m = pow-add 2 6 m in let c : m + 6 ≡ 6 + m = omega arith in rw c e

positions_are : (n m : ℕ) → n ≡ m + 6 → 2 ^ n ≡ 64 * 2 ^ m
positions_are n m e = rw e (by_words m)

probe_fits : (shape : PageShape) (at : ℕ) → 6 ≤ shape.n → at < 2 ^ shape.n → nat_lt at (size shape) ≡ true
probe_fits shape at n h = let e : 2 ^ shape.n ≡ size shape = positions_are shape.n (shape.n - 6) (omega arith) in past at (size shape) (rw (← e) h)

act_is : (shape : PageShape) (a : Act) (fields : List (List ℕ)) → 6 ≤ shape.n → SpellsAct shape a fields → is_within shape a ≡ true
act_is shape act.Look fields n s = refl
act_is shape (act.Enter sig) fields n s = refl
act_is shape act.Set fields n s = refl
act_is shape act.Leave fields n s = refl
act_is shape act.Seal fields n s = refl
act_is shape (act.Settle slot) fields n s = past _ _ s.1
act_is shape (act.Drain slot) fields n s = past _ _ s.1
act_is shape (act.Open slot) fields n s = past _ _ s.1
act_is shape act.Point fields n s = refl
act_is shape (act.Probe slot at) fields n s = both_hold _ _ (past _ _ s.1) (probe_fits shape at n s.2)

-- the stages with no step yet
abbrev early : Stage → Bool
early stage.Version = true
early stage.Core = true
early _ = false

early_version : (here : Stage) → may_come here said.Version ≡ true → early here ≡ true
early_version stage.Version m = refl
early_version here m = absurd (cc)

early_core : (here : Stage) (passes : ℕ) (shape : PageShape) → may_come here (said.Core passes shape) ≡ true → early here ≡ true
early_core stage.Core passes shape m = refl
early_core here passes shape m = absurd (cc)

-- what is so of the lines so far
pub record Holds (before : List Said) : Type 0 where
  pub in_range : IsCore (shape_of before)
  pub router : (shape_of before).router.number ≡ 0
  pub some_pass : 1 ≤ passes_of before
  pub few_passes : passes_of before ≤ MOST_PASSES
  pub each : list_all (is_step (shape_of before) (passes_of before)) (steps_of before) ≡ true
  pub few : length (steps_of before) ≤ most_steps
  pub none : early (stage_of before) ≡ true → steps_of before ≡ []

none_each : (shape : PageShape) (passes : ℕ) (steps : List Step) → steps ≡ [] → list_all (is_step shape passes) steps ≡ true
none_each shape passes steps e = rw e refl

none_few : (steps : List Step) → steps ≡ [] → length steps ≤ most_steps
none_few steps e = rw e (lit≤ tt)

one_each : (shape : PageShape) (passes : ℕ) (steps : List Step) (step : Step) → list_all (is_step shape passes) steps ≡ true → is_step shape passes step ≡ true → list_all (is_step shape passes) (steps ++ step ∷ []) ≡ true
one_each shape passes steps step h one = list_all-append (is_step shape passes) steps (step ∷ []) ∙ both_hold _ _ h (both_hold _ _ one refl)

one_few : (steps : List Step) (step : Step) → nat_le most_steps (length steps) ≡ false → length (steps ++ step ∷ []) ≤ most_steps
one_few steps step h = grind (arith, nat_tests, length-append)

step_is : (far : PlayScript) (step : Step) (fields : List (List ℕ)) → 6 ≤ far.shape.n → Spells far (said.Does step) fields → is_step far.shape far.passes step ≡ true
step_is far step fields n s = both_hold _ _ (actor_is far.passes step.actor s.0 s.3) (both_hold _ _ s.5 (act_is far.shape step.act s.1 n s.4))

pub holds : (before : List Said) (line : List ℕ) (s : Said) → Holds before → IsLine before line s → Holds (s ∷ before)
holds before line said.Version h l = record { in_range = h.in_range; router = h.router; some_pass = h.some_pass; few_passes = h.few_passes; each = h.each; few = h.few; none = λ e. h.none (early_version _ l.comes) }
holds before line (said.Core passes shape) h l =
    let p = l.spelled in
    let z : steps_of before ≡ [] = h.none (early_core _ passes shape l.comes) in
    record { in_range = p.4; router = p.6; some_pass = p.2; few_passes = p.3; each = none_each shape passes _ z; few = none_few _ z; none = λ e. z }
holds before line (said.Does step) h l = record {
  in_range = h.in_range;
  router = h.router;
  some_pass = h.some_pass;
  few_passes = h.few_passes;
  each = one_each (shape_of before) (passes_of before) (steps_of before) step h.each (step_is (script_of before) step _ h.in_range.in_range.n_least l.spelled);
  few = one_few (steps_of before) step l.fits;
  none = λ e. absurd (cc);
}
holds before line said.End h l = record { in_range = h.in_range; router = h.router; some_pass = h.some_pass; few_passes = h.few_passes; each = h.each; few = h.few; none = λ e. absurd (cc) }

pub at_first : Holds []
at_first = record {
  in_range = record { in_range = record { k_least = lit≤ tt; k_most = lit≤ tt; n_least = lit≤ tt; n_most = lit≤ tt }; n_most = lit≤ tt };
  router = refl;
  some_pass = lit≤ tt;
  few_passes = lit≤ tt;
  each = refl;
  few = lit≤ tt;
  none = λ e. refl;
}

pub holds_narrow : (before : List Said) → Holds before → IsNarrow (script_of before)
holds_narrow before h = record { few_passes = h.few_passes; n_most = h.in_range.n_most }

pages_fit : (steps : List Step) → length steps ≤ most_steps → count_by opens_page steps + 1 < 2 ^ 32
pages_fit steps few = let c = count_by-le-length opens_page steps in omega (arith, few, c)

pub script_is_sound : (text : List ℕ) (script : PlayScript) → IsScript text script → IsSound script
script_is_sound text script t =
    let P : PlayScript → Type 0 = λ v. IsSound v in
    let h = along scripts Holds at_first holds (lines text) t.said ([] ∷ []) t.lines_say in
    subst P (sym t.value_is) (record { in_range = h.in_range.in_range; n_most = h.in_range.n_most; router = h.router; some_pass = h.some_pass; few_passes = h.few_passes; each = h.each; few = h.few; pages = pages_fit (steps_of t.said) h.few })
