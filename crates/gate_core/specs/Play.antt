-- A list of steps from the start.
use Rattle.std.specs.Prelude.{◌≡◌, ℕ, Bool, true, false, ◌&&◌, nat_lt, List, [], ◌∷◌}
use Rattle.spie_base.specs.declared.PageShape.{PageShape}
use Rattle.gate_core.specs.declared.steps.Actor.{Actor}
use Rattle.gate_core.specs.declared.steps.Actor.TheVariants as actor
use Rattle.gate_core.specs.declared.steps.Act.{Act}
use Rattle.gate_core.specs.declared.steps.Act.TheVariants as act
use Rattle.gate_core.specs.declared.steps.Step.{Step}
use Rattle.gate_core.specs.declared.steps.StepAnswer.{StepAnswer}
use Rattle.gate_core.specs.Core.{Core, place_of, may_do, is_within, Stepped}

-- ---- whether a step may stand in a list

abbrev pub is_actor : (passes : ℕ) → Actor → Bool
is_actor passes actor.Keeper = true
is_actor passes (actor.Pass number) = nat_lt number passes

-- the actor, the slot and the position exist, and the keeper's acts are done by the keeper
abbrev pub is_step : PageShape → (passes : ℕ) → Step → Bool
is_step shape passes step = is_actor passes step.actor && (may_do step.actor step.act && is_within shape step.act)

abbrev pub is_open : Act → Bool
is_open (act.Open s) = true
is_open _ = false

-- the step may open a page
abbrev pub opens_page : Step → Bool
opens_page step = is_open step.act

-- ---- the steps done in order

abbrev pub IsPlayed : Core → List Step → Core → List StepAnswer → Type 0
IsPlayed c [] end [] = end ≡ c
IsPlayed c [] end (reply ∷ replies) = ⊥
IsPlayed c (step ∷ steps) end [] = ⊥
IsPlayed c (step ∷ steps) end (reply ∷ replies) =
    (next : Core) × Stepped c (place_of step.actor) step.act next reply × IsPlayed next steps end replies
