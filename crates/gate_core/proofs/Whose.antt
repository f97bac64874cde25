-- Who does an act.
use Rattle.std.proofs.Common.{◌≡◌, ℕ, true, sym, refl, ap, ◌∙◌, subst}
use Rattle.gate_core.specs.declared.core_data.CoreData.{CoreData}
use Rattle.gate_core.specs.declared.steps.Act.{Act}
use Rattle.gate_core.specs.declared.steps.Actor.{Actor}
use Rattle.gate_core.specs.declared.steps.Actor.TheVariants as actor
use Rattle.gate_core.specs.declared.steps.StepAnswer.{StepAnswer}
use Rattle.gate_core.specs.Core.{place_of, is_keepers, may_do}
use Rattle.gate_core.specs.Kept.{DoesAct}

-- the keeper's acts are done at the keeper's place
keepers_place : (who : Actor) (a : Act) → may_do who a ≡ true → is_keepers a ≡ true → place_of who ≡ 0
keepers_place actor.Keeper a may own = refl
keepers_place (actor.Pass number) a may own = cc

pub keepers_does : (m m' : CoreData) (who : Actor) (a b : Act) (reply : StepAnswer) → b ≡ a → may_do who b ≡ true → is_keepers a ≡ true → DoesAct m m' 0 a reply → DoesAct m m' (place_of who) b reply
keepers_does m m' who a b reply is may own k =
    subst (λ (place : ℕ). DoesAct m m' place b reply) (sym (keepers_place who b may (ap is_keepers is ∙ own)))
    (subst (λ (x : Act). DoesAct m m' 0 x reply) (sym is) k)
