-- Dealing, gathering and attesting are allowed.
use Rattle.std.proofs.Common.{◌≡◌, ℕ, ◌<◌, List, get_or, set, sym, refl, ◌∙◌, subst}
use Rattle.std.proofs.lemmas.List.{set-get_or}
use mathlib.Core.Option.{none}
use Rattle.atomic_table.specs.Table.{Me, step, keeps, Allows, Splits, Joins}
use Rattle.atomic_table.proofs.Lists.{set_again}
use Rattle.spie_base.specs.declared.PageShape.{PageShape}
use Rattle.gate_core.specs.declared.states.PassState.TheVariants.{Idle}
use Rattle.gate_core.specs.declared.view.View.{View}
use Rattle.gate_core.specs.declared.view.Role.TheVariants.{Pass, Keeper}
use Rattle.gate_core.specs.Views.{blank}
use Rattle.gate_core.specs.Acts.{dealer_view, dealt_view, gathered_view}
use Rattle.gate_core.specs.Invariant.{PlaneInvariant, Met}
use Rattle.gate_core.proofs.Lists.{set_else}
use Rattle.gate_core.proofs.Duty.{keeper_fits}
use Rattle.gate_core.proofs.Deals.{splits, joins}
use Rattle.page_gate.specs.Steps.{Nothing, Holds, attested}
use Rattle.page_gate.proofs.Allowed.{met_at}

pub splits_allowed : (shape : PageShape) (id : ℕ) (v : View) → v.role ≡ Keeper → v.duties.out < 16 → Splits {S = Nothing} (Holds shape) id v (dealer_view v) (dealt_view v)
splits_allowed shape id v role room s law at = splits shape s.words s.views id v at role (keeper_fits shape s.words s.views law id v at role) room

pub joins_allowed : (shape : PageShape) (id other : ℕ) (v p : View) → v.role ≡ Keeper → p.role ≡ Pass → p.state ≡ Idle → Joins {S = Nothing} (Holds shape) id v other p (gathered_view v p) blank
joins_allowed shape id other v p role is_out idle s law at apart at' = joins shape s.words s.views id v at role (keeper_fits shape s.words s.views law id v at role) other p apart
    (sym (set_else s.views id other (gathered_view v p) apart) ∙ at') is_out idle

pub attest_allowed : (key shape : PageShape) (slots id i : ℕ) (me : Me Nothing View) → shape ≡ key → Allows (Holds key) slots id me i (λ n. n) (attested shape (step slots i 0 0 none) me)
attest_allowed key shape slots id i me keyed s law long at small = (
  me.0,
  keeps,
  tt,
  subst (λ (vs : List View). PlaneInvariant key (set s.words i (get_or s.words i 0)) vs) (sym (set_again s.views id me.0 at)) (subst (λ (ws : List ℕ). PlaneInvariant key ws s.views) (sym (set-get_or s.words i 0)) law),
  (refl, subst (λ (k : PageShape). Met k me.0 i (get_or s.words i 0)) (sym keyed) (met_at key s.words s.views id me.0 law at i)),
)
