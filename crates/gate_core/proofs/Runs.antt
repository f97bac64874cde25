-- Each move keeps the plane invariant, and so does each run.
use Rattle.std.proofs.Common.{◌≡◌, ℕ, zero, suc, ◌<◌, List, [], ◌∷◌, length, get_or, sym, ap, ◌∙◌, subst, refl, arith}
use mathlib.Core.Option.{some}
use lib.ListN.{get_elem?}
use Rattle.spie_base.specs.declared.PageShape.{PageShape}
use Rattle.gate_core.specs.Views.{Pass, Keeper, blank}
use Rattle.gate_core.specs.Invariant.{PlaneFits, IsFresh}
use Rattle.gate_core.specs.Moves.{Plane, MeetsInvariant, first_plane, Move, acts, deals, gathers, view_at, CanMove, after_move, IsRun}
use Rattle.gate_core.proofs.Duty.{keeper_fits}
use Rattle.gate_core.proofs.Deals.{splits, joins}
use Rattle.gate_core.proofs.Every.{keeps}
use Rattle.gate_core.proofs.Starts.{starts}

-- an item that is there is found there
pub at_place : {A : Type 0} (l : List A) (i : ℕ) (d : A) → i < length l → get_elem? l i ≡ some (get_or l i d)
at_place [] i d lt = absurd (omega arith)
at_place (x ∷ xs) zero d lt = refl
at_place (x ∷ xs) (suc i) d lt = at_place xs i d (omega arith)

module _ (shape : PageShape) where
  -- the plane invariant for the view at a place where the keeper is
  rule_at : (plane : Plane) (r : MeetsInvariant shape plane) (k : ℕ) → k < length plane.views → (view_at plane k).role ≡ Keeper → PlaneFits shape plane.words plane.views (view_at plane k).duties (view_at plane k).entries
  rule_at plane r k within role = keeper_fits shape plane.words plane.views r k (view_at plane k) (at_place plane.views k blank within) role

  pub move_keeps : (plane : Plane) → MeetsInvariant shape plane → (m : Move) → CanMove shape plane m → MeetsInvariant shape (after_move shape plane m)
  move_keeps plane r (acts i a) can = keeps shape plane.words plane.views r i (view_at plane i) (at_place plane.views i blank can.0) can.1 a can.2
  move_keeps plane r (deals k) can = splits shape plane.words plane.views k (view_at plane k) (at_place plane.views k blank can.0) can.1 (rule_at plane r k can.0 can.1) can.2
  move_keeps plane r (gathers k i) can = joins shape plane.words plane.views k (view_at plane k) (at_place plane.views k blank can.0) can.1 (rule_at plane r k can.0 can.1)
      i (view_at plane i) (λ e. let q : Keeper ≡ Pass = sym can.1 ∙ (ap (λ (j : ℕ). (view_at plane j).role) (sym e) ∙ can.3) in cc) (at_place plane.views i blank can.2) can.3 can.4

  pub run_keeps : (plane : Plane) (moves : List Move) (end : Plane) → MeetsInvariant shape plane → IsRun shape plane moves end → MeetsInvariant shape end
  run_keeps plane [] end r run = subst (MeetsInvariant shape) (sym run) r
  run_keeps plane (m ∷ ms) end r run = run_keeps (after_move shape plane m) ms end (move_keeps plane r m run.0) run.1

  pub starts_fresh : (words : List ℕ) → IsFresh shape words → MeetsInvariant shape (first_plane words)
  starts_fresh words fresh = starts shape words fresh
