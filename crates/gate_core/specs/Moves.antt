-- Histories of a plane: its moves, one after another, each by an actor that may do it.
use Rattle.std.specs.Prelude.{◌≡◌, ℕ, ◌<◌, List, [], ◌∷◌, ◌++◌, length, slice_index, slice_index_or, slice_set}
use mathlib.Core.Option.{some}
use lib.ListN.{get_elem?}
use Rattle.spie_base.specs.declared.PageShape.{PageShape}
use Rattle.gate_core.specs.declared.steps.Act.{Act}
use Rattle.gate_core.specs.declared.states.PassState.TheVariants.{Idle}
use Rattle.spie_base.specs.declared.types.Entry.{Entry}
use Rattle.gate_core.specs.Views.{Spent, Pass, Keeper, View, blank, first_keeper}
use Rattle.gate_core.specs.Acts.{word_of, word_after, view_after, Enabled, dealer_view, dealt_view, gathered_view}
use Rattle.gate_core.specs.Invariant.{PlaneInvariant}
use Rattle.gate_core.specs.declared.limits.TheConstants.{MOST_PASSES}

-- The words of a router's pages, and the views of all actors
pub record Plane : Type 0 where
  pub words : List ℕ
  pub views : List View

-- it meets the plane invariant
abbrev pub MeetsInvariant : PageShape → Plane → Type 0
MeetsInvariant shape plane = PlaneInvariant shape plane.words plane.views

-- a new plane, with these words and the keeper alone
abbrev pub first_plane : List ℕ → Plane
first_plane words = record { words = words; views = first_keeper ∷ [] }

-- One move, by the actor at a place among the views
pub data Move : Type 0 where
  -- the actor does an act
  acts : (place : ℕ) → Act → Move
  -- the keeper deals a pass, whose view comes last
  deals : (keeper : ℕ) → Move
  -- the keeper gathers the pass at another place
  gathers : (keeper pass : ℕ) → Move

-- v is the view at a place
abbrev pub HasView : Plane → ℕ → View → Type 0
HasView plane i v = get_elem? plane.views i ≡ some v

-- ---- one move

-- the view at a place
abbrev pub view_at : Plane → ℕ → View
view_at plane i = slice_index_or plane.views i blank

-- the actor at the place may make the move
abbrev pub CanMove : PageShape → Plane → Move → Type 0
-- it is there, it was not gathered, and the act is enabled
CanMove shape plane (acts i a) = (i < length plane.views) × ¬ ((view_at plane i).role ≡ Spent) × Enabled shape a (view_at plane i)
-- it is the keeper, and fewer passes are out than there may be
CanMove shape plane (deals k) = (k < length plane.views) × ((view_at plane k).role ≡ Keeper) × ((view_at plane k).duties.out < MOST_PASSES)
-- it is the keeper, and at the other place is a pass that is Idle
CanMove shape plane (gathers k i) = (k < length plane.views) × ((view_at plane k).role ≡ Keeper) × (i < length plane.views) × ((view_at plane i).role ≡ Pass) × ((view_at plane i).state ≡ Idle)

-- the act changes one word, which it reads, and the actor's own view
abbrev pub after_act : PageShape → Plane → ℕ → Act → Plane
after_act shape plane i a = let v = view_at plane i in let at = word_of shape a v in let n = slice_index plane.words at in
    record { words = slice_set plane.words at (word_after shape a v n); views = slice_set plane.views i (view_after shape a v n) }

-- the plane after the move
abbrev pub after_move : PageShape → Plane → Move → Plane
after_move shape plane (acts i a) = after_act shape plane i a
after_move shape plane (deals k) = let v = view_at plane k in record plane { views = slice_set plane.views k (dealer_view v) ++ dealt_view v ∷ [] }
after_move shape plane (gathers k i) = record plane { views = slice_set (slice_set plane.views k (gathered_view (view_at plane k) (view_at plane i))) i blank }

-- ---- many

-- the moves lead from the first plane to the second, and each could be made where it was made
abbrev pub IsRun : PageShape → Plane → List Move → Plane → Type 0
IsRun shape plane [] end = end ≡ plane
IsRun shape plane (m ∷ ms) end = CanMove shape plane m × IsRun shape (after_move shape plane m) ms end

-- ---- what stays

-- the actor at the place still has these entries first
abbrev pub HasFirst : Plane → ℕ → List Entry → Type 0
HasFirst plane i es = (v : View) × HasView plane i v × (rest : List Entry) × (v.entries ≡ es ++ rest)

-- it was gathered, and the keeper has them among its own, side by side and in order
abbrev pub HasGathered : Plane → ℕ → List Entry → Type 0
HasGathered plane i es = (gone : View) × HasView plane i gone × (gone.role ≡ Spent) × (k : ℕ) × (v : View) × HasView plane k v × (v.role ≡ Keeper) × (before : List Entry) × (rest : List Entry) × (v.entries ≡ before ++ es ++ rest)
