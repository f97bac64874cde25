-- The machine at the start.
use Rattle.std.specs.Prelude.{ℕ, ◌*◌, List, [], ◌∷◌, map, replicate}
use Rattle.std.specs.List.{range_with_len}
use Rattle.spie_base.specs.declared.PageShape.{PageShape}
use Rattle.gate_core.specs.declared.states.PassState.TheVariants.{Idle}
use Rattle.gate_core.specs.Marks.{width}
use Rattle.gate_core.specs.Views.{Pass, no_duties, View, first_keeper}
use Rattle.gate_core.specs.Core.{Core}

-- the keeper, when all passes are dealt
abbrev pub keeper_view : (passes : ℕ) → View
keeper_view passes = record first_keeper { duties = record first_keeper.duties { dealt = passes; out = passes } }

-- a pass that has done nothing
abbrev pub pass_view : (number : ℕ) → View
pass_view number = record { role = Pass; number = number; state = Idle; entries = []; visits = []; floor = 0; duties = no_duties }

abbrev pub first_views : (passes : ℕ) → List View
first_views passes = keeper_view passes ∷ map pass_view (range_with_len 0 passes)

-- slot 0 is current and open with page 0, the other three are sealed, nobody is inside, and no bit is set
abbrev pub first_words : PageShape → List ℕ
first_words shape = 0 ∷ 0 ∷ 65536 ∷ 65536 ∷ 65536 ∷ replicate (4 * width shape) 0

abbrev pub start_of : PageShape → (passes : ℕ) → Core
start_of shape passes =
    record { shape = shape; words = first_words shape; views = first_views passes; entries = []; finishers = []; room = 0 }
