-- The machine: the words, the views of its actors, the finished entries in order, and a step.
use Rattle.std.specs.Prelude.{All, ◌≡◌, ℕ, ◌+◌, ◌-◌, ◌<◌, ◌==◌, ◌%◌, ◌^◌, Bool, true, false, not, nat_lt, ◌&&◌, List, [], ◌∷◌, ◌++◌, length, map, slice_index, slice_range, if◌then◌else◌}
use Rattle.std.specs.Int.{bit_at}
use Rattle.spie_base.specs.declared.PageShape.{PageShape}
use Rattle.gate_core.specs.declared.steps.Actor.{Actor}
use Rattle.gate_core.specs.declared.steps.Actor.TheVariants as actor
use Rattle.gate_core.specs.declared.steps.Act.{Act}
use Rattle.gate_core.specs.declared.steps.Act.TheVariants.{Look, Enter, Set, Leave, Seal, Settle, Drain, Point, Probe}
use Rattle.gate_core.specs.declared.steps.Act.TheVariants as act
use Rattle.gate_core.specs.declared.steps.Step.{Step}
use Rattle.gate_core.specs.declared.steps.StepAnswer.{StepAnswer}
use Rattle.gate_core.specs.declared.steps.StepAnswer.TheVariants as answer
use Rattle.spie_base.specs.declared.types.Entry.{Entry}
use Rattle.gate_core.specs.declared.states.PassState.{PassState}
use Rattle.gate_core.specs.declared.states.PassState.TheVariants.{Idle, Looked, Inside, Visiting}
use Rattle.gate_core.specs.declared.states.ActorState.{ActorState}
use Rattle.gate_core.specs.declared.states.ActorState.TheVariants as actor_state
use Rattle.gate_core.specs.Marks.{width, size}
use Rattle.gate_core.specs.Views.{Slot, Duties, View, slot_at}
use Rattle.gate_core.specs.Acts.{inside_of, seal_of, page_of, numbered, bit_place, open_slot, next_word, word_of, Enabled}
use Rattle.gate_core.specs.Moves as moves
use Rattle.gate_core.specs.Moves.{Plane}
use Rattle.gate_core.specs.declared.limits.TheConstants.{SLOTS}

-- The keeper's view is the first, and the passes' follow in their order. `finishers` has the place of the actor that
-- finished each entry. For `room` steps the machine has memory.
pub record Core : Type 0 where
  pub shape : PageShape
  pub words : List ℕ
  pub views : List View
  pub entries : List Entry
  pub finishers : List ℕ
  pub room : ℕ

-- ---- actors

abbrev pub place_of : Actor → ℕ
place_of actor.Keeper = 0
place_of (actor.Pass number) = number + 1

-- its words and views
abbrev pub plane_of : Core → Plane
plane_of c = record { words = c.words; views = c.views }

abbrev pub view_at : Core → (place : ℕ) → View
view_at c place = moves.view_at (plane_of c) place

abbrev pub duties_of : Core → Duties
duties_of c = (view_at c 0).duties

-- the items at one of these places
abbrev pub items_at : {T : Type 0} → (place : ℕ) → (places : List ℕ) → List T → List T
items_at place [] xs = []
items_at place (p ∷ ps) [] = []
items_at place (p ∷ ps) (x ∷ xs) = if p == place then x ∷ items_at place ps xs else items_at place ps xs

-- the finished entries are those of the views, each of the actor that finished it
pub record IsLogged (c : Core) : Type 0 where
  pub each : length c.finishers ≡ length c.entries
  pub whose : All (λ (place : ℕ). place < length c.views) c.finishers
  pub mine : (place : ℕ) → place < length c.views → (view_at c place).entries ≡ items_at place c.finishers c.entries

-- ---- what an act answers, n being the number that was read

abbrev pub answer_of : PageShape → Act → View → (n : ℕ) → StepAnswer
answer_of shape Look v n = answer.Slot n
answer_of shape (Enter sig) v n = if seal_of n == 0 then answer.Entered (numbered (page_of n)) else answer.Visiting n
answer_of shape Set v n = answer.Set
answer_of shape Leave v n = answer.Left
answer_of shape Seal v n = answer.Sealed (numbered (page_of n))
answer_of shape (Settle s) v n = if inside_of n == 0 then answer.Quiet else answer.Pending (inside_of n)
answer_of shape (Drain s) v n =
    if next_word (slot_at v.duties s).phase + 1 == width shape then answer.Collected (numbered (slot_at v.duties s).page) else answer.Drained
answer_of shape (act.Open s) v n = answer.Opened (numbered v.duties.next)
answer_of shape Point v n = answer.Pointed (open_slot v.duties)
answer_of shape (Probe s p) v n = answer.Bit (bit_at n (p % 64) == 1)

-- the state that an act which is not enabled answers: of a record's steps the actor's, else the slots' phases
abbrev pub state_of : Act → View → ActorState
state_of Look v = actor_state.Pass v.state
state_of (Enter sig) v = actor_state.Pass v.state
state_of Set v = actor_state.Pass v.state
state_of Leave v = actor_state.Pass v.state
state_of _ v = actor_state.Keeper (map (λ (x : Slot). x.phase) v.duties.slots)

-- ---- a step

-- the entry that an act finishes
abbrev pub left_with : PassState → List Entry
left_with Idle = []
left_with (Looked s) = []
left_with (Inside s page sig m) = record { page = page; sig = sig } ∷ []
left_with (Visiting s gate) = []

abbrev pub finished : Act → View → List Entry
finished Leave v = left_with v.state
finished _ v = []

-- the machine after the act of the actor at a place, where it is enabled
abbrev pub after_act : Core → (place : ℕ) → Act → Core
after_act c place a =
    let v = view_at c place in
    let plane = moves.after_act c.shape (plane_of c) place a in
    record {
      shape = c.shape;
      words = plane.words;
      views = plane.views;
      entries = c.entries ++ finished a v;
      finishers = c.finishers ++ map (λ _. place) (finished a v);
      room = c.room - 1;
    }

abbrev pub answer_at : Core → (place : ℕ) → Act → StepAnswer
answer_at c place a = let v = view_at c place in answer_of c.shape a v (slice_index c.words (word_of c.shape a v))

-- an act that is enabled is done, and any other changes nothing but the room
pub record Stepped (c : Core) (place : ℕ) (a : Act) (c' : Core) (reply : StepAnswer) : Type 0 where
  pub done : Enabled c.shape a (view_at c place) → (c' ≡ after_act c place a) × (reply ≡ answer_at c place a)
  pub kept : ¬ Enabled c.shape a (view_at c place) → (c' ≡ record c { room = c.room - 1 }) × (reply ≡ answer.NotEnabled (state_of a (view_at c place)))

-- ---- what a step has to be

-- only the keeper may do it
abbrev pub is_keepers : Act → Bool
is_keepers Look = false
is_keepers (Enter sig) = false
is_keepers Set = false
is_keepers Leave = false
is_keepers _ = true

-- this actor may do it
abbrev pub may_do : Actor → Act → Bool
may_do actor.Keeper a = true
may_do (actor.Pass number) a = not (is_keepers a)

-- the slot and the position of the act exist
abbrev pub is_within : PageShape → Act → Bool
is_within shape (Settle s) = nat_lt s SLOTS
is_within shape (Drain s) = nat_lt s SLOTS
is_within shape (act.Open s) = nat_lt s SLOTS
is_within shape (Probe s p) = nat_lt s SLOTS && nat_lt p (size shape)
is_within shape _ = true

-- where the step opens a page, its number fits
abbrev pub PageFits : Act → Duties → Type 0
PageFits (act.Open s) d = d.next + 1 < 2 ^ 32
PageFits _ d = Unit {0}

-- what a caller owes of a step
pub record CanStep (c : Core) (step : Step) : Type 0 where
  pub actor : place_of step.actor < length c.views
  pub may : may_do step.actor step.act ≡ true
  pub within : is_within c.shape step.act ≡ true
  pub fits : PageFits step.act (duties_of c)

-- ---- the words of a page: those collected, and then the live ones of its slot

abbrev pub live_words : PageShape → List ℕ → (slot from : ℕ) → List ℕ
live_words shape words s from = slice_range words (bit_place shape s from) (bit_place shape s (width shape))
