-- What a try to record tells.
use Rattle.std.specs.Prelude.{◌≡◌, ℕ, List, [], ◌∷◌, ◌++◌, All}
use Rattle.atomic_table.specs.declared.shared.Seat.{Seat}
use Rattle.spie_base.specs.declared.Sig.{Sig}
use Rattle.spie_base.specs.declared.PageNo.{PageNo}
use Rattle.gate_core.specs.declared.states.PassState.TheVariants.{Idle}
use Rattle.gate_core.specs.declared.view.View.{View}
use Rattle.gate_core.specs.declared.view.Visit.{Visit}
use Rattle.spie_base.specs.declared.PageShape.{PageShape}
use Rattle.gate_core.specs.Invariant.{VisitFits}
use Rattle.gate_core.specs.Moves.{Plane, MeetsInvariant}
use Rattle.page_gate.specs.declared.record.Tried.{Tried}
use Rattle.page_gate.specs.declared.record.Tried.TheVariants.{Entered, Sealed}
use Rattle.page_gate.specs.Steps.{Nothing}
use Rattle.page_gate.specs.Held.{PassHeld}

-- the seat is the same, and its view is w
abbrev pub StaysWith : Seat Nothing View → Seat Nothing View → View → Type 0
StaysWith before after w = (after.table_id ≡ before.table_id) × (after.id ≡ before.id) × (after.me ≡ (w, before.me.1))

-- there is a state of a plane that meets the invariant, in which what was read is a visit of an actor with this floor: the gate is
-- sealed, its page is below the next page, not below the floor, and stands in no Open slot. That the pass's own plane was once in
-- that state is not said
pub record SealedThen (shape : PageShape) (floor slot gate : ℕ) : Type 0 where
  pub plane : Plane
  pub rule : MeetsInvariant shape plane
  pub visit : VisitFits rule.head.duties floor (record { slot = slot; gate = gate })

-- the slot that was visited, and what is known of its gate
abbrev pub Visited : PageShape → View → View → ℕ → Type 0
Visited shape v w gate = (slot : ℕ) × (w ≡ record v { state = Idle; visits = v.visits ++ record { slot = slot; gate = gate } ∷ [] }) × SealedThen shape v.floor slot gate

abbrev pub TellsView : PageShape → Sig → View → View → Tried → Type 0
TellsView shape sig v w (Entered page) = w ≡ record v { state = Idle; entries = v.entries ++ record { page = page; sig = sig } ∷ [] }
TellsView shape sig v w (Sealed gate) = Visited shape v w gate

abbrev pub Tells : PageShape → Sig → Seat Nothing View → Seat Nothing View → Tried → Type 0
Tells shape sig before after t = (after.table_id ≡ before.table_id) × (after.id ≡ before.id) × (after.me.1 ≡ before.me.1) × TellsView shape sig before.me.0 after.me.0 t

-- the view with an entry more, idle
abbrev pub with_entry : View → PageNo → Sig → View
with_entry v page sig = record v { state = Idle; entries = v.entries ++ record { page = page; sig = sig } ∷ [] }

-- the seat is the same, and has an entry more
abbrev pub RecordedIn : PageNo → Sig → Seat Nothing View → Seat Nothing View → Type 0
RecordedIn page sig before after = StaysWith before after (with_entry before.me.0 page sig)

-- ---- the same of a pass

-- an entry more, the last one; or a visit more and no entry, of a gate that was sealed then
abbrev pub PassTells : PageShape → Sig → PassHeld → PassHeld → Tried → Type 0
PassTells shape sig before after (Entered page) = after ≡ record before { entries = before.entries ++ record { page = page; sig = sig } ∷ [] }
PassTells shape sig before after (Sealed gate) = (slot : ℕ) × (after ≡ record before { visits = before.visits ++ record { slot = slot; gate = gate } ∷ [] }) × SealedThen shape before.floor slot gate

-- ---- a record that may wait

-- each of these was read from a gate that was sealed then
abbrev pub WereSealed : PageShape → (floor : ℕ) → List Visit → Type 0
WereSealed shape floor visits = All (λ (x : Visit). SealedThen shape floor x.slot x.gate) visits

-- no entry was added; there may be visits more, of gates that were sealed then
pub record PassRetried (shape : PageShape) (before after : PassHeld) : Type 0 where
  pub more : List Visit
  pub sealed : WereSealed shape before.floor more
  pub held : after ≡ record before { visits = before.visits ++ more }

-- the entry stands last, in this page; there may be visits more, of gates that were sealed then; all else is as before
pub record PassRecorded (shape : PageShape) (sig : Sig) (before after : PassHeld) (page : PageNo) : Type 0 where
  pub more : List Visit
  pub sealed : WereSealed shape before.floor more
  pub held : after ≡ record before { entries = before.entries ++ record { page = page; sig = sig } ∷ []; visits = before.visits ++ more }
