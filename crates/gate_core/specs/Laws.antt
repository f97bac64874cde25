-- What the definitions of the acts, of the plane invariant and of the machine imply.
--
-- A law of a plane that meets the invariant is a record over the plane and its keeper's view, `Always` it.
use Rattle.std.specs.Prelude.{◌≡◌, ℕ, ◌+◌, ◌<◌, ◌≤◌, ◌/◌, ◌%◌, ◌++◌, ◌↔◌, ◌⊎◌, true, false, List, [], slice_index, slice_set}
use Rattle.std.specs.Int.{bit_at}
use mathlib.Core.Option.{some}
use lib.ListN.{get_elem?}
use Rattle.spie_base.specs.declared.PageShape.{PageShape}
use Rattle.spie_base.specs.declared.types.Entry.{Entry}
use Rattle.hash_family.specs.Entries.{IsAmong, IsMarked}
use Rattle.bloom_page.specs.Bits.{bit_in}
use Rattle.gate_core.specs.declared.limits.TheConstants.{SLOTS}
use Rattle.gate_core.specs.declared.states.SlotPhase.TheVariants.{Free, Open}
use Rattle.gate_core.specs.declared.steps.Act.{Act}
use Rattle.gate_core.specs.declared.steps.Step.{Step}
use Rattle.gate_core.specs.declared.steps.StepAnswer.{StepAnswer}
use Rattle.gate_core.specs.Marks.{width, size}
use Rattle.gate_core.specs.Views.{View, Visit, Probed, Spent, Pass, Keeper, slot_at, collected_of}
use Rattle.gate_core.specs.Acts.{inside_of, seal_of, page_of, gate_place, bit_place, busy, CanLook, IsQuiet, Acts}
use Rattle.gate_core.specs.Invariant.{PlaneInvariant, IsFresh, IsCollected, HasPage, IsInside, IsLive, in_slot, seal_bit, page_bit, Recorded, Marked, Met, IsWhole, IsAlone}
use Rattle.gate_core.specs.Moves.{Plane, Move, MeetsInvariant, IsRun, HasView, HasFirst, HasGathered, first_plane}
use Rattle.gate_core.specs.Core.{Core, Stepped}
use Rattle.gate_core.specs.Play.{IsPlayed}

-- the law holds of each plane that meets the invariant, with its keeper's view
abbrev pub Always : (PageShape → Plane → View → Type 0) → Type 0
Always Law = (shape : PageShape) (plane : Plane) (rule : MeetsInvariant shape plane) → Law shape plane rule.head

-- ---- moves

-- the plane invariant holds between any two moves
pub record RunsKeepInvariant : Type 0 where
  -- after each act
  pub act_kept : (shape : PageShape) (plane : Plane) (place : ℕ) (v w : View) (a : Act) (i n : ℕ)
      → MeetsInvariant shape plane → HasView plane place v → ¬ (v.role ≡ Spent)
      → Acts shape a i (slice_index plane.words i) n v w
      → PlaneInvariant shape (slice_set plane.words i n) (slice_set plane.views place w)
  -- after each run
  pub kept : (shape : PageShape) (plane end : Plane) (moves : List Move)
      → MeetsInvariant shape plane → IsRun shape plane moves end → MeetsInvariant shape end
  -- of a new plane
  pub at_start : (shape : PageShape) (words : List ℕ) → IsFresh shape words → MeetsInvariant shape (first_plane words)
  -- at the end of each run from a new plane
  pub always : (shape : PageShape) (words : List ℕ) (moves : List Move) (end : Plane)
      → IsFresh shape words → IsRun shape (first_plane words) moves end → MeetsInvariant shape end

-- a finished entry stays
pub record RunsKeepEntries : Type 0 where
  -- an actor's entries begin with those that it had, or it was gathered and the keeper has them among its own
  pub entries : (shape : PageShape) (plane end : Plane) (moves : List Move) (i : ℕ) (v : View)
      → IsRun shape plane moves end → HasView plane i v → HasFirst end i v.entries ⊎ HasGathered end i v.entries
  -- so a mark of an entry stays one
  pub marks : (shape : PageShape) (plane end : Plane) (moves : List Move) (page p : ℕ)
      → IsRun shape plane moves end → Recorded shape plane.views page p → Recorded shape end.views page p

-- ---- words and marks

-- the bits of a page are the marks of its entries
pub record WordsAreMarks (shape : PageShape) (plane : Plane) (head : View) : Type 0 where
  -- exactly, where it is collected
  pub collected : (page p : ℕ) → let d = head.duties in page < d.next → IsCollected shape d page → p < size shape
      → (bit_in (collected_of d page) p ≡ 1) ↔ Recorded shape plane.views page p
  -- these and the marks that actors Inside have set so far, where it stands in a slot
  pub standing : (s p : ℕ) → let d = head.duties in s < SLOTS → HasPage (slot_at d s).phase → p < size shape
      → (page_bit shape plane.words d s p ≡ 1) ↔ Marked shape plane.views (slot_at d s).page s p
  -- exactly, where it stands in a Quiet slot
  pub quiet : (s p : ℕ) → let d = head.duties in s < SLOTS → IsQuiet (slot_at d s).phase → p < size shape
      → (page_bit shape plane.words d s p ≡ 1) ↔ Recorded shape plane.views (slot_at d s).page p
  -- nobody is Inside a Quiet slot, though its gate may count visitors
  pub nobody_inside : (s i : ℕ) (v : View) → IsQuiet (slot_at head.duties s).phase → HasView plane i v → ¬ IsInside s v.state
  -- the words of a Free slot are 0
  pub free : (s i : ℕ) → s < SLOTS → (slot_at head.duties s).phase ≡ Free → i < width shape
      → slice_index plane.words (bit_place shape s i) ≡ 0

-- each page has one place
pub record PagesHaveOnePlace (shape : PageShape) (plane : Plane) (head : View) : Type 0 where
  -- at most one slot is open
  pub one_open : (s t : ℕ) → let d = head.duties in s < SLOTS → t < SLOTS
      → (slot_at d s).phase ≡ Open → (slot_at d t).phase ≡ Open → s ≡ t
  -- a page stands in at most one slot
  pub one_slot : (s t : ℕ) → let d = head.duties in s < SLOTS → t < SLOTS
      → HasPage (slot_at d s).phase → HasPage (slot_at d t).phase → (slot_at d s).page ≡ (slot_at d t).page → s ≡ t
  -- a page that stands in a slot is not collected
  pub not_both : (s : ℕ) → let d = head.duties in s < SLOTS → HasPage (slot_at d s).phase
      → ¬ IsCollected shape d (slot_at d s).page

-- ---- floors

-- an actor's visits and entries are not below its floor
pub record FloorsHold (shape : PageShape) (plane : Plane) (head : View) : Type 0 where
  -- the page of a visit is not below the floor
  pub visit_above : (i j : ℕ) (v : View) (x : Visit) → HasView plane i v → get_elem? v.visits j ≡ some x → v.floor ≤ page_of x.gate
  -- and not open
  pub visit_not_open : (i j s : ℕ) (v : View) (x : Visit) → let d = head.duties in HasView plane i v → get_elem? v.visits j ≡ some x
      → s < SLOTS → (slot_at d s).phase ≡ Open → ¬ ((slot_at d s).page ≡ page_of x.gate)
  -- so an actor has no visit while the page of its floor is open
  pub no_visit : (i s : ℕ) (v : View) → let d = head.duties in HasView plane i v
      → s < SLOTS → (slot_at d s).phase ≡ Open → (slot_at d s).page ≡ v.floor → v.visits ≡ []
  -- the page of an entry is not below the floor
  pub entry_above : (i j : ℕ) (v : View) (e : Entry) → HasView plane i v → get_elem? v.entries j ≡ some e → v.floor ≤ e.page.number
  -- and below the next page
  pub entry_below : (i j : ℕ) (v : View) (e : Entry) → HasView plane i v → get_elem? v.entries j ≡ some e → e.page.number < head.duties.next
  -- the pages of a pass never fall
  pub ordered : (i j k : ℕ) (v : View) (e f : Entry) → HasView plane i v → v.role ≡ Pass
      → j ≤ k → get_elem? v.entries j ≡ some e → get_elem? v.entries k ≡ some f → e.page.number ≤ f.page.number

-- ---- what the keeper reads

-- what a settle tells
pub record SettlesTell (shape : PageShape) (plane : Plane) (head : View) : Type 0 where
  -- a gate that counts nobody has nobody Inside or Visiting its slot
  pub empty : (s i : ℕ) (v : View) → s < SLOTS → inside_of (slice_index plane.words (gate_place s)) ≡ 0 → HasView plane i v → in_slot s v ≡ 0
  -- it counts at most the passes that are out, and one more where the keeper has begun a record of its own
  pub bounded : (s : ℕ) → s < SLOTS → inside_of (slice_index plane.words (gate_place s)) ≤ head.duties.out + busy head.state
  pub noted : inside_of head.duties.noted ≤ head.duties.noted_with
  -- with no pass out, and the keeper neither Inside nor Visiting, every settle reads 0
  pub alone : (s : ℕ) → head.duties.out ≡ 0 → CanLook head.state → s < SLOTS → inside_of (slice_index plane.words (gate_place s)) ≡ 0

-- what a probe tells
pub record ProbesTell (shape : PageShape) (plane : Plane) (head : View) : Type 0 where
  -- a position that was read as set is a mark of an entry of its page, or one that an actor Inside its slot has set
  pub set : (i : ℕ) (x : Probed) → let d = head.duties in get_elem? d.probes i ≡ some x → x.bit ≡ true
      → Recorded shape plane.views x.page x.at ⊎ ((s : ℕ) × (s < SLOTS) × HasPage (slot_at d s).phase × ((slot_at d s).page ≡ x.page) × Marked shape plane.views x.page s x.at)
  -- one that was read as not set is no mark of the entries of the page that the keeper then had
  pub not_set : (i j : ℕ) (x : Probed) (e : Entry) → get_elem? head.duties.probes i ≡ some x → x.bit ≡ false
      → j < x.known → get_elem? head.entries j ≡ some e → e.page.number ≡ x.page → ¬ IsAmong shape x.page e.sig shape.k x.at

-- with no pass out all entries are the keeper's
pub record KeeperHasAll (shape : PageShape) (plane : Plane) (head : View) : Type 0 where
  pub one_keeper : (i : ℕ) (v : View) → HasView plane i v → v.role ≡ Keeper → head ≡ v
  -- the bits of collected pages are exactly their marks
  pub whole : head.duties.out ≡ 0 → IsWhole shape head
  -- where the keeper is neither Inside nor Visiting, so are those of pages in slots
  pub alone : head.duties.out ≡ 0 → CanLook head.state → IsAlone shape plane.words head

-- what the keeper's own loads and fetch-adds find, whatever the other actors do
pub record KeeperReads (shape : PageShape) (v : View) : Type 0 where
  -- the current slot is the one at which it last pointed
  pub pointed : (n : ℕ) → Met shape v 0 n → n ≡ v.duties.pointed
  -- a gate has its slot's page, and is sealed unless the slot is Open
  pub gate : (s n : ℕ) → Met shape v (gate_place s) n → s < SLOTS
      → (seal_of n ≡ seal_bit (slot_at v.duties s).phase) × (page_of n ≡ (slot_at v.duties s).page)
  -- with no pass out, a bit of an Open or Sealed slot is set exactly where it is a mark of the keeper's entries
  pub bit : (s p n : ℕ) → v.duties.out ≡ 0 → CanLook v.state → s < SLOTS → IsLive (slot_at v.duties s).phase → p < size shape
      → Met shape v (bit_place shape s (p / 64)) n → (bit_at n (p % 64) ≡ 1) ↔ IsMarked shape v.entries (slot_at v.duties s).page p

-- ---- the machine

-- a step leaves the finished entries as they are, and adds at their end; so does a list of steps
pub record EntriesStay : Type 0 where
  pub step : (before after : Core) (place : ℕ) (act : Act) (reply : StepAnswer) → Stepped before place act after reply
      → (more : List Entry) × (after.entries ≡ before.entries ++ more)
  pub steps : (before after : Core) (steps : List Step) (replies : List StepAnswer) → IsPlayed before steps after replies
      → (more : List Entry) × (after.entries ≡ before.entries ++ more)

-- a list of steps has one end and one list of answers
abbrev pub OnePlay : Type 0
OnePlay = (begin first second : Core) (steps : List Step) (answers replies : List StepAnswer)
    → IsPlayed begin steps first answers → IsPlayed begin steps second replies → (first ≡ second) × (answers ≡ replies)
