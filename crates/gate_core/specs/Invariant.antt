-- What holds of a router's words and of the views of all actors between any two acts.
--
-- The words are the current-slot word, four gate words and the bit words of four slots. The views are one list: the
-- keeper's, the passes', and the blank ones of passes that were gathered. Read `PlaneFits` first, at the end: it is the
-- invariant for the keeper's duties d and its entries, and `PlaneInvariant` says that they are the keeper's own.
use Rattle.std.specs.Prelude.{◌≡◌, ℕ, ◌+◌, ◌*◌, ◌/◌, ◌%◌, ◌<◌, ◌≤◌, ◌==◌, Bool, T, true, false, cond, nat_lt, List, [], ◌∷◌, length, slice_index, slice_index_or, ◌⊎◌, ◌↔◌}
use Rattle.std.specs.Int.{bit_at}
use mathlib.Core.Option.{some}
use lib.ListN.{get_elem?}
use Rattle.spie_base.specs.declared.PageShape.{PageShape}
use Rattle.spie_base.specs.declared.types.Entry.{Entry}
use Rattle.gate_core.specs.declared.states.PassState.{PassState}
use Rattle.gate_core.specs.declared.states.PassState.TheVariants.{Idle, Looked, Inside, Visiting}
use Rattle.gate_core.specs.declared.states.SlotPhase.{SlotPhase}
use Rattle.gate_core.specs.declared.states.SlotPhase.TheVariants.{Free, Open, Sealed, Quiet}
use Rattle.bloom_page.specs.Bits.{bit_in}
use Rattle.gate_core.specs.Marks.{width, size}
use Rattle.hash_family.specs.Entries.{IsAmong, IsMarked}
use Rattle.spie_base.specs.Shapes.{IsShape}
use Rattle.gate_core.specs.Views.{Visit, Probed, Role, Spent, Pass, Keeper, Slot, Duties, View, blank, no_slot, slot_at, collected_of}
use Rattle.gate_core.specs.Acts.{inside_of, seal_of, page_of, gate_place, bit_place, word_count}
use Rattle.gate_core.specs.declared.limits.TheConstants.{MOST_PASSES, SLOTS}

-- ---- counts over the views

-- the sum of a number of each view
abbrev pub total : (View → ℕ) → List View → ℕ
total f [] = 0
total f (v ∷ vs) = f v + total f vs

-- 1 where the actor is Inside or Visiting the slot: it is counted in the slot's gate
abbrev pub counts_in : ℕ → PassState → ℕ
counts_in s Idle = 0
counts_in s (Looked t) = 0
counts_in s (Inside t page sig m) = cond (t == s) 1 0
counts_in s (Visiting t gate) = cond (t == s) 1 0

abbrev pub in_slot : ℕ → View → ℕ
in_slot s v = counts_in s v.state

-- 1 for a pass that is out
abbrev pub pass_role : Role → ℕ
pass_role Spent = 0
pass_role Pass = 1
pass_role Keeper = 0

-- 1 for the keeper
abbrev pub keeper_role : Role → ℕ
keeper_role Spent = 0
keeper_role Pass = 0
keeper_role Keeper = 1

abbrev pub is_pass : View → ℕ
is_pass v = pass_role v.role

abbrev pub is_keeper : View → ℕ
is_keeper v = keeper_role v.role

-- ---- phases of a slot

-- bit 16 of the gate: 0 for an Open slot, 1 for every other
abbrev pub seal_bit : SlotPhase → ℕ
seal_bit Free = 1
seal_bit Open = 0
seal_bit Sealed = 1
seal_bit (Quiet next) = 1

-- a page stands in the slot: its words are not all collected
abbrev pub has_page : SlotPhase → Bool
has_page Free = false
has_page Open = true
has_page Sealed = true
has_page (Quiet next) = true

abbrev pub HasPage : SlotPhase → Type 0
HasPage phase = T (has_page phase)

-- records may be Inside the slot
abbrev pub IsLive : SlotPhase → Type 0
IsLive Free = ⊥
IsLive Open = Unit {0}
IsLive Sealed = Unit {0}
IsLive (Quiet next) = ⊥

-- the actor is Inside the slot
abbrev pub IsInside : ℕ → PassState → Type 0
IsInside s Idle = ⊥
IsInside s (Looked t) = ⊥
IsInside s (Inside t page sig m) = t ≡ s
IsInside s (Visiting t gate) = ⊥

-- how many words of the slot's page are collected
abbrev pub taken : SlotPhase → ℕ
taken Free = 0
taken Open = 0
taken Sealed = 0
taken (Quiet next) = next

-- ---- bits and marks

-- bit p of the slot's live words
abbrev pub live_bit : PageShape → List ℕ → ℕ → ℕ → ℕ
live_bit shape words s p = bit_at (slice_index words (bit_place shape s (p / 64))) (p % 64)

-- bit p of the page in the slot: of the collected words as far as they go, and then of the live ones
abbrev pub page_bit : PageShape → List ℕ → Duties → ℕ → ℕ → ℕ
page_bit shape words d s p = let got = collected_of d (slot_at d s).page in cond (nat_lt (p / 64) (length got)) (bit_in got p) (live_bit shape words s p)

-- p is one of the marks that an actor Inside the slot has set so far
abbrev pub HasSet : PageShape → PassState → ℕ → ℕ → Type 0
HasSet shape Idle s p = ⊥
HasSet shape (Looked t) s p = ⊥
HasSet shape (Inside t page sig m) s p = (t ≡ s) × IsAmong shape page.number sig m p
HasSet shape (Visiting t gate) s p = ⊥

-- p is a mark of an entry of the page, of whichever actor
abbrev pub Recorded : PageShape → List View → ℕ → ℕ → Type 0
Recorded shape views page p = (j : ℕ) × (v : View) × (get_elem? views j ≡ some v) × IsMarked shape v.entries page p

-- p is a mark of an entry of the page, or one that an actor Inside the slot has set so far
abbrev pub Marked : PageShape → List View → ℕ → ℕ → ℕ → Type 0
Marked shape views page s p = (j : ℕ) × (v : View) × (get_elem? views j ≡ some v) × (IsMarked shape v.entries page p ⊎ HasSet shape v.state s p)

-- all words of the page are collected
abbrev pub IsCollected : PageShape → Duties → ℕ → Type 0
IsCollected shape d page = length (collected_of d page) ≡ width shape

-- ---- the keeper's slots and pages

-- the part of the keeper's duties that says where pages are
pub record SlotBook : Type 0 where
  pub slots : List Slot
  pub next : ℕ
  pub pointed : ℕ
  pub collected : List (List ℕ)

abbrev pub book : Duties → SlotBook
book d = record { slots = d.slots; next = d.next; pointed = d.pointed; collected = d.collected }

abbrev pub booked : SlotBook → ℕ → Slot
booked b s = slice_index_or b.slots s no_slot

abbrev pub words_booked : SlotBook → ℕ → List ℕ
words_booked b page = slice_index_or b.collected page []

abbrev pub IsCollectedIn : PageShape → SlotBook → ℕ → Type 0
IsCollectedIn shape b page = length (words_booked b page) ≡ width shape

-- bit p of the page in the slot
abbrev pub page_bit_in : PageShape → List ℕ → SlotBook → ℕ → ℕ → ℕ
page_bit_in shape words b s p = let got = words_booked b (booked b s).page in cond (nat_lt (p / 64) (length got)) (bit_in got p) (live_bit shape words s p)

-- The slots, their pages and the collected words, as the keeper knows them
pub record SlotBookFits (shape : PageShape) (d : SlotBook) : Type 0 where
  -- there are four slots
  pub four : length d.slots ≡ SLOTS
  -- the slot that the keeper last pointed at is one of them
  pub pointed_slot : d.pointed < SLOTS
  -- in the slot that the keeper last pointed at a page was opened
  pub pointed_used : (booked d d.pointed).used ≡ true
  -- an Open slot has the greatest page below the next page, so at most one slot is Open
  pub open_last : (s : ℕ) → s < SLOTS → (booked d s).phase ≡ Open → (booked d s).page + 1 ≡ d.next
  -- in a slot that is Open, Sealed or Quiet a page was opened
  pub stands_used : (s : ℕ) → s < SLOTS → HasPage (booked d s).phase → (booked d s).used ≡ true
  -- the pages of the slots in which a page was ever opened are below the next page
  pub used_below : (s : ℕ) → s < SLOTS → (booked d s).used ≡ true → (booked d s).page < d.next
  -- the slots in which a page was ever opened have different pages
  pub used_apart : (s t : ℕ) → s < SLOTS → t < SLOTS → (booked d s).used ≡ true → (booked d t).used ≡ true → (booked d s).page ≡ (booked d t).page → s ≡ t
  -- no slot has a page above the next page, whether or not one was opened in it
  pub page_within : (s : ℕ) → s < SLOTS → (booked d s).page ≤ d.next
  -- each page below the next page is collected or stands in a slot that is Open, Sealed or Quiet
  pub placed : (page : ℕ) → page < d.next → IsCollectedIn shape d page ⊎ ((s : ℕ) × (s < SLOTS) × HasPage (booked d s).phase × ((booked d s).page ≡ page))
  -- only pages below the next page have collected words
  pub one_list : length d.collected ≡ d.next
  -- of a page that stands in a Quiet slot the words before `next` are collected, of one in an Open or Sealed slot none
  pub taken_words : (s : ℕ) → s < SLOTS → HasPage (booked d s).phase → length (words_booked d (booked d s).page) ≡ taken (booked d s).phase
  -- `next` of a Quiet slot is below the number of a slot's words
  pub taken_short : (s : ℕ) → s < SLOTS → taken (booked d s).phase < width shape
  -- the next page is below 2^32, as the page in a gate has 32 bits
  pub fits : d.next < 4294967296

abbrev pub SlotsFit : PageShape → Duties → Type 0
SlotsFit shape d = SlotBookFits shape (book d)

-- ---- each actor

-- The slot of a Looked, Inside or Visiting state is one in which a page was opened, and its page is not below the actor's
-- floor. An actor Inside has the slot's page, the slot is Open or Sealed, and the marks set are at most k
abbrev pub StateFitsIn : PageShape → SlotBook → ℕ → PassState → Type 0
StateFitsIn shape d floor Idle = Unit {0}
StateFitsIn shape d floor (Looked s) = (s < SLOTS) × ((booked d s).used ≡ true) × (floor ≤ (booked d s).page)
StateFitsIn shape d floor (Inside s page sig m) = (s < SLOTS) × ((booked d s).used ≡ true) × (floor ≤ (booked d s).page) × (page.number ≡ (booked d s).page) × IsLive (booked d s).phase × (m ≤ shape.k)
StateFitsIn shape d floor (Visiting s gate) = (s < SLOTS) × ((booked d s).used ≡ true) × (floor ≤ (booked d s).page)

abbrev pub StateFits : PageShape → Duties → ℕ → PassState → Type 0
StateFits shape d floor st = StateFitsIn shape (book d) floor st

-- an actor Inside has no smaller page than its entries
abbrev pub IsLast : List Entry → PassState → Type 0
IsLast es Idle = Unit {0}
IsLast es (Looked s) = Unit {0}
IsLast es (Inside s page sig m) = (i : ℕ) (e : Entry) → get_elem? es i ≡ some e → e.page.number ≤ page.number
IsLast es (Visiting s gate) = Unit {0}

-- An `enter` that read a sealed gate
pub record VisitFitsIn (d : SlotBook) (floor : ℕ) (x : Visit) : Type 0 where
  -- the gate that it read has bit 16
  pub sealed_gate : seal_of x.gate ≡ 1
  -- the page in that gate is below the next page
  pub below : page_of x.gate < d.next
  -- the page in that gate is not below the actor's floor
  pub from_floor : floor ≤ page_of x.gate
  -- the page in that gate stands in no Open slot
  pub not_open : (s : ℕ) → s < SLOTS → (booked d s).phase ≡ Open → ¬ ((booked d s).page ≡ page_of x.gate)

abbrev pub VisitFits : Duties → ℕ → Visit → Type 0
VisitFits d floor x = VisitFitsIn (book d) floor x

-- One actor, whatever its role
pub record ActorFitsIn (shape : PageShape) (d : SlotBook) (dealt : ℕ) (v : View) : Type 0 where
  -- its state fits the slots
  pub state : StateFitsIn shape d v.floor v.state
  -- the page of each entry is below the next page and not below the floor
  pub entries : (i : ℕ) (e : Entry) → get_elem? v.entries i ≡ some e → (e.page.number < d.next) × (v.floor ≤ e.page.number)
  -- the entries of a pass stand in order of their pages
  pub ordered : v.role ≡ Pass → (i j : ℕ) (e f : Entry) → i ≤ j → get_elem? v.entries i ≡ some e → get_elem? v.entries j ≡ some f → e.page.number ≤ f.page.number
  -- a pass that is Inside has no smaller page than its entries
  pub last : v.role ≡ Pass → IsLast v.entries v.state
  -- each visit is of a sealed gate
  pub visits : (i : ℕ) (x : Visit) → get_elem? v.visits i ≡ some x → VisitFitsIn d v.floor x
  -- the page of the current slot is not below the floor
  pub floor : v.floor ≤ (booked d d.pointed).page
  -- the number of a pass is below the number of passes ever dealt
  pub number : v.role ≡ Pass → v.number < dealt
  -- the floor of the keeper is 0
  pub base : v.role ≡ Keeper → v.floor ≡ 0
  -- nothing is left of a pass that was gathered
  pub gone : v.role ≡ Spent → v ≡ blank

abbrev pub ActorFits : PageShape → Duties → View → Type 0
ActorFits shape d v = ActorFitsIn shape (book d) d.dealt v

-- ---- each probe

-- A bit that the keeper read, `mine` being its entries
pub record ProbeFitsIn (shape : PageShape) (words : List ℕ) (d : SlotBook) (mine : List Entry) (x : Probed) : Type 0 where
  -- its page is below the next page
  pub page_below : x.page < d.next
  -- its position is one of a page's
  pub at_below : x.at < size shape
  -- the number of entries that it noted is at most the number of the keeper's entries
  pub known : x.known ≤ length mine
  -- a position that was read as set is set in the collected or in the live words of the page
  pub seen : x.bit ≡ true → (IsCollectedIn shape d x.page × (bit_in (words_booked d x.page) x.at ≡ 1)) ⊎ ((s : ℕ) × (s < SLOTS) × HasPage (booked d s).phase × ((booked d s).page ≡ x.page) × (page_bit_in shape words d s x.at ≡ 1))
  -- a position that was read as not set is no mark of an entry of the page among those that the keeper then had
  pub unseen : x.bit ≡ false → (i : ℕ) (e : Entry) → i < x.known → get_elem? mine i ≡ some e → e.page.number ≡ x.page → ¬ IsAmong shape x.page e.sig shape.k x.at

abbrev pub ProbeFits : PageShape → List ℕ → Duties → List Entry → Probed → Type 0
ProbeFits shape words d mine x = ProbeFitsIn shape words (book d) mine x

-- ---- the whole

-- The invariant, for the keeper's duties d and its entries
pub record PlaneFits (shape : PageShape) (words : List ℕ) (views : List View) (d : Duties) (mine : List Entry) : Type 0 where
  -- k and n are in their ranges
  pub in_range : IsShape shape
  -- the words are the current-slot word, four gates and the bit words of four slots
  pub long : length words ≡ word_count shape
  -- the current-slot word is the slot that the keeper last pointed at
  pub current_slot : slice_index words 0 ≡ d.pointed
  -- of a gate, bits 0 to 15 are the number of actors that are Inside or Visiting the slot, bit 16 is 0 exactly where the slot
  -- is Open, bits 17 to 31 are 0, and the page is the keeper's page of the slot
  pub gates : (s : ℕ) → s < SLOTS → slice_index words (gate_place s) ≡ total (in_slot s) views + seal_bit (slot_at d s).phase * 65536 + (slot_at d s).page * 4294967296
  -- the slots, their pages and the collected words fit each other
  pub slots : SlotsFit shape d
  -- each actor fits them
  pub actors : (j : ℕ) (v : View) → get_elem? views j ≡ some v → ActorFits shape d v
  -- the words of a page that stands, the collected ones before `next` and the live ones from there on, are exactly the
  -- marks of the page's entries and the marks that the actors Inside the slot have set so far
  pub slot_words : (s : ℕ) → s < SLOTS → HasPage (slot_at d s).phase → (p : ℕ) → p < size shape → (page_bit shape words d s p ≡ 1) ↔ Marked shape views (slot_at d s).page s p
  -- the words of a collected page are exactly the marks of the page's entries
  pub collected_words : (page : ℕ) → page < d.next → IsCollected shape d page → (p : ℕ) → p < size shape → (bit_in (collected_of d page) p ≡ 1) ↔ Recorded shape views page p
  -- the live words before `next` of a Quiet slot are 0
  pub drained_words : (s : ℕ) → s < SLOTS → (i : ℕ) → i < taken (slot_at d s).phase → slice_index words (bit_place shape s i) ≡ 0
  -- the words of a Free slot are 0
  pub free_words : (s : ℕ) → s < SLOTS → (slot_at d s).phase ≡ Free → (i : ℕ) → i < width shape → slice_index words (bit_place shape s i) ≡ 0
  -- what each probe read is told by the words and by the keeper's entries
  pub probes : (i : ℕ) (x : Probed) → get_elem? d.probes i ≡ some x → ProbeFits shape words d mine x
  -- the number inside of the gate that the last settle noted is at most the number noted with it
  pub noted : inside_of d.noted ≤ d.noted_with
  -- the passes that are out are those that the keeper counts
  pub out : total is_pass views ≡ d.out
  -- no more passes are out than there may be
  pub few : d.out ≤ MOST_PASSES
  -- no two passes have one number
  pub one_number : (i j : ℕ) (v w : View) → get_elem? views i ≡ some v → get_elem? views j ≡ some w → v.role ≡ Pass → w.role ≡ Pass → v.number ≡ w.number → i ≡ j
  -- one actor is the keeper
  pub one_keeper : total is_keeper views ≡ 1

-- The plane invariant: what holds of a router's words and of all views between any two acts
pub record PlaneInvariant (shape : PageShape) (words : List ℕ) (views : List View) : Type 0 where
  -- the keeper's place among the views
  pub place : ℕ
  -- the keeper's view
  pub head : View
  -- it stands at that place
  pub there : get_elem? views place ≡ some head
  -- it is the keeper's
  pub keeps : head.role ≡ Keeper
  -- the words and the views fit its duties and its entries
  pub fits : PlaneFits shape words views head.duties head.entries

-- ---- what actors rely on

-- At some moment the invariant held, with this view among the views, and the word at a place had this number
pub record Met (shape : PageShape) (v : View) (at word : ℕ) : Type 0 where
  -- the words and the views of that moment
  pub words : List ℕ
  pub views : List View
  -- the actor's place among the views
  pub id : ℕ
  -- the invariant held of them
  pub rule : PlaneInvariant shape words views
  -- the view stood there
  pub mine : get_elem? views id ≡ some v
  -- the word had this number
  pub reads : slice_index words at ≡ word

-- The pages of these entries never fall along the list, and none is below the floor
pub record IsRising (floor : ℕ) (entries : List Entry) : Type 0 where
  pub ordered : (i j : ℕ) (e f : Entry) → i ≤ j → get_elem? entries i ≡ some e → get_elem? entries j ≡ some f → e.page.number ≤ f.page.number
  pub from_floor : (i : ℕ) (e : Entry) → get_elem? entries i ≡ some e → floor ≤ e.page.number

-- No pass is out, so all entries are those of the keeper, whose view this is
pub record IsWhole (shape : PageShape) (v : View) : Type 0 where
  -- the words of a collected page are exactly the marks of the keeper's entries of the page
  pub collected : (page : ℕ) → page < v.duties.next → IsCollected shape v.duties page → (p : ℕ) → p < size shape → (bit_in (collected_of v.duties page) p ≡ 1) ↔ IsMarked shape v.entries page p
  -- the page of each entry is below the next page
  pub below : (i : ℕ) (e : Entry) → get_elem? v.entries i ≡ some e → e.page.number < v.duties.next

-- Besides, the keeper is neither Inside nor Visiting
pub record IsAlone (shape : PageShape) (words : List ℕ) (v : View) : Type 0 where
  -- all entries are the keeper's
  pub whole : IsWhole shape v
  -- the words of a page that stands are exactly the marks of the keeper's entries of the page
  pub standing : (s : ℕ) → s < SLOTS → HasPage (slot_at v.duties s).phase → (p : ℕ) → p < size shape → (page_bit shape words v.duties s p ≡ 1) ↔ IsMarked shape v.entries (slot_at v.duties s).page p
  -- a position that was read as set is a mark of one of the keeper's entries of the page
  pub probed : (i : ℕ) (x : Probed) → get_elem? v.duties.probes i ≡ some x → x.bit ≡ true → IsMarked shape v.entries x.page x.at
  -- nobody is inside a gate
  pub nobody : (s : ℕ) → s < SLOTS → inside_of (slice_index words (gate_place s)) ≡ 0

-- ---- the start

-- The words of a new plane: slot 0 is open with page 0, and the other slots are free
pub record IsFresh (shape : PageShape) (words : List ℕ) : Type 0 where
  -- k and n are in their ranges
  pub in_range : IsShape shape
  -- the words are the current-slot word, four gates and the bit words of four slots
  pub long : length words ≡ word_count shape
  -- slot 0 is current
  pub current_slot : slice_index words 0 ≡ 0
  -- the gate of slot 0 is unsealed, with page 0 and nobody inside
  pub first : slice_index words 1 ≡ 0
  -- the other gates are sealed, with page 0 and nobody inside
  pub others : (s : ℕ) → 1 ≤ s → s < SLOTS → slice_index words (gate_place s) ≡ 65536
  -- no bit is set
  pub rest : (i : ℕ) → 5 ≤ i → slice_index words i ≡ 0
