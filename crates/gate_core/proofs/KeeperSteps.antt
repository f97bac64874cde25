-- An act of the keeper, from what it does to the words and the desk.
use Rattle.std.proofs.Common.{◌≡◌, ℕ, zero, suc, ◌-◌, ◌<◌, ◌≤◌, ◌≢◌, List, [], ◌∷◌, ◌++◌, length, map, get_or, set, sym, refl, ap, ◌∙◌, subst, arith, append-nil}
use Rattle.std.proofs.lemmas.List.{set-get_or}
use mathlib.Core.Option.{some, some-injective}
use lib.ListN.{get_elem?}
use Rattle.std.specs.Prelude.{slice_get, Some, Vec}
use Rattle.std.specs.declared.alloc.Global.{Global}
use Rattle.hash_family.specs.Positions.{family_of}
use Rattle.spie_base.specs.declared.types.Entry.{Entry}
use Rattle.gate_core.specs.declared.states.PassState.{PassState}
use Rattle.gate_core.specs.declared.steps.Act.{Act}
use Rattle.gate_core.specs.declared.steps.StepAnswer.{StepAnswer}
use Rattle.gate_core.specs.declared.core_data.CoreData.{CoreData}
use Rattle.gate_core.specs.declared.core_data.Desk.{Desk}
use Rattle.gate_core.specs.declared.core_data.Seat.{Seat}
use Rattle.gate_core.specs.Marks.{width}
use Rattle.gate_core.specs.Views.{Duties, View, slot_at}
use Rattle.gate_core.specs.Acts.{with_duties, word_of, word_after, view_after, Enabled}
use Rattle.gate_core.specs.Core.{items_at, answer_of, finished}
use Rattle.gate_core.specs.Invariant.{PlaneFits}
use Rattle.gate_core.specs.Kept.{Notes, notes_of, duties_of, view_of, views_from, views_of, HasDeskRoom, Holds, DoesAct}
use Rattle.gate_core.proofs.Duty.{keeper_fits}
use Rattle.gate_core.proofs.KeptViews.{views-turn}
use Rattle.gate_core.proofs.MachineSteps.{viewed, HoldsBeside, Changes, log_less, does_act, KeepsPlane}

-- ---- the keeper's view

pub record HasSeat (xs : List Seat) : Type 0 where
  pub seat : Seat
  pub there : get_elem? xs 0 ≡ some seat

pub has_seat : (xs : List Seat) → 1 ≤ length xs → HasSeat xs
has_seat [] h = absurd (omega arith)
has_seat (x ∷ xs) h = record { seat = x; there = refl }

-- the keeper's duties
abbrev pub desk_duties : CoreData → Duties
desk_duties m = duties_of m.desk (length m.seats.items - 1)

abbrev pub own_entries : CoreData → List Entry
own_entries m = items_at 0 m.entries.places.items m.entries.items.items

pub desk_fits : (m : CoreData) → Holds m → PlaneFits m.shape m.words.items (views_of m) (desk_duties m) (own_entries m)
desk_fits m h = let s = has_seat m.seats.items h.some_seat in let v : View = view_of (notes_of m) 0 s.seat.state in
    keeper_fits m.shape m.words.items (views_of m) h.plane 0 v (viewed m 0 s.seat s.there) refl

-- ---- the views, where the desk changes

set_same : (xs : List Seat) (x : Seat) → get_elem? xs 0 ≡ some x → set xs 0 x ≡ xs
set_same [] x e = refl
set_same (y ∷ ys) x e = ap (λ (z : Seat). z ∷ ys) (sym (some-injective y x e))

abbrev with_desk : Notes → Duties → Notes
with_desk notes d = record notes { duties = d }

others_same : (notes : Notes) (d : Duties) (j : ℕ) (st : PassState) → j ≢ 0 → view_of (with_desk notes d) j st ≡ view_of notes j st
others_same notes d zero st ne = absurd (ne refl)
others_same notes d (suc j) st ne = refl

pub views-desk : (notes : Notes) (d : Duties) (xs : List Seat) (x : Seat) → get_elem? xs 0 ≡ some x → views_from (with_desk notes d) 0 xs ≡ set (views_from notes 0 xs) 0 (with_duties (view_of notes 0 x.state) d)
views-desk notes d xs x there =
    ap (views_from (with_desk notes d) 0) (sym (set_same xs x there))
    ∙ views-turn notes (with_desk notes d) 0 0 xs x (λ j st ne. others_same notes d j st ne)

-- ---- the act

-- what an act of the keeper changes, where n was read and its state is st
pub record TurnsDesk (m m' : CoreData) (a : Act) (st : PassState) (n : ℕ) : Type 0 where
  pub words : m'.words.items ≡ set m.words.items (word_of m.shape a (view_of (notes_of m) 0 st)) (word_after m.shape a (view_of (notes_of m) 0 st) n)
  pub others : m' ≡ record m { words = m'.words; desk = m'.desk; room = m.room - 1 }
  pub duties : with_duties (view_of (notes_of m) 0 st) (duties_of m'.desk (length m.seats.items - 1)) ≡ view_after m.shape a (view_of (notes_of m) 0 st) n
  pub none : finished a (view_of (notes_of m) 0 st) ≡ []
  pub room : HasDeskRoom (width m.shape) m'.desk (m.room - 1)
  pub families : (s : ℕ) → s < 4 → slice_get m'.desk.families s ≡ Some (family_of m.shape (slot_at (duties_of m'.desk 0) s).page)

module _ (m m' : CoreData) (x : Seat) (a : Act) (there : get_elem? m.seats.items 0 ≡ some x) where
  abbrev v : View
  v = view_of (notes_of m) 0 x.state

  abbrev n : ℕ
  n = get_or m.words.items (word_of m.shape a v) 0

  pub desk_changes : TurnsDesk m m' a x.state n → Changes m m' 0 a v n
  desk_changes t = record {
    shape = ap (λ (z : CoreData). z.shape) t.others;
    words = t.words;
    views = ap views_of t.others ∙ (views-desk (notes_of m) (duties_of m'.desk (length m.seats.items - 1)) m.seats.items x there ∙ ap (λ (w : View). set (views_of m) 0 w) t.duties);
    entries = ap (λ (z : CoreData). z.entries.items.items) t.others ∙ (sym (append-nil m.entries.items.items) ∙ ap (λ (l : List Entry). m.entries.items.items ++ l) (sym t.none));
    finishers = ap (λ (z : CoreData). z.entries.places.items) t.others ∙ (sym (append-nil m.entries.places.items) ∙ ap (λ (l : List Entry). m.entries.places.items ++ map (λ _. 0) l) (sym t.none));
    room = ap (λ (z : CoreData). z.room) t.others;
  }

  -- what holds beside the plane
  pub desk_holds : Holds m → TurnsDesk m m' a x.state n → HoldsBeside m'
  desk_holds h t = subst HoldsBeside (sym t.others) record {
    entries = log_less m.entries m.room h.entries;
    visits = log_less m.visits m.room h.visits;
    desk = t.room;
    marks = h.marks;
    families = t.families;
  }

  pub desk_act : KeepsPlane a → (reply : StepAnswer) → Holds m → Enabled m.shape a v → TurnsDesk m m' a x.state n → reply ≡ answer_of m.shape a v n → DoesAct m m' 0 a reply
  desk_act keeps reply h can t e = does_act m m' 0 x a there keeps reply h can (desk_changes t) (desk_holds h t) e

-- ---- the frame

abbrev pub first_of : (m : CoreData) → Holds m → HasSeat m.seats.items
first_of m h = has_seat m.seats.items h.some_seat

-- the machine where the desk became this
abbrev pub DeskBecomes : (m m' : CoreData) → Desk → Type 0
DeskBecomes m m' desk = m' ≡ record m { words = m'.words; desk = desk; room = m.room - 1 }

pub desk_is : (m m' : CoreData) (desk : Desk) → DeskBecomes m m' desk → m'.desk ≡ desk
desk_is m m' desk e = ap (λ (z : CoreData). z.desk) e

pub desk_framed : (m m' : CoreData) (desk : Desk) → DeskBecomes m m' desk → DeskBecomes m m' m'.desk
desk_framed m m' desk e = e ∙ ap (λ (k : Desk). let z : CoreData = record m { words = m'.words; desk = k; room = m.room - 1 } in z) (sym (desk_is m m' desk e))

pub four_slots : (m : CoreData) → Holds m → length m.desk.slots ≡ 4
four_slots m h = (desk_fits m h).slots.four

-- where no word changed
pub words_kept : (m m' : CoreData) (desk : Desk) → m' ≡ record m { desk = desk; room = m.room - 1 } → m'.words ≡ m.words
words_kept m m' desk e = ap (λ (z : CoreData). z.words) e

pub desk_only : (m m' : CoreData) (desk : Desk) → m' ≡ record m { desk = desk; room = m.room - 1 } → DeskBecomes m m' desk
desk_only m m' desk e = e ∙ ap (λ (w : Vec ℕ Global). let z : CoreData = record m { words = w; desk = desk; room = m.room - 1 } in z) (sym (words_kept m m' desk e))

-- a read writes what it read
pub word_read : (m m' : CoreData) (desk : Desk) (i : ℕ) → m' ≡ record m { desk = desk; room = m.room - 1 } → m'.words.items ≡ set m.words.items i (get_or m.words.items i 0)
word_read m m' desk i e = ap (λ (w : Vec ℕ Global). w.items) (words_kept m m' desk e) ∙ sym (set-get_or m.words.items i 0)
