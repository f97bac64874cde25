-- A step of the machine, from what the code changed.
use Rattle.std.proofs.Common.{◌≡◌, ℕ, zero, suc, ◌+◌, ◌-◌, ◌<◌, ◌≤◌, List, [], ◌∷◌, ◌++◌, length, map, get_or, set, sym, ap, ◌∙◌, subst, arith, length-set}
use mathlib.Core.Option.{some, some-injective, some-ne-none}
use lib.ListN.{get_elem?}
use Rattle.spie_base.specs.declared.PageShape.{PageShape}
use Rattle.std.specs.Prelude.{slice_get, Some}
use Rattle.hash_family.specs.Positions.{family_of}
use Rattle.spie_base.specs.declared.types.Entry.{Entry}
use Rattle.gate_core.specs.declared.steps.Act.{Act}
use Rattle.gate_core.specs.declared.steps.StepAnswer.{StepAnswer}
use Rattle.gate_core.specs.declared.steps.StepAnswer.TheVariants as answer
use Rattle.gate_core.specs.declared.core_data.CoreData.{CoreData}
use Rattle.gate_core.specs.declared.core_data.Desk.{Desk}
use Rattle.gate_core.specs.declared.core_data.Log.{Log}
use Rattle.gate_core.specs.declared.core_data.Seat.{Seat}
use Rattle.gate_core.specs.Marks.{width}
use Rattle.gate_core.specs.Views.{Spent, View, blank, slot_at}
use Rattle.gate_core.specs.Acts.{word_of, word_after, view_after, Enabled}
use Rattle.gate_core.specs.Core.{Core, view_at, answer_of, state_of, finished}
use Rattle.gate_core.specs.Invariant.{PlaneInvariant}
use Rattle.gate_core.specs.Kept.{notes_of, duties_of, view_of, views_of, role_at, core_of, HasLogRoom, HasDeskRoom, HasMarks, Holds, DoesAct}
use Rattle.gate_core.proofs.KeptViews.{length-views_from, view_there}

-- an act keeps the plane invariant, whoever does it
abbrev pub KeepsPlane : Act → Type 0
KeepsPlane a = (shape : PageShape) (words : List ℕ) (views : List View) → PlaneInvariant shape words views → (id : ℕ) (v : View) → get_elem? views id ≡ some v → ¬ (v.role ≡ Spent) → Enabled shape a v
    → PlaneInvariant shape (set words (word_of shape a v) (word_after shape a v (get_or words (word_of shape a v) 0))) (set views id (view_after shape a v (get_or words (word_of shape a v) 0)))

read_there : {A : Type 0} → (l : List A) (i : ℕ) (d a : A) → get_elem? l i ≡ some a → get_or l i d ≡ a
read_there [] i d a at = absurd (some-ne-none a (sym at))
read_there (x ∷ xs) zero d a at = some-injective x a at
read_there (x ∷ xs) (suc i) d a at = read_there xs i d a at

pub alive : (place : ℕ) → ¬ (role_at place ≡ Spent)
alive zero = λ e. cc
alive (suc i) = λ e. cc

-- the seat at the place
module _ (m : CoreData) (place : ℕ) (x : Seat) (there : get_elem? m.seats.items place ≡ some x) where
  pub viewed : get_elem? (views_of m) place ≡ some (view_of (notes_of m) place x.state)
  viewed = subst (λ (k : ℕ). get_elem? (views_of m) place ≡ some (view_of (notes_of m) k x.state)) (let e : 0 + place ≡ place = omega arith in e)
      (view_there (notes_of m) 0 place m.seats.items x there)

  pub view_is : view_at (core_of m) place ≡ view_of (notes_of m) place x.state
  view_is = read_there (views_of m) place blank (view_of (notes_of m) place x.state) viewed

-- what of `Holds` an act has to keep beside the plane
pub record HoldsBeside (m : CoreData) : Type 0 where
  pub entries : HasLogRoom m.entries m.room
  pub visits : HasLogRoom m.visits m.room
  pub desk : HasDeskRoom (width m.shape) m.desk m.room
  pub marks : (j : ℕ) (x : Seat) → get_elem? m.seats.items j ≡ some x → HasMarks m.shape x.state x.marks
  pub families : (s : ℕ) → s < 4 → slice_get m.desk.families s ≡ Some (family_of m.shape (slot_at (duties_of m.desk 0) s).page)

-- what an act changes, of an actor with this view, where n was read
pub record Changes (m m' : CoreData) (place : ℕ) (a : Act) (v : View) (n : ℕ) : Type 0 where
  pub shape : m'.shape ≡ m.shape
  pub words : m'.words.items ≡ set m.words.items (word_of m.shape a v) (word_after m.shape a v n)
  pub views : views_of m' ≡ set (views_of m) place (view_after m.shape a v n)
  pub entries : m'.entries.items.items ≡ m.entries.items.items ++ finished a v
  pub finishers : m'.entries.places.items ≡ m.entries.places.items ++ map (λ _. place) (finished a v)
  pub room : m'.room ≡ m.room - 1

-- the machine after the act, of an actor with this view
abbrev after_of : Core → (place : ℕ) → Act → View → Core
after_of c place a v =
    let i = word_of c.shape a v in
    let n = get_or c.words i 0 in
    record {
      shape = c.shape;
      words = set c.words i (word_after c.shape a v n);
      views = set c.views place (view_after c.shape a v n);
      entries = c.entries ++ finished a v;
      finishers = c.finishers ++ map (λ _. place) (finished a v);
      room = c.room - 1;
    }

same_core : (c c' : Core) → c'.shape ≡ c.shape → c'.words ≡ c.words → c'.views ≡ c.views → c'.entries ≡ c.entries → c'.finishers ≡ c.finishers → c'.room ≡ c.room → c' ≡ c
same_core c c' shape words views entries finishers room =
    ap (λ (z : PageShape). let k : Core = record c' { shape = z } in k) shape
    ∙ (ap (λ (z : List ℕ). let k : Core = record { shape = c.shape; words = z; views = c'.views; entries = c'.entries; finishers = c'.finishers; room = c'.room } in k) words
    ∙ (ap (λ (z : List View). let k : Core = record { shape = c.shape; words = c.words; views = z; entries = c'.entries; finishers = c'.finishers; room = c'.room } in k) views
    ∙ (ap (λ (z : List Entry). let k : Core = record { shape = c.shape; words = c.words; views = c.views; entries = z; finishers = c'.finishers; room = c'.room } in k) entries
    ∙ (ap (λ (z : List ℕ). let k : Core = record { shape = c.shape; words = c.words; views = c.views; entries = c.entries; finishers = z; room = c'.room } in k) finishers
    ∙ ap (λ (z : ℕ). let k : Core = record c { room = z } in k) room))))

module _ (m m' : CoreData) (place : ℕ) (x : Seat) (a : Act) (there : get_elem? m.seats.items place ≡ some x) (keeps : KeepsPlane a) where
  abbrev v : View
  v = view_of (notes_of m) place x.state

  abbrev n : ℕ
  n = get_or m.words.items (word_of m.shape a v) 0

  plane_kept : Holds m → Enabled m.shape a v → Changes m m' place a v n → PlaneInvariant m'.shape m'.words.items (views_of m')
  plane_kept holds can to =
      subst (λ (s : PageShape). PlaneInvariant s m'.words.items (views_of m')) (sym to.shape)
      (subst (λ (ws : List ℕ). PlaneInvariant m.shape ws (views_of m')) (sym to.words)
      (subst (λ (vs : List View). PlaneInvariant m.shape (set m.words.items (word_of m.shape a v) (word_after m.shape a v n)) vs) (sym to.views)
      (keeps m.shape m.words.items (views_of m) holds.plane place v (viewed m place x there) (alive place) can)))

  some_kept : Holds m → Changes m m' place a v n → 1 ≤ length m'.seats.items
  some_kept holds to =
      let e = sym (length-views_from (notes_of m') 0 m'.seats.items) ∙ (ap length to.views ∙ (length-set (views_of m) place (view_after m.shape a v n) ∙ length-views_from (notes_of m) 0 m.seats.items)) in
      let f : length m'.seats.items ≡ length m.seats.items = e in
      let h : 1 ≤ length m.seats.items = holds.some_seat in omega arith

  -- an act that is enabled
  pub does_act : (reply : StepAnswer) → Holds m → Enabled m.shape a v → Changes m m' place a v n → HoldsBeside m' → reply ≡ answer_of m.shape a v n → DoesAct m m' place a reply
  does_act reply holds can to beside answers = record {
    stepped = let e = sym (view_is m place x there) in record {
      done = λ _. (
        subst (λ (w : View). core_of m' ≡ after_of (core_of m) place a w) e
            (same_core (after_of (core_of m) place a v) (core_of m') to.shape to.words to.views to.entries to.finishers to.room),
        subst (λ (w : View). reply ≡ answer_of m.shape a w (get_or m.words.items (word_of m.shape a w) 0)) e answers,
      );
      kept = λ not. absurd (not (subst (Enabled m.shape a) e can));
    };
    holds = record {
      some_seat = some_kept holds to;
      plane = plane_kept holds can to;
      entries = beside.entries;
      visits = beside.visits;
      desk = beside.desk;
      marks = beside.marks;
      families = beside.families;
    };
  }

-- ---- an act that is not enabled

pub log_less : {T : Type 0} → (log : Log T) (room : ℕ) → HasLogRoom log room → HasLogRoom log (room - 1)
log_less log room h = record { each = h.each; own = h.own; items = (let a = h.items in omega arith); places = (let a = h.places in omega arith) }

pub desk_less : (wide : ℕ) (desk : Desk) (room : ℕ) → HasDeskRoom wide desk room → HasDeskRoom wide desk (room - 1)
desk_less wide desk room h = record {
  probes = (let a = h.probes in omega arith);
  pages = h.pages;
  spare = (let a = h.spare in omega arith);
  spare_words = h.spare_words;
  page_words = h.page_words;
}

abbrev pub with_less_room : CoreData → CoreData
with_less_room m = record m { room = m.room - 1 }

less_holds : (m : CoreData) → Holds m → Holds (with_less_room m)
less_holds m h = record {
  some_seat = h.some_seat;
  plane = h.plane;
  entries = log_less m.entries m.room h.entries;
  visits = log_less m.visits m.room h.visits;
  desk = desk_less (width m.shape) m.desk m.room h.desk;
  marks = h.marks;
  families = h.families;
}

module _ (m m' : CoreData) (place : ℕ) (x : Seat) (a : Act) (there : get_elem? m.seats.items place ≡ some x) where
  abbrev u : View
  u = view_of (notes_of m) place x.state

  pub does_nothing : (reply : StepAnswer) → Holds m → ¬ Enabled m.shape a u → m' ≡ with_less_room m → reply ≡ answer.NotEnabled (state_of a u) → DoesAct m m' place a reply
  does_nothing reply holds not is answers = record {
    stepped = let e = sym (view_is m place x there) in record {
      done = λ can. absurd (not (subst (Enabled m.shape a) (view_is m place x there) can));
      kept = λ _. (
        ap core_of is,
        subst (λ (w : View). reply ≡ answer.NotEnabled (state_of a w)) e answers,
      );
    };
    holds = subst Holds (sym is) (less_holds m holds);
  }
