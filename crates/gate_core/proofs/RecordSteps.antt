-- A step of a record, from what it wrote.
use Rattle.std.proofs.Common.{◌≡◌, ℕ, zero, suc, ◌+◌, ◌-◌, ◌<◌, ◌≤◌, ◌≢◌, Bool, true, false, cond, eqb, List, [], ◌∷◌, ◌++◌, length, map, get_or, set, sym, refl, ap, ◌∙◌, subst, ⊎_elim, arith, length-set, length-append}
use Rattle.std.proofs.lemmas.List.{append-nil, length-map}
use Rattle.std.specs.Prelude.{vec_len, vec_capacity, slice_get, Some}
use mathlib.Core.Option.{some}
use lib.ListN.{get_elem?}
use Rattle.spie_base.specs.declared.PageShape.{PageShape}
use Rattle.hash_family.specs.Positions.{family_of}
use Rattle.spie_base.specs.declared.types.Entry.{Entry}
use Rattle.gate_core.specs.declared.states.PassState.{PassState}
use Rattle.gate_core.specs.declared.steps.Act.{Act}
use Rattle.gate_core.specs.declared.steps.StepAnswer.{StepAnswer}
use Rattle.gate_core.specs.declared.steps.StepAnswer.TheVariants as answer
use Rattle.gate_core.specs.declared.core_data.CoreData.{CoreData}
use Rattle.gate_core.specs.declared.core_data.Desk.{Desk}
use Rattle.gate_core.specs.declared.core_data.Log.{Log}
use Rattle.gate_core.specs.declared.core_data.Seat.{Seat}
use Rattle.gate_core.specs.Marks.{width}
use Rattle.gate_core.specs.Views.{Visit, Duties, View, slot_at}
use Rattle.gate_core.specs.Acts.{word_of, word_after, view_after, Enabled, moved_to}
use Rattle.gate_core.specs.Core.{items_at, answer_of, state_of, finished}
use Rattle.gate_core.specs.Kept.{notes_of, duties_of, duties_at, role_at, view_of, views_from, views_of, HasLogRoom, HasDeskRoom, HasMarks, Holds, DoesAct}
use Rattle.gate_core.specs.Writes.{no_seat, seat_at, Grows, Writes}
use Rattle.gate_core.proofs.Gates.{tested}
use Rattle.gate_core.proofs.Lists.{at_set}
use Rattle.gate_core.proofs.KeptViews.{views-turn}
use Rattle.gate_core.proofs.MachineSteps.{HoldsBeside, desk_less, with_less_room, does_act, does_nothing, KeepsPlane}

pub there_at : {A : Type 0} → (l : List A) (i : ℕ) (d : A) → i < length l → get_elem? l i ≡ some (get_or l i d)
there_at [] i d within = absurd (omega arith)
there_at (x ∷ xs) zero d within = refl
there_at (x ∷ xs) (suc i) d within = there_at xs i d (omega arith)

-- ---- the items of a log that grows

module _ {T : Type 0} where
  all_or_none : (b : Bool) (x : T) (rest xs : List T) → rest ≡ cond b xs [] → cond b (x ∷ rest) rest ≡ cond b (x ∷ xs) []
  all_or_none true x rest xs e = ap (λ (ys : List T). x ∷ ys) e
  all_or_none false x rest xs e = e

  both : (b : Bool) (y : T) (long short last : List T) → long ≡ short ++ last → cond b (y ∷ long) long ≡ cond b (y ∷ short) short ++ last
  both true y long short last e = ap (λ (xs : List T). y ∷ xs) e
  both false y long short last e = e

  of_one : (q p : ℕ) (more : List T) → items_at q (map (λ _. p) more) more ≡ cond (eqb p q) more []
  of_one q p [] = tested (λ (z : List T). [] ≡ z) p q [] [] (λ _. refl) (λ _. refl)
  of_one q p (x ∷ xs) = all_or_none (eqb p q) x (items_at q (map (λ _. p) xs) xs) xs (of_one q p xs)

  items_at-more : (q p : ℕ) (ps : List ℕ) (xs more : List T) → length ps ≡ length xs
      → items_at q (ps ++ map (λ _. p) more) (xs ++ more) ≡ items_at q ps xs ++ cond (eqb p q) more []
  items_at-more q p [] [] more e = of_one q p more
  items_at-more q p [] (y ∷ ys) more e = absurd (omega arith)
  items_at-more q p (r ∷ ps) [] more e = absurd (omega arith)
  items_at-more q p (r ∷ ps) (y ∷ ys) more e =
      both (eqb r q) y (items_at q (ps ++ map (λ _. p) more) (ys ++ more)) (items_at q ps ys) (cond (eqb p q) more []) (items_at-more q p ps ys more (omega arith))

  module _ (log log' : Log T) (place : ℕ) (more : List T) (each : length log.places.items ≡ length log.items.items) (grows : Grows log log' place more) where
    grown_at : (q : ℕ) → items_at q log'.places.items log'.items.items ≡ items_at q log.places.items log.items.items ++ cond (eqb place q) more []
    grown_at q = ap (λ (ps : List ℕ). items_at q ps log'.items.items) grows.places
        ∙ (ap (λ (xs : List T). items_at q (log.places.items ++ map (λ _. place) more) xs) grows.items
        ∙ items_at-more q place log.places.items log.items.items more each)

    pub mine : items_at place log'.places.items log'.items.items ≡ items_at place log.places.items log.items.items ++ more
    mine = grown_at place ∙ ap (λ (ys : List T). items_at place log.places.items log.items.items ++ ys)
        (tested (λ (z : List T). z ≡ more) place place more [] (λ _. refl) (λ ne. absurd (ne refl)))

    pub others : (q : ℕ) → q ≢ place → items_at q log'.places.items log'.items.items ≡ items_at q log.places.items log.items.items
    others q ne = grown_at q ∙ (ap (λ (ys : List T). items_at q log.places.items log.items.items ++ ys)
        (tested (λ (z : List T). z ≡ []) place q more [] (λ e. absurd (ne (sym e))) (λ _. refl))
        ∙ append-nil (items_at q log.places.items log.items.items))

    both_lengths : (b : Bool) → length (cond b more []) ≡ cond b (length more) 0
    both_lengths true = refl
    both_lengths false = refl

    own_then : log.own ≡ length (items_at 0 log.places.items log.items.items) → log'.own ≡ length (items_at 0 log'.places.items log'.items.items)
    own_then was =
        let new : length (items_at 0 log'.places.items log'.items.items) ≡ length (items_at 0 log.places.items log.items.items) + length (cond (eqb place 0) more []) =
        ap length (grown_at 0) ∙ length-append (items_at 0 log.places.items log.items.items) (cond (eqb place 0) more []) in
        let more_own : length (cond (eqb place 0) more []) ≡ cond (eqb place 0) (length more) 0 = both_lengths (eqb place 0) in
        let own : log'.own ≡ log.own + cond (eqb place 0) (length more) 0 = grows.own in omega arith

    pub room_left : (room : ℕ) → length more ≤ 1 → 1 ≤ room → HasLogRoom log room → HasLogRoom log' (room - 1)
    room_left room few spare has =
        let i : vec_len log.items ≡ length log.items.items = log.items.ok.0 in
        let i' : vec_len log'.items ≡ length log'.items.items = log'.items.ok.0 in
        let p : vec_len log.places ≡ length log.places.items = log.places.ok.0 in
        let p' : vec_len log'.places ≡ length log'.places.items = log'.places.ok.0 in
        let is : length log'.items.items ≡ length log.items.items + length more = ap length grows.items ∙ length-append log.items.items more in
        let ps : length log'.places.items ≡ length log.places.items + length more =
        ap length grows.places ∙ (length-append log.places.items (map (λ _. place) more) ∙ ap (λ (n : ℕ). length log.places.items + n) (length-map more (λ _. place))) in
        let ci : vec_capacity log'.items ≡ vec_capacity log.items = grows.items_room in
        let cp : vec_capacity log'.places ≡ vec_capacity log.places = grows.places_room in
        let a : vec_len log.items + room ≤ vec_capacity log.items = has.items in
        let b : vec_len log.places + room ≤ vec_capacity log.places = has.places in record {
          each = (let g : length log'.places.items ≡ length log'.items.items = omega arith in g);
          own = own_then has.own;
          items = (let g : vec_len log'.items + (room - 1) ≤ vec_capacity log'.items = omega arith in g);
          places = (let g : vec_len log'.places + (room - 1) ≤ vec_capacity log'.places = omega arith in g);
        }

-- no more items are of one actor than there are
pub items_at-few : {T : Type 0} → (q : ℕ) (ps : List ℕ) (xs : List T) → length (items_at q ps xs) ≤ length xs
items_at-few q [] xs = omega arith
items_at-few q (p ∷ ps) [] = omega arith
items_at-few {T} q (p ∷ ps) (x ∷ xs) = let rest : length (items_at q ps xs) ≤ length xs = items_at-few q ps xs in
    tested (λ (z : List T). length z ≤ suc (length xs)) p q (x ∷ items_at q ps xs) (items_at q ps xs) (λ _. let g : suc (length (items_at q ps xs)) ≤ suc (length xs) = omega arith in g) (λ _. omega arith)

pub own_few : {T : Type 0} → (log : Log T) (room : ℕ) → HasLogRoom log room → log.own ≤ vec_len log.items
own_few log room has = let n : vec_len log.items ≡ length log.items.items = log.items.ok.0 in let a = has.own in let b = items_at-few 0 log.places.items log.items.items in omega arith

-- a log that stays
pub stays : {T : Type 0} → (log log' : Log T) (place : ℕ) → log' ≡ log → Grows log log' place []
stays log log' place e = record {
  items = ap (λ l. l.items.items) e ∙ sym (append-nil log.items.items);
  places = ap (λ l. l.places.items) e ∙ sym (append-nil log.places.items);
  own = let n : log'.own ≡ log.own = ap (λ l. l.own) e in tested (λ (z : ℕ). log'.own ≡ log.own + z) place 0 0 0 (λ _. omega arith) (λ _. omega arith);
  items_room = ap (λ l. vec_capacity l.items) e;
  places_room = ap (λ l. vec_capacity l.places) e;
}

-- ---- views

abbrev pub grown : View → PassState → List Entry → List Visit → View
grown v st es vs = record v { state = st; entries = v.entries ++ es; visits = v.visits ++ vs }

-- without more entries or visits
pub bare : (v : View) (st : PassState) → grown v st [] [] ≡ moved_to v st
bare v st = ap (λ (es : List Entry). let w : View = record v { state = st; entries = es; visits = v.visits ++ [] } in w) (append-nil v.entries)
    ∙ ap (λ (vs : List Visit). let w : View = record v { state = st; visits = vs } in w) (append-nil v.visits)

abbrev view_by : (place : ℕ) → PassState → List Entry → List Visit → Duties → View
view_by place st es vs d = record { role = role_at place; number = place - 1; state = st; entries = es; visits = vs; floor = 0; duties = duties_at place d }

same_view : (place : ℕ) (st : PassState) (es es' : List Entry) (vs vs' : List Visit) (d d' : Duties) → es' ≡ es → vs' ≡ vs → d' ≡ d → view_by place st es' vs' d' ≡ view_by place st es vs d
same_view place st es es' vs vs' d d' entries visits duties =
    ap (λ (z : List Entry). view_by place st z vs' d') entries ∙ (ap (λ (z : List Visit). view_by place st es z d') visits ∙ ap (λ (z : Duties). view_by place st es vs z) duties)

abbrev notes_entries : CoreData → (place : ℕ) → List Entry
notes_entries m place = items_at place m.entries.places.items m.entries.items.items

abbrev notes_visits : CoreData → (place : ℕ) → List Visit
notes_visits m place = items_at place m.visits.places.items m.visits.items.items

-- the step wrote these, and its actor was in this state
module _ (m m' : CoreData) (at word place : ℕ) (st : PassState) (seat : Seat) (es : List Entry) (vs : List Visit)
    (holds : Holds m) (within : place < length m.seats.items) (is : (seat_at m place).state ≡ st)
    (writes : Writes m m' at word place seat) (entries : Grows m.entries m'.entries place es) (visits : Grows m.visits m'.visits place vs) where
  abbrev v : View
  v = view_of (notes_of m) place st

  same_duties : duties_of m'.desk (length m'.seats.items - 1) ≡ duties_of m.desk (length m.seats.items - 1)
  same_duties = ap (λ (d : Desk). duties_of d (length m'.seats.items - 1)) writes.desk
      ∙ ap (λ (n : ℕ). duties_of m.desk (n - 1)) (ap length writes.seats ∙ length-set m.seats.items place seat)

  same_others : (j : ℕ) (z : PassState) → j ≢ 0 + place → view_of (notes_of m') j z ≡ view_of (notes_of m) j z
  same_others j z ne = let ne' : j ≢ place = λ e. ne (let g : j ≡ 0 + place = omega arith in g) in
      same_view j z (notes_entries m j) (notes_entries m' j) (notes_visits m j) (notes_visits m' j) (notes_of m).duties (notes_of m').duties
      (others m.entries m'.entries place es holds.entries.each entries j ne') (others m.visits m'.visits place vs holds.visits.each visits j ne') same_duties

  views_then : views_of m' ≡ set (views_of m) place (grown v seat.state es vs)
  views_then = ap (λ (xs : List Seat). views_from (notes_of m') 0 xs) writes.seats
      ∙ (views-turn (notes_of m) (notes_of m') 0 place m.seats.items seat same_others
      ∙ (ap (λ (k : ℕ). set (views_of m) place (view_of (notes_of m') k seat.state)) (let e : 0 + place ≡ place = omega arith in e)
      ∙ ap (λ (w : View). set (views_of m) place w)
      (same_view place seat.state (notes_entries m place ++ es) (notes_entries m' place) (notes_visits m place ++ vs) (notes_visits m' place) (notes_of m).duties (notes_of m').duties
      (mine m.entries m'.entries place es holds.entries.each entries) (mine m.visits m'.visits place vs holds.visits.each visits) same_duties)))

  marks_then : HasMarks m.shape seat.state seat.marks → (j : ℕ) (y : Seat) → get_elem? m'.seats.items j ≡ some y → HasMarks m'.shape y.state y.marks
  marks_then here j y there = subst (λ (s : PageShape). HasMarks s y.state y.marks) (sym writes.shape)
      (⊎_elim (λ t. subst (λ (z : Seat). HasMarks m.shape z.state z.marks) t.1 here) (λ t. holds.marks j y t.1)
      (at_set m.seats.items place j seat y (subst (λ (l : List Seat). get_elem? l j ≡ some y) writes.seats there)))

  desk_then : HasDeskRoom (width m'.shape) m'.desk m'.room
  desk_then = subst (λ (s : PageShape). HasDeskRoom (width s) m'.desk m'.room) (sym writes.shape)
      (subst (λ (d : Desk). HasDeskRoom (width m.shape) d m'.room) (sym writes.desk)
      (subst (λ (r : ℕ). HasDeskRoom (width m.shape) m.desk r) (sym writes.room) (desk_less (width m.shape) m.desk m.room holds.desk)))

  abbrev Families : Desk → PageShape → Type 0
  Families d sh = (s : ℕ) → s < 4 → slice_get d.families s ≡ Some (family_of sh (slot_at (duties_of d 0) s).page)

  beside_then : length es ≤ 1 → length vs ≤ 1 → 1 ≤ m.room → HasMarks m.shape seat.state seat.marks → HoldsBeside m'
  beside_then few_es few_vs spare here = record {
    entries = subst (HasLogRoom m'.entries) (sym writes.room) (room_left m.entries m'.entries place es holds.entries.each entries m.room few_es spare holds.entries);
    visits = subst (HasLogRoom m'.visits) (sym writes.room) (room_left m.visits m'.visits place vs holds.visits.each visits m.room few_vs spare holds.visits);
    desk = desk_then;
    marks = marks_then here;
    families = subst (λ (s : PageShape). Families m'.desk s) (sym writes.shape) (subst (λ (d : Desk). Families d m.shape) (sym writes.desk) holds.families);
  }

  there : get_elem? m.seats.items place ≡ some (record { state = st; marks = (seat_at m place).marks })
  there = subst (λ (z : PassState). get_elem? m.seats.items place ≡ some (record { state = z; marks = (seat_at m place).marks })) is (there_at m.seats.items place no_seat within)

  pub record_does : (a : Act) → KeepsPlane a → (reply : StepAnswer) → 1 ≤ m.room → Enabled m.shape a v → es ≡ finished a v → at ≡ word_of m.shape a v
      → word ≡ word_after m.shape a v (get_or m.words.items at 0) → grown v seat.state es vs ≡ view_after m.shape a v (get_or m.words.items at 0)
      → HasMarks m.shape seat.state seat.marks → length es ≤ 1 → length vs ≤ 1 → reply ≡ answer_of m.shape a v (get_or m.words.items at 0) → DoesAct m m' place a reply
  record_does a keeps reply spare can es_is at_is word_is view_is here few_es few_vs reply_is =
      let read = ap (λ (i : ℕ). get_or m.words.items i 0) at_is in
      does_act m m' place (record { state = st; marks = (seat_at m place).marks }) a there keeps reply holds can record {
        shape = writes.shape;
        words = writes.words ∙ (ap (λ (i : ℕ). set m.words.items i word) at_is
            ∙ ap (λ (x : ℕ). set m.words.items (word_of m.shape a v) x) (word_is ∙ ap (λ (n : ℕ). word_after m.shape a v n) read));
        views = views_then ∙ ap (λ (w : View). set (views_of m) place w) (view_is ∙ ap (λ (n : ℕ). view_after m.shape a v n) read);
        entries = entries.items ∙ ap (λ (zs : List Entry). m.entries.items.items ++ zs) es_is;
        finishers = entries.places ∙ ap (λ (zs : List Entry). m.entries.places.items ++ map (λ _. place) zs) es_is;
        room = writes.room;
      } (beside_then few_es few_vs spare here) (reply_is ∙ ap (λ (n : ℕ). answer_of m.shape a v n) read)

-- an act that is not enabled
pub record_refused : (m m' : CoreData) (place : ℕ) (st : PassState) (a : Act) (reply : StepAnswer) → Holds m → place < length m.seats.items → st ≡ (seat_at m place).state
    → ¬ Enabled m.shape a (view_of (notes_of m) place st) → m' ≡ with_less_room m → reply ≡ answer.NotEnabled (state_of a (view_of (notes_of m) place st)) → DoesAct m m' place a reply
record_refused m m' place st a reply holds within is not kept answers =
    does_nothing m m' place (seat_at m place) a (there_at m.seats.items place no_seat within) reply holds
    (subst (λ (z : PassState). ¬ Enabled m.shape a (view_of (notes_of m) place z)) is not) kept
    (subst (λ (z : PassState). reply ≡ answer.NotEnabled (state_of a (view_of (notes_of m) place z))) is answers)
