-- The machine at the start, and the plane invariant there.
use Rattle.std.proofs.Common.{◌≡◌, ℕ, zero, suc, ◌+◌, ◌-◌, ◌<◌, ◌≤◌, List, [], ◌∷◌, ◌++◌, length, map, replicate, sym, refl, ap, ◌∙◌, subst, arith}
use Rattle.std.specs.Prelude.{slice_get, Some, All}
use Rattle.std.specs.List.{range_with_len}
use Rattle.std.proofs.lemmas.List.{length-replicate}
use Rattle.std.proofs.lemmas.List.FromFn.{map-range_with_len_more}
use mathlib.Core.Option.{some, some-ne-none, some-injective}
use lib.ListN.{get_elem?}
use Rattle.hash_family.specs.Positions.{family_of}
use Rattle.spie_base.specs.declared.PageShape.{PageShape}
use Rattle.gate_core.specs.declared.states.PassState.TheVariants.{Idle}
use Rattle.gate_core.specs.declared.core_data.CoreData.{CoreData}
use Rattle.gate_core.specs.declared.core_data.Seat.{Seat}
use Rattle.gate_core.specs.declared.initial.TheConstants.{IDLE}
use Rattle.gate_core.specs.Marks.{width}
use Rattle.spie_base.specs.Shapes.{IsShape}
use Rattle.gate_core.specs.Views.{Duties, View, first_keeper, slot_at}
use Rattle.gate_core.specs.Invariant.{PlaneInvariant, IsFresh}
use Rattle.gate_core.specs.Kept.{Notes, notes_of, duties_of, view_of, views_from, views_of, core_of, HasMarks, HasLogRoom, HasDeskRoom}
use Rattle.gate_core.specs.Sound.{IsSound}
use Rattle.gate_core.specs.Start.{keeper_view, pass_view, first_views, first_words, start_of}
use Rattle.gate_core.proofs.Duty.{keeper_fits}
use Rattle.gate_core.proofs.FreshWords.{fresh}
use Rattle.gate_core.proofs.Starts.{starts}
use Rattle.gate_core.proofs.Deals.{splits}

-- ---- the plane invariant

-- one pass more is dealt
one_dealt : (shape : PageShape) (words : List ℕ) (passes : ℕ) → passes < 16 → PlaneInvariant shape words (first_views passes) → PlaneInvariant shape words (first_views (passes + 1))
one_dealt shape words passes few r =
    let v : View = keeper_view passes in
    let f = keeper_fits shape words (first_views passes) r 0 v refl refl in
    let dealt : PlaneInvariant shape words (keeper_view (passes + 1) ∷ (map pass_view (range_with_len 0 passes) ++ pass_view passes ∷ [])) = splits shape words (first_views passes) 0 v refl refl f few in
    subst (λ (vs : List View). PlaneInvariant shape words (keeper_view (passes + 1) ∷ vs)) (sym (map-range_with_len_more pass_view 0 passes passes (omega arith))) dealt

pub first_rule : (shape : PageShape) (words : List ℕ) (passes : ℕ) → IsFresh shape words → passes ≤ 16 → PlaneInvariant shape words (first_views passes)
first_rule shape words zero new few = starts shape words new
first_rule shape words (suc passes) new few =
    let e : passes + 1 ≡ suc passes = omega arith in
    subst (λ (n : ℕ). PlaneInvariant shape words (first_views n)) e (one_dealt shape words passes (omega arith) (first_rule shape words passes new (omega arith)))

-- ---- the views

abbrev no_notes : Duties → Notes
no_notes d = record { entries = []; finishers = []; visits = []; visitors = []; duties = d }

idle_pass : (d : Duties) (number : ℕ) → view_of (no_notes d) (suc number) Idle ≡ pass_view number
idle_pass d number = let e : suc number - 1 ≡ number = omega arith in ap (λ (n : ℕ). let v : View = record (pass_view number) { number = n } in v) e

idle_passes : (d : Duties) (number n : ℕ) → views_from (no_notes d) (suc number) (replicate n IDLE) ≡ map pass_view (range_with_len number n)
idle_passes d number zero = refl
idle_passes d number (suc n) =
    let e : suc number + 1 ≡ suc (number + 1) = omega arith in
    ap (λ (v : View). v ∷ views_from (no_notes d) (suc number + 1) (replicate n IDLE)) (idle_pass d number)
    ∙ ap (λ (vs : List View). pass_view number ∷ vs)
    (ap (λ (k : ℕ). views_from (no_notes d) k (replicate n IDLE)) e ∙ idle_passes d (number + 1) n)

idle_views : (d : Duties) (passes : ℕ) → views_from (no_notes d) 0 (replicate (passes + 1) IDLE) ≡ record first_keeper { duties = d } ∷ map pass_view (range_with_len 0 passes)
idle_views d passes =
    let e : passes + 1 ≡ suc passes = omega arith in
    ap (λ (n : ℕ). views_from (no_notes d) 0 (replicate n IDLE)) e
    ∙ ap (λ (vs : List View). record first_keeper { duties = d } ∷ vs) (idle_passes d 0 passes)

-- ---- the data

all_idle : (n j : ℕ) (x : Seat) → get_elem? (replicate n IDLE) j ≡ some x → IDLE ≡ x
all_idle zero j x at = absurd (some-ne-none x (sym at))
all_idle (suc n) zero x at = some-injective IDLE x at
all_idle (suc n) (suc j) x at = all_idle n j x at

first_page : (s : ℕ) → s < 4 → (slot_at (keeper_view 0).duties s).page ≡ 0
first_page zero near = refl
first_page (suc zero) near = refl
first_page (suc (suc zero)) near = refl
first_page (suc (suc (suc zero))) near = refl
first_page (suc (suc (suc (suc s)))) near = absurd (omega arith)

module _ (m : CoreData) (passes : ℕ) (words : m.words.items ≡ first_words m.shape) (seats : m.seats.items ≡ replicate (passes + 1) IDLE) (duties : duties_of m.desk 0 ≡ (keeper_view 0).duties)
    (entries : m.entries.items.items ≡ []) (finishers : m.entries.places.items ≡ []) (visits : m.visits.items.items ≡ []) (visitors : m.visits.places.items ≡ []) (room : m.room ≡ 0) where
  many : length m.seats.items ≡ passes + 1
  many = ap length seats ∙ length-replicate (passes + 1) IDLE

  dealt_duties : duties_of m.desk (length m.seats.items - 1) ≡ (keeper_view passes).duties
  dealt_duties = let e : length m.seats.items - 1 ≡ passes = let a = many in omega arith in
      ap (duties_of m.desk) e ∙ ap (λ (d : Duties). let z : Duties = record d { dealt = passes; out = passes } in z) duties

  first_notes : notes_of m ≡ no_notes (keeper_view passes).duties
  first_notes = let e = dealt_duties in cc

  pub views_are : views_of m ≡ first_views passes
  views_are = ap (λ (n : Notes). views_from n 0 m.seats.items) first_notes ∙ ap (views_from (no_notes (keeper_view passes).duties) 0) seats ∙ idle_views (keeper_view passes).duties passes

  pub is_start : core_of m ≡ start_of m.shape passes
  is_start = let e = views_are in cc

  pub start_sound : passes ≤ 16 → IsShape m.shape → ((s : ℕ) → s < 4 → slice_get m.desk.families s ≡ Some (family_of m.shape 0)) → HasLogRoom m.entries 0 → HasLogRoom m.visits 0 → HasDeskRoom (width m.shape) m.desk 0 → IsSound m
  start_sound few fit families a b c = record {
    holds = record {
      some_seat = let e = many in omega arith;
      plane = subst (λ (ws : List ℕ). PlaneInvariant m.shape ws (views_of m)) (sym words) (subst (PlaneInvariant m.shape (first_words m.shape)) (sym views_are) (first_rule m.shape (first_words m.shape) passes (fresh m.shape fit) few));
      entries = subst (HasLogRoom m.entries) (sym room) a;
      visits = subst (HasLogRoom m.visits) (sym room) b;
      desk = subst (HasDeskRoom (width m.shape) m.desk) (sym room) c;
      marks = λ j x at. subst (λ (y : Seat). HasMarks m.shape y.state y.marks) (all_idle (passes + 1) j x (ap (λ (l : List Seat). get_elem? l j) (sym seats) ∙ at)) tt;
      families = λ s near. families s near ∙ ap (λ (page : ℕ). Some (family_of m.shape page)) (sym (ap (λ (d : Duties). (slot_at d s).page) duties ∙ first_page s near));
    };
    finishers = subst (λ (ps : List ℕ). All (λ (place : ℕ). place < length m.seats.items) ps) (sym finishers) (λ k d lt. absurd (omega arith));
  }
