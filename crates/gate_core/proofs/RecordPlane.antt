-- What holds of an actor at a place, and of the words on which it acts.
use Rattle.std.proofs.Common.{◌≡◌, ℕ, ◌+◌, ◌-◌, ◌*◌, ◌/◌, ◌<◌, ◌≤◌, List, length, get_or, sym, refl, ap, ◌∙◌, subst, arith, mul-le-mul_right}
use Rattle.std.proofs.Math.ListN.{get_or-append}
use Rattle.std.proofs.lemmas.List.{get_or_default}
use Rattle.std.specs.Prelude.{slice_get, Some, replicate}
use Rattle.spie_base.specs.declared.Sig.{Sig}
use Rattle.spie_base.specs.declared.Marks.{Marks}
use Rattle.spie_base.specs.declared.PageShape.{PageShape}
use Rattle.hash_family.specs.Positions.{position, positions_by, family_of, placed_by}
use Rattle.hash_family.proofs.PositionFacts.{get_or-marks_of, length-marks_of, marks_of-family}
use Rattle.spie_base.specs.declared.PageNo.{PageNo}
use Rattle.gate_core.specs.declared.states.PassState.{PassState}
use Rattle.gate_core.specs.declared.states.PassState.TheVariants.{Looked, Inside}
use Rattle.gate_core.specs.declared.core_data.CoreData.{CoreData}
use Rattle.gate_core.specs.declared.core_data.Seat.{Seat}
use Rattle.gate_core.specs.Marks.{width, size}
use Rattle.gate_core.specs.Views.{Duties, View, slot_at}
use Rattle.gate_core.specs.Acts.{page_of, gate_place, bit_place}
use Rattle.gate_core.specs.Invariant.{total, in_slot, seal_bit, StateFits, PlaneFits}
use Rattle.gate_core.specs.Kept.{notes_of, duties_of, view_of, views_of, HasMarks, Holds}
use Rattle.gate_core.specs.Writes.{no_seat, seat_at}
use Rattle.gate_core.proofs.Duty.{keeper_fits}
use Rattle.gate_core.proofs.Inside.{crowd}
use Rattle.gate_core.proofs.Gates.{gate_page, sealed_two}
use Rattle.gate_core.proofs.Bits.{position_below}
use Rattle.gate_core.proofs.MachineSteps.{viewed}
use Rattle.gate_core.proofs.RecordSteps.{there_at}

module _ (m : CoreData) (holds : Holds m) where
  abbrev d : Duties
  d = duties_of m.desk (length m.seats.items - 1)

  abbrev keeper : View
  keeper = view_of (notes_of m) 0 (seat_at m 0).state

  pub plane : PlaneFits m.shape m.words.items (views_of m) d keeper.entries
  plane = let there = viewed m 0 (seat_at m 0) (there_at m.seats.items 0 no_seat (let h : 1 ≤ length m.seats.items = holds.some_seat in omega arith)) in
      keeper_fits m.shape m.words.items (views_of m) holds.plane 0 keeper there refl

  pub few_places : (place : ℕ) → place < length m.seats.items → place < 256
  few_places place within = let f : length m.seats.items - 1 ≤ 16 = plane.few in omega arith

  pub gate_within : (s : ℕ) → s < 4 → gate_place s < length m.words.items
  gate_within s near = let w : ℕ = width m.shape in let l : length m.words.items ≡ 5 + 4 * w = plane.long in omega arith

  pub bit_within : (s i : ℕ) → s < 4 → i < width m.shape → bit_place m.shape s i < length m.words.items
  bit_within s i near below =
      let w : ℕ = width m.shape in let l : length m.words.items ≡ 5 + 4 * w = plane.long in let x : ℕ = s * w in
      let b : x ≤ 3 * w = mul-le-mul_right w (let g : s ≤ 3 = omega arith in g) in let i' : i < w = below in omega arith

  pub gate_of_page : (s : ℕ) → s < 4 → page_of (get_or m.words.items (gate_place s) 0) ≡ (slot_at d s).page
  gate_of_page s near =
      let crowd' : total (in_slot s) (views_of m) ≤ 17 = crowd m.shape m.words.items (views_of m) d keeper.entries plane s in
      gate_page (total (in_slot s) (views_of m)) (seal_bit (slot_at d s).phase) (slot_at d s).page (get_or m.words.items (gate_place s) 0)
      (let g : total (in_slot s) (views_of m) < 65536 = omega arith in g) (sealed_two (slot_at d s).phase) (plane.gates s near)

  -- the hash functions of the page that the gate names
  pub family_there : (s : ℕ) → s < 4 → slice_get m.desk.families s ≡ Some (family_of m.shape (page_of (get_or m.words.items (gate_place s) 0)))
  family_there s near = holds.families s near ∙ ap (λ (page : ℕ). Some (family_of m.shape page)) (sym (gate_of_page s near))

  module _ (place : ℕ) (within : place < length m.seats.items) (st : PassState) (is : st ≡ (seat_at m place).state) where
    pub state_fits : StateFits m.shape d 0 st
    state_fits = subst (StateFits m.shape d 0) (sym is)
        (plane.actors place (view_of (notes_of m) place (seat_at m place).state) (viewed m place (seat_at m place) (there_at m.seats.items place no_seat within))).state

    pub marks_fit : HasMarks m.shape st (seat_at m place).marks
    marks_fit = subst (λ (z : PassState). HasMarks m.shape z (seat_at m place).marks) (sym is) (holds.marks place (seat_at m place) (there_at m.seats.items place no_seat within))

-- the marks that a record inside a slot has, in order
pub mark_is : (shape : PageShape) (page : ℕ) (sig : Sig) (marks : Marks) (i : ℕ) → marks ≡ placed_by (family_of shape page) sig → i < shape.k → get_or marks.at i 0 ≡ position shape page sig i
mark_is shape page sig marks i is below =
    ap (λ (x : Marks). get_or x.at i 0) is
    ∙ (get_or-append (positions_by (family_of shape page) sig) (replicate (8 - shape.k) 0) 0 i
    (subst (λ (l : List ℕ). i < length l) (marks_of-family shape page sig) (let e = length-marks_of shape page sig in omega arith))
    ∙ (ap (λ (l : List ℕ). get_or l i 0) (sym (marks_of-family shape page sig)) ∙ get_or-marks_of shape page sig i 0 below))

module _ (m : CoreData) (holds : Holds m) (place : ℕ) (within : place < length m.seats.items) where
  pub looked_near : (slot : ℕ) → Looked slot ≡ (seat_at m place).state → slot < 4
  looked_near slot is = (state_fits m holds place within (Looked slot) is).0

  module _ (slot : ℕ) (page : PageNo) (sig : Sig) (k : ℕ) (is : Inside slot page sig k ≡ (seat_at m place).state) where
    pub inside_near : slot < 4
    inside_near = (state_fits m holds place within (Inside slot page sig k) is).0

    -- the next mark, read from the seat
    module _ (below : k < m.shape.k) (x : Seat) (read : x ≡ get_or m.seats.items place x) (i : ℕ) (at : i ≡ k) where
      pub next_mark : get_or x.marks.at i 0 ≡ position m.shape page.number sig k
      next_mark = ap (λ (z : Seat). get_or z.marks.at i 0) (read ∙ get_or_default m.seats.items place x no_seat within)
          ∙ (ap (λ (n : ℕ). get_or (seat_at m place).marks.at n 0) at
          ∙ mark_is m.shape page.number sig (seat_at m place).marks k (marks_fit m holds place within (Inside slot page sig k) is) below)

      pub next_word_within : get_or x.marks.at i 0 / 64 < width m.shape
      next_word_within =
          let p : position m.shape page.number sig k < size m.shape = position_below m.shape page.number sig k (plane m holds).in_range in
          let w : ℕ = width m.shape in let n : ℕ = get_or x.marks.at i 0 in let e : n ≡ position m.shape page.number sig k = next_mark in let b : position m.shape page.number sig k < 64 * w = p in
          let g : n / 64 < w = omega arith in g

      pub next_within : bit_place m.shape slot (get_or x.marks.at i 0 / 64) < length m.words.items
      next_within = bit_within m holds slot (get_or x.marks.at i 0 / 64) inside_near next_word_within
