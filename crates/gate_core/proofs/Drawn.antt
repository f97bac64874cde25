-- What the plane invariant implies: the marks in words, the places of pages, visits and floors.
use Rattle.std.proofs.Common.{false, ◌≡◌, ◌⊎◌, ℕ, ◌<◌, ◌↔◌, true, List, [], ◌∷◌, get_or, sym, refl, ap, ◌∙◌, subst, inl, inr, ⊎_elim, arith}
use mathlib.Core.Option.{some}
use lib.ListN.{get_elem?}
use Rattle.spie_base.specs.declared.PageShape.{PageShape}
use Rattle.spie_base.specs.declared.types.Entry.{Entry}
use Rattle.gate_core.specs.declared.states.PassState.{PassState}
use Rattle.gate_core.specs.declared.states.PassState.TheVariants.{Idle, Looked, Inside, Visiting}
use Rattle.gate_core.specs.declared.states.SlotPhase.{SlotPhase}
use Rattle.gate_core.specs.declared.states.SlotPhase.TheVariants.{Free, Open, Sealed, Quiet}
use Rattle.bloom_page.specs.Bits.{bit_in}
use Rattle.gate_core.specs.Marks.{width, size}
use Rattle.hash_family.specs.Entries.{IsAmong}
use Rattle.gate_core.specs.Views.{Visit, Probed, Duties, View, slot_at, collected_of}
use Rattle.gate_core.specs.Acts.{page_of, inside_of, gate_place, bit_place, IsQuiet}
use Rattle.gate_core.specs.Invariant.{in_slot, HasPage, IsLive, IsInside, page_bit, HasSet, Recorded, Marked, IsCollected, StateFits, VisitFits, PlaneFits}
use Rattle.gate_core.proofs.Frame.{not_both}
use Rattle.gate_core.proofs.Inside.{gate_counts, nobody_counted}

set_inside : (shape : PageShape) (st : PassState) (s p : ℕ) → HasSet shape st s p → IsInside s st
set_inside shape Idle s p h = h
set_inside shape (Looked t) s p h = h
set_inside shape (Inside t page sig m) s p h = h.0
set_inside shape (Visiting t gate) s p h = h

inside_live : (shape : PageShape) (d : Duties) (floor : ℕ) (st : PassState) (s : ℕ) → StateFits shape d floor st → IsInside s st → IsLive (slot_at d s).phase
inside_live shape d floor Idle s k h = absurd h
inside_live shape d floor (Looked t) s k h = absurd h
inside_live shape d floor (Inside t page sig m) s k h = subst (λ (o : ℕ). IsLive (slot_at d o).phase) h k.4
inside_live shape d floor (Visiting t gate) s k h = absurd h

not_live : (ph : SlotPhase) → IsQuiet ph → IsLive ph → ⊥
not_live Free quiet live = quiet
not_live Open quiet live = quiet
not_live Sealed quiet live = quiet
not_live (Quiet next) quiet live = live

pub quiet_stands : (ph : SlotPhase) → IsQuiet ph → HasPage ph
quiet_stands Free quiet = absurd quiet
quiet_stands Open quiet = tt
quiet_stands Sealed quiet = tt
quiet_stands (Quiet next) quiet = tt

-- the invariant holds, of the keeper's duties d and its entries
module _ (shape : PageShape) (words : List ℕ) (views : List View) (d : Duties) (mine : List Entry) (f : PlaneFits shape words views d mine) where
  -- ---- words and marks

  -- the bits of a collected page are the marks of its entries
  pub collected_marks : (page : ℕ) → page < d.next → IsCollected shape d page → (p : ℕ) → p < size shape → (bit_in (collected_of d page) p ≡ 1) ↔ Recorded shape views page p
  collected_marks = f.collected_words

  -- those of a page that stands are these marks and the ones that records inside have set
  pub standing_marks : (s : ℕ) → s < 4 → HasPage (slot_at d s).phase → (p : ℕ) → p < size shape → (page_bit shape words d s p ≡ 1) ↔ Marked shape views (slot_at d s).page s p
  standing_marks = f.slot_words

  -- nobody is Inside a Quiet slot
  pub quiet_empty : (s : ℕ) → IsQuiet (slot_at d s).phase → (j : ℕ) (u : View) → get_elem? views j ≡ some u → ¬ IsInside s u.state
  quiet_empty s quiet j u at inside = not_live (slot_at d s).phase quiet (inside_live shape d u.floor u.state s (f.actors j u at).state inside)

  -- so the bits of its page are the marks of the page's entries
  pub quiet_marks : (s : ℕ) → s < 4 → IsQuiet (slot_at d s).phase → (p : ℕ) → p < size shape → (page_bit shape words d s p ≡ 1) ↔ Recorded shape views (slot_at d s).page p
  quiet_marks s near quiet p small = let old = f.slot_words s near (quiet_stands (slot_at d s).phase quiet) p small in (
    (λ b. let (j, u, at, x) = old.0 b in ⊎_elim (λ h. (j, u, at, h)) (λ h. absurd (quiet_empty s quiet j u at (set_inside shape u.state s p h))) x),
    λ (j, u, at, h). old.1 (j, u, at, inl h),
  )

  -- the words of a Free slot are 0
  pub free_empty : (s : ℕ) → s < 4 → (slot_at d s).phase ≡ Free → (i : ℕ) → i < width shape → get_or words (bit_place shape s i) 0 ≡ 0
  free_empty = f.free_words

  -- ---- the places of pages

  -- a page stands in one slot at most
  pub one_slot : (s t : ℕ) → s < 4 → t < 4 → HasPage (slot_at d s).phase → HasPage (slot_at d t).phase → (slot_at d s).page ≡ (slot_at d t).page → s ≡ t
  one_slot s t a b h k e = f.slots.used_apart s t a b (f.slots.stands_used s a h) (f.slots.stands_used t b k) e

  -- one slot at most is open
  pub one_open : (s t : ℕ) → s < 4 → t < 4 → (slot_at d s).phase ≡ Open → (slot_at d t).phase ≡ Open → s ≡ t
  one_open s t a b h k = one_slot s t a b (subst HasPage (sym h) tt) (subst HasPage (sym k) tt) (let x = f.slots.open_last s a h in let y = f.slots.open_last t b k in omega arith)

  -- a page that stands in a slot is not collected
  pub standing_apart : (s : ℕ) → s < 4 → HasPage (slot_at d s).phase → ¬ IsCollected shape d (slot_at d s).page
  standing_apart s near stands whole = not_both shape d s (slot_at d s).page f.slots near stands refl whole

  -- the page of a Free slot in which one was ever opened is collected
  pub free_collected : (s : ℕ) → s < 4 → (slot_at d s).used ≡ true → (slot_at d s).phase ≡ Free → IsCollected shape d (slot_at d s).page
  free_collected s near used free = ⊎_elim (λ c. c)
      (λ (t, small, stands, e). let same = f.slots.used_apart t s small near (f.slots.stands_used t small stands) used e in absurd (subst HasPage free (subst (λ (o : ℕ). HasPage (slot_at d o).phase) same stands)))
      (f.slots.placed (slot_at d s).page (f.slots.used_below s near used))

  -- ---- visits and floors

  module _ (j : ℕ) (u : View) (at : get_elem? views j ≡ some u) where
    pub visit_fits : (i : ℕ) (x : Visit) → get_elem? u.visits i ≡ some x → VisitFits d u.floor x
    visit_fits = (f.actors j u at).visits

    -- while the page of the floor is open, there is no visit
    pub no_visit : (s : ℕ) → s < 4 → (slot_at d s).phase ≡ Open → (slot_at d s).page ≡ u.floor → u.visits ≡ []
    no_visit s near is_open floor = none u.visits refl where
      none : (xs : List Visit) → u.visits ≡ xs → u.visits ≡ []
      none [] e = e
      none (x ∷ xs) e = let k = visit_fits 0 x (ap (λ (ys : List Visit). get_elem? ys 0) e) in let a = f.slots.open_last s near is_open in let b = k.below in let c = k.from_floor in
          absurd (k.not_open s near is_open (let g : (slot_at d s).page ≡ page_of x.gate = omega arith in g))

  -- ---- settles

  -- where a gate counts nobody, nobody is Inside or Visiting the slot
  pub gate_empty : (s : ℕ) → s < 4 → inside_of (get_or words (gate_place s) 0) ≡ 0 → (j : ℕ) (u : View) → get_elem? views j ≡ some u → in_slot s u ≡ 0
  gate_empty s near none j u at = nobody_counted (in_slot s) views (sym (gate_counts shape words views d mine f s near) ∙ none) j u at

  -- ---- probes

  module _ (i : ℕ) (x : Probed) (at : get_elem? d.probes i ≡ some x) where
    -- what was read as set is a mark of an entry of the page, or of a record inside the slot where it stands
    pub probe_set : x.bit ≡ true → Recorded shape views x.page x.at ⊎ ((s : ℕ) × (s < 4) × HasPage (slot_at d s).phase × ((slot_at d s).page ≡ x.page) × Marked shape views x.page s x.at)
    probe_set one = let k = f.probes i x at in ⊎_elim (λ c. inl ((f.collected_words x.page k.page_below c.0 x.at k.at_below).0 c.1))
        (λ (s, near, stands, is, bit). inr (s, near, stands, is, subst (λ (g : ℕ). Marked shape views g s x.at) is ((f.slot_words s near stands x.at k.at_below).0 bit)))
        (k.seen one)

    -- what was read as not set is no mark of the entries that the keeper then had
    pub probe_unset : x.bit ≡ false → (j : ℕ) (e : Entry) → j < x.known → get_elem? mine j ≡ some e → e.page.number ≡ x.page → ¬ IsAmong shape x.page e.sig shape.k x.at
    probe_unset = (f.probes i x at).unseen
