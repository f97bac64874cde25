-- The bits of a page are the marks of its entries, and those that records inside have set.
use Rattle.std.proofs.Common.{◌≡◌, ℕ, ◌+◌, ◌-◌, ◌*◌, ◌/◌, ◌%◌, ◌^◌, ◌<◌, ◌≤◌, ◌⊎◌, ◌↔◌, nat_lt, Bool, true, false, cond, ◌&&◌, eqb, List, [], ◌++◌, length, get_or, drop, sym, refl, ap, ◌∙◌, subst, inl, inr, ⊎_elim, arith, length-append}
use Rattle.std.specs.Prelude.{Some, None}
use Rattle.std.specs.List.{Contains}
use Rattle.std.proofs.lemmas.Bool.{cases_lt, lt-ltb, le-ltb}
use Rattle.std.proofs.lemmas.Bool.Decides.{eqb_tells}
use Rattle.std.proofs.lemmas.List.{append-nil, get_or-take, get_or-drop, get_or_past, length-take}
use Rattle.std.proofs.lemmas.List.Elements.{All-get_or}
use mathlib.Core.Option.{some}
use lib.ListN.{get_elem?}
use Rattle.spie_base.specs.declared.PageShape.{PageShape}
use Rattle.spie_base.specs.declared.types.Entry.{Entry}
use Rattle.gate_core.specs.declared.states.PassState.{PassState}
use Rattle.gate_core.specs.declared.states.PassState.TheVariants.{Idle, Looked, Inside, Visiting}
use Rattle.gate_core.specs.declared.states.SlotPhase.{SlotPhase}
use Rattle.gate_core.specs.declared.states.SlotPhase.TheVariants.{Free, Open, Sealed, Quiet}
use Rattle.gate_core.specs.declared.core_data.CoreData.{CoreData}
use Rattle.bloom_page.specs.Bits.{bit_in, members_of}
use Rattle.bloom_page.proofs.BitFacts.{Contains-members_of, bit_in-append_front, bit_in-append_back, bit_in-past}
use Rattle.gate_core.specs.Marks.{width, size}
use Rattle.hash_family.specs.Entries.{IsAmong, IsMarked}
use Rattle.gate_core.specs.Views.{Slot, no_slot, Duties, View, slot_at, collected_of}
use Rattle.gate_core.specs.Acts.{bit_place}
use Rattle.gate_core.specs.Invariant.{has_page, HasPage, IsLive, live_bit, HasSet, Recorded, Marked, IsCollected, StateFits, PlaneFits}
use Rattle.gate_core.specs.Core.{items_at, live_words}
use Rattle.gate_core.specs.Core as core
use Rattle.gate_core.specs.Kept.{notes_of, view_of, views_of, core_of}
use Rattle.gate_core.specs.Sound.{IsSound}
use Rattle.gate_core.specs.PageWords.{stands_with, page_words, HasSetOf, IsSetInside}
use Rattle.gate_core.proofs.Lists.{at_within, same_at}
use Rattle.gate_core.proofs.Bits.{position_below}
use Rattle.gate_core.proofs.Frame.{not_both}
use Rattle.gate_core.proofs.KeptViews.{length-views_from}
use Rattle.gate_core.proofs.MachineSteps.{viewed}
use Rattle.gate_core.proofs.Members.{item_at, read_item, any_here, any_where, of_actor, to_actor}
use Rattle.gate_core.proofs.KeeperSteps.{desk_duties, own_entries, desk_fits}
use Rattle.gate_core.proofs.CoreFacts.{duties_is, page_words_are}
use Rattle.gate_core.proofs.PageBits.{first_passing}

-- ---- the slot in which a page stands

standing : (ph : SlotPhase) (b : Bool) → (has_page ph && b) ≡ true → HasPage ph × (b ≡ true)
standing Free b e = cc
standing Open b e = (tt, e)
standing Sealed b e = (tt, e)
standing (Quiet next) b e = (tt, e)

both_true : (ph : SlotPhase) (b : Bool) → HasPage ph → b ≡ true → (has_page ph && b) ≡ true
both_true Free b stands e = absurd stands
both_true Open b stands e = e
both_true Sealed b stands e = e
both_true (Quiet next) b stands e = e

stands_yes : (page : ℕ) (x : Slot) → stands_with page x ≡ true → HasPage x.phase × (x.page ≡ page)
stands_yes page x e = let k = standing x.phase (eqb x.page page) e in (k.0, ⊎_elim (λ t. t.1) (λ t. let a = t.0 in let b = k.1 in cc) (eqb_tells x.page page))

stands_no : (page : ℕ) (x : Slot) → stands_with page x ≡ false → HasPage x.phase → x.page ≡ page → ⊥
stands_no page x e stands is = ⊎_elim (λ t. let y = both_true x.phase (eqb x.page page) stands t.0 in cc) (λ t. t.1 is) (eqb_tells x.page page)

-- ---- one bit of a page's words

-- of the words that are collected, and behind them the live ones of a slot
behind : (shape : PageShape) (words got : List ℕ) (s p : ℕ) → length got ≤ width shape → p < size shape
    → bit_in (got ++ live_words shape words s (length got)) p ≡ cond (nat_lt (p / 64) (length got)) (bit_in got p) (live_bit shape words s p)
behind shape words got s p few small = let w : ℕ = width shape in let n : ℕ = length got in let at : ℕ = p / 64 in ⊎_elim
    (λ lt. bit_in-append_front got (live_words shape words s n) p (omega arith) ∙ ap (λ (b : Bool). cond b (bit_in got p) (live_bit shape words s p)) (sym (lt-ltb at n lt)))
    (λ le. let q : ℕ = p - 64 * n in let first : ℕ = bit_place shape s n in let past : ℕ = bit_place shape s w in
    let place : p ≡ 64 * n + q = omega arith in let whole : q / 64 + n ≡ at = omega arith in let part : q % 64 ≡ p % 64 = omega arith in
    ap (bit_in (got ++ live_words shape words s n)) place
    ∙ bit_in-append_back got (live_words shape words s n) q
    ∙ ap (λ (x : ℕ). x / 2 ^ (q % 64) % 2) (get_or-take (past - first) (drop first words) (q / 64) 0 (let z : at < w = omega arith in omega arith) ∙ get_or-drop first words (q / 64) 0)
    ∙ ap (λ (i : ℕ). get_or words i 0 / 2 ^ (q % 64) % 2) (let e : first + q / 64 ≡ bit_place shape s at = omega arith in e)
    ∙ ap (λ (k : ℕ). get_or words (bit_place shape s at) 0 / 2 ^ k % 2) part
    ∙ ap (λ (b : Bool). cond b (bit_in got p) (live_bit shape words s p)) (sym (le-ltb at n le)))
    (cases_lt at n)

module _ (m : CoreData) (sound : IsSound m) where
  abbrev shape : PageShape
  shape = m.shape

  abbrev views : List View
  views = views_of m

  abbrev d : Duties
  d = desk_duties m

  abbrev entries : List Entry
  entries = m.entries.items.items

  abbrev finishers : List ℕ
  finishers = m.entries.places.items

  fit : PlaneFits shape m.words.items views d (own_entries m)
  fit = desk_fits m sound.holds

  -- ---- the entries of the views

  entries_at : (j : ℕ) (v : View) → get_elem? views j ≡ some v → v.entries ≡ items_at j finishers entries
  entries_at j v at =
      let (x, there) = item_at m.seats.items j (let a = at_within views j v at in let b = length-views_from (notes_of m) 0 m.seats.items in omega arith) in
      ap (λ (u : View). u.entries) (same_at views j v (view_of (notes_of m) j x.state) at (viewed m j x there))

  viewed_at : (j : ℕ) → j < length m.seats.items → (v : View) × (get_elem? views j ≡ some v)
  viewed_at j lt = let (x, there) = item_at m.seats.items j lt in (view_of (notes_of m) j x.state, viewed m j x there)

  recorded_is : (page p : ℕ) → Recorded shape views page p ↔ IsMarked shape entries page p
  recorded_is page p = (
    (λ (j, v, at, h).
        let (i, e, there, of, among) = h in
        let (k, stood) = of_actor j finishers entries e (i, subst (λ (l : List Entry). get_elem? l i ≡ some e) (entries_at j v at) there) in
        (k, e, stood, of, among)),
    λ (k, e, stood, of, among).
        let lt : k < length finishers = let a = at_within entries k e stood in let b = sound.holds.entries.each in omega arith in
        let (q, by) = item_at finishers k lt in
        let seated : q < length m.seats.items = subst (λ (z : ℕ). z < length m.seats.items) {y = q} (read_item finishers k 0 q by) (All-get_or (λ (z : ℕ). z < length m.seats.items) finishers k 0 lt sound.finishers) in
        let (v, at) = viewed_at q seated in
        let (i, there) = to_actor finishers entries k q e by stood in
        (q, v, at, (i, e, subst (λ (l : List Entry). get_elem? l i ≡ some e) {y = v.entries} (sym {a = v.entries} (entries_at q v at)) there, of, among)),
  )

  -- ---- marks are positions of a page

  mark_small : (page : ℕ) (sig : Rattle.spie_base.specs.declared.Sig.Sig) (k p : ℕ) → IsAmong shape page sig k p → p < size shape
  mark_small page sig k p (i, lt, is) = subst (λ (z : ℕ). z < size shape) is (position_below shape page sig i fit.in_range)

  marked_small : (page p : ℕ) → IsMarked shape entries page p → p < size shape
  marked_small page p (k, e, stood, of, among) = mark_small page e.sig shape.k p among

  -- ---- the marks that records inside have set

  live_stands : (ph : SlotPhase) → IsLive ph → HasPage ph
  live_stands Free live = live
  live_stands Open live = tt
  live_stands Sealed live = tt
  live_stands (Quiet next) live = absurd live

  module _ (s : ℕ) (near : s < 4) (stands : HasPage (slot_at d s).phase) (page : ℕ) (is : (slot_at d s).page ≡ page) (p : ℕ) where
    -- in a slot, or in the page that stands there
    set_in : (floor : ℕ) (st : PassState) → StateFits shape d floor st → HasSet shape st s p ↔ HasSetOf shape page st p
    set_in floor Idle k = (λ h. h, λ h. h)
    set_in floor (Looked t) k = (λ h. h, λ h. h)
    set_in floor (Inside t inside sig n) k = (
      (λ h. let e : inside.number ≡ page = k.3 ∙ (ap (λ (z : ℕ). (slot_at d z).page) h.0 ∙ is) in (e, subst (λ (z : ℕ). IsAmong shape z sig n p) e h.1)),
      λ h. (
        fit.slots.used_apart t s k.0 near k.1 (fit.slots.stands_used s near stands) (sym k.3 ∙ (h.0 ∙ sym is)),
        subst (λ (z : ℕ). IsAmong shape z sig n p) (sym h.0) h.1,
      ),
    )
    set_in floor (Visiting t gate) k = (λ h. h, λ h. h)

    marked_is : Marked shape views page s p ↔ (IsMarked shape entries page p ⊎ IsSetInside shape page views p)
    marked_is = let Q : View → Type 0 = λ v. HasSetOf shape page v.state p in (
      (λ (j, v, at, x). ⊎_elim
          (λ h. inl ((recorded_is page p).0 (j, v, at, h)))
          (λ h. inr (any_here Q views j v at ((set_in v.floor v.state (fit.actors j v at).state).0 h))) x),
      λ y. ⊎_elim
          (λ h. let (j, v, at, mark) = (recorded_is page p).1 h in (j, v, at, inl mark))
          (λ h. let (j, v, at, q) = any_where Q views h in (j, v, at, inr ((set_in v.floor v.state (fit.actors j v at).state).1 q))) y,
    )

  set_small : (page p : ℕ) (st : PassState) → HasSetOf shape page st p → p < size shape
  set_small page p Idle h = absurd h
  set_small page p (Looked t) h = absurd h
  set_small page p (Inside t inside sig n) h = mark_small page sig n p h.1
  set_small page p (Visiting t gate) h = absurd h

  inside_small : (page p : ℕ) → IsSetInside shape page views p → p < size shape
  inside_small page p h = let (j, v, at, q) = any_where (λ (v : View). HasSetOf shape page v.state p) views h in set_small page p v.state q

  any_small : (page p : ℕ) → IsMarked shape entries page p ⊎ IsSetInside shape page views p → p < size shape
  any_small page p h = ⊎_elim (marked_small page p) (inside_small page p) h

  -- nobody is inside a page that stands nowhere
  nobody : (page p floor : ℕ) → ((s : ℕ) → s < 4 → HasPage (slot_at d s).phase → (slot_at d s).page ≡ page → ⊥) → (st : PassState) → StateFits shape d floor st → HasSetOf shape page st p → ⊥
  nobody page p floor none Idle k h = h
  nobody page p floor none (Looked t) k h = h
  nobody page p floor none (Inside t inside sig n) k h = none t k.0 (live_stands (slot_at d t).phase k.4) (sym k.3 ∙ h.0)
  nobody page p floor none (Visiting t gate) k h = h

  none_inside : (page p : ℕ) → ((s : ℕ) → s < 4 → HasPage (slot_at d s).phase → (slot_at d s).page ≡ page → ⊥) → IsSetInside shape page views p → ⊥
  none_inside page p none h = let (j, v, at, q) = any_where (λ (v : View). HasSetOf shape page v.state p) views h in nobody page p v.floor none v.state (fit.actors j v at).state q

  -- ---- a page's words

  abbrev Told : List ℕ → (page p : ℕ) → Type 0
  Told ws page p = Contains (members_of ws) p ↔ (IsMarked shape entries page p ⊎ IsSetInside shape page views p)

  -- bits that are told for the positions of a page are told for all
  all_told : (ws : List ℕ) (page p : ℕ) → length ws ≤ width shape → (p < size shape → (bit_in ws p ≡ 1) ↔ (IsMarked shape entries page p ⊎ IsSetInside shape page views p)) → Told ws page p
  all_told ws page p few told = let member = Contains-members_of ws p in (
    (λ h. let one = member.0 h in ⊎_elim
        (λ small. (told small).0 one)
        (λ past. let z = bit_in-past ws p (omega arith) in absurd (omega arith)) (cases_lt p (size shape))),
    λ h. member.1 ((told (any_small page p h)).1 h),
  )

  standing_told : (page p s : ℕ) → s < 4 → HasPage (slot_at d s).phase → (slot_at d s).page ≡ page → Told (collected_of d page ++ live_words shape m.words.items s (length (collected_of d page))) page p
  standing_told page p s near stands is =
      let ws : List ℕ = collected_of d page in
      let live : List ℕ = live_words shape m.words.items s (length ws) in
      let n : ℕ = length ws in
      let some : n ≤ width shape = let a = fit.slots.taken_words s near stands in let b = fit.slots.taken_short s near in let c : length (collected_of d (slot_at d s).page) ≡ n = ap (λ (q : ℕ). length (collected_of d q)) is in omega arith in
      let few : length (ws ++ live) ≤ width shape = let a = length-append ws live in let b = length-take (bit_place shape s (width shape) - bit_place shape s n) (drop (bit_place shape s n) m.words.items) in omega arith in
      all_told (ws ++ live) page p few (λ small.
      let bit = behind shape m.words.items ws s p some small ∙ ap (λ (q : ℕ). cond (nat_lt (p / 64) (length (collected_of d q))) (bit_in (collected_of d q) p) (live_bit shape m.words.items s p)) (sym is) in
      let told = fit.slot_words s near stands p small in
      let marked = subst (λ (q : ℕ). Marked shape views q s p ↔ (IsMarked shape entries page p ⊎ IsSetInside shape page views p)) (sym is) (marked_is s near stands page is p) in
      ((λ one. marked.0 (told.0 (sym bit ∙ one))), λ h. bit ∙ told.1 (marked.1 h)))

  nowhere_told : (page p : ℕ) → ((s : ℕ) → s < 4 → HasPage (slot_at d s).phase → (slot_at d s).page ≡ page → ⊥) → Told (collected_of d page) page p
  nowhere_told page p none = ⊎_elim
      (λ below. ⊎_elim
      (λ (whole : IsCollected shape d page). all_told (collected_of d page) page p (let g : length (collected_of d page) ≤ width shape = omega arith in g) (λ small.
      let told = fit.collected_words page below whole p small in
      let mark = recorded_is page p in
      ((λ one. inl (mark.0 (told.0 one))), λ h. ⊎_elim (λ y. told.1 (mark.1 y)) (λ y. absurd (none_inside page p none y)) h)))
      (λ (s, near, stands, is). absurd (none s near stands is)) (fit.slots.placed page below))
      (λ past.
      let one : length d.collected ≡ d.next = fit.slots.one_list in
      let bare : collected_of d page ≡ [] = get_or_past d.collected page [] (omega arith) in
      subst (λ (ws : List ℕ). Told ws page p) (sym bare) (all_told [] page p (let g : 0 ≤ width shape = omega arith in g) (λ small. (
        (λ z. absurd (let e : bit_in [] p ≡ 0 = bit_in-past [] p (omega arith) in omega arith)),
        λ h. ⊎_elim
            (λ y. let (j, v, at, mark) = (recorded_is page p).1 y in let (i, e, there, of, among) = mark in let b = (fit.actors j v at).entries i e there in absurd (let g : page < d.next = subst (λ (z : ℕ). z < d.next) of b.0 in omega arith))
            (λ y. absurd (none_inside page p none y)) h,
      ))))
      (cases_lt page d.next)

  pub marks_are : (page p : ℕ) → Told (page_words (core_of m) page) page p
  marks_are page p =
      let same : collected_of d page ≡ collected_of (core.duties_of (core_of m)) page = ap (λ (e : Duties). collected_of e page) (sym (duties_is m sound.holds)) in
      let ws : List ℕ = collected_of d page in
      let slots : (s : ℕ) → s < 4 → s < length m.desk.slots = λ s near. let a : length d.slots ≡ 4 = fit.slots.four in omega arith in ⊎_elim
      (λ (s, at, lt, passes).
      let near : s < 4 = let a : length d.slots ≡ 4 = fit.slots.four in omega arith in
      let (stands, is) = stands_yes page (slot_at d s) passes in
      let live : List ℕ = live_words shape m.words.items s (length ws) in
      subst (λ (x : List ℕ). Told x page p) (page_words_are m sound.holds page ws live (Some s) same (sym at) refl) (standing_told page p s near stands is))
      (λ (at, fails).
      subst (λ (x : List ℕ). Told x page p) (sym (append-nil ws) ∙ page_words_are m sound.holds page ws [] None same (sym at) refl)
      (nowhere_told page p (λ s near stands is. stands_no page (slot_at d s) (fails s (slots s near)) stands is)))
      (first_passing (stands_with page) m.desk.slots no_slot)

  -- nobody is inside a page that is collected
  pub collected_are : (page p : ℕ) → IsCollected shape (core.duties_of (core_of m)) page → Contains (members_of (collected_of (core.duties_of (core_of m)) page)) p ↔ IsMarked shape entries page p
  collected_are page p whole =
      let e : core.duties_of (core_of m) ≡ d = duties_is m sound.holds in
      let none : (s : ℕ) → s < 4 → HasPage (slot_at d s).phase → (slot_at d s).page ≡ page → ⊥ = λ s near stands is. not_both shape d s page fit.slots near stands is (subst (λ (x : Duties). IsCollected shape x page) e whole) in
      let told = nowhere_told page p none in
      subst (λ (x : Duties). Contains (members_of (collected_of x page)) p ↔ IsMarked shape entries page p) (sym e)
      ((λ h. ⊎_elim (λ y. y) (λ y. absurd (none_inside page p none y)) (told.0 h)), λ h. told.1 (inl h))
