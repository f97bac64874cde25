-- `drain`: the next word of a quiet slot is collected and cleared.
use Rattle.std.proofs.Common.{◌≡◌, ℕ, suc, zero, ◌+◌, ◌*◌, ◌/◌, ◌%◌, ◌^◌, ◌<◌, ◌≤◌, ◌≢◌, ◌⊎◌, ◌↔◌, Bool, true, cond, nat_lt, eqb, List, [], ◌∷◌, ◌++◌, length, get_or, set, sym, refl, ap, ◌∙◌, subst, inl, inr, ⊎_elim, arith, le_refl, mul-le-mul_right, lt-ltb, le-ltb, lt_of_not-le, length-set, length-append, get_or-set_same, get_or-set_other, ◌-◌, ◌==◌, if◌then◌else◌, map, mul-le-mul_left, eq-eqb, ne_eqb, ap₂}
use mathlib.Core.Option.{some}
use mathlib.Core.Logic.{dite}
use native.Mathlib.Decide.{ℕ_discrete, dec_le}
use lib.ListN.{get_elem?}
use Rattle.spie_base.specs.declared.PageShape.{PageShape}
use Rattle.gate_core.specs.declared.states.PassState.{PassState}
use Rattle.gate_core.specs.declared.states.PassState.TheVariants.{Idle, Looked, Inside, Visiting}
use Rattle.gate_core.specs.declared.states.SlotPhase.{SlotPhase}
use Rattle.gate_core.specs.declared.states.SlotPhase.TheVariants.{Free, Open, Sealed, Quiet}
use Rattle.bloom_page.specs.Bits.{bit_in}
use Rattle.gate_core.specs.Marks.{width, size}
use Rattle.gate_core.specs.Views.{Keeper, Duties, View, slot_at, collected_of, Slot, no_slot}
use Rattle.gate_core.specs.Acts.{gate_place, bit_place, in_phase, with_duties, next_word, after_drain, IsQuiet, numbered, phased_slot, phase_taken, drained_to, view_after}
use Rattle.gate_core.specs.Invariant.{total, in_slot, seal_bit, HasPage, IsLive, taken, live_bit, page_bit, HasSet, Marked, Recorded, IsCollected, StateFits, SlotsFit, ActorFits, PlaneFits, PlaneInvariant}
use Rattle.std.specs.Prelude.{vec_len, vec_capacity, slice_get, Some, Vec}
use Rattle.std.specs.declared.alloc.Global.{Global}
use Rattle.std.proofs.Math.Pow.{pow_mono}
use Rattle.std.proofs.lemmas.List.{map-set, length-map, set-set, set-get_or}
use Rattle.std.proofs.lemmas.Option.{get_or_from_slice_get, slice_get_within}
use Rattle.gate_core.specs.declared.steps.Act.TheVariants.{Drain}
use Rattle.gate_core.specs.declared.steps.StepAnswer.{StepAnswer}
use Rattle.gate_core.specs.declared.steps.StepAnswer.TheVariants as answer
use Rattle.gate_core.specs.declared.states.ActorState.TheVariants as actor_state
use Rattle.gate_core.specs.declared.core_data.CoreData.{CoreData}
use Rattle.gate_core.specs.declared.core_data.Desk.{Desk}
use Rattle.spie_base.specs.Shapes.{IsShape, most_words}
use Rattle.spie_base.specs.declared.types.TheConstants.{N_LEAST, N_MOST}
use Rattle.gate_core.specs.Kept.{notes_of, duties_of, view_of, paid, HasDeskRoom, Holds, DoesAct}
use Rattle.gate_core.specs.Desks.{slot_in, phased, after_word, AddsWord}
use Rattle.gate_core.proofs.Gates.{tested}
use Rattle.gate_core.proofs.Frame.{not_both}
use Rattle.gate_core.proofs.Bits.{one_slot}
use Rattle.gate_core.proofs.Slots.{page_same, used_same, phase_case}
use Rattle.gate_core.proofs.Duty.{duty_kept, keeper_fits}
use Rattle.gate_core.proofs.Lists.{at_set}
use Rattle.gate_core.proofs.MachineSteps.{does_nothing, KeepsPlane}
use Rattle.gate_core.proofs.KeeperSteps.{first_of, four_slots, desk_fits, DeskBecomes, desk_is, desk_framed, desk_act}
use Rattle.gate_core.proofs.SlotRoom.{HasFamilies, room_phased, families_phased}
use Rattle.gate_core.proofs.CollectedLists.{Lists, words_in, slice_get_there}

-- ---- the act keeps the plane invariant

quiet_is : (ph : SlotPhase) → IsQuiet ph → ph ≡ Quiet (next_word ph)
quiet_is Free k = absurd k
quiet_is Open k = absurd k
quiet_is Sealed k = absurd k
quiet_is (Quiet next) k = refl

get_front : (xs : List ℕ) (x i : ℕ) → i < length xs → get_or (xs ++ x ∷ []) i 0 ≡ get_or xs i 0
get_front [] x i h = absurd (omega arith)
get_front (y ∷ ys) x zero h = refl
get_front (y ∷ ys) x (suc i) h = get_front ys x i (omega arith)

get_last : (xs : List ℕ) (x i : ℕ) → i ≡ length xs → get_or (xs ++ x ∷ []) i 0 ≡ x
get_last [] x zero h = refl
get_last [] x (suc i) h = absurd (omega arith)
get_last (y ∷ ys) x zero h = absurd (omega arith)
get_last (y ∷ ys) x (suc i) h = get_last ys x i (omega arith)

-- what the phase becomes, j words having been taken before
pub record Onward (j w : ℕ) (ph : SlotPhase) : Type 0 where
  pub counts : HasPage ph → taken ph ≡ j + 1
  pub short : taken ph < w
  pub more : HasPage ph ⊎ (j + 1 ≡ w)
  pub shut : ¬ (ph ≡ Open)
  pub gate : seal_bit ph ≡ 1
  pub dead : ¬ IsLive ph
  pub ends : ph ≡ Free → j + 1 ≡ w
  pub at_most : taken ph ≤ j + 1

onward : (j w : ℕ) → j < w → Onward j w (cond (eqb (j + 1) w) Free (Quiet (j + 1)))
onward j w h = tested (Onward j w) (j + 1) w Free (Quiet (j + 1))
    (λ e. record { counts = λ x. absurd x; short = omega arith; more = inr e; shut = λ x. cc; gate = refl; dead = λ x. x; ends = λ _. e; at_most = omega arith })
    (λ ne. record { counts = λ _. refl; short = omega arith; more = inl tt; shut = λ x. cc; gate = refl; dead = λ x. x; ends = λ x. cc; at_most = le_refl (j + 1) })

module _ (shape : PageShape) (words : List ℕ) (views : List View) (id : ℕ) (v : View) (there : get_elem? views id ≡ some v) (role : v.role ≡ Keeper) (f : PlaneFits shape words views v.duties v.entries) (s : ℕ) (near : s < 4) (can : IsQuiet (slot_at v.duties s).phase) where
  abbrev d : Duties
  d = v.duties

  abbrev w : ℕ
  w = width shape

  abbrev j : ℕ
  j = next_word (slot_at d s).phase

  abbrev g : ℕ
  g = (slot_at d s).page

  abbrev at : ℕ
  at = bit_place shape s j

  abbrev x : ℕ
  x = get_or words at 0

  abbrev words' : List ℕ
  words' = set words at 0

  abbrev d1 : Duties
  d1 = record d { collected = set d.collected g (collected_of d g ++ x ∷ []) }

  is_quiet : (slot_at d s).phase ≡ Quiet j
  is_quiet = quiet_is (slot_at d s).phase can

  stood_s : HasPage (slot_at d s).phase
  stood_s = subst HasPage (sym is_quiet) tt

  used_s : (slot_at d s).used ≡ true
  used_s = f.slots.stands_used s near stood_s

  had : length (collected_of d g) ≡ j
  had = f.slots.taken_words s near stood_s ∙ ap taken is_quiet

  j_short : j < w
  j_short = let a = f.slots.taken_short s near in let b : taken (slot_at d s).phase ≡ j = ap taken is_quiet in omega arith

  g_in : g < length d.collected
  g_in = let a = f.slots.used_below s near used_s in let b = f.slots.one_list in omega arith

  pieces_here : collected_of d1 g ≡ collected_of d g ++ x ∷ []
  pieces_here = get_or-set_same d.collected g (collected_of d g ++ x ∷ []) [] g_in

  pieces_else : (o : ℕ) → o ≢ g → collected_of d1 o ≡ collected_of d o
  pieces_else o ne = get_or-set_other d.collected g o (collected_of d g ++ x ∷ []) [] ne

  one_more_piece : length (collected_of d1 g) ≡ j + 1
  one_more_piece = ap length pieces_here ∙ (let a = length-append (collected_of d g) (x ∷ []) in let b = had in omega arith)

  -- words that stay
  still : (t i : ℕ) → i < w → (t ≢ s) ⊎ (i ≢ j) → get_or words' (bit_place shape t i) 0 ≡ get_or words (bit_place shape t i) 0
  still t i lt ne = get_or-set_other words at (bit_place shape t i) 0 0
      (λ e. let same : t ≡ s = one_slot w t s i j lt j_short e in ⊎_elim (λ k. k same) (λ k. k (let e' : 5 + s * w + i ≡ 5 + s * w + j = subst (λ (z : ℕ). 5 + z * w + i ≡ 5 + s * w + j) same e in omega arith)) ne)

  early : (i : ℕ) → i < 5 → get_or words' i 0 ≡ get_or words i 0
  early i lt = get_or-set_other words at i 0 0 (λ e. omega arith)

  cleared : get_or words' at 0 ≡ 0
  cleared = get_or-set_same words at 0 0 (let b : s * w ≤ 3 * w = mul-le-mul_right w (let k : s ≤ 3 = omega arith in k) in let y : ℕ = s * w in let b' : y ≤ 3 * w = b in let l : length words ≡ 5 + 4 * w = f.long in let q = j_short in omega arith)

  -- the page's bits stay
  bit_kept : (p : ℕ) → p < size shape → page_bit shape words' d1 s p ≡ page_bit shape words d s p
  bit_kept p small = let q : ℕ = p / 64 in let lt : q < w = omega arith in let more = one_more_piece in let was = had in let old : List ℕ = collected_of d g in
      dite (dec_le (j + 1) q)
      (λ above. ap (λ (b : Bool). cond b (bit_in (collected_of d1 g) p) (live_bit shape words' s p)) (le-ltb q (length (collected_of d1 g)) (omega arith)) ∙ (ap (λ (y : ℕ). y / 2 ^ (p % 64) % 2) (still s q lt (inr (λ e. omega arith)))
      ∙ sym (ap (λ (b : Bool). cond b (bit_in old p) (live_bit shape words s p)) (le-ltb q (length old) (omega arith)))))
      (λ no. let within : q < j + 1 = lt_of_not-le no in
      ap (λ (b : Bool). cond b (bit_in (collected_of d1 g) p) (live_bit shape words' s p)) (lt-ltb q (length (collected_of d1 g)) (omega arith)) ∙ (ap (λ (l : List ℕ). bit_in l p) pieces_here
      ∙ dite (ℕ_discrete q j)
      (λ e. ap (λ (y : ℕ). y / 2 ^ (p % 64) % 2) (get_last old x q (e ∙ sym was) ∙ ap (λ (i : ℕ). get_or words (bit_place shape s i) 0) (sym e)) ∙ sym (ap (λ (b : Bool). cond b (bit_in old p) (live_bit shape words s p)) (le-ltb q (length old) (omega arith))))
      (λ ne. ap (λ (y : ℕ). y / 2 ^ (p % 64) % 2) (get_front old x q (omega arith)) ∙ sym (ap (λ (b : Bool). cond b (bit_in old p) (live_bit shape words s p)) (lt-ltb q (length old) (omega arith))))))

  -- of another page too
  page_apart : (t : ℕ) → t < 4 → t ≢ s → HasPage (slot_at d t).phase → (slot_at d t).page ≢ g
  page_apart t small ne h e = ne (f.slots.used_apart t s small near (f.slots.stands_used t small h) used_s e)

  bit_else : (t p : ℕ) → t < 4 → t ≢ s → HasPage (slot_at d t).phase → p < size shape → page_bit shape words' d1 t p ≡ page_bit shape words d t p
  bit_else t p small ne h lt = let e = pieces_else (slot_at d t).page (page_apart t small ne h) in let a = still t (p / 64) (let k : p / 64 < w = omega arith in k) (inl ne) in
      λ k. cond (nat_lt (p / 64) (length (e k))) (bit_in (e k) p) (a k / 2 ^ (p % 64) % 2)

  -- nobody is in the middle there
  none_set : (st : PassState) (floor p : ℕ) → StateFits shape d floor st → HasSet shape st s p → ⊥
  none_set Idle floor p k h = h
  none_set (Looked t) floor p k h = h
  none_set (Inside t page sig m) floor p k h = let live : IsLive (slot_at d s).phase = subst (λ (y : ℕ). IsLive (slot_at d y).phase) h.0 k.4 in subst IsLive is_quiet live
  none_set (Visiting t gate) floor p k h = h

  marked_recorded : (p : ℕ) → Marked shape views g s p ↔ Recorded shape views g p
  marked_recorded p = ((λ (i, u, there', y). (i, u, there', ⊎_elim (λ m. m) (λ h. absurd (none_set u.state u.floor p (f.actors i u there').state h)) y)), (λ (i, u, there', m). (i, u, there', inl m)))

  module _ (ph : SlotPhase) (o : Onward j w ph) where
    abbrev d' : Duties
    d' = in_phase d1 s ph

    within : s < length d.slots
    within = let a = f.slots.four in omega arith

    pages : (t : ℕ) → (slot_at d' t).page ≡ (slot_at d t).page
    pages = page_same d1 s ph within

    uses : (t : ℕ) → (slot_at d' t).used ≡ (slot_at d t).used
    uses = used_same d1 s ph within

    abbrev cases : (P : ℕ → SlotPhase → Type 0) → P s ph → ((t : ℕ) → t ≢ s → P t (slot_at d t).phase) → (t : ℕ) → P t (slot_at d' t).phase
    cases P = phase_case d1 s ph within P

    stood : (t : ℕ) → HasPage (slot_at d' t).phase → HasPage (slot_at d t).phase
    stood = cases (λ t y. HasPage y → HasPage (slot_at d t).phase) (λ _. stood_s) (λ t ne h. h)

    slots' : SlotsFit shape d'
    slots' = let k = f.slots in record {
      four = length-set d.slots s (record { phase = ph; page = (slot_at d s).page; used = (slot_at d s).used }) ∙ k.four;
      pointed_slot = k.pointed_slot;
      pointed_used = uses d.pointed ∙ k.pointed_used;
      open_last = λ t small. cases (λ i y. i < 4 → y ≡ Open → (slot_at d' i).page + 1 ≡ d.next) (λ _ e. absurd (o.shut e)) (λ i ne lt e. let a = pages i in let b = k.open_last i lt e in omega arith) t small;
      stands_used = λ t small h. uses t ∙ k.stands_used t small (stood t h);
      used_below = λ t small h. let a = pages t in let b = k.used_below t small (sym (uses t) ∙ h) in omega arith;
      used_apart = λ t i a b h h' e. k.used_apart t i a b (sym (uses t) ∙ h) (sym (uses i) ∙ h') (sym (pages t) ∙ (e ∙ pages i));
      page_within = λ t small. let a = pages t in let b = k.page_within t small in omega arith;
      placed = λ page below. ⊎_elim
          (λ whole. inl (ap length (pieces_else page (λ e. not_both shape d s page f.slots near stood_s (sym e) whole)) ∙ whole))
          (λ (t, small, h, e). dite (ℕ_discrete t s)
          (λ q. let page_g : g ≡ page = ap (λ (i : ℕ). (slot_at d i).page) (sym q) ∙ e in ⊎_elim
          (λ stands. inr (s, near, cases (λ i y. i ≡ s → HasPage y) (λ _. stands) (λ i ne q'. absurd (ne q')) s refl, pages s ∙ page_g))
          (λ end. inl (ap (λ (i : ℕ). length (collected_of d1 i)) (sym page_g) ∙ (one_more_piece ∙ end))) o.more)
          (λ ne. inr (t, small, cases (λ i y. i ≢ s → HasPage (slot_at d i).phase → HasPage y) (λ n. absurd (n refl)) (λ i n _ h'. h') t ne h, pages t ∙ e)))
          (k.placed page below);
      one_list = length-set d.collected g (collected_of d g ++ x ∷ []) ∙ k.one_list;
      taken_words = λ t small. cases (λ i y. i < 4 → HasPage y → length (collected_of d1 (slot_at d' i).page) ≡ taken y)
          (λ _ h. ap (λ (i : ℕ). length (collected_of d1 i)) (pages s) ∙ (one_more_piece ∙ sym (o.counts h)))
          (λ i ne lt h. ap (λ (q : ℕ). length (collected_of d1 q)) (pages i) ∙ (ap length (pieces_else (slot_at d i).page (page_apart i lt ne h)) ∙ k.taken_words i lt h)) t small;
      taken_short = λ t small. cases (λ i y. i < 4 → taken y < w) (λ _. o.short) (λ i ne lt. k.taken_short i lt) t small;
      fits = k.fits;
    }

    lives : (t : ℕ) → IsLive (slot_at d t).phase → IsLive (slot_at d' t).phase
    lives = cases (λ t y. IsLive (slot_at d t).phase → IsLive y) (λ h. absurd (subst IsLive is_quiet h)) (λ t ne h. h)

    was_open : (t : ℕ) → (slot_at d' t).phase ≡ Open → (slot_at d t).phase ≡ Open
    was_open = cases (λ t y. y ≡ Open → (slot_at d t).phase ≡ Open) (λ e. absurd (o.shut e)) (λ t ne h. h)

    as_sealed : (t : ℕ) → seal_bit (slot_at d' t).phase ≡ seal_bit (slot_at d t).phase
    as_sealed = cases (λ t y. seal_bit y ≡ seal_bit (slot_at d t).phase) (o.gate ∙ sym (ap seal_bit is_quiet)) (λ t ne. refl)

    state' : (floor : ℕ) (st : PassState) → StateFits shape d floor st → StateFits shape d' floor st
    state' floor Idle k = tt
    state' floor (Looked t) k = (k.0, uses t ∙ k.1, (let a = k.2 in let b = pages t in omega arith))
    state' floor (Inside t page sig m) k = (k.0, uses t ∙ k.1, (let a = k.2 in let b = pages t in omega arith), k.3 ∙ sym (pages t), lives t k.4, k.5)
    state' floor (Visiting t gate) k = (k.0, uses t ∙ k.1, (let a = k.2 in let b = pages t in omega arith))

    actor' : (u : View) → ActorFits shape d u → ActorFits shape d' u
    actor' u k = record {
      state = state' u.floor u.state k.state;
      entries = k.entries;
      ordered = k.ordered;
      last = k.last;
      visits = λ i y here. let z = k.visits i y here in record { sealed_gate = z.sealed_gate; below = z.below; from_floor = z.from_floor; not_open = λ t small q e. z.not_open t small (was_open t q) (sym (pages t) ∙ e) };
      floor = let a = k.floor in let b = pages d.pointed in omega arith;
      number = k.number;
      base = k.base;
      gone = k.gone;
    }

    -- page_bit looks at the slot's page alone
    re_page : (t p : ℕ) → page_bit shape words' d' t p ≡ page_bit shape words' d1 t p
    re_page t p = ap (λ (i : ℕ). cond (nat_lt (p / 64) (length (collected_of d1 i))) (bit_in (collected_of d1 i) p) (live_bit shape words' t p)) (pages t)

    bit_of : (t p : ℕ) → t < 4 → HasPage (slot_at d t).phase → p < size shape → page_bit shape words' d' t p ≡ page_bit shape words d t p
    bit_of t p small h lt = re_page t p ∙ dite (ℕ_discrete t s) (λ e. subst (λ (i : ℕ). page_bit shape words' d1 i p ≡ page_bit shape words d i p) (sym e) (bit_kept p lt)) (λ ne. bit_else t p small ne h lt)

    -- the last word was taken: the collected words are the page
    whole_bit : j + 1 ≡ w → (p : ℕ) → p < size shape → bit_in (collected_of d1 g) p ≡ page_bit shape words d s p
    whole_bit end p lt = sym (ap (λ (b : Bool). cond b (bit_in (collected_of d1 g) p) (live_bit shape words' s p)) (lt-ltb (p / 64) (length (collected_of d1 g)) (let k = one_more_piece in omega arith))) ∙ bit_kept p lt

    pub drains_to : PlaneInvariant shape words' (set views id (with_duties v d'))
    drains_to = duty_kept shape words words' views id v d' there role f record {
      long = length-set words at 0 ∙ f.long;
      current_slot = early 0 (omega arith) ∙ f.current_slot;
      gates = λ t small. let a = pages t in let b = as_sealed t in early (gate_place t) (omega arith) ∙ (f.gates t small ∙ (λ k. total (in_slot t) views + sym b k * 65536 + sym a k * 4294967296));
      slots = slots';
      actors = λ i u here. actor' u (f.actors i u here);
      slot_words = λ t small h p lt. let same = bit_of t p small (stood t h) lt in let old = f.slot_words t small (stood t h) p lt in subst (λ (i : ℕ). (page_bit shape words' d' t p ≡ 1) ↔ Marked shape views i t p) (sym (pages t)) ((λ b. old.0 (sym same ∙ b)), (λ y. same ∙ old.1 y));
      collected_words = λ page below whole p lt. dite (ℕ_discrete page g)
          (λ e. let end : j + 1 ≡ w = sym one_more_piece ∙ (ap (λ (i : ℕ). length (collected_of d1 i)) (sym e) ∙ whole) in let bit = whole_bit end p lt in let old = f.slot_words s near stood_s p lt in let m = marked_recorded p in
          subst (λ (i : ℕ). (bit_in (collected_of d1 i) p ≡ 1) ↔ Recorded shape views i p) (sym e) ((λ b. m.0 (old.0 (sym bit ∙ b))), (λ y. bit ∙ old.1 (m.1 y))))
          (λ ne. let e = pieces_else page ne in let old = f.collected_words page below (ap length (sym e) ∙ whole) p lt in ((λ b. old.0 (ap (λ (l : List ℕ). bit_in l p) (sym e) ∙ b)), (λ y. ap (λ (l : List ℕ). bit_in l p) e ∙ old.1 y)));
      drained_words = λ t small i. cases (λ q y. q < 4 → i < taken y → get_or words' (bit_place shape q i) 0 ≡ 0)
          (λ _ lt. dite (ℕ_discrete i j) (λ e. ap (λ (q : ℕ). get_or words' (bit_place shape s q) 0) e ∙ cleared)
          (λ ne. let a = o.at_most in let b = o.short in let c : taken (slot_at d s).phase ≡ j = ap taken is_quiet in still s i (omega arith) (inr ne) ∙ f.drained_words s near i (omega arith)))
          (λ q ne lt k. let a = f.slots.taken_short q lt in still q i (omega arith) (inl ne) ∙ f.drained_words q lt i k) t small;
      free_words = λ t small. cases (λ q y. q < 4 → y ≡ Free → (i : ℕ) → i < w → get_or words' (bit_place shape q i) 0 ≡ 0)
          (λ _ free i lt. dite (ℕ_discrete i j) (λ e. ap (λ (q : ℕ). get_or words' (bit_place shape s q) 0) e ∙ cleared)
          (λ ne. let end = o.ends free in let c : taken (slot_at d s).phase ≡ j = ap taken is_quiet in still s i lt (inr ne) ∙ f.drained_words s near i (omega arith)))
          (λ q ne lt free i k. still q i k (inl ne) ∙ f.free_words q lt free i k) t small;
      probes = λ i y here. let k = f.probes i y here in record {
        page_below = k.page_below;
        at_below = k.at_below;
        known = k.known;
        unseen = k.unseen;
        seen = λ one. ⊎_elim
            (λ (whole, b). let e = pieces_else y.page (λ q. not_both shape d s y.page f.slots near stood_s (sym q) whole) in inl (ap length e ∙ whole, ap (λ (l : List ℕ). bit_in l y.at) e ∙ b))
            (λ (t, small, h, e, b). dite (ℕ_discrete t s)
            (λ q. let page_g : g ≡ y.page = ap (λ (n : ℕ). (slot_at d n).page) (sym q) ∙ e in let b' : page_bit shape words d s y.at ≡ 1 = subst (λ (n : ℕ). page_bit shape words d n y.at ≡ 1) q b in ⊎_elim
            (λ stands. inr (s, near, cases (λ n z. n ≡ s → HasPage z) (λ _. stands) (λ n ne q'. absurd (ne q')) s refl, pages s ∙ page_g, bit_of s y.at near stood_s k.at_below ∙ b'))
            (λ end. inl (subst (λ (n : ℕ). IsCollected shape d' n × (bit_in (collected_of d1 n) y.at ≡ 1)) page_g (one_more_piece ∙ end, whole_bit end y.at k.at_below ∙ b'))) o.more)
            (λ ne. inr (t, small, cases (λ n z. n ≢ s → HasPage (slot_at d n).phase → HasPage z) (λ n. absurd (n refl)) (λ n ne' _ h'. h') t ne h, pages t ∙ e, bit_of t y.at small h k.at_below ∙ b)))
            (k.seen one);
      };
      noted = f.noted;
      out = refl;
    }

  pub drains : PlaneInvariant shape words' (set views id (after_drain shape v s x))
  drains = drains_to (cond (eqb (j + 1) w) Free (Quiet (j + 1))) (onward j w j_short)

-- the same, whoever does it
pub drain_keeps : (s : ℕ) → KeepsPlane (Drain s)
drain_keeps s shape words views r id v there alive can = drains shape words views id v there can.0 (keeper_fits shape words views r id v there can.0) s can.1 can.2

-- ---- the act of the machine, from what it wrote

get_or-words_in : (xs : List (Vec ℕ Global)) (i : ℕ) (v : Vec ℕ Global) → slice_get xs i ≡ Some v → get_or (map (λ (w : Vec ℕ Global). w.items) xs) i [] ≡ v.items
get_or-words_in [] i v e = absurd (omega (arith, slice_get_within [] i v e))
get_or-words_in (x ∷ xs) zero v e = ap (λ (w : Vec ℕ Global). w.items) (get_or_from_slice_get (x ∷ xs) zero v v e)
get_or-words_in (x ∷ xs) (suc i) v e = get_or-words_in xs i v e

-- ---- what the words of a quiet slot are

pub narrow : (shape : PageShape) → IsShape shape → width shape ≤ most_words
narrow shape r = let a = r.n_most in let e : shape.n - N_LEAST ≤ N_MOST - N_LEAST = omega arith in pow_mono e

module _ (m : CoreData) (h : Holds m) (s next : ℕ) (near : s < 4) (quiet : (slot_in m.desk s).phase ≡ Quiet next) where
  abbrev page : ℕ
  page = (slot_in m.desk s).page

  pub next_within : next < width m.shape
  next_within = let a = (desk_fits m h).slots.taken_short s near in let b : taken (slot_in m.desk s).phase ≡ next = ap taken quiet in omega arith

  pub next_fits : next + 1 < 4294967296
  next_fits = let a = next_within in let b = narrow m.shape (desk_fits m h).in_range in omega arith

  pub word_within : bit_place m.shape s next < length m.words.items
  word_within = let a = next_within in let b = (desk_fits m h).long in let e : s ≤ 3 = omega arith in let q = mul-le-mul_left (width m.shape) e in omega arith

  stands : HasPage (slot_in m.desk s).phase
  stands = subst HasPage (sym quiet) tt

  pub page_within : page < length m.desk.collected.items
  page_within = let f = (desk_fits m h).slots in let a = f.used_below s near (f.stands_used s near stands) in let b = f.one_list in let c = length-map m.desk.collected.items (λ (v : Vec ℕ Global). v.items) in omega arith

  -- so many words of the page are collected
  words_taken : (v : Vec ℕ Global) → slice_get m.desk.collected.items page ≡ Some v → vec_len v ≡ next
  words_taken v e = v.ok.0 ∙ (ap length (sym (get_or-words_in m.desk.collected.items page v e)) ∙ ((desk_fits m h).slots.taken_words s near stands ∙ ap taken quiet))

  pub page_has_room : (v : Vec ℕ Global) → slice_get m.desk.collected.items page ≡ Some v → vec_len v < vec_capacity v
  page_has_room v e = let a = words_taken v e in let b = next_within in let k = h.desk.page_words page v (slice_get_there m.desk.collected.items page v e) (omega arith) in omega arith

-- ---- the desk afterwards

abbrev with_lists : Desk → Lists → Desk
with_lists desk lists = record desk { collected = lists }

lists_longer : (lists lists' : Lists) (page word : ℕ) → AddsWord lists lists' page word → words_in lists' ≡ set (words_in lists) page (get_or (words_in lists) page [] ++ word ∷ [])
lists_longer lists lists' page word a =
    let items = λ (v : Vec ℕ Global). v.items in
    ap (map items) a.becomes ∙ (map-set items lists.items page a.after
    ∙ ap (λ (l : List ℕ). set (words_in lists) page l) (a.words ∙ ap (λ (l : List ℕ). l ++ word ∷ []) (sym (get_or-words_in lists.items page a.before a.was))))

-- a page that is not full has its memory still
pages_longer : (wide : ℕ) (lists lists' : Lists) (page word : ℕ) → AddsWord lists lists' page word
    → ((i : ℕ) (v : Vec ℕ Global) → get_elem? lists.items i ≡ some v → vec_len v < wide → wide ≤ vec_capacity v)
    → (i : ℕ) (v : Vec ℕ Global) → get_elem? lists'.items i ≡ some v → vec_len v < wide → wide ≤ vec_capacity v
pages_longer wide lists lists' page word a old i v at short = ⊎_elim
    (λ t. let same : a.after ≡ v = t.1 in
    let k : vec_len a.before < wide = let e = ap length a.words in let l = length-append a.before.items (word ∷ []) in let q : vec_len a.after ≡ vec_len v = ap (λ (w : Vec ℕ Global). vec_len w) same in omega (arith, a.before.ok.0, a.after.ok.0) in
    let b = old page a.before (slice_get_there lists.items page a.before a.was) k in
    let q : vec_capacity a.after ≡ vec_capacity v = ap (λ (w : Vec ℕ Global). vec_capacity w) same in let r = a.word_room in omega arith)
    (λ t. old i v t.1 short)
    (at_set lists.items page i a.after v (subst (λ (l : List (Vec ℕ Global)). get_elem? l i ≡ some v) a.becomes at))

room_longer : (wide : ℕ) (desk : Desk) (lists' : Lists) (room page word : ℕ) → HasDeskRoom wide desk room → AddsWord desk.collected lists' page word → HasDeskRoom wide (with_lists desk lists') room
room_longer wide desk lists' room page word h a = record {
  probes = h.probes;
  pages = let k = h.pages in let e = ap length a.becomes in let l = length-set desk.collected.items page a.after in let r = a.list_room in omega (arith, desk.collected.ok.0, lists'.ok.0);
  spare = h.spare;
  spare_words = h.spare_words;
  page_words = pages_longer wide desk.collected lists' page word a h.page_words;
}

paid_after : (next wide : ℕ) → paid wide (after_word next wide) ≤ next + 1
paid_after next wide = tested (λ (ph : SlotPhase). paid wide ph ≤ next + 1) (next + 1) wide Free (Quiet (next + 1)) (λ e. omega arith) (λ ne. omega arith)

module _ (m m' : CoreData) (h : Holds m) (some_room : 1 ≤ m.room) (s : ℕ) (near : s < 4) (reply : StepAnswer) where
  abbrev k : ℕ
  k = next_word (slot_in m.desk s).phase

  abbrev ph : SlotPhase
  ph = after_word k (width m.shape)

  abbrev page_of_slot : ℕ
  page_of_slot = (slot_in m.desk s).page

  abbrev p : ℕ
  p = length m.seats.items - 1

  abbrev v : View
  v = view_of (notes_of m) 0 (first_of m h).seat.state

  abbrev to : ℕ → Desk
  to next = with_lists (phased m.desk s (after_word next (width m.shape))) m'.desk.collected

  slot_within : s < length m.desk.slots
  slot_within = let a = four_slots m h in omega arith

  drained_at : (slot_in m.desk s).phase ≡ Quiet k → DeskBecomes m m' (to k) → m'.words.items ≡ set m.words.items (bit_place m.shape s k) 0 → AddsWord m.desk.collected m'.desk.collected page_of_slot (get_or m.words.items (bit_place m.shape s k) 0)
      → reply ≡ (if k + 1 == width m.shape then answer.Collected (numbered page_of_slot) else answer.Drained) → DoesAct m m' 0 (Drain s) reply
  drained_at quiet others words added answers =
      let e = sym (desk_is m m' (to k) others) in
      let pays : paid (width m.shape) ph ≤ paid (width m.shape) (slot_in m.desk s).phase + 1 = let a = paid_after k (width m.shape) in let b : paid (width m.shape) (slot_in m.desk s).phase ≡ k = ap (paid (width m.shape)) quiet in omega arith in
      desk_act m m' (first_of m h).seat (Drain s) (first_of m h).there (drain_keeps s) reply h (refl, near, subst IsQuiet (sym quiet) tt) (record {
        words = words;
        others = desk_framed m m' (to k) others;
        duties = ap (λ (d : Desk). with_duties v (duties_of d p)) (sym e)
            ∙ ap (λ (l : List (List ℕ)). with_duties v (in_phase (record (duties_of m.desk p) { collected = l }) s ph)) (lists_longer m.desk.collected m'.desk.collected page_of_slot (get_or m.words.items (bit_place m.shape s k) 0) added);
        none = refl;
        room = subst (λ (d : Desk). HasDeskRoom (width m.shape) d (m.room - 1)) e
            (room_longer (width m.shape) (phased m.desk s ph) m'.desk.collected (m.room - 1) page_of_slot (get_or m.words.items (bit_place m.shape s k) 0) (room_phased (width m.shape) m.desk m.room s ph h.desk slot_within some_room pays) added);
        families = subst (HasFamilies m.shape) e (families_phased m.shape m.desk s ph h.families slot_within);
      }) answers

  pub drain_done : (next : ℕ) → (slot_in m.desk s).phase ≡ Quiet next → DeskBecomes m m' (with_lists (phased m.desk s (after_word next (width m.shape))) m'.desk.collected) → m'.words.items ≡ set m.words.items (bit_place m.shape s next) 0
      → AddsWord m.desk.collected m'.desk.collected (slot_in m.desk s).page (get_or m.words.items (bit_place m.shape s next) 0)
      → reply ≡ (if next + 1 == width m.shape then answer.Collected (numbered (slot_in m.desk s).page) else answer.Drained) → DoesAct m m' 0 (Drain s) reply
  drain_done next quiet =
      let P : ℕ → Type 0 = λ j. (slot_in m.desk s).phase ≡ Quiet j → DeskBecomes m m' (to j) → m'.words.items ≡ set m.words.items (bit_place m.shape s j) 0 → AddsWord m.desk.collected m'.desk.collected page_of_slot (get_or m.words.items (bit_place m.shape s j) 0)
      → reply ≡ (if j + 1 == width m.shape then answer.Collected (numbered page_of_slot) else answer.Drained) → DoesAct m m' 0 (Drain s) reply in
      let e : k ≡ next = ap next_word quiet in
      subst P e drained_at quiet

not_quiet : (ph : SlotPhase) → ((next : ℕ) → ¬ (ph ≡ Quiet next)) → ¬ IsQuiet ph
not_quiet Free other h = h
not_quiet Open other h = h
not_quiet Sealed other h = h
not_quiet (Quiet next) other h = other next refl

pub drain_declined : (m m' : CoreData) (h : Holds m) (s : ℕ) (reply : StepAnswer) → ((next : ℕ) → ¬ ((slot_in m.desk s).phase ≡ Quiet next)) → m' ≡ record m { room = m.room - 1 }
    → reply ≡ answer.NotEnabled (actor_state.Keeper (map (λ (x : Slot). x.phase) m.desk.slots)) → DoesAct m m' 0 (Drain s) reply
drain_declined m m' h s reply other is answers = does_nothing m m' 0 (first_of m h).seat (Drain s) (first_of m h).there reply h (λ can. not_quiet (slot_in m.desk s).phase other can.2) is answers

-- ---- a slot that is drained word by word, as one equation

module _ (shape : PageShape) (v : View) (s : ℕ) (within : s < length v.duties.slots) (paged : (slot_at v.duties s).page < length v.duties.collected) where
  abbrev start : Duties
  start = v.duties

  abbrev start_page : ℕ
  start_page = (slot_at start s).page

  -- the next word after j words, from a slot that is Quiet with j taken
  pub quiet_more : (j n : ℕ) (ws : List ℕ) → view_after shape (Drain s) (drained_to v s (Quiet j) ws) n ≡ drained_to v s (phase_taken shape (j + 1)) (ws ++ n ∷ [])
  quiet_more j n ws =
      let x : Slot = phased_slot start s (Quiet j) in
      let xs : List Slot = set start.slots s x in
      let cs : List (List ℕ) = set start.collected start_page ws in
      let F : Slot → List ℕ → View = λ y got. record v { duties = record start { slots = set xs s (record { phase = phase_taken shape (next_word y.phase + 1); page = y.page; used = y.used }); collected = set cs y.page (got ++ n ∷ []) } } in
      let here : slot_at (drained_to v s (Quiet j) ws).duties s ≡ x = get_or-set_same start.slots s x no_slot within in
      let got : collected_of (drained_to v s (Quiet j) ws).duties start_page ≡ ws = get_or-set_same start.collected start_page ws [] paged in
      let begun : view_after shape (Drain s) (drained_to v s (Quiet j) ws) n ≡ F x ws = ap (λ (y : Slot). F y (get_or cs y.page [])) here ∙ ap (F x) got in
      begun ∙ ap₂ (λ (ys : List Slot) (ks : List (List ℕ)). record v { duties = record start { slots = ys; collected = ks } }) (set-set start.slots s x (phased_slot start s (phase_taken shape (j + 1)))) (set-set start.collected start_page ws (ws ++ n ∷ []))

  pub taken_quiet : (j : ℕ) → j < width shape → phase_taken shape j ≡ Quiet j
  taken_quiet j lt = ap (λ b. cond b Free (Quiet j)) (ne_eqb j (width shape) (λ e. absurd (omega arith)))

  -- the same with j words taken, whatever the phase is then
  pub word_more : (u w : View) (j n : ℕ) (ws : List ℕ) → j < width shape → u ≡ drained_to v s (phase_taken shape j) ws → w ≡ view_after shape (Drain s) u n → w ≡ drained_to v s (phase_taken shape (j + 1)) (ws ++ n ∷ [])
  word_more u w j n ws lt was now = now ∙ ap (λ (y : View). view_after shape (Drain s) y n) (was ∙ ap (λ (ph : SlotPhase). drained_to v s ph ws) (taken_quiet j lt)) ∙ quiet_more j n ws

  -- the slot as it is being drained
  pub slot_drained : (u : View) (j : ℕ) (ws : List ℕ) → j < width shape → u ≡ drained_to v s (phase_taken shape j) ws → (slot_at u.duties s).phase ≡ Quiet j
  slot_drained u j ws lt was = ap (λ (y : View). (slot_at y.duties s).phase) was ∙ (ap (λ (y : Slot). y.phase) (get_or-set_same start.slots s (phased_slot start s (phase_taken shape j)) no_slot within) ∙ taken_quiet j lt)

  -- at the start no word is taken
  pub none_taken : 0 < width shape → (slot_at start s).phase ≡ Quiet 0 → collected_of start start_page ≡ [] → v ≡ drained_to v s (phase_taken shape 0) []
  none_taken wide quiet none =
      let x : phased_slot start s (phase_taken shape 0) ≡ slot_at start s = ap (phased_slot start s) (taken_quiet 0 wide ∙ sym quiet) in
      ap₂ (λ (ys : List Slot) (ks : List (List ℕ)). record v { duties = record start { slots = ys; collected = ks } })
      (sym (set-get_or start.slots s no_slot) ∙ ap (set start.slots s) (sym x))
      (sym (set-get_or start.collected start_page []) ∙ ap (set start.collected start_page) none)

-- after the last word the slot is free
pub all_taken : (shape : PageShape) (n : ℕ) → n ≡ width shape → phase_taken shape n ≡ Free
all_taken shape n e = ap (λ b. cond b Free (Quiet n)) (eq-eqb n (width shape) e)
