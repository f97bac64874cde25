-- `open`: the next page, in a slot that is free.
use Rattle.std.proofs.Common.{◌≡◌, ℕ, suc, zero, ◌+◌, ◌-◌, ◌*◌, ◌/◌, ◌%◌, ◌^◌, ◌<◌, ◌≤◌, ◌≢◌, ◌↔◌, true, cond, nat_lt, List, [], ◌∷◌, ◌++◌, length, get_or, set, sym, refl, ap, ◌∙◌, subst, inl, inr, ⊎_elim, arith, le_refl, length-set, length-append, get_or-set_same, get_or-set_other, map}
use Rattle.std.proofs.lemmas.Nat.Bits.{bit_at-zero}
use Rattle.std.proofs.Math.Pow.{pow_pos}
use mathlib.Core.Option.{some}
use mathlib.Core.Logic.{dite}
use native.Mathlib.Decide.{ℕ_discrete}
use lib.ListN.{get_elem?}
use Rattle.spie_base.specs.declared.PageShape.{PageShape}
use Rattle.gate_core.specs.declared.states.PassState.{PassState}
use Rattle.gate_core.specs.declared.states.PassState.TheVariants.{Idle, Looked, Inside, Visiting}
use Rattle.gate_core.specs.declared.states.SlotPhase.TheVariants.{Free, Open}
use Rattle.bloom_page.specs.Bits.{bit_in}
use Rattle.gate_core.specs.Marks.{width, size}
use Rattle.gate_core.specs.Views.{Keeper, Slot, Duties, View, slot_at, collected_of}
use Rattle.gate_core.specs.Acts.{page_of, gate_place, bit_place, with_slot, open_slot, after_open, numbered, with_duties, open_among}
use Rattle.gate_core.specs.Invariant.{total, in_slot, seal_bit, HasPage, IsLive, taken, page_bit, HasSet, Marked, StateFits, SlotsFit, ActorFits, PlaneFits, PlaneInvariant}
use Rattle.std.specs.Prelude.{vec_len, vec_capacity, slice_get, Some, Vec}
use Rattle.std.specs.declared.alloc.Global.{Global}
use Rattle.std.proofs.lemmas.List.{map-append}
use Rattle.std.proofs.lemmas.Option.{slice_get_within}
use Rattle.hash_family.specs.Positions.{Drawn, family_of}
use Rattle.gate_core.specs.declared.steps.Act.TheVariants as act
use Rattle.gate_core.specs.declared.steps.StepAnswer.{StepAnswer}
use Rattle.gate_core.specs.declared.steps.StepAnswer.TheVariants as answer
use Rattle.gate_core.specs.declared.states.ActorState.TheVariants as actor_state
use Rattle.gate_core.specs.declared.core_data.CoreData.{CoreData}
use Rattle.gate_core.specs.declared.core_data.Desk.{Desk}
use Rattle.gate_core.specs.Kept.{notes_of, duties_of, view_of, paid, HasDeskRoom, Holds, DoesAct}
use Rattle.gate_core.specs.Desks.{slot_in, AddsList, OpensPage}
use Rattle.gate_core.proofs.Bits.{page_bit_none}
use Rattle.gate_core.proofs.Slots.{slot_here, slot_else, slot_case, none_open}
use Rattle.gate_core.proofs.Duty.{duty_kept, keeper_fits}
use Rattle.gate_core.proofs.Inside.{crowd}
use Rattle.gate_core.proofs.Lists.{at_longer, at_last, at_snoc}
use Rattle.gate_core.proofs.MachineSteps.{does_nothing, KeepsPlane}
use Rattle.gate_core.proofs.KeeperSteps.{first_of, four_slots, DeskBecomes, desk_act}
use Rattle.gate_core.proofs.SlotRoom.{HasFamilies, paid_by-set}
use Rattle.gate_core.proofs.CollectedLists.{Lists, words_in, slice_get-set_same, slice_get-set_other}

-- ---- the act keeps the plane invariant

-- a list with its default added reads the same
get_default : {A : Type 0} → (xs : List A) (e : A) (i : ℕ) → get_or (xs ++ e ∷ []) i e ≡ get_or xs i e
get_default [] e zero = refl
get_default [] e (suc i) = refl
get_default (x ∷ xs) e zero = refl
get_default (x ∷ xs) e (suc i) = get_default xs e i

past : {A : Type 0} → (xs : List A) (e : A) (i : ℕ) → length xs ≤ i → get_or xs i e ≡ e
past [] e i h = refl
past (x ∷ xs) e zero h = absurd (omega arith)
past (x ∷ xs) e (suc i) h = past xs e i (omega arith)

-- the gate of a slot that is opened again keeps those inside
reopened : (inside page next n : ℕ) → inside ≤ 17 → page ≤ next → next < 4294967295 → n ≡ inside + 1 * 65536 + page * 4294967296
    → (n + (next * 4294967296 + 2 ^ 64 - page * 4294967296 - 65536) % 2 ^ 64) % 2 ^ 64 ≡ inside + 0 * 65536 + next * 4294967296
reopened inside page next n a b c e = omega arith

module _ (shape : PageShape) (words : List ℕ) (views : List View) (id : ℕ) (v : View) (there : get_elem? views id ≡ some v) (role : v.role ≡ Keeper) (f : PlaneFits shape words views v.duties v.entries) (s : ℕ) (near : s < 4)
    (free : (slot_at v.duties s).phase ≡ Free) (none : open_slot v.duties ≡ 4) (room : v.duties.next < 4294967295) where
  abbrev d : Duties
  d = v.duties

  abbrev n : ℕ
  n = get_or words (gate_place s) 0

  abbrev n' : ℕ
  n' = (n + (d.next * 4294967296 + 2 ^ 64 - (slot_at d s).page * 4294967296 - 65536) % 2 ^ 64) % 2 ^ 64

  abbrev words' : List ℕ
  words' = set words (gate_place s) n'

  abbrev new : Slot
  new = record { phase = Open; page = d.next; used = true }

  abbrev d1 : Duties
  d1 = record d { next = d.next + 1; collected = d.collected ++ [] ∷ [] }

  abbrev d' : Duties
  d' = with_slot d1 s new

  within : s < length d.slots
  within = let a = f.slots.four in omega arith

  abbrev cases : (P : ℕ → Slot → Type 0) → P s new → ((t : ℕ) → t ≢ s → P t (slot_at d t)) → (t : ℕ) → P t (slot_at d' t)
  cases P = slot_case d1 s new within P

  here : slot_at d' s ≡ new
  here = slot_here d1 s new within

  other : (t : ℕ) → t ≢ s → slot_at d' t ≡ slot_at d t
  other = slot_else d1 s new within

  not_open : (t : ℕ) → t < 4 → ¬ ((slot_at d t).phase ≡ Open)
  not_open = none_open d f.slots.four none

  same_pieces : (page : ℕ) → collected_of d' page ≡ collected_of d page
  same_pieces page = get_default d.collected [] page

  no_pieces : length (collected_of d d.next) ≡ 0
  no_pieces = ap length (past d.collected [] d.next (let a = f.slots.one_list in omega arith))

  uses : (t : ℕ) → (slot_at d t).used ≡ true → (slot_at d' t).used ≡ true
  uses = cases (λ t y. (slot_at d t).used ≡ true → y.used ≡ true) (λ _. refl) (λ t ne h. h)

  grows : (t : ℕ) → (slot_at d t).page ≤ (slot_at d' t).page
  grows = cases (λ t y. (slot_at d t).page ≤ y.page) (f.slots.page_within s near) (λ t ne. le_refl (slot_at d t).page)

  used_before : (t : ℕ) → t < 4 → t ≢ s → (slot_at d' t).used ≡ true → (slot_at d' t).page < d.next
  used_before t small ne h = let e = other t ne in let a = f.slots.used_below t small (ap (λ (y : Slot). y.used) (sym e) ∙ h) in let b : (slot_at d' t).page ≡ (slot_at d t).page = ap (λ (y : Slot). y.page) e in omega arith

  page_here : (slot_at d' s).page ≡ d.next
  page_here = ap (λ (y : Slot). y.page) here

  apart' : (t i : ℕ) → t < 4 → i < 4 → (slot_at d' t).used ≡ true → (slot_at d' i).used ≡ true → (slot_at d' t).page ≡ (slot_at d' i).page → t ≡ i
  apart' t i a b h k e = dite (ℕ_discrete t s)
      (λ p. dite (ℕ_discrete i s) (λ q. p ∙ sym q) (λ q. let c = used_before i b q k in let z : (slot_at d' t).page ≡ d.next = ap (λ (y : ℕ). (slot_at d' y).page) p ∙ page_here in absurd (omega arith)))
      (λ p. dite (ℕ_discrete i s) (λ q. let c = used_before t a p h in let z : (slot_at d' i).page ≡ d.next = ap (λ (y : ℕ). (slot_at d' y).page) q ∙ page_here in absurd (omega arith))
      (λ q. f.slots.used_apart t i a b (ap (λ (y : Slot). y.used) (sym (other t p)) ∙ h) (ap (λ (y : Slot). y.used) (sym (other i q)) ∙ k) (ap (λ (y : Slot). y.page) (sym (other t p)) ∙ (e ∙ ap (λ (y : Slot). y.page) (other i q)))))

  stands_not_s : (t : ℕ) → HasPage (slot_at d t).phase → t ≢ s
  stands_not_s t h e = let k : HasPage (slot_at d s).phase = subst (λ (i : ℕ). HasPage (slot_at d i).phase) e h in subst HasPage free k

  live_not_s : (t : ℕ) → IsLive (slot_at d t).phase → t ≢ s
  live_not_s t h e = let k : IsLive (slot_at d s).phase = subst (λ (i : ℕ). IsLive (slot_at d i).phase) e h in subst IsLive free k

  slots' : SlotsFit shape d'
  slots' = let k = f.slots in record {
    four = length-set d.slots s new ∙ k.four;
    pointed_slot = k.pointed_slot;
    pointed_used = uses d.pointed k.pointed_used;
    open_last = λ t small. cases (λ i y. i < 4 → y.phase ≡ Open → y.page + 1 ≡ d.next + 1) (λ _ _. refl) (λ i ne lt e. absurd (not_open i lt e)) t small;
    stands_used = λ t small. cases (λ i y. i < 4 → HasPage y.phase → y.used ≡ true) (λ _ _. refl) (λ i ne lt h. k.stands_used i lt h) t small;
    used_below = λ t small. cases (λ i y. i < 4 → y.used ≡ true → y.page < d.next + 1) (λ _ _. omega arith) (λ i ne lt h. let a = k.used_below i lt h in omega arith) t small;
    used_apart = apart';
    page_within = λ t small. cases (λ i y. i < 4 → y.page ≤ d.next + 1) (λ _. omega arith) (λ i ne lt. let a = k.page_within i lt in omega arith) t small;
    placed = λ page below. dite (ℕ_discrete page d.next)
        (λ e. inr (s, near, subst (λ (y : Slot). HasPage y.phase) (sym here) tt, page_here ∙ sym e))
        (λ ne. ⊎_elim (λ whole. inl (ap length (same_pieces page) ∙ whole)) (λ (t, small, h, e). let q = other t (stands_not_s t h) in inr (t, small, subst (λ (y : Slot). HasPage y.phase) (sym q) h, ap (λ (y : Slot). y.page) q ∙ e)) (k.placed page (omega arith)));
    one_list = let a = k.one_list in let b = length-append d.collected ([] ∷ []) in omega arith;
    taken_words = λ t small. cases (λ i y. i < 4 → HasPage y.phase → length (collected_of d' y.page) ≡ taken y.phase) (λ _ _. ap length (same_pieces d.next) ∙ no_pieces) (λ i ne lt h. ap length (same_pieces (slot_at d i).page) ∙ k.taken_words i lt h) t small;
    taken_short = λ t small. cases (λ i y. i < 4 → taken y.phase < width shape) (λ _. pow_pos (shape.n - 6)) (λ i ne lt. k.taken_short i lt) t small;
    fits = omega arith;
  }

  state' : (floor : ℕ) (st : PassState) → StateFits shape d floor st → StateFits shape d' floor st
  state' floor Idle k = tt
  state' floor (Looked t) k = (k.0, uses t k.1, (let a = k.2 in let b = grows t in omega arith))
  state' floor (Inside t page sig m) k = let e = other t (live_not_s t k.4) in (k.0, uses t k.1, (let a = k.2 in let b = grows t in omega arith), k.3 ∙ ap (λ (y : Slot). y.page) (sym e), subst (λ (y : Slot). IsLive y.phase) (sym e) k.4, k.5)
  state' floor (Visiting t gate) k = (k.0, uses t k.1, (let a = k.2 in let b = grows t in omega arith))

  actor' : (u : View) → ActorFits shape d u → ActorFits shape d' u
  actor' u k = record {
    state = state' u.floor u.state k.state;
    entries = λ i e at. let a = k.entries i e at in let b = a.0 in ((omega arith), a.1);
    ordered = k.ordered;
    last = k.last;
    visits = λ i x at. let z = k.visits i x at in record {
      sealed_gate = z.sealed_gate;
      below = let a = z.below in omega arith;
      from_floor = z.from_floor;
      not_open = λ t small. cases (λ q y. q < 4 → y.phase ≡ Open → ¬ (y.page ≡ page_of x.gate)) (λ _ _ e. let a = z.below in omega arith) (λ q ne lt o. absurd (not_open q lt o)) t small;
    };
    floor = let a = k.floor in let b = grows d.pointed in omega arith;
    number = k.number;
    base = k.base;
    gone = k.gone;
  }

  still : (i : ℕ) → i ≢ gate_place s → get_or words' i 0 ≡ get_or words i 0
  still i ne = get_or-set_other words (gate_place s) i n' 0 ne

  bit_else : (t p : ℕ) → t ≢ s → page_bit shape words' d' t p ≡ page_bit shape words d t p
  bit_else t p ne = let e = ap (λ (y : Slot). y.page) (other t ne) in let q : collected_of d' (slot_at d' t).page ≡ collected_of d (slot_at d t).page = same_pieces (slot_at d' t).page ∙ ap (collected_of d) e in let b = still (bit_place shape t (p / 64)) (λ z. omega arith) in
      λ k. cond (nat_lt (p / 64) (length (q k))) (bit_in (q k) p) (b k / 2 ^ (p % 64) % 2)

  -- the new page begins with no mark
  bit_here : (p : ℕ) → p < size shape → page_bit shape words' d' s p ≡ 0
  bit_here p lt = let e : length (collected_of d' (slot_at d' s).page) ≡ 0 = ap (λ (g : ℕ). length (collected_of d' g)) page_here ∙ (ap length (same_pieces d.next) ∙ no_pieces) in
      page_bit_none shape words' d' s p e ∙ (ap (λ (y : ℕ). y / 2 ^ (p % 64) % 2) (still (bit_place shape s (p / 64)) (λ z. omega arith) ∙ f.free_words s near free (p / 64) (omega arith)) ∙ bit_at-zero (p % 64))

  none_set : (st : PassState) (floor p : ℕ) → StateFits shape d floor st → HasSet shape st s p → ⊥
  none_set Idle floor p k h = h
  none_set (Looked t) floor p k h = h
  none_set (Inside t page sig m) floor p k h = live_not_s t k.4 h.0
  none_set (Visiting t gate) floor p k h = h

  none_marked : (p : ℕ) → Marked shape views d.next s p → ⊥
  none_marked p (j, u, at, y) = ⊎_elim (λ (i, e, at', of, among). let a = ((f.actors j u at).entries i e at').0 in omega arith) (λ h. none_set u.state u.floor p (f.actors j u at).state h) y

  gates' : (t : ℕ) → t < 4 → get_or words' (gate_place t) 0 ≡ total (in_slot t) views + seal_bit (slot_at d' t).phase * 65536 + (slot_at d' t).page * 4294967296
  gates' t small = dite (ℕ_discrete t s)
      (λ e. let g = f.gates s near in let shut : seal_bit (slot_at d s).phase ≡ 1 = ap seal_bit free in let c = crowd shape words views d v.entries f s in let p : ℕ = (slot_at d s).page in
      let made = reopened (total (in_slot s) views) p d.next n c (f.slots.page_within s near) room (g ∙ (λ k. total (in_slot s) views + shut k * 65536 + p * 4294967296)) in
      subst (λ (i : ℕ). get_or words' (gate_place i) 0 ≡ total (in_slot i) views + seal_bit (slot_at d' i).phase * 65536 + (slot_at d' i).page * 4294967296) (sym e)
      (get_or-set_same words (gate_place s) n' 0 (let l = f.long in omega arith) ∙ (made ∙ (λ k. total (in_slot s) views + seal_bit (sym here k).phase * 65536 + (sym here k).page * 4294967296))))
      (λ ne. still (gate_place t) (λ z. ne (omega arith)) ∙ (f.gates t small ∙ (λ k. total (in_slot t) views + seal_bit (sym (other t ne) k).phase * 65536 + (sym (other t ne) k).page * 4294967296)))

  pub opens : PlaneInvariant shape words' (set views id (after_open v s))
  opens = duty_kept shape words words' views id v d' there role f record {
    long = length-set words (gate_place s) n' ∙ f.long;
    current_slot = still 0 (λ z. omega arith) ∙ f.current_slot;
    gates = gates';
    slots = slots';
    actors = λ j u at. actor' u (f.actors j u at);
    slot_words = λ t small. dite (ℕ_discrete t s)
        (λ e _ p lt. subst (λ (i : ℕ). (page_bit shape words' d' i p ≡ 1) ↔ Marked shape views (slot_at d' i).page i p) (sym e)
        ((λ one. let z = bit_here p lt in absurd (omega arith)), (λ m. absurd (none_marked p (subst (λ (g : ℕ). Marked shape views g s p) page_here m)))))
        (λ ne h p lt. let q = other t ne in let same = bit_else t p ne in let old = f.slot_words t small (subst (λ (y : Slot). HasPage y.phase) q h) p lt in
        subst (λ (y : Slot). (page_bit shape words' d' t p ≡ 1) ↔ Marked shape views y.page t p) (sym q) ((λ b. old.0 (sym same ∙ b)), (λ m. same ∙ old.1 m)));
    collected_words = λ page below whole p lt. let e = same_pieces page in let whole' : length (collected_of d page) ≡ width shape = ap length (sym e) ∙ whole in dite (ℕ_discrete page d.next)
        (λ q. let a : length (collected_of d page) ≡ 0 = ap (λ (g : ℕ). length (collected_of d g)) q ∙ no_pieces in let b = pow_pos (shape.n - 6) in absurd (omega arith))
        (λ ne. let old = f.collected_words page (omega arith) whole' p lt in ((λ b. old.0 (ap (λ (l : List ℕ). bit_in l p) (sym e) ∙ b)), (λ y. ap (λ (l : List ℕ). bit_in l p) e ∙ old.1 y)));
    drained_words = λ t small i. cases (λ q y. q < 4 → i < taken y.phase → get_or words' (bit_place shape q i) 0 ≡ 0) (λ _ lt. absurd (omega arith)) (λ q ne lt k. still (bit_place shape q i) (λ z. omega arith) ∙ f.drained_words q lt i k) t small;
    free_words = λ t small. cases (λ q y. q < 4 → y.phase ≡ Free → (i : ℕ) → i < width shape → get_or words' (bit_place shape q i) 0 ≡ 0) (λ _ z i lt. cc) (λ q ne lt z i k. still (bit_place shape q i) (λ z'. omega arith) ∙ f.free_words q lt z i k) t small;
    probes = λ i x at. let k = f.probes i x at in record {
      page_below = let a = k.page_below in omega arith;
      at_below = k.at_below;
      known = k.known;
      unseen = k.unseen;
      seen = λ one. ⊎_elim (λ (whole, b). let e = same_pieces x.page in inl (ap length e ∙ whole, ap (λ (l : List ℕ). bit_in l x.at) e ∙ b))
          (λ (t, small, h, e, b). let ne = stands_not_s t h in let q = other t ne in inr (t, small, subst (λ (y : Slot). HasPage y.phase) (sym q) h, ap (λ (y : Slot). y.page) q ∙ e, bit_else t x.at ne ∙ b)) (k.seen one);
    };
    noted = f.noted;
    out = refl;
  }

-- the same, whoever does it
pub open_keeps : (s : ℕ) → KeepsPlane (act.Open s)
open_keeps s shape words views r id v there alive can = opens shape words views id v there can.0 (keeper_fits shape words views r id v there can.0) s can.1 can.2 can.3 can.4

-- ---- the act of the machine, from what it wrote

abbrev new_slot : ℕ → Slot
new_slot page = record { phase = Open; page = page; used = true }

-- the desk with a page more
abbrev one_more : Desk → (slot : ℕ) → Drawn → (lists spare : Lists) → Desk
one_more desk s family lists spare = record desk { slots = set desk.slots s (new_slot desk.next); families = set desk.families s family; next = desk.next + 1; collected = lists; spare = spare }

module _ (wide : ℕ) (desk : Desk) (room s : ℕ) (family : Drawn) (lists' spare' : Lists) (h : HasDeskRoom wide desk room) (a : AddsList desk.spare desk.collected spare' lists') where
  spare_one : get_elem? desk.spare.items (length spare'.items) ≡ some a.words
  spare_one = subst (λ (l : List (Vec ℕ Global)). get_elem? l (length spare'.items) ≡ some a.words) (sym a.taken) (at_last spare'.items a.words)

  new_words : (a.words.items ≡ []) × (wide ≤ vec_capacity a.words)
  new_words = h.spare_words (length spare'.items) a.words spare_one

  lists_more : words_in lists' ≡ words_in desk.collected ++ [] ∷ []
  lists_more = let items = λ (v : Vec ℕ Global). v.items in
      ap (map items) a.becomes ∙ (map-append items desk.collected.items (a.words ∷ []) ∙ ap (λ (l : List ℕ). words_in desk.collected ++ l ∷ []) new_words.0)

  len_spare : vec_len desk.spare ≡ vec_len spare' + 1
  len_spare = let e = ap length a.taken in let l = length-append spare'.items (a.words ∷ []) in omega (arith, desk.spare.ok.0, spare'.ok.0)

  len_lists : vec_len lists' ≡ vec_len desk.collected + 1
  len_lists = let e = ap length a.becomes in let l = length-append desk.collected.items (a.words ∷ []) in omega (arith, desk.collected.ok.0, lists'.ok.0)

  spare_still : (i : ℕ) (v : Vec ℕ Global) → get_elem? spare'.items i ≡ some v → (v.items ≡ []) × (wide ≤ vec_capacity v)
  spare_still i v at = h.spare_words i v (subst (λ (l : List (Vec ℕ Global)). get_elem? l i ≡ some v) (sym a.taken) (at_longer spare'.items (a.words ∷ []) i v at))

  pages_more : (i : ℕ) (v : Vec ℕ Global) → get_elem? lists'.items i ≡ some v → vec_len v < wide → wide ≤ vec_capacity v
  pages_more i v at short = ⊎_elim (λ old. h.page_words i v old short)
      (λ t. subst (λ (w : Vec ℕ Global). wide ≤ vec_capacity w) t.1 new_words.1)
      (at_snoc desk.collected.items a.words v i (subst (λ (l : List (Vec ℕ Global)). get_elem? l i ≡ some v) a.becomes at))

  room_more : s < length desk.slots → (slot_in desk s).phase ≡ Free → 1 ≤ room → HasDeskRoom wide (one_more desk s family lists' spare') (room - 1)
  room_more within free some_room = record {
    probes = let k = h.probes in omega arith;
    pages = let k = h.pages in let c = len_lists in let e = len_spare in let r = a.list_room in omega arith;
    spare = let k = h.spare in let e = paid_by-set wide desk.slots s (new_slot desk.next) within in let q : paid wide (slot_in desk s).phase ≡ wide = ap (paid wide) free in
        let grows : wide * vec_len desk.spare ≡ wide * vec_len spare' + wide = ap (λ (i : ℕ). wide * i) len_spare ∙ (let t : wide * (vec_len spare' + 1) ≡ wide * vec_len spare' + wide = omega arith in t) in omega arith;
    spare_words = spare_still;
    page_words = pages_more;
  }

families_more : (shape : PageShape) (desk : Desk) (s : ℕ) (lists spare : Lists) → HasFamilies shape desk → s < 4 → s < length desk.slots → HasFamilies shape (one_more desk s (family_of shape desk.next) lists spare)
families_more shape desk s lists spare h near within t small = dite (ℕ_discrete t s)
    (λ e. subst (λ (i : ℕ). slice_get (set desk.families s (family_of shape desk.next)) i ≡ Some (family_of shape (slot_at (with_slot (duties_of desk 0) s (new_slot desk.next)) i).page)) (sym e)
    (slice_get-set_same desk.families s (family_of shape desk.next) (slice_get_within desk.families s (family_of shape (slot_at (duties_of desk 0) s).page) (h s near))
    ∙ ap (λ (x : Slot). Some (family_of shape x.page)) (sym (slot_here (duties_of desk 0) s (new_slot desk.next) within))))
    (λ ne. slice_get-set_other desk.families s t (family_of shape desk.next) ne ∙ (h t small
    ∙ ap (λ (x : Slot). Some (family_of shape x.page)) (sym (slot_else (duties_of desk 0) s (new_slot desk.next) within t ne))))

module _ (m m' : CoreData) (h : Holds m) (some_room : 1 ≤ m.room) (s : ℕ) (near : s < 4) (reply : StepAnswer) where
  abbrev p : ℕ
  p = length m.seats.items - 1

  abbrev v : View
  v = view_of (notes_of m) 0 (first_of m h).seat.state

  abbrev gate : ℕ
  gate = get_or m.words.items (gate_place s) 0

  abbrev family : Drawn
  family = family_of m.shape m.desk.next

  abbrev to : Desk
  to = one_more m.desk s family m'.desk.collected m'.desk.spare

  slot_within : s < length m.desk.slots
  slot_within = let a = four_slots m h in omega arith

  pub open_done : (slot_in m.desk s).phase ≡ Free → open_among m.desk.slots 0 ≡ 4 → m.desk.next + 1 < 4294967296
      → m'.words.items ≡ set m.words.items (gate_place s) ((gate + (m.desk.next * 4294967296 + 2 ^ 64 - (slot_in m.desk s).page * 4294967296 - 65536) % 2 ^ 64) % 2 ^ 64)
      → DeskBecomes m m' m'.desk → OpensPage m.desk m'.desk s (family_of m.shape m.desk.next) → reply ≡ answer.Opened (numbered m.desk.next) → DoesAct m m' 0 (act.Open s) reply
  open_done free none fits words others opened answers =
      let e : to ≡ m'.desk = sym opened.others in
      let few : m.desk.next < 4294967295 = omega arith in
      desk_act m m' (first_of m h).seat (act.Open s) (first_of m h).there (open_keeps s) reply h (refl, near, free, none, few) (record {
        words = words;
        others = others;
        duties = ap (λ (d : Desk). with_duties v (duties_of d p)) (sym e)
            ∙ ap (λ (l : List (List ℕ)). with_duties v (with_slot (record (duties_of m.desk p) { next = m.desk.next + 1; collected = l }) s (new_slot m.desk.next)))
            (lists_more (width m.shape) m.desk m.room s family m'.desk.collected m'.desk.spare h.desk opened.lists);
        none = refl;
        room = subst (λ (d : Desk). HasDeskRoom (width m.shape) d (m.room - 1)) e (room_more (width m.shape) m.desk m.room s family m'.desk.collected m'.desk.spare h.desk opened.lists slot_within free some_room);
        families = subst (HasFamilies m.shape) e (families_more m.shape m.desk s m'.desk.collected m'.desk.spare h.families near slot_within);
      }) answers

pub open_declined : (m m' : CoreData) (h : Holds m) (s : ℕ) (reply : StepAnswer) → ((slot_in m.desk s).phase ≡ Free → ¬ (open_among m.desk.slots 0 ≡ 4)) → m' ≡ record m { room = m.room - 1 }
    → reply ≡ answer.NotEnabled (actor_state.Keeper (map (λ (x : Slot). x.phase) m.desk.slots)) → DoesAct m m' 0 (act.Open s) reply
open_declined m m' h s reply other is answers = does_nothing m m' 0 (first_of m h).seat (act.Open s) (first_of m h).there reply h (λ can. other can.2 can.3) is answers
