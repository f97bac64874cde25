-- `seal`: of the open slot.
use Rattle.std.proofs.Common.{◌≡◌, ℕ, ◌+◌, ◌-◌, ◌*◌, ◌/◌, ◌%◌, ◌^◌, ◌<◌, ◌≤◌, ◌⊎◌, ◌↔◌, bit_or, List, length, get_or, set, sym, refl, ap, ◌∙◌, subst, inl, inr, ⊎_elim, arith, length-set, get_or-set_same, get_or-set_other, map}
use Rattle.std.proofs.lemmas.Nat.{or_disjoint}
use Rattle.std.proofs.lemmas.Nat.Bits.{and_pow}
use mathlib.Core.Option.{some}
use lib.ListN.{get_elem?}
use Rattle.spie_base.specs.declared.PageShape.{PageShape}
use Rattle.gate_core.specs.declared.states.PassState.{PassState}
use Rattle.gate_core.specs.declared.states.PassState.TheVariants.{Idle, Looked, Inside, Visiting}
use Rattle.gate_core.specs.declared.states.SlotPhase.TheVariants.{Free, Open, Sealed}
use Rattle.bloom_page.specs.Bits.{bit_in}
use Rattle.gate_core.specs.Views.{Spent, Keeper, Duties, View, slot_at, collected_of, Slot}
use Rattle.gate_core.specs.Acts.{seal_of, gate_place, bit_place, open_slot, in_phase, with_duties, page_of, numbered, open_among}
use Rattle.gate_core.specs.Invariant.{total, in_slot, is_pass, is_keeper, seal_bit, HasPage, IsLive, taken, page_bit, Marked, StateFits, ActorFits, SlotsFit, PlaneFits, PlaneInvariant}
use Rattle.gate_core.specs.declared.steps.Act.TheVariants.{Seal}
use Rattle.gate_core.specs.declared.steps.StepAnswer.{StepAnswer}
use Rattle.gate_core.specs.declared.steps.StepAnswer.TheVariants as answer
use Rattle.gate_core.specs.declared.states.ActorState.TheVariants as actor_state
use Rattle.gate_core.specs.declared.core_data.CoreData.{CoreData}
use Rattle.gate_core.specs.declared.core_data.Desk.{Desk}
use Rattle.gate_core.specs.Marks.{width}
use Rattle.gate_core.specs.Kept.{notes_of, duties_of, view_of, HasDeskRoom, Holds, DoesAct}
use Rattle.gate_core.specs.Desks.{phased}
use Rattle.gate_core.proofs.Lists.{set_here}
use Rattle.gate_core.proofs.Gates.{gate_seal, sealed_two}
use Rattle.gate_core.proofs.Slots.{page_same, used_same, phase_case, rephased, open_is}
use Rattle.gate_core.proofs.Duty.{total_same, marked_same, recorded_same, seats_then, numbers_then, keeper_fits}
use Rattle.gate_core.proofs.Inside.{crowd}
use Rattle.gate_core.proofs.MachineSteps.{does_nothing, KeepsPlane}
use Rattle.gate_core.proofs.KeeperSteps.{first_of, four_slots, DeskBecomes, desk_is, desk_framed, desk_act}
use Rattle.gate_core.proofs.SlotRoom.{HasFamilies, room_phased, families_phased}

-- ---- the act keeps the plane invariant

pub sealed_word : (n : ℕ) → seal_of n ≡ 0 → bit_or n 65536 ≡ n + 65536
sealed_word n e = or_disjoint n 65536 (and_pow n 16 ∙ (let b : n / 2 ^ 16 % 2 ≡ 0 = e in ap (λ (x : ℕ). x * 2 ^ 16) b))

module _ (shape : PageShape) (words : List ℕ) (views : List View) (r : PlaneInvariant shape words views) (id : ℕ) (v : View) (there : get_elem? views id ≡ some v) (role : v.role ≡ Keeper) (f : PlaneFits shape words views v.duties v.entries) (can : open_slot v.duties < 4) where
  abbrev d : Duties
  d = v.duties

  abbrev s : ℕ
  s = open_slot d

  abbrev d' : Duties
  d' = in_phase d s Sealed

  abbrev w : View
  w = with_duties v d'

  abbrev x : ℕ
  x = bit_or (get_or words (gate_place s) 0) 65536

  abbrev words' : List ℕ
  words' = set words (gate_place s) x

  within : s < length d.slots
  within = let a = f.slots.four in omega arith

  is_open : (slot_at d s).phase ≡ Open
  is_open = open_is d f.slots.four can

  slots' : SlotsFit shape d'
  slots' = rephased shape d s Sealed f.slots can (subst HasPage (sym is_open) tt) tt (λ e. cc) (ap taken (sym is_open))

  stood : (t : ℕ) → HasPage (slot_at d' t).phase → HasPage (slot_at d t).phase
  stood = phase_case d s Sealed within (λ t y. HasPage y → HasPage (slot_at d t).phase) (λ _. subst HasPage (sym is_open) tt) (λ t ne h. h)

  stands : (t : ℕ) → HasPage (slot_at d t).phase → HasPage (slot_at d' t).phase
  stands = phase_case d s Sealed within (λ t y. HasPage (slot_at d t).phase → HasPage y) (λ _. tt) (λ t ne h. h)

  lives : (t : ℕ) → IsLive (slot_at d t).phase → IsLive (slot_at d' t).phase
  lives = phase_case d s Sealed within (λ t y. IsLive (slot_at d t).phase → IsLive y) (λ _. tt) (λ t ne h. h)

  was_open : (t : ℕ) → (slot_at d' t).phase ≡ Open → (slot_at d t).phase ≡ Open
  was_open = phase_case d s Sealed within (λ t y. y ≡ Open → (slot_at d t).phase ≡ Open) (λ e. is_open) (λ t ne h. h)

  was_free : (t : ℕ) → (slot_at d' t).phase ≡ Free → (slot_at d t).phase ≡ Free
  was_free = phase_case d s Sealed within (λ t y. y ≡ Free → (slot_at d t).phase ≡ Free) (λ e. cc) (λ t ne h. h)

  as_taken : (t : ℕ) → taken (slot_at d' t).phase ≡ taken (slot_at d t).phase
  as_taken = phase_case d s Sealed within (λ t y. taken y ≡ taken (slot_at d t).phase) (sym (ap taken is_open)) (λ t ne. refl)

  pages : (t : ℕ) → (slot_at d' t).page ≡ (slot_at d t).page
  pages = page_same d s Sealed within

  uses : (t : ℕ) → (slot_at d' t).used ≡ (slot_at d t).used
  uses = used_same d s Sealed within

  stage_then : (floor : ℕ) (st : PassState) → StateFits shape d floor st → StateFits shape d' floor st
  stage_then floor Idle k = tt
  stage_then floor (Looked t) k = (k.0, uses t ∙ k.1, (let a = k.2 in let b = pages t in omega arith))
  stage_then floor (Inside t page sig m) k = (k.0, uses t ∙ k.1, (let a = k.2 in let b = pages t in omega arith), k.3 ∙ sym (pages t), lives t k.4, k.5)
  stage_then floor (Visiting t gate) k = (k.0, uses t ∙ k.1, (let a = k.2 in let b = pages t in omega arith))

  seat_then : (u : View) → ActorFits shape d u → ActorFits shape d' u
  seat_then u k = record {
    state = stage_then u.floor u.state k.state;
    entries = k.entries;
    ordered = k.ordered;
    last = k.last;
    visits = λ i y at. let z = k.visits i y at in record { sealed_gate = z.sealed_gate; below = z.below; from_floor = z.from_floor; not_open = λ t small o e. z.not_open t small (was_open t o) (sym (pages t) ∙ e) };
    floor = let a = k.floor in let b = pages d.pointed in omega arith;
    number = k.number;
    base = k.base;
    gone = k.gone;
  }

  -- bit words stay, and pages with them
  bit_same : (t p : ℕ) → page_bit shape words' d' t p ≡ page_bit shape words d t p
  bit_same t p = let e = get_or-set_other words (gate_place s) (bit_place shape t (p / 64)) x 0 (λ e. omega arith) in
      ap (λ (z : ℕ × ℕ). Rattle.std.proofs.Common.cond (Rattle.std.proofs.Common.nat_lt (p / 64) (length (collected_of d z.0))) (bit_in (collected_of d z.0) p) (z.1 / 2 ^ (p % 64) % 2)) (λ k. (pages t k, e k))

  still : (i : ℕ) → 5 ≤ i → get_or words' i 0 ≡ get_or words i 0
  still i big = get_or-set_other words (gate_place s) i x 0 (λ e. omega arith)

  gates' : (t : ℕ) → t < 4 → get_or words' (gate_place t) 0 ≡ total (in_slot t) (set views id w) + seal_bit (slot_at d' t).phase * 65536 + (slot_at d' t).page * 4294967296
  gates' = λ t small. let same = total_same shape views id v d' there (in_slot t) refl in let g = f.gates t small in let pg = pages t in
      phase_case d s Sealed within (λ k y. k ≡ t → get_or words' (gate_place t) 0 ≡ total (in_slot t) (set views id w) + seal_bit y * 65536 + (slot_at d' t).page * 4294967296)
      (λ e. let c = crowd shape words views d v.entries f s in let g' = f.gates s can in let zero : seal_bit (slot_at d s).phase ≡ 0 = ap seal_bit is_open in
      let shut = gate_seal (total (in_slot s) views) (seal_bit (slot_at d s).phase) (slot_at d s).page (get_or words (gate_place s) 0) (omega arith) (sealed_two (slot_at d s).phase) g' ∙ zero in
      let new : get_or words' (gate_place t) 0 ≡ get_or words (gate_place s) 0 + 65536 = ap (λ (k : ℕ). get_or words' (gate_place k) 0) (sym e) ∙ (get_or-set_same words (gate_place s) x 0 (let l = f.long in omega arith) ∙ sealed_word (get_or words (gate_place s) 0) shut) in
      let gt : get_or words (gate_place s) 0 ≡ total (in_slot t) views + 0 * 65536 + (slot_at d t).page * 4294967296 = g' ∙ (λ k. total (in_slot (e k)) views + zero k * 65536 + (slot_at d (e k)).page * 4294967296) in omega arith)
      (λ k ne e. let old = get_or-set_other words (gate_place s) (gate_place t) x 0 (λ q. ne (omega arith)) in subst (λ (o : ℕ). get_or words' (gate_place t) 0 ≡ total (in_slot t) (set views id w) + seal_bit (slot_at d o).phase * 65536 + (slot_at d' t).page * 4294967296) (sym e) (omega arith))
      t refl

  pub seals : PlaneInvariant shape words' (set views id w)
  seals = record {
    place = id;
    head = w;
    there = set_here views id w v there;
    keeps = role;
    fits = record {
      in_range = f.in_range;
      long = length-set words (gate_place s) x ∙ f.long;
      current_slot = get_or-set_other words (gate_place s) 0 x 0 (λ e. omega arith) ∙ f.current_slot;
      gates = gates';
      slots = slots';
      actors = seats_then shape views id v d' there (λ e. let q : Keeper ≡ Spent = sym role ∙ e in cc) (λ j u at. seat_then u (f.actors j u at));
      slot_words = λ t small h p lt. let same = bit_same t p in let old = f.slot_words t small (stood t h) p lt in let m = marked_same shape views id v d' there (slot_at d t).page t p in
          subst (λ (g : ℕ). (page_bit shape words' d' t p ≡ 1) ↔ Marked shape (set views id w) g t p) (sym (pages t)) ((λ b. m.0 (old.0 (sym same ∙ b))), (λ y. same ∙ old.1 (m.1 y)));
      collected_words = λ page below whole p lt. let old = f.collected_words page below whole p lt in let m = recorded_same shape views id v d' there page p in ((λ b. m.0 (old.0 b)), (λ y. old.1 (m.1 y)));
      drained_words = λ t small i lt. still (bit_place shape t i) (omega arith) ∙ f.drained_words t small i (let e = as_taken t in omega arith);
      free_words = λ t small free i lt. still (bit_place shape t i) (omega arith) ∙ f.free_words t small (was_free t free) i lt;
      probes = λ i y at. let k = f.probes i y at in record {
        page_below = k.page_below;
        at_below = k.at_below;
        known = k.known;
        seen = λ one. ⊎_elim inl (λ (t, small, h, e, b). inr (t, small, stands t h, pages t ∙ e, bit_same t y.at ∙ b)) (k.seen one);
        unseen = k.unseen;
      };
      noted = f.noted;
      out = total_same shape views id v d' there is_pass refl ∙ f.out;
      few = f.few;
      one_number = numbers_then shape views id v d' there f.one_number;
      one_keeper = total_same shape views id v d' there is_keeper refl ∙ f.one_keeper;
    };
  }

-- the same, whoever does it
pub seal_keeps : KeepsPlane Seal
seal_keeps shape words views r id v there alive can = seals shape words views r id v there can.0 (keeper_fits shape words views r id v there can.0) can.1

-- ---- the act of the machine, from what it wrote

-- not enabled
module _ (m m' : CoreData) (h : Holds m) (reply : StepAnswer) (is : m' ≡ record m { room = m.room - 1 })
    (answers : reply ≡ answer.NotEnabled (actor_state.Keeper (map (λ (x : Slot). x.phase) m.desk.slots))) where
  pub seal_declined : ¬ (open_among m.desk.slots 0 < 4) → DoesAct m m' 0 Seal reply
  seal_declined shut = does_nothing m m' 0 (first_of m h).seat Seal (first_of m h).there reply h (λ can. shut can.1) is answers

module _ (m m' : CoreData) (h : Holds m) (some_room : 1 ≤ m.room) (reply : StepAnswer) where
  abbrev k : ℕ
  k = open_among m.desk.slots 0

  abbrev gate : ℕ
  gate = get_or m.words.items (gate_place k) 0

  sealed_at : k < 4 → m'.words.items ≡ set m.words.items (gate_place k) (bit_or gate 65536) → DeskBecomes m m' (phased m.desk k Sealed) → reply ≡ answer.Sealed (numbered (page_of gate)) → DoesAct m m' 0 Seal reply
  sealed_at near words others answers =
      let within : k < length m.desk.slots = let a = four_slots m h in omega arith in
      let e = sym (desk_is m m' (phased m.desk k Sealed) others) in
      desk_act m m' (first_of m h).seat Seal (first_of m h).there seal_keeps reply h (refl, near) (record {
        words = words;
        others = desk_framed m m' (phased m.desk k Sealed) others;
        duties = ap (λ (d : Desk). let v : View = record (view_of (notes_of m) 0 (first_of m h).seat.state) { duties = duties_of d (length m.seats.items - 1) } in v) (sym e);
        none = refl;
        room = subst (λ (d : Desk). HasDeskRoom (width m.shape) d (m.room - 1)) e (room_phased (width m.shape) m.desk m.room k Sealed h.desk within some_room (omega arith));
        families = subst (HasFamilies m.shape) e (families_phased m.shape m.desk k Sealed h.families within);
      }) answers

  pub seal_done : (slot : ℕ) → slot ≡ k → slot < 4 → m'.words.items ≡ set m.words.items (gate_place slot) (bit_or (get_or m.words.items (gate_place slot) 0) 65536) → DeskBecomes m m' (phased m.desk slot Sealed)
      → reply ≡ answer.Sealed (numbered (page_of (get_or m.words.items (gate_place slot) 0))) → DoesAct m m' 0 Seal reply
  seal_done slot e = let P : ℕ → Type 0 = λ i. i < 4 → m'.words.items ≡ set m.words.items (gate_place i) (bit_or (get_or m.words.items (gate_place i) 0) 65536) → DeskBecomes m m' (phased m.desk i Sealed)
      → reply ≡ answer.Sealed (numbered (page_of (get_or m.words.items (gate_place i) 0))) → DoesAct m m' 0 Seal reply in subst P (sym e) sealed_at
