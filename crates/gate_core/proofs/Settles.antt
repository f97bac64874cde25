-- `settle`: whether somebody is inside a sealed slot, and if nobody is, it is quiet.
use Rattle.std.proofs.Common.{◌≡◌, ℕ, ◌+◌, ◌*◌, ◌/◌, ◌%◌, ◌^◌, ◌<◌, ◌≤◌, ◌≢◌, ◌↔◌, cond, nat_lt, List, length, get_or, set, sym, refl, ap, ◌∙◌, subst, inl, inr, ⊎_elim, arith, ◌-◌, ◌==◌, Bool, true, false, if◌then◌else◌, [], ◌∷◌, map}
use Rattle.std.proofs.lemmas.List.{set-get_or}
use mathlib.Core.Option.{some, some-injective, some-ne-none}
use lib.ListN.{get_elem?}
use Rattle.spie_base.specs.declared.PageShape.{PageShape}
use Rattle.gate_core.specs.declared.states.PassState.{PassState}
use Rattle.gate_core.specs.declared.states.PassState.TheVariants.{Idle, Looked, Inside, Visiting}
use Rattle.gate_core.specs.declared.states.SlotPhase.{SlotPhase}
use Rattle.gate_core.specs.declared.states.SlotPhase.TheVariants.{Free, Open, Sealed, Quiet}
use Rattle.bloom_page.specs.Bits.{bit_in}
use Rattle.gate_core.specs.Views.{Keeper, Duties, View, slot_at, collected_of, Slot}
use Rattle.gate_core.specs.Acts.{inside_of, gate_place, bit_place, in_phase, with_duties, busy, after_settle, IsSealed}
use Rattle.gate_core.specs.Invariant.{total, counts_in, in_slot, seal_bit, HasPage, IsLive, taken, page_bit, Marked, StateFits, ActorFits, PlaneFits, PlaneInvariant}
use Rattle.gate_core.specs.declared.steps.Act.TheVariants.{Settle}
use Rattle.gate_core.specs.declared.steps.StepAnswer.{StepAnswer}
use Rattle.gate_core.specs.declared.steps.StepAnswer.TheVariants as answer
use Rattle.gate_core.specs.declared.states.ActorState.TheVariants as actor_state
use Rattle.gate_core.specs.declared.core_data.CoreData.{CoreData}
use Rattle.gate_core.specs.declared.core_data.Desk.{Desk}
use Rattle.gate_core.specs.declared.core_data.Seat.{Seat}
use Rattle.gate_core.specs.Marks.{width}
use Rattle.gate_core.specs.Kept.{notes_of, duties_of, view_of, HasDeskRoom, Holds, DoesAct}
use Rattle.gate_core.specs.Desks.{slot_in, phased, settled, counted_out}
use Rattle.gate_core.proofs.Lists.{term_le}
use Rattle.gate_core.proofs.Gates.{tested}
use Rattle.gate_core.proofs.Slots.{page_same, used_same, phase_case, rephased}
use Rattle.gate_core.proofs.Duty.{duty_kept, keeper_fits}
use Rattle.gate_core.proofs.Inside.{hit, hit_one, gate_counts, few_inside}
use Rattle.gate_core.proofs.MachineSteps.{desk_less, does_nothing, KeepsPlane}
use Rattle.gate_core.proofs.KeeperSteps.{first_of, four_slots, desk_fits, desk_is, desk_framed, desk_only, word_read, desk_act}
use Rattle.gate_core.proofs.SlotRoom.{HasFamilies, room_phased, families_phased}

-- ---- the act keeps the plane invariant

sealed_is : (ph : SlotPhase) → IsSealed ph → ph ≡ Sealed
sealed_is Free k = absurd k
sealed_is Open k = absurd k
sealed_is Sealed k = refl
sealed_is (Quiet next) k = absurd k

module _ (shape : PageShape) (words : List ℕ) (views : List View) (id : ℕ) (v : View) (there : get_elem? views id ≡ some v) (role : v.role ≡ Keeper) (f : PlaneFits shape words views v.duties v.entries) (s : ℕ) (near : s < 4) (can : IsSealed (slot_at v.duties s).phase) where
  abbrev d : Duties
  d = v.duties

  abbrev n : ℕ
  n = get_or words (gate_place s) 0

  abbrev d1 : Duties
  d1 = record d { noted = n; noted_with = d.out + busy v.state }

  abbrev d2 : Duties
  d2 = in_phase d1 s (Quiet 0)

  is_sealed : (slot_at d s).phase ≡ Sealed
  is_sealed = sealed_is (slot_at d s).phase can

  n_inside : inside_of n ≡ total (in_slot s) views
  n_inside = gate_counts shape words views d v.entries f s near

  few : total (in_slot s) views ≤ d.out + busy v.state
  few = few_inside shape words views id v there role f s

  pending : PlaneInvariant shape words (set views id (with_duties v d1))
  pending = duty_kept shape words words views id v d1 there role f record {
    long = f.long;
    current_slot = f.current_slot;
    gates = f.gates;
    slots = f.slots;
    actors = f.actors;
    slot_words = f.slot_words;
    collected_words = f.collected_words;
    drained_words = f.drained_words;
    free_words = f.free_words;
    probes = f.probes;
    noted = let a = n_inside in let b = few in omega arith;
    out = refl;
  }

  -- ---- nobody is inside

  module _ (none : inside_of n ≡ 0) where
    within : s < length d.slots
    within = let a = f.slots.four in omega arith

    pages : (t : ℕ) → (slot_at d2 t).page ≡ (slot_at d t).page
    pages = page_same d1 s (Quiet 0) within

    uses : (t : ℕ) → (slot_at d2 t).used ≡ (slot_at d t).used
    uses = used_same d1 s (Quiet 0) within

    abbrev cases : (P : ℕ → SlotPhase → Type 0) → P s (Quiet 0) → ((t : ℕ) → t ≢ s → P t (slot_at d t).phase) → (t : ℕ) → P t (slot_at d2 t).phase
    cases P = phase_case d1 s (Quiet 0) within P

    stood : (t : ℕ) → HasPage (slot_at d2 t).phase → HasPage (slot_at d t).phase
    stood = cases (λ t y. HasPage y → HasPage (slot_at d t).phase) (λ _. subst HasPage (sym is_sealed) tt) (λ t ne h. h)

    stands : (t : ℕ) → HasPage (slot_at d t).phase → HasPage (slot_at d2 t).phase
    stands = cases (λ t y. HasPage (slot_at d t).phase → HasPage y) (λ _. tt) (λ t ne h. h)

    lives : (t : ℕ) → t ≢ s → IsLive (slot_at d t).phase → IsLive (slot_at d2 t).phase
    lives = cases (λ t y. t ≢ s → IsLive (slot_at d t).phase → IsLive y) (λ ne. absurd (ne refl)) (λ t ne _ h. h)

    was_open : (t : ℕ) → (slot_at d2 t).phase ≡ Open → (slot_at d t).phase ≡ Open
    was_open = cases (λ t y. y ≡ Open → (slot_at d t).phase ≡ Open) (λ e. cc) (λ t ne h. h)

    was_free : (t : ℕ) → (slot_at d2 t).phase ≡ Free → (slot_at d t).phase ≡ Free
    was_free = cases (λ t y. y ≡ Free → (slot_at d t).phase ≡ Free) (λ e. cc) (λ t ne h. h)

    as_taken : (t : ℕ) → taken (slot_at d2 t).phase ≡ taken (slot_at d t).phase
    as_taken = cases (λ t y. taken y ≡ taken (slot_at d t).phase) (sym (ap taken is_sealed)) (λ t ne. refl)

    as_sealed : (t : ℕ) → seal_bit (slot_at d2 t).phase ≡ seal_bit (slot_at d t).phase
    as_sealed = cases (λ t y. seal_bit y ≡ seal_bit (slot_at d t).phase) (sym (ap seal_bit is_sealed)) (λ t ne. refl)

    stage2 : (j : ℕ) (u : View) → get_elem? views j ≡ some u → (floor : ℕ) (st : PassState) → u.state ≡ st → StateFits shape d floor st → StateFits shape d2 floor st
    stage2 j u at floor Idle is k = k
    stage2 j u at floor (Looked t) is k = (k.0, uses t ∙ k.1, (let a = k.2 in let b = pages t in omega arith))
    stage2 j u at floor (Inside t page sig m) is k = (
      k.0,
      uses t ∙ k.1,
      (let a = k.2 in let b = pages t in omega arith),
      k.3 ∙ sym (pages t),
      lives t (λ e. let a = term_le (in_slot s) views j u at in let b : in_slot s u ≡ hit t s = ap (counts_in s) is in let c : hit t s ≡ 1 = hit_one t s e in let z = n_inside in absurd (omega arith)) k.4,
      k.5,
    )
    stage2 j u at floor (Visiting t gate) is k = (k.0, uses t ∙ k.1, (let a = k.2 in let b = pages t in omega arith))

    seat2 : (j : ℕ) (u : View) → get_elem? views j ≡ some u → ActorFits shape d u → ActorFits shape d2 u
    seat2 j u at k = record {
      state = stage2 j u at u.floor u.state refl k.state;
      entries = k.entries;
      ordered = k.ordered;
      last = k.last;
      visits = λ i x at'. let z = k.visits i x at' in record { sealed_gate = z.sealed_gate; below = z.below; from_floor = z.from_floor; not_open = λ t small o e. z.not_open t small (was_open t o) (sym (pages t) ∙ e) };
      floor = let a = k.floor in let b = pages d.pointed in omega arith;
      number = k.number;
      base = k.base;
      gone = k.gone;
    }

    bit_same : (t p : ℕ) → page_bit shape words d2 t p ≡ page_bit shape words d t p
    bit_same t p = ap (λ (g : ℕ). cond (nat_lt (p / 64) (length (collected_of d g))) (bit_in (collected_of d g) p) (get_or words (bit_place shape t (p / 64)) 0 / 2 ^ (p % 64) % 2)) (pages t)

    quiet : PlaneInvariant shape words (set views id (with_duties v d2))
    quiet = duty_kept shape words words views id v d2 there role f record {
      long = f.long;
      current_slot = f.current_slot;
      gates = λ t small. let a = pages t in let b = as_sealed t in f.gates t small ∙ (λ k. total (in_slot t) views + sym b k * 65536 + sym a k * 4294967296);
      slots = rephased shape d1 s (Quiet 0) f.slots near (subst HasPage (sym is_sealed) tt) tt (λ e. cc) (sym (ap taken is_sealed));
      actors = λ j u at. seat2 j u at (f.actors j u at);
      slot_words = λ t small h p lt. let same = bit_same t p in let old = f.slot_words t small (stood t h) p lt in subst (λ (g : ℕ). (page_bit shape words d2 t p ≡ 1) ↔ Marked shape views g t p) (sym (pages t)) ((λ b. old.0 (sym same ∙ b)), (λ y. same ∙ old.1 y));
      collected_words = f.collected_words;
      drained_words = λ t small i lt. f.drained_words t small i (let e = as_taken t in omega arith);
      free_words = λ t small free i lt. f.free_words t small (was_free t free) i lt;
      probes = λ i x at. let k = f.probes i x at in record {
        page_below = k.page_below;
        at_below = k.at_below;
        known = k.known;
        unseen = k.unseen;
        seen = λ one. ⊎_elim inl (λ (t, small, h, e, b). inr (t, small, stands t h, pages t ∙ e, bit_same t x.at ∙ b)) (k.seen one);
      };
      noted = let a = n_inside in let b = few in omega arith;
      out = refl;
    }

  pub settles : PlaneInvariant shape (set words (gate_place s) n) (set views id (after_settle v s n))
  settles = subst (λ (ws : List ℕ). PlaneInvariant shape ws (set views id (after_settle v s n))) (sym (set-get_or words (gate_place s) 0))
      (tested (λ (e : Duties). PlaneInvariant shape words (set views id (with_duties v e))) (inside_of n) 0 d2 d1 quiet (λ _. pending))

-- the same, whoever does it
pub settle_keeps : (s : ℕ) → KeepsPlane (Settle s)
settle_keeps s shape words views r id v there alive can = settles shape words views id v there can.0 (keeper_fits shape words views r id v there can.0) s can.1 can.2

-- ---- the act of the machine, from what it wrote

pub few_seats : (m : CoreData) → Holds m → length m.seats.items ≤ 17
few_seats m h = let a = (desk_fits m h).few in omega arith

counted_is : (xs : List Seat) (x : Seat) → get_elem? xs 0 ≡ some x → counted_out xs ≡ length xs - 1 + busy x.state
counted_is [] x e = absurd (some-ne-none x (sym e))
counted_is (y ∷ ys) x e = ap (λ (z : Seat). length (y ∷ ys) - 1 + busy z.state) (some-injective y x e)

abbrev noting : Desk → (gate out : ℕ) → Desk
noting desk gate out = record desk { noted = gate; noted_with = out }

room_noting : (wide : ℕ) (desk : Desk) (room gate out : ℕ) → HasDeskRoom wide desk room → HasDeskRoom wide (noting desk gate out) room
room_noting wide desk room gate out h = record { probes = h.probes; pages = h.pages; spare = h.spare; spare_words = h.spare_words; page_words = h.page_words }

-- a fact of either desk
either : (P : Desk → Type 0) (b : Bool) (x y : Desk) → P x → P y → P (cond b x y)
either P true x y p q = p
either P false x y p q = q

settled_duties : (desk : Desk) (p s gate out : ℕ) (b : Bool)
    → duties_of (cond b (phased (noting desk gate out) s (Quiet 0)) (noting desk gate out)) p
    ≡ cond b (in_phase (record (duties_of desk p) { noted = gate; noted_with = out }) s (Quiet 0)) (record (duties_of desk p) { noted = gate; noted_with = out })
settled_duties desk p s gate out true = refl
settled_duties desk p s gate out false = refl

module _ (m m' : CoreData) (h : Holds m) (some_room : 1 ≤ m.room) (s : ℕ) (near : s < 4) (shut : (slot_in m.desk s).phase ≡ Sealed) (reply : StepAnswer) where
  abbrev gate : ℕ
  gate = get_or m.words.items (gate_place s) 0

  abbrev out : ℕ
  out = counted_out m.seats.items

  abbrev p : ℕ
  p = length m.seats.items - 1

  abbrev to : Desk
  to = settled m.desk s gate out

  abbrev v : View
  v = view_of (notes_of m) 0 (first_of m h).seat.state

  slot_within : s < length m.desk.slots
  slot_within = let a = four_slots m h in omega arith

  to_duties : with_duties v (duties_of to p) ≡ after_settle v s gate
  to_duties = ap (with_duties v) (settled_duties m.desk p s gate out (inside_of gate == 0))
      ∙ ap (λ (o : ℕ). with_duties v (cond (inside_of gate == 0) (in_phase (record (duties_of m.desk p) { noted = gate; noted_with = o }) s (Quiet 0)) (record (duties_of m.desk p) { noted = gate; noted_with = o })))
      (counted_is m.seats.items (first_of m h).seat (first_of m h).there)

  to_room : HasDeskRoom (width m.shape) to (m.room - 1)
  to_room = let P : Desk → Type 0 = λ d. HasDeskRoom (width m.shape) d (m.room - 1) in
      let noted = room_noting (width m.shape) m.desk m.room gate out h.desk in
      either P (inside_of gate == 0) (phased (noting m.desk gate out) s (Quiet 0)) (noting m.desk gate out)
      (room_phased (width m.shape) (noting m.desk gate out) m.room s (Quiet 0) noted slot_within some_room (omega arith)) (desk_less (width m.shape) (noting m.desk gate out) m.room noted)

  to_families : HasFamilies m.shape to
  to_families = either (HasFamilies m.shape) (inside_of gate == 0) (phased (noting m.desk gate out) s (Quiet 0)) (noting m.desk gate out)
      (families_phased m.shape (noting m.desk gate out) s (Quiet 0) h.families slot_within) h.families

  pub settle_done : m' ≡ record m { desk = settled m.desk s gate out; room = m.room - 1 } → reply ≡ (if inside_of gate == 0 then answer.Quiet else answer.Pending (inside_of gate)) → DoesAct m m' 0 (Settle s) reply
  settle_done is answers =
      let others = desk_only m m' to is in
      let e = sym (desk_is m m' to others) in
      desk_act m m' (first_of m h).seat (Settle s) (first_of m h).there (settle_keeps s) reply h (refl, near, subst IsSealed (sym shut) tt) (record {
        words = word_read m m' to (gate_place s) is;
        others = desk_framed m m' to others;
        duties = ap (λ (d : Desk). with_duties v (duties_of d p)) (sym e) ∙ to_duties;
        none = refl;
        room = subst (λ (d : Desk). HasDeskRoom (width m.shape) d (m.room - 1)) e to_room;
        families = subst (HasFamilies m.shape) e to_families;
      }) answers

pub settle_declined : (m m' : CoreData) (h : Holds m) (s : ℕ) (reply : StepAnswer) → ¬ ((slot_in m.desk s).phase ≡ Sealed) → m' ≡ record m { room = m.room - 1 }
    → reply ≡ answer.NotEnabled (actor_state.Keeper (map (λ (x : Slot). x.phase) m.desk.slots)) → DoesAct m m' 0 (Settle s) reply
settle_declined m m' h s reply other is answers = does_nothing m m' 0 (first_of m h).seat (Settle s) (first_of m h).there reply h (λ can. other (sealed_is (slot_in m.desk s).phase can.2)) is answers
