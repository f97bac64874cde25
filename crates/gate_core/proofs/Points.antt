-- `point`: the current slot is the open one.
use Rattle.std.proofs.Common.{◌≡◌, ℕ, ◌/◌, ◌<◌, ◌≤◌, true, List, length, get_or, set, sym, refl, ◌∙◌, subst, inl, inr, ⊎_elim, arith, length-set, get_or-set_same, get_or-set_other, ◌-◌, map, ap}
use mathlib.Core.Option.{some}
use lib.ListN.{get_elem?}
use Rattle.spie_base.specs.declared.PageShape.{PageShape}
use Rattle.gate_core.specs.declared.states.PassState.{PassState}
use Rattle.gate_core.specs.declared.states.PassState.TheVariants.{Idle, Looked, Inside, Visiting}
use Rattle.gate_core.specs.declared.states.SlotPhase.TheVariants.{Open}
use Rattle.gate_core.specs.Marks.{width}
use Rattle.gate_core.specs.Views.{Keeper, Duties, View, slot_at, Slot}
use Rattle.gate_core.specs.Acts.{gate_place, bit_place, open_slot, with_duties, open_among}
use Rattle.gate_core.specs.Invariant.{HasPage, page_bit, StateFits, SlotsFit, ActorFits, PlaneFits, PlaneInvariant}
use Rattle.gate_core.specs.declared.steps.Act.TheVariants.{Point}
use Rattle.gate_core.specs.declared.steps.StepAnswer.{StepAnswer}
use Rattle.gate_core.specs.declared.steps.StepAnswer.TheVariants as answer
use Rattle.gate_core.specs.declared.states.ActorState.TheVariants as actor_state
use Rattle.gate_core.specs.declared.core_data.CoreData.{CoreData}
use Rattle.gate_core.specs.declared.core_data.Desk.{Desk}
use Rattle.gate_core.specs.Kept.{notes_of, duties_of, view_of, HasDeskRoom, Holds, DoesAct}
use Rattle.gate_core.proofs.Frame.{page_bit_same}
use Rattle.gate_core.proofs.Slots.{open_is}
use Rattle.gate_core.proofs.Duty.{duty_kept, keeper_fits}
use Rattle.gate_core.proofs.MachineSteps.{desk_less, does_nothing, KeepsPlane}
use Rattle.gate_core.proofs.KeeperSteps.{first_of, DeskBecomes, desk_is, desk_framed, desk_act}
use Rattle.gate_core.proofs.SlotRoom.{HasFamilies}

-- ---- the act keeps the plane invariant

module _ (shape : PageShape) (words : List ℕ) (views : List View) (id : ℕ) (v : View) (there : get_elem? views id ≡ some v) (role : v.role ≡ Keeper) (f : PlaneFits shape words views v.duties v.entries) where
  abbrev d : Duties
  d = v.duties

  module _ (can : open_slot d < 4) where
    abbrev s : ℕ
    s = open_slot d

    abbrev d' : Duties
    d' = record d { pointed = s }

    is_open : (slot_at d s).phase ≡ Open
    is_open = open_is d f.slots.four can

    used : (slot_at d s).used ≡ true
    used = f.slots.stands_used s can (subst HasPage (sym is_open) tt)

    slots' : SlotsFit shape d'
    slots' = let k = f.slots in record {
      four = k.four;
      pointed_slot = can;
      pointed_used = used;
      open_last = k.open_last;
      stands_used = k.stands_used;
      used_below = k.used_below;
      used_apart = k.used_apart;
      page_within = k.page_within;
      placed = k.placed;
      one_list = k.one_list;
      taken_words = k.taken_words;
      taken_short = k.taken_short;
      fits = k.fits;
    }

    state' : (floor : ℕ) (st : PassState) → StateFits shape d floor st → StateFits shape d' floor st
    state' floor Idle k = k
    state' floor (Looked t) k = k
    state' floor (Inside t page sig m) k = k
    state' floor (Visiting t gate) k = k

    actor' : (u : View) → ActorFits shape d u → ActorFits shape d' u
    actor' u k = record {
      state = state' u.floor u.state k.state;
      entries = k.entries;
      ordered = k.ordered;
      last = k.last;
      visits = λ i x at. let z = k.visits i x at in record { sealed_gate = z.sealed_gate; below = z.below; from_floor = z.from_floor; not_open = z.not_open };
      floor = let a = k.floor in let b = f.slots.used_below d.pointed f.slots.pointed_slot f.slots.pointed_used in let c = f.slots.open_last s can is_open in omega arith;
      number = k.number;
      base = k.base;
      gone = k.gone;
    }

    other : (i : ℕ) → 1 ≤ i → get_or (set words 0 s) i 0 ≡ get_or words i 0
    other i big = get_or-set_other words 0 i s 0 (λ e. omega arith)

    bit_same : (t p : ℕ) → page_bit shape (set words 0 s) d' t p ≡ page_bit shape words d t p
    bit_same t p = page_bit_same shape words (set words 0 s) d t p (other (bit_place shape t (p / 64)) (omega arith))

    pub points : PlaneInvariant shape (set words 0 s) (set views id (with_duties v d'))
    points = duty_kept shape words (set words 0 s) views id v d' there role f record {
      long = length-set words 0 s ∙ f.long;
      current_slot = get_or-set_same words 0 s 0 (let a = f.long in omega arith);
      gates = λ t near. other (gate_place t) (omega arith) ∙ f.gates t near;
      slots = slots';
      actors = λ j u at. actor' u (f.actors j u at);
      slot_words = λ t near stands p small. let same : page_bit shape (set words 0 s) d' t p ≡ page_bit shape words d t p = bit_same t p in let old = f.slot_words t near stands p small in ((λ b. old.0 (sym same ∙ b)), (λ m. same ∙ old.1 m));
      collected_words = f.collected_words;
      drained_words = λ t near i lt. other (bit_place shape t i) (omega arith) ∙ f.drained_words t near i lt;
      free_words = λ t near free i lt. other (bit_place shape t i) (omega arith) ∙ f.free_words t near free i lt;
      probes = λ i x at. let k = f.probes i x at in record {
        page_below = k.page_below;
        at_below = k.at_below;
        known = k.known;
        unseen = k.unseen;
        seen = λ one. ⊎_elim inl (λ (t, near, stands, e, b). inr (t, near, stands, e, bit_same t x.at ∙ b)) (k.seen one);
      };
      noted = f.noted;
      out = refl;
    }

-- the same, whoever does it
pub point_keeps : KeepsPlane Point
point_keeps shape words views r id v there alive can = points shape words views id v there can.0 (keeper_fits shape words views r id v there can.0) can.1

-- ---- the act of the machine, from what it wrote

-- not enabled
module _ (m m' : CoreData) (h : Holds m) (reply : StepAnswer) (is : m' ≡ record m { room = m.room - 1 })
    (answers : reply ≡ answer.NotEnabled (actor_state.Keeper (map (λ (x : Slot). x.phase) m.desk.slots))) where
  pub point_declined : ¬ (open_among m.desk.slots 0 < 4) → DoesAct m m' 0 Point reply
  point_declined shut = does_nothing m m' 0 (first_of m h).seat Point (first_of m h).there reply h (λ can. shut can.1) is answers

room_pointed : (wide : ℕ) (desk : Desk) (room pointed : ℕ) → HasDeskRoom wide desk room → HasDeskRoom wide (record desk { pointed = pointed }) (room - 1)
room_pointed wide desk room pointed h = let a = desk_less wide desk room h in record { probes = a.probes; pages = a.pages; spare = a.spare; spare_words = a.spare_words; page_words = a.page_words }

module _ (m m' : CoreData) (h : Holds m) (some_room : 1 ≤ m.room) (reply : StepAnswer) where
  abbrev k : ℕ
  k = open_among m.desk.slots 0

  pointed_at : k < 4 → m'.words.items ≡ set m.words.items 0 k → DeskBecomes m m' (record m.desk { pointed = k }) → reply ≡ answer.Pointed k → DoesAct m m' 0 Point reply
  pointed_at near words others answers =
      let e = sym (desk_is m m' (record m.desk { pointed = k }) others) in
      desk_act m m' (first_of m h).seat Point (first_of m h).there point_keeps reply h (refl, near) (record {
        words = words;
        others = desk_framed m m' (record m.desk { pointed = k }) others;
        duties = ap (λ (d : Desk). let v : View = record (view_of (notes_of m) 0 (first_of m h).seat.state) { duties = duties_of d (length m.seats.items - 1) } in v) (sym e);
        none = refl;
        room = subst (λ (d : Desk). HasDeskRoom (width m.shape) d (m.room - 1)) e (room_pointed (width m.shape) m.desk m.room k h.desk);
        families = subst (HasFamilies m.shape) e h.families;
      }) answers

  pub point_done : (slot : ℕ) → slot ≡ k → slot < 4 → m'.words.items ≡ set m.words.items 0 slot → DeskBecomes m m' (record m.desk { pointed = slot }) → reply ≡ answer.Pointed slot → DoesAct m m' 0 Point reply
  point_done slot e = let P : ℕ → Type 0 = λ i. i < 4 → m'.words.items ≡ set m.words.items 0 i → DeskBecomes m m' (record m.desk { pointed = i }) → reply ≡ answer.Pointed i → DoesAct m m' 0 Point reply in subst P (sym e) pointed_at
