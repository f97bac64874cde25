-- `probe`: one bit of a page in a slot.
use Rattle.std.proofs.Common.{◌≡◌, ℕ, ◌/◌, ◌%◌, ◌<◌, ◌≤◌, ◌==◌, List, [], ◌∷◌, ◌++◌, length, get_or, set, sym, refl, ◌∙◌, subst, inl, inr, ⊎_elim, arith, le_refl, ◌-◌, map, ap, length-append}
use Rattle.std.specs.Int.{bit_at}
use Rattle.std.proofs.lemmas.Bool.{eqb-true, eq-eqb, false≢true}
use Rattle.std.proofs.lemmas.List.{set-get_or}
use mathlib.Core.Option.{some}
use lib.ListN.{get_elem?}
use Rattle.spie_base.specs.declared.PageShape.{PageShape}
use Rattle.gate_core.specs.declared.states.SlotPhase.{SlotPhase}
use Rattle.gate_core.specs.declared.states.SlotPhase.TheVariants.{Free, Open, Sealed, Quiet}
use Rattle.gate_core.specs.Marks.{size, width}
use Rattle.gate_core.specs.Views.{Probed, Keeper, Duties, View, slot_at, Slot}
use Rattle.gate_core.specs.Acts.{bit_place, with_duties, after_probe, CanProbe}
use Rattle.gate_core.specs.Invariant.{HasPage, taken, page_bit, ProbeFits, PlaneFits, PlaneInvariant}
use Rattle.std.specs.Prelude.{vec_capacity, Vec}
use Rattle.std.specs.declared.alloc.Global.{Global}
use Rattle.gate_core.specs.declared.steps.Act.TheVariants.{Probe}
use Rattle.gate_core.specs.declared.steps.StepAnswer.{StepAnswer}
use Rattle.gate_core.specs.declared.steps.StepAnswer.TheVariants as answer
use Rattle.gate_core.specs.declared.states.ActorState.TheVariants as actor_state
use Rattle.gate_core.specs.declared.core_data.CoreData.{CoreData}
use Rattle.gate_core.specs.declared.core_data.Desk.{Desk}
use Rattle.gate_core.specs.Kept.{notes_of, duties_of, view_of, HasDeskRoom, Holds, DoesAct}
use Rattle.gate_core.specs.Desks.{slot_in}
use Rattle.gate_core.proofs.Lists.{at_snoc}
use Rattle.gate_core.proofs.Bits.{page_bit_none}
use Rattle.gate_core.proofs.Duty.{duty_kept, keeper_fits}
use Rattle.gate_core.proofs.MachineSteps.{does_nothing, KeepsPlane}
use Rattle.gate_core.proofs.KeeperSteps.{first_of, desk_is, desk_framed, desk_only, word_read, desk_act}
use Rattle.gate_core.proofs.SlotRoom.{HasFamilies}

-- ---- the act keeps the plane invariant

module _ (shape : PageShape) (words : List ℕ) (views : List View) (id : ℕ) (v : View) (there : get_elem? views id ≡ some v) (role : v.role ≡ Keeper) (f : PlaneFits shape words views v.duties v.entries) where
  abbrev d : Duties
  d = v.duties

  module _ (s p : ℕ) (near : s < 4) (below : p < size shape) (can : CanProbe (slot_at d s).phase) where
    abbrev n : ℕ
    n = get_or words (bit_place shape s (p / 64)) 0

    probe_stands : (ph : SlotPhase) → CanProbe ph → HasPage ph × (taken ph ≡ 0)
    probe_stands Free c = absurd c
    probe_stands Open c = (tt, refl)
    probe_stands Sealed c = (tt, refl)
    probe_stands (Quiet next) c = (tt, c)

    abbrev seen : Probed
    seen = record { page = (slot_at d s).page; at = p; bit = bit_at n (p % 64) == 1; known = length v.entries }

    abbrev e' : Duties
    e' = record d { probes = d.probes ++ seen ∷ [] }

    is_bit : page_bit shape words d s p ≡ bit_at n (p % 64)
    is_bit = let k = probe_stands (slot_at d s).phase can in page_bit_none shape words d s p (f.slots.taken_words s near k.0 ∙ k.1)

    fit : ProbeFits shape words e' v.entries seen
    fit = let k = probe_stands (slot_at d s).phase can in record {
      page_below = f.slots.used_below s near (f.slots.stands_used s near k.0);
      at_below = below;
      known = le_refl (length v.entries);
      seen = λ one. inr (s, near, k.0, refl, is_bit ∙ eqb-true (bit_at n (p % 64)) 1 one);
      unseen = λ none i e lt at of among. let one = (f.slot_words s near k.0 p below).1 (id, v, there, inl (i, e, at, of, among)) in absurd (false≢true (sym none ∙ eq-eqb (bit_at n (p % 64)) 1 (sym is_bit ∙ one)));
    }

    probes_here : PlaneInvariant shape words (set views id (with_duties v e'))
    probes_here = duty_kept shape words words views id v e' there role f record {
      long = f.long;
      current_slot = f.current_slot;
      gates = f.gates;
      slots = f.slots;
      actors = f.actors;
      slot_words = f.slot_words;
      collected_words = f.collected_words;
      drained_words = f.drained_words;
      free_words = f.free_words;
      probes = λ i x at. ⊎_elim (λ old. f.probes i x old) (λ t. subst (ProbeFits shape words e' v.entries) t.1 fit) (at_snoc d.probes seen x i at);
      noted = f.noted;
      out = refl;
    }

    pub probes : PlaneInvariant shape (set words (bit_place shape s (p / 64)) n) (set views id (after_probe v s p n))
    probes = subst (λ (ws : List ℕ). PlaneInvariant shape ws (set views id (after_probe v s p n))) (sym (set-get_or words (bit_place shape s (p / 64)) 0)) probes_here

-- the same, whoever does it
pub probe_keeps : (s p : ℕ) → KeepsPlane (Probe s p)
probe_keeps s p shape words views r id v there alive can = probes shape words views id v there can.0 (keeper_fits shape words views r id v there can.0) s p can.1 can.2 can.3

-- ---- the act of the machine, from what it wrote

-- what a probe notes, with so many entries known
abbrev probe_with : CoreData → (slot at known : ℕ) → Probed
probe_with m s at known = record { page = (slot_in m.desk s).page; at = at; bit = bit_at (get_or m.words.items (bit_place m.shape s (at / 64)) 0) (at % 64) == 1; known = known }

abbrev with_probes : Desk → Vec Probed Global → Desk
with_probes desk probes = record desk { probes = probes }

room_probed : (wide : ℕ) (desk : Desk) (probes : Vec Probed Global) (room : ℕ) (x : Probed) → HasDeskRoom wide desk room → 1 ≤ room → probes.items ≡ desk.probes.items ++ x ∷ [] → vec_capacity probes ≡ vec_capacity desk.probes
    → HasDeskRoom wide (with_probes desk probes) (room - 1)
room_probed wide desk probes room x h some_room items same = record {
  probes = let a = h.probes in let b = ap length items in let e = length-append desk.probes.items (x ∷ []) in omega (arith, probes.ok.0, desk.probes.ok.0);
  pages = h.pages;
  spare = let a = h.spare in omega arith;
  spare_words = h.spare_words;
  page_words = h.page_words;
}

module _ (m m' : CoreData) (h : Holds m) (some_room : 1 ≤ m.room) (s at : ℕ) (near : s < 4) (within : at < size m.shape) (stands : CanProbe (slot_in m.desk s).phase) (reply : StepAnswer) where
  abbrev p : ℕ
  p = length m.seats.items - 1

  abbrev v : View
  v = view_of (notes_of m) 0 (first_of m h).seat.state

  abbrev to : Desk
  to = with_probes m.desk m'.desk.probes

  pub probe_done : m' ≡ record m { desk = with_probes m.desk m'.desk.probes; room = m.room - 1 } → m'.desk.probes.items ≡ m.desk.probes.items ++ probe_with m s at m.entries.own ∷ [] → vec_capacity m'.desk.probes ≡ vec_capacity m.desk.probes
      → reply ≡ answer.Bit (bit_at (get_or m.words.items (bit_place m.shape s (at / 64)) 0) (at % 64) == 1) → DoesAct m m' 0 (Probe s at) reply
  probe_done is items same answers =
      let others = desk_only m m' to is in
      let e = sym (desk_is m m' to others) in
      desk_act m m' (first_of m h).seat (Probe s at) (first_of m h).there (probe_keeps s at) reply h (refl, near, within, stands) (record {
        words = word_read m m' to (bit_place m.shape s (at / 64)) is;
        others = desk_framed m m' to others;
        duties = ap (λ (d : Desk). with_duties v (duties_of d p)) (sym e)
            ∙ (ap (λ (l : List Probed). with_duties v (record (duties_of m.desk p) { probes = l })) items
            ∙ ap (λ (k : ℕ). with_duties v (record (duties_of m.desk p) { probes = m.desk.probes.items ++ probe_with m s at k ∷ [] })) h.entries.own);
        none = refl;
        room = subst (λ (d : Desk). HasDeskRoom (width m.shape) d (m.room - 1)) e (room_probed (width m.shape) m.desk m'.desk.probes m.room (probe_with m s at m.entries.own) h.desk some_room items same);
        families = subst (HasFamilies m.shape) e h.families;
      }) answers

pub probe_declined : (m m' : CoreData) (h : Holds m) (s at : ℕ) (reply : StepAnswer) → ¬ CanProbe (slot_in m.desk s).phase → m' ≡ record m { room = m.room - 1 }
    → reply ≡ answer.NotEnabled (actor_state.Keeper (map (λ (x : Slot). x.phase) m.desk.slots)) → DoesAct m m' 0 (Probe s at) reply
probe_declined m m' h s at reply other is answers = does_nothing m m' 0 (first_of m h).seat (Probe s at) (first_of m h).there reply h (λ can. other can.3) is answers
