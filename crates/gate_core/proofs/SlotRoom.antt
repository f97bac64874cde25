-- What a slot that changes leaves of the room for steps, and of the hash functions of the pages in slots.
use Rattle.std.proofs.Common.{◌≡◌, ℕ, zero, suc, ◌+◌, ◌-◌, ◌<◌, ◌≤◌, List, [], ◌∷◌, length, get_or, set, sym, ap, ◌∙◌, arith}
use Rattle.std.specs.Prelude.{slice_get, Some}
use Rattle.spie_base.specs.declared.PageShape.{PageShape}
use Rattle.hash_family.specs.Positions.{family_of}
use Rattle.gate_core.specs.declared.states.SlotPhase.{SlotPhase}
use Rattle.gate_core.specs.declared.core_data.Desk.{Desk}
use Rattle.gate_core.specs.Views.{Slot, no_slot, slot_at}
use Rattle.gate_core.specs.Kept.{duties_of, paid, paid_by, HasDeskRoom}
use Rattle.gate_core.specs.Desks.{slot_in, phased}
use Rattle.gate_core.proofs.Slots.{page_same}

-- one slot's part of what is paid
pub paid_by-set : (wide : ℕ) (xs : List Slot) (s : ℕ) (x : Slot) → s < length xs → paid_by wide (set xs s x) + paid wide (get_or xs s no_slot).phase ≡ paid_by wide xs + paid wide x.phase
paid_by-set wide [] s x lt = absurd (omega arith)
paid_by-set wide (y ∷ ys) zero x lt = omega arith
paid_by-set wide (y ∷ ys) (suc s) x lt = omega (arith, paid_by-set wide ys s x (omega arith))

-- the hash functions of each slot's page
abbrev pub HasFamilies : PageShape → Desk → Type 0
HasFamilies shape desk = (s : ℕ) → s < 4 → slice_get desk.families s ≡ Some (family_of shape (slot_at (duties_of desk 0) s).page)

-- a slot goes into a phase for which a step pays
pub room_phased : (wide : ℕ) (desk : Desk) (room s : ℕ) (ph : SlotPhase) → HasDeskRoom wide desk room → s < length desk.slots → 1 ≤ room → paid wide ph ≤ paid wide (slot_in desk s).phase + 1 → HasDeskRoom wide (phased desk s ph) (room - 1)
room_phased wide desk room s ph h within some_room pays = record {
  probes = let a = h.probes in omega arith;
  pages = h.pages;
  spare = let a = h.spare in let b = paid_by-set wide desk.slots s (record { phase = ph; page = (slot_in desk s).page; used = (slot_in desk s).used }) within in omega arith;
  spare_words = h.spare_words;
  page_words = h.page_words;
}

pub families_phased : (shape : PageShape) (desk : Desk) (s : ℕ) (ph : SlotPhase) → HasFamilies shape desk → s < length desk.slots → HasFamilies shape (phased desk s ph)
families_phased shape desk s ph h within t near = h t near ∙ ap (λ (p : ℕ). Some (family_of shape p)) (sym (page_same (duties_of desk 0) s ph within t))
