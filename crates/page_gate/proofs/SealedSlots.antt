-- The keeper's own slots, when the open one is sealed.
use Rattle.std.proofs.Common.{◌≡◌, ℕ, ◌<◌, List, length, get_or, set, arith, length-set, ◌∙◌}
use Rattle.spie_base.specs.declared.PageShape.{PageShape}
use Rattle.gate_core.specs.declared.states.SlotPhase.{SlotPhase}
use Rattle.gate_core.specs.declared.states.SlotPhase.TheVariants.{Sealed}
use Rattle.gate_core.specs.declared.view.Slot.{Slot}
use Rattle.gate_core.specs.declared.view.Duties.{Duties}
use Rattle.gate_core.specs.declared.view.View.{View}
use Rattle.gate_core.specs.declared.view.Role.TheVariants.{Keeper}
use Rattle.gate_core.specs.Views.{no_slot}
use Rattle.gate_core.specs.Acts.{open_slot, phased_slot, in_phase}
use Rattle.gate_core.proofs.Readings.{met_fits}
use Rattle.gate_core.proofs.OpenSlot.{sealed_none}
use Rattle.page_gate.specs.Steps.{IsMet}
use Rattle.page_gate.specs.Slots.{HasOpen}

pub slot_rephased : (d : Duties) (xs : List Slot) (s t : ℕ) (ph : SlotPhase) → xs ≡ d.slots → t ≡ s → set xs t (record { phase = ph; page = (get_or xs t no_slot).page; used = (get_or xs t no_slot).used }) ≡ (in_phase d s ph).slots
slot_rephased d xs s t ph e f = λ k. set (e k) (f k) (record { phase = ph; page = (get_or (e k) (f k) no_slot).page; used = (get_or (e k) (f k) no_slot).used })

pub still_four : (d : Duties) (s : ℕ) (ph : SlotPhase) → length d.slots ≡ 4 → length (in_phase d s ph).slots ≡ 4
still_four d s ph four = length-set d.slots s (phased_slot d s ph) ∙ four

-- no slot is open then
pub none_open : (shape : PageShape) (v : View) → IsMet shape v → v.role ≡ Keeper → open_slot v.duties < 4 → HasOpen (in_phase v.duties (open_slot v.duties) Sealed) → ⊥
none_open shape v (at, word, m) role low has =
    let f = met_fits shape v role at word m in
    let none = sealed_none shape m.words m.views v.duties v.entries f low in
    let has' : open_slot (in_phase v.duties (open_slot v.duties) Sealed) < 4 = has in omega arith
