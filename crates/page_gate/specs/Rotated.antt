-- The keeper once it has closed the open page and opened the next one.
use Rattle.std.specs.Prelude.{ℕ, Bool}
use Rattle.std.specs.List.{position_or_len}
use Rattle.gate_core.specs.declared.states.SlotPhase.TheVariants.{Sealed}
use Rattle.gate_core.specs.declared.view.Slot.{Slot}
use Rattle.gate_core.specs.declared.view.Duties.{Duties}
use Rattle.gate_core.specs.declared.view.View.{View}
use Rattle.gate_core.specs.Acts.{open_slot, in_phase, with_duties, after_open}
use Rattle.page_gate.specs.Held.{Held}
use Rattle.page_gate.specs.Slots.{is_free}

-- whether a slot is free
abbrev pub is_free_slot : Slot → Bool
is_free_slot x = is_free x.phase

-- the first slot that is free, or as many as there are
abbrev pub free_slot : Duties → ℕ
free_slot d = position_or_len is_free_slot d.slots

-- the open page is sealed, the next one is open in the slot, and the slot is the current one
abbrev pub rotated_to : View → (slot : ℕ) → View
rotated_to v s =
    let sealed = with_duties v (in_phase v.duties (open_slot v.duties) Sealed) in
    let opened = after_open sealed s in
    with_duties opened (record opened.duties { pointed = s })

-- the same of a keeper, in the first slot that is free
abbrev pub rotated_held : Held → Held
rotated_held keeper = record keeper { view = rotated_to keeper.view (free_slot keeper.view.duties) }
