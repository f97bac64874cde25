use Rattle.std.proofs.Common.{◌≤◌, ◌*◌, ℕ, refl, sym, subst}
use Rattle.gate_core.specs.Marks.{width}
use Rattle.gate_core.specs.Kept.{paid_by, HasDeskRoom}
use Rattle.gate_core.specs.Sound.{HasLists}
use Rattle.gate_core.proofs.GrownRoom.{grown_sound, paid_most, same_desk, lists_of}
use Rattle.gate_core.proofs.core_data.CoreData.reserve.Goals as goal

pub reserve-requires-3-clause-most : goal.reserve-requires-3-clause-most
reserve-requires-3-clause-most c =
    subst (λ (w : ℕ). paid_by w c.args.self.now.desk.slots ≤ 4 * w) (sym c.width.ensures.exact) (paid_most c.args.self.now c.requires)

pub returns-in_err-reserve-clause-sound : goal.returns-in_err-reserve-clause-sound
returns-in_err-reserve-clause-sound c = let m = c.args.self.now in let h = c.requires.holds in
    grown_sound m c.reserve.new.self m.visits m.desk m.room c.reserve.ensures.items c.reserve.ensures.places refl refl (same_desk m.desk) c.requires
    (c.reserve.ensures.kept m.room h.entries) h.visits h.desk

pub returns-in_err-reserve-2-clause-sound : goal.returns-in_err-reserve-2-clause-sound
returns-in_err-reserve-2-clause-sound c = let m = c.args.self.now in let h = c.requires.holds in
    grown_sound m c.reserve.new.self c.reserve-2.new.self m.desk m.room c.reserve.ensures.items c.reserve.ensures.places c.reserve-2.ensures.items c.reserve-2.ensures.places (same_desk m.desk) c.requires
    (c.reserve.ensures.kept m.room h.entries) (c.reserve-2.ensures.kept m.room h.visits) h.desk

pub returns-in_err-reserve-3-clause-sound : goal.returns-in_err-reserve-3-clause-sound
returns-in_err-reserve-3-clause-sound c = let m = c.args.self.now in let h = c.requires.holds in
    let wide = c.width.ensures.exact in
    let desk : HasDeskRoom (width m.shape) c.reserve-3.new.self m.room =
    subst (λ (w : ℕ). HasDeskRoom w c.reserve-3.new.self m.room) wide (c.reserve-3.ensures.kept m.room (subst (λ (w : ℕ). HasDeskRoom w m.desk m.room) (sym wide) h.desk)) in
    grown_sound m c.reserve.new.self c.reserve-2.new.self c.reserve-3.new.self m.room c.reserve.ensures.items c.reserve.ensures.places c.reserve-2.ensures.items c.reserve-2.ensures.places c.reserve-3.ensures.same c.requires
    (c.reserve.ensures.kept m.room h.entries) (c.reserve-2.ensures.kept m.room h.visits) desk

pub returns-clause-sound : goal.returns-clause-sound
returns-clause-sound c = let m = c.args.self.now in let h = c.requires.holds in
    let wide = c.width.ensures.exact in
    let lists : HasLists c.width.result m.desk = subst (λ (w : ℕ). HasLists w m.desk) (sym wide) (lists_of (width m.shape) m.desk m.room h.desk) in
    let desk : HasDeskRoom (width m.shape) c.reserve-3.new.self c.args.steps = subst (λ (w : ℕ). HasDeskRoom w c.reserve-3.new.self c.args.steps) wide (c.in_ok-reserve-3.ensures.ok lists) in
    grown_sound m c.reserve.new.self c.reserve-2.new.self c.reserve-3.new.self c.args.steps c.reserve.ensures.items c.reserve.ensures.places c.reserve-2.ensures.items c.reserve-2.ensures.places c.reserve-3.ensures.same c.requires
    (c.in_ok-reserve.ensures.ok m.room h.entries) (c.in_ok-reserve-2.ensures.ok m.room h.visits) desk
