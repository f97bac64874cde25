use Rattle.std.proofs.Common.{◌≡◌, length, ◌∙◌, ap, sym, arith}
use Rattle.gate_core.specs.Core.{Core, place_of}
use Rattle.gate_core.specs.Kept.{notes_of}
use Rattle.gate_core.proofs.KeptViews.{length-views_from}
use Rattle.gate_core.proofs.StaysSound.{still_sound}
use Rattle.gate_core.proofs.core_state.CoreState.step.Goals as goal

pub invariant_of-self : goal.invariant_of-self
invariant_of-self c =
    let m = c.self.inside.kept in
    let seats : length m.seats.items ≡ length c.args.self.now.views = sym (length-views_from (notes_of m) 0 m.seats.items) ∙ ap (λ (k : Core). length k.views) c.self.view_is in
    still_sound m c.act.new.self (place_of c.args.step.now.actor) c.args.step.now.act c.act.result c.self.invariant (let a = c.requires.able.actor in omega arith) c.act.ensures
