use Rattle.std.proofs.Common.{ℕ, ◌≤◌, subst}
use Rattle.page_gate.specs.Held.{Held}
use Rattle.page_gate.specs.Slots.{IsWaiting}
use Rattle.page_gate.proofs.FourSlots.{least_shown, none_shown}
use Rattle.page_gate.proofs.keeper.Keeper.oldest.Goals as goal

pub returns-in-Some-clause-waiting : goal.returns-in-Some-clause-waiting
returns-in-Some-clause-waiting c = let k = c.self.inside in let inv = c.self.invariant in
    subst (λ (h : Held). IsWaiting h.view.duties c.in-Some.number) c.self.view_is (least_shown k.seat.me.0.duties inv.5 k.slots c.in-Some.number inv.4 c.in-Some.ensures).0

pub returns-in-Some-clause-least : goal.returns-in-Some-clause-least
returns-in-Some-clause-least c = let k = c.self.inside in let inv = c.self.invariant in
    subst (λ (h : Held). (other : ℕ) → IsWaiting h.view.duties other → c.in-Some.number ≤ other) c.self.view_is (least_shown k.seat.me.0.duties inv.5 k.slots c.in-Some.number inv.4 c.in-Some.ensures).1

pub returns-in-None-clause-none : goal.returns-in-None-clause-none
returns-in-None-clause-none c = λ _. let k = c.self.inside in let inv = c.self.invariant in
    subst (λ (h : Held). (page : ℕ) → IsWaiting h.view.duties page → ⊥) c.self.view_is (none_shown k.seat.me.0.duties inv.5 k.slots inv.4 c.in-None.ensures)
