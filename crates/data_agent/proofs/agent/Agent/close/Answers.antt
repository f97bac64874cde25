use Rattle.std.proofs.Common.{refl, sym, subst, Some, None}
use Rattle.data_agent.specs.Passing.{IsTicked}
use Rattle.data_agent.proofs.Passing.{clock_after, not_ticked, ticked_none, ticked_some}
use Rattle.data_agent.proofs.Planes.{recorded_before}
use Rattle.data_agent.proofs.Results.{on_err}
use Rattle.data_agent.proofs.agent.Agent.close.Goals as goal

pub returns-in_default-clause-ticked : goal.returns-in_default-clause-ticked
returns-in_default-clause-ticked c = λ rules l u s.
    subst (λ tick. IsTicked rules l u c.args.clock tick None c.due_bits.new.self) (sym c.if-not-tick.false)
    (ticked_none c.due_bits.new.self rules l u c.args.clock (c.due_bits.ensures.same rules l u s) (c.in_default.ensures.bits rules l u s))

pub returns-clause-ticked : goal.returns-clause-ticked
returns-clause-ticked c = λ rules l u s.
    subst (λ tick. IsTicked rules l u c.args.clock tick (Some (record { page = c.args.self.now.page; bits = c.in-Some.bits })) c.renew.new.self) (sym c.if-not-tick.false)
    (ticked_some c.args.self.now c.renew.new.self rules l u c.args.clock c.args.self.now.page c.in-Some.bits s refl
    (c.in-Some.ensures.bits rules l u s) (c.in_ok-renew.ensures.turned rules l u (c.due_bits.ensures.same rules l u s)))

pub returns-clause-later : goal.returns-clause-later
returns-clause-later c = clock_after c.args.self.now c.renew.new.self c.args.clock c.args.tick c.requires.ready
    (λ rules l u s. c.in_ok-renew.ensures.turned rules l u (c.due_bits.ensures.same rules l u s))

pub due_bits-requires-clause-stands : goal.due_bits-requires-clause-stands
due_bits-requires-clause-stands c = let (rules, l, u, s, late, room) = c.requires.ready in (rules, l, s.stands)

pub returns-in_err-renew-clause-recorded : goal.returns-in_err-renew-clause-recorded
returns-in_err-renew-clause-recorded c = on_err _ (recorded_before c.args.self.now c.due_bits.new.self c.renew.new.self c.args.clock c.due_bits.ensures.same c.in_err-renew.ensures.recorded)

pub returns-then-not-tick-clause-ticked : goal.returns-then-not-tick-clause-ticked
returns-then-not-tick-clause-ticked c = λ rules l u s.
    subst (λ tick. IsTicked rules l u c.args.clock tick None c.args.self.now) (sym c.if-not-tick.true) (not_ticked c.args.self.now rules l u c.args.clock s)
