use Rattle.std.proofs.Common.{◌+◌, ◌-◌, ◌^◌, ◌∙◌, min, ap, refl}
use Rattle.page_gate.specs.Held.{Held}
use Rattle.data_agent.proofs.Planes.{own_bare}
use Rattle.data_agent.proofs.Recording.{recorded}
use Rattle.data_agent.proofs.agent.Agent.forward.Goals as goal

pub record_alone-page-requires-clause-alone : goal.record_alone-page-requires-clause-alone
record_alone-page-requires-clause-alone c = let (rules, l, u, s) = c.requires.stands in s.amid.pages.keeping.alone

pub record_alone-page-requires-clause-open : goal.record_alone-page-requires-clause-open
record_alone-page-requires-clause-open c = let (rules, l, u, s) = c.requires.stands in s.amid.pages.keeping.has_open

pub returns-clause-own : goal.returns-clause-own
returns-clause-own c = own_bare c.args.plane.now c.args.self.now _ c.requires.own (ap (λ (k : Held). k.table) c.record_alone-page.ensures.recorded) refl refl refl

pub returns-clause-page : goal.returns-clause-page
returns-clause-page c = λ rules l u s. c.record_alone-page.ensures.page ∙ s.amid.pages.keeping.open_is

pub returns-clause-recorded : goal.returns-clause-recorded
returns-clause-recorded c = λ rules l u s.
    recorded c.args.self.now _ _ _ c.record_alone-page.result rules l u c.args.sig.now s c.record_alone-page.ensures.page c.record_alone-page.ensures.recorded (c.saturating_add-self.ensures ∙ ap (λ k. min (c.args.self.now.marked + k) (2 ^ 32 - 1)) c.from.ensures)
