use Rattle.std.proofs.Common.{◌∙◌, sym, ap, subst}
use Rattle.atomic_table.specs.Table.{Me}
use Rattle.spie_base.specs.declared.PageShape.{PageShape}
use Rattle.gate_core.specs.declared.view.View.{View}
use Rattle.gate_core.specs.Invariant.{IsWhole}
use Rattle.gate_core.specs.Acts.{CanLook}
use Rattle.gate_core.proofs.Alone.{met_whole, met_alone}
use Rattle.page_gate.specs.Held.{PlaneId, Held, WasAlone}
use Rattle.page_gate.specs.Steps.{Nothing, IsMet}
use Rattle.page_gate.proofs.plane.Plane.attest.Goals as goal

pub returns-clause-whole : goal.returns-clause-whole
returns-clause-whole c = let same = c.attest.ensures.same.2 in let s = c.attest.new.seat in let m = c.attest.ensures.met in
    subst (λ (h : PageShape). IsWhole h s.me.0) (ap (λ (x : PlaneId). x.shape) c.self.view_is)
    (met_whole c.self.inside.words.shape s.me.0 0 c.attest.result m (ap (λ (m : Me Nothing View). m.0.role) same ∙ c.keeper.invariant.2)
    (ap (λ (m : Me Nothing View). m.0.duties.out) same ∙ (ap (λ (x : Held). x.view.duties.out) c.keeper.view_is ∙ c.requires.alone)))

pub returns-clause-met : goal.returns-clause-met
returns-clause-met c = subst (λ (h : PageShape). IsMet h c.attest.new.seat.me.0) (ap (λ (x : PlaneId). x.shape) c.self.view_is) (0, c.attest.result, c.attest.ensures.met)

pub returns-clause-alone : goal.returns-clause-alone
returns-clause-alone c = let same = c.attest.ensures.same.2 in let s = c.attest.new.seat in let m = c.attest.ensures.met in
    let idle : CanLook s.me.0.state = subst CanLook (sym (ap (λ (m : Me Nothing View). m.0.state) same ∙ c.keeper.invariant.1)) tt in
    subst (λ (h : PageShape). WasAlone h s.me.0) (ap (λ (x : PlaneId). x.shape) c.self.view_is) (
      m.words,
      met_alone c.self.inside.words.shape s.me.0 0 c.attest.result m (ap (λ (m : Me Nothing View). m.0.role) same ∙ c.keeper.invariant.2)
          (ap (λ (m : Me Nothing View). m.0.duties.out) same ∙ (ap (λ (x : Held). x.view.duties.out) c.keeper.view_is ∙ c.requires.alone)) idle,
    )
