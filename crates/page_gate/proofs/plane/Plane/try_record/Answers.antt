use Rattle.std.proofs.Common.{◌∙◌, sym, ap, subst}
use Rattle.gate_core.specs.declared.view.View.{View}
use Rattle.page_gate.specs.declared.record.Tried.{Tried}
use Rattle.page_gate.specs.Tried.{Tells}
use Rattle.page_gate.specs.Lasts.{last_of, last_of-snoc}
use Rattle.page_gate.proofs.Rising.{rises}
use Rattle.page_gate.proofs.plane.Plane.try_record.Goals as goal

pub invariant_of-pass : goal.invariant_of-pass
invariant_of-pass c = let p = c.pass.inside in let inv = c.pass.invariant in let shape = c.self.inside.words.shape in
    let t = subst (λ (r : Tried). Tells shape c.args.sig.now p.seat c.record_by-tried.new.seat r) c.in-Entered.is c.record_by-tried.ensures.tells in let role = ap (λ (u : View). u.role) t.3 ∙ inv.2 in (
      sym (ap (λ (u : View). last_of u.entries) t.3 ∙ last_of-snoc p.seat.me.0.entries (record { page = c.in-Entered.page; sig = c.args.sig.now })),
      ap (λ (u : View). u.state) t.3,
      role,
      t.2 ∙ inv.3,
      rises shape c.record_by-tried.new.seat.me.0 c.record_by-tried.ensures.met role,
    )
