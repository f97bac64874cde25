use Rattle.std.proofs.Common.{◌≡◌, ℕ, get_or, inl, inr, refl, subst, arith, ◌∙◌}
use Rattle.std.proofs.lemmas.Bool.{cases_lt}
use Rattle.std.proofs.lemmas.List.{get_or_default}
use Rattle.page_gate.specs.Held.{PassHeld}
use Rattle.data_agent.specs.Beside.{AreBelow}
use Rattle.data_agent.proofs.passes.most_marked.Goals as goal

pub loop-pass-preserved : goal.loop-pass-preserved
loop-pass-preserved c = λ k d lt.
    elim (cases_lt k c.loop-pass.pass-index) [
      | inl before ↦ c.loop-pass.invariant k d before
      | inr here ↦
          let at : c.loop-pass.pass-index ≡ k = omega arith in
          subst (λ (n : ℕ). AreBelow c.args.page.number (get_or c.args.passes.now n d).entries) at
          (subst (λ (p : PassHeld). AreBelow c.args.page.number p.entries) (c.pass-item.is ∙ get_or_default c.args.passes.now c.loop-pass.pass-index c.pass-item.result d c.loop-pass-test.true) (c.has_recorded.ensures c.if-has_recorded.false))
    ]

pub returns : goal.returns
returns c = inr (refl, λ k d lt. c.loop-pass.invariant k d (omega arith))
