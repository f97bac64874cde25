use Rattle.std.proofs.Common.{◌≡◌, sym, ◌∙◌, arith}
use Rattle.gate_core.proofs.OpenSlot.{open_found, open_later, open_none}
use Rattle.gate_core.proofs.acts.parts.open_slot.Goals as goal

pub returns-then-is_open : goal.returns-then-is_open
returns-then-is_open c = sym (open_found c.args.slots.now c.loop-s.s _ (omega arith) (c.is_open.ensures.0 c.if-is_open.true)) ∙ c.loop-s.invariant

pub loop-s-preserved : goal.loop-s-preserved
loop-s-preserved c = sym (open_later c.args.slots.now c.loop-s.s _ (omega arith) (λ e. let y = c.is_open.ensures.1 e in let n = c.if-is_open.false in cc)) ∙ c.loop-s.invariant

pub returns : goal.returns
returns c = let e : c.loop-s.s ≡ 4 = omega (arith, c.loop-s.auto.s-end, c.loop-s-test.false) in sym (open_none c.args.slots.now c.loop-s.s (omega arith) ∙ e) ∙ c.loop-s.invariant
