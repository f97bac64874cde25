use Rattle.std.proofs.Common.{rules, ◌≡◌, true, false, sym, ◌∙◌}
use Rattle.packet_signature.proofs.Restoring.{agree-last}
use Rattle.packet_signature.proofs.transforms.agrees.Goals.{then-eq, else-eq}
use Rattle.packet_signature.proofs.transforms.agrees.Goals as goal

pub returns-then-eq-2-clause-exact : goal.returns-then-eq-2-clause-exact
returns-then-eq-2-clause-exact c =
    elim c.if-eq.branch [
      | then-eq w ↦ agree-last c.args.old.now c.args.new.now _ _ _ (search rules) (search rules) c.eq.ensures w.eq-then-eq.ensures c.eq-then-eq-2.ensures w.if-eq.true (sym w.value-is ∙ c.if-eq-2.true)
      | else-eq w ↦ absurd (let f : false ≡ true = sym w.if-eq.false ∙ sym w.value-is ∙ c.if-eq-2.true in cc)
    ]
