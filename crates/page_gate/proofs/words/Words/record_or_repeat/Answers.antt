use Rattle.std.proofs.Common.{sym, ap, subst}
use Rattle.atomic_table.specs.Table.{Me}
use Rattle.gate_core.specs.declared.view.View.{View}
use Rattle.page_gate.specs.Steps.{Nothing}
use Rattle.page_gate.specs.Repeats.{CanRepeat}
use Rattle.page_gate.proofs.words.Words.record_or_repeat.Goals as goal

pub repeat-requires-clause-known : goal.repeat-requires-clause-known
repeat-requires-clause-known c = let r = c.requires in let e = c.are_known.ensures in
    subst (λ (u : View). CanRepeat c.args.self.now.shape u c.args.page c.args.sig.now) (sym (ap (λ (m : Me Nothing View). m.0) e.same.2)) (c.args.slot, r.open.0, e.known c.if-are_known.true)
