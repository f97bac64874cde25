use Rattle.std.proofs.Common.{arith, subst}
use mathlib.Core.Option.{none}
use Rattle.atomic_table.specs.Table.{step}
use Rattle.spie_base.specs.declared.PageShape.{PageShape}
use Rattle.page_gate.specs.Repeats.{CanRepeat}
use Rattle.page_gate.proofs.Repeating.{repeat_allowed}
use Rattle.page_gate.proofs.words.Words.repeat_as.Goals as goal

pub load-requires : goal.load-requires
load-requires g c = let k = c.args.seat.now in let plane = c.args.self.now in let shared = plane.table.shared in let r = c.requires in let wide = plane.wide in let e = g.W.Names.entry in (
  r.table,
  omega arith,
  repeat_allowed shared.key shared.table_id.slots k.id k.me e (step shared.table_id.slots 0 0 0 none) (subst (λ (h : PageShape). CanRepeat h k.me.0 e.page e.sig) plane.keyed r.known),
)
