use Rattle.std.proofs.Common.{refl, ap, ◌∙◌}
use mathlib.Core.Option.{none}
use Rattle.atomic_table.specs.Table.{step}
use Rattle.gate_core.specs.declared.steps.Act.{Act}
use Rattle.gate_core.specs.declared.steps.Act.TheVariants as act
use Rattle.gate_core.specs.Acts.{word_of}
use Rattle.page_gate.proofs.Allowed.{allowed_at}
use Rattle.page_gate.proofs.words.Words.probe_as.Goals as goal

pub load-requires : goal.load-requires
load-requires g c = let shared = c.args.self.now.table.shared in let r = c.requires in let wide = c.args.self.now.wide in (
  r.seat.0,
  r.word.1,
  allowed_at shared.key g.W.Told.shape g.W.Told.act (act.Probe c.args.slot c.args.at) shared.table_id.slots c.args.seat.now.id c.args.seat.now.me (step shared.table_id.slots c.args.word 0 0 none) r.told.0 r.told.1 r.seat.1.0 r.seat.1.1
      (c.args.word) (λ n. n) (r.word.0 ∙ ap (λ (x : Act). word_of g.W.Told.shape x c.args.seat.now.me.0) r.told.1) (λ n. refl),
)
