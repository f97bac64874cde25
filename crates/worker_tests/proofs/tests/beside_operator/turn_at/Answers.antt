use Rattle.std.proofs.Common.{get_or, sym, ap, ◌∙◌}
use Rattle.std.proofs.Math.Seq.{map-set_same}
use Rattle.std.proofs.lemmas.List.{get_or-map}
use Rattle.page_gate.specs.Held.{PlaneId, Held}
use Rattle.worker_tests.proofs.tests.beside_operator.turn_at.Goals as goal

pub turn-requires : goal.turn-requires
turn-requires g c = let bs = c.args.planes.now in let ks = c.args.keepers.now in let at = c.args.at in let k = c.index-keepers-at.result in
    sym (get_or-map (λ (x : Held). x.table) ks at k k.table c.if-at-keepers.true) ∙ ap (λ ts. get_or ts at k.table) c.requires ∙ get_or-map (λ (x : PlaneId). x.table) bs at c.index-planes-at.result k.table c.if-at-planes.true
    ∙ ap (λ b. b.table) (sym c.index-planes-at.is)

pub returns-then-at-keepers : goal.returns-then-at-keepers
returns-then-at-keepers g c = map-set_same (λ (x : Held). x.table) c.args.keepers.now c.args.at c.turn.new.keeper c.index-keepers-at.result c.turn.ensures
