use Rattle.std.proofs.Common.{arith}
use Rattle.agent_wire.specs.Sets.{HasLess}
use Rattle.agent_wire.proofs.SetFacts.{all_taken, drop_one, exact_order, less_turn}
use Rattle.agent_wire.proofs.known.forget.Goals as goal

pub loop-item-preserved : goal.loop-item-preserved
loop-item-preserved g c =
    let o = exact_order _ _ g.met.T.Ord.total g.met.T.Eq.laws g.met.T.Ord.matches_eq c.requires.exact in
    less_turn _ _ _ _ _ _ c.loop-item-test.true c.item-item.is c.loop-item.invariant (drop_one _ o _ _ _ c.remove.ensures.updates.0)

pub returns : goal.returns
returns g c =
    let end = c.loop-item-test.false in
    let most = c.loop-item.auto.item-index-end in
    all_taken (λ xs. HasLess c.args.known.now c.loop-item.known xs) c.args.items.now c.loop-item.item-index (omega (arith, end, most)) c.loop-item.invariant
