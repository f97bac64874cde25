use Rattle.std.proofs.Common.{arith}
use Rattle.agent_wire.specs.Sets.{HasMore}
use Rattle.agent_wire.proofs.SetFacts.{all_taken, exact_order, more_turn, on_err, put_one, some_more}
use Rattle.agent_wire.proofs.known.put_all.Goals as goal

pub loop-item-preserved : goal.loop-item-preserved
loop-item-preserved g c =
    let o = exact_order _ _ g.met.T.Ord.total g.met.T.Eq.laws g.met.T.Ord.matches_eq c.requires.exact in
    more_turn _ _ _ _ _ _ c.loop-item-test.true c.item-item.is c.loop-item.invariant (put_one _ o _ _ _ c.in_ok-insert.ensures.updates.0)

pub returns-in_err-insert-clause-some : goal.returns-in_err-insert-clause-some
returns-in_err-insert-clause-some g c = on_err _ _ (some_more _ _ _ _ _ c.in_err-insert.ensures.err c.loop-item.invariant)

pub returns-clause-all : goal.returns-clause-all
returns-clause-all g c =
    let end = c.loop-item-test.false in
    let most = c.loop-item.auto.item-index-end in
    all_taken (λ xs. HasMore c.args.known.now c.loop-item.known xs) c.args.items.now c.loop-item.item-index (omega (arith, end, most)) c.loop-item.invariant
