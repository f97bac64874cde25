use Rattle.std.proofs.Common.{[], ◌∙◌, arith}
use Rattle.index_rings.proofs.chains.Chains.with_chains.Goals as goal

pub loop-chain-preserved : goal.loop-chain-preserved
loop-chain-preserved c =
    let e = c.in_ok-add_chain.ensures in let i = c.loop-chain.invariant in
    (omega (arith, e.more, i.0), e.places ∙ i.1, λ label. e.kept label [] (i.2 label))
