use Rattle.index_rings.proofs.Grown.{filed_none}
use Rattle.index_rings.proofs.chains.Chains.new.Goals as goal

pub returns-clause-holds : goal.returns-clause-holds
returns-clause-holds c = λ label. filed_none _ _ label c.new.ensures c.new-2.ensures.items
