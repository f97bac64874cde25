use Rattle.indirect_store.proofs.Stored.{store_none}
use Rattle.indirect_store.proofs.store.Store.new.Goals as goal

pub invariant_of-result : goal.invariant_of-result
invariant_of-result c = store_none c.new.result c.in_ok-with_chains.field-0 c.new.ensures.empty c.in_ok-with_chains.ensures.chains c.in_ok-with_chains.ensures.holds
