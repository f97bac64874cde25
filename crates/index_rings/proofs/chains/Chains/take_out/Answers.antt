use Rattle.index_rings.proofs.Filed.{filed_fewer}
use Rattle.index_rings.proofs.chains.Chains.take_out.Goals as goal

pub returns-clause-taken : goal.returns-clause-taken
returns-clause-taken c = λ label order d has e was.
    filed_fewer _ _ _ _ label order c.args.chain c.args.place c.unlink.ensures.places e has (c.unlink.ensures.unlinked label order d e was.chains) c.unlink.ensures.alone c.unlink.ensures.single was
