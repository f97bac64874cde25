use Rattle.hash_family.proofs.Sums.{weighed_more}
use Rattle.hash_family.proofs.family.weighed.Goals as goal

pub terms-preserved : goal.terms-preserved
terms-preserved c = weighed_more c.args.row.now c.args.words.now _ c.terms.j _ _ c.terms.invariant c.from.ensures
