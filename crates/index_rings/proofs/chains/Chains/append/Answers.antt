use Rattle.std.proofs.Common.{subst}
use Rattle.index_rings.specs.Rings.{next_of, IsChain}
use Rattle.index_rings.specs.Orders.{labelled}
use Rattle.index_rings.proofs.Filed.{filed_more, first_stands, first_below}
use Rattle.index_rings.proofs.chains.Chains.append.Goals as goal

pub link-requires : goal.link-requires
link-requires c =
    let f = c.requires.free in
    let next = next_of c.args.self.now.rings.links.items in
    record {
      chain = c.requires.chain;
      place = c.requires.place;
      single = f.2.alone _ f.3;
      first = λ g e. let r = subst (λ o. IsChain next o (labelled f.0 c.args.chain f.1)) e (f.2.chains.parts c.args.chain) in
          (first_below next f.0 _ c.args.chain g f.1 f.2.within r, first_stands next f.0 c.args.chain g c.args.place f.1 r f.3);
    }

pub returns-clause-appended : goal.returns-clause-appended
returns-clause-appended c = λ label order d l e was.
    filed_more _ _ _ _ label order c.args.chain c.args.place c.requires.place c.link.ensures.places (c.link.ensures.linked label order d l e was.chains) c.link.ensures.alone was
