use Rattle.std.proofs.Common.{◌≡◌, None, sym, subst, arith}
use Rattle.std.proofs.lemmas.List.{get_or_read}
use Rattle.index_rings.specs.Rings.{next_of, IsChain}
use Rattle.index_rings.specs.Orders.{first_of, labelled}
use Rattle.index_rings.proofs.Parts.{labelled_distinct}
use Rattle.index_rings.proofs.Walks.{walked_chain, labelled_short}
use Rattle.index_rings.proofs.chains.Chains.places.Goals as goal

pub returns : goal.returns
returns c =
    let firsts = c.args.self.now.firsts.items in
    let k = c.args.chain in
    let next = next_of c.args.self.now.rings.links.items in
    let read : c.index-first.result.now ≡ first_of firsts k = get_or_read firsts k _ c.requires c.index-first.ensures None in
    record {
      all = λ label order d short was.
          walked_chain next _ _ (labelled label k order) c.args.most (labelled_distinct label k order d) (subst (λ o. IsChain next o (labelled label k order)) (sym read) (was.chains.parts k))
          c.place_or_zero.ensures (omega (arith, labelled_short label k order));
    }
