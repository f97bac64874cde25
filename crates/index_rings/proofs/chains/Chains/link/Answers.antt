use Rattle.std.proofs.Common.{◌≡◌, ◌∙◌, Some, None, [], ◌∷◌, ◌++◌, sym, ap, subst}
use Rattle.std.proofs.lemmas.List.{get_or_read}
use Rattle.index_rings.specs.Rings.{next_of, IsChain, Lacks, first_or}
use Rattle.index_rings.specs.Orders.{first_of}
use Rattle.index_rings.proofs.Parts.{linked, first_written, first_kept}
use Rattle.index_rings.proofs.chains.Chains.link.Goals as goal

pub returns-clause-linked : goal.returns-clause-linked
returns-clause-linked c =
    let firsts = c.args.self.now.firsts.items in
    let k = c.args.chain in
    let i = c.args.place in
    let next = next_of c.args.self.now.rings.links.items in
    let next' = next_of c.link_last-first.new.self.links.items in
    let read : c.index-first.result.now ≡ first_of firsts k = get_or_read firsts k _ c.requires.chain c.index-first.ensures None in
    let r : c.link_last-first.result ≡ first_or (first_of firsts k) i = c.link_last-first.ensures.first ∙ ap (λ o. first_or o i) read in
    λ label order d l e was.
    linked label next next' (first_of firsts) _ k i order d l e (first_written firsts k _ c.requires.chain ∙ ap (λ f. Some f) r) (first_kept firsts k _)
    (λ xs dx lx h. subst (λ f. IsChain next' (Some f) (xs ++ i ∷ [])) r (c.link_last-first.ensures.chain xs dx lx (subst (λ o. IsChain next o xs) (sym read) h)))
    (λ other ys lf li h. c.link_last-first.ensures.others other ys (subst (λ f. Lacks ys f) (sym r) lf) li h)
    was
