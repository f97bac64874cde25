use Rattle.std.proofs.Common.{◌≡◌, ◌∙◌, None, [], refl, sym, subst}
use Rattle.std.proofs.lemmas.List.{get_or_read}
use Rattle.index_rings.specs.Rings.{next_of, IsChain, without}
use Rattle.index_rings.specs.Orders.{first_of}
use Rattle.index_rings.proofs.Runs.{chain_none}
use Rattle.index_rings.proofs.Parts.{unlinked, first_written, first_kept}
use Rattle.index_rings.proofs.chains.Chains.unlink.Goals as goal

pub returns-in-Some-clause-unlinked : goal.returns-in-Some-clause-unlinked
returns-in-Some-clause-unlinked c =
    let firsts = c.args.self.now.firsts.items in
    let k = c.args.chain in
    let i = c.args.place in
    let next = next_of c.args.self.now.rings.links.items in
    let next' = next_of c.unlink-left.new.self.links.items in
    let read : c.index-first.result.now ≡ first_of firsts k = get_or_read firsts k _ c.requires.chain c.index-first.ensures None in
    λ label order d e was.
    unlinked label next next' (first_of firsts) _ k i order d e (first_kept firsts k _)
    (λ xs dx h. subst (λ o. IsChain next' o (without i xs)) (sym (first_written firsts k _ c.requires.chain)) (c.unlink-left.ensures.chain xs dx (subst (λ o. IsChain next o xs) (sym read ∙ c.in-Some.is) h)))
    (λ other ys l h. c.unlink-left.ensures.others other ys l h)
    was

pub returns-in-None-clause-unlinked : goal.returns-in-None-clause-unlinked
returns-in-None-clause-unlinked c =
    let firsts = c.args.self.now.firsts.items in
    let k = c.args.chain in
    let i = c.args.place in
    let next = next_of c.args.self.now.rings.links.items in
    let read : c.index-first.result.now ≡ first_of firsts k = get_or_read firsts k _ c.requires.chain c.index-first.ensures None in
    λ label order d e was.
    unlinked label next next (first_of firsts) (first_of firsts) k i order d e (λ d' ne. refl)
    (λ xs dx h. let none : xs ≡ [] = chain_none next xs (subst (λ o. IsChain next o xs) (sym read ∙ c.in-None.is) h) in
    subst (λ ys. IsChain next (first_of firsts k) (without i ys)) (sym none) (subst (λ ys. IsChain next (first_of firsts k) ys) none h))
    (λ other ys l h. h)
    was
