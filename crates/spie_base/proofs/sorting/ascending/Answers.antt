use Rattle.std.proofs.Common.{◌∙◌, ap}
use Rattle.std.specs.Ordering.{is_eq}
use Rattle.std.proofs.lemmas.List.Filters.{dedup_is}
use Rattle.std.proofs.lemmas.List.Kept.{Contains-dedup, Contains-from_dedup, IsStrictlySortedBy-dedup}
use Rattle.std.proofs.lemmas.List.Sorted.{Contains-permutation, IsPermutation-sym}
use Rattle.spie_base.proofs.Ascents.{order_is}
use Rattle.spie_base.proofs.sorting.ascending.Goals as goal

pub returns-clause-ordered : goal.returns-clause-ordered
returns-clause-ordered g c =
    rw (c.of.ensures, dedup_is _ _ _ c.dedup.ensures.filtered)
    (IsStrictlySortedBy-dedup g.met.T.Ord.total g.met.T.Ord.matches_eq _ c.sort_unstable.ensures.sorted)

pub returns-clause-same : goal.returns-clause-same
returns-clause-same g c =
    let moved = c.sort_unstable.ensures.permutation in
    rw (c.of.ensures, dedup_is _ _ _ c.dedup.ensures.filtered)
    (λ x. (
      (λ h. Contains-permutation _ _ x (IsPermutation-sym _ _ moved) (Contains-from_dedup _ _ x h)),
      (λ h. Contains-dedup g.met.T.Eq.laws c.requires _ x (Contains-permutation _ _ x moved h)),
    ))

pub returns-clause-exact : goal.returns-clause-exact
returns-clause-exact g c =
    order_is _ g.met.T.Ord.total (λ a b e. c.requires a b (g.met.T.Ord.matches_eq a b ∙ ap is_eq e)) c.of.result _ (returns-clause-ordered g c) (returns-clause-same g c)
