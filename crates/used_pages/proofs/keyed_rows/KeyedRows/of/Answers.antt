use Rattle.std.proofs.Common.{rules}
use Rattle.std.proofs.lemmas.List.Sorted.{Contains-permutation, IsNonDecreasingBy-from_sort_by_key, IsPermutation-sym}
use Rattle.used_pages.proofs.keyed_rows.KeyedRows.of.Goals as goal

pub invariant_of-result : goal.invariant_of-result
invariant_of-result c = IsNonDecreasingBy-from_sort_by_key (λ row. row.key) _ c.sort_unstable_by_key.ensures.sorted (λ a r q k. search rules)

pub returns : goal.returns
returns c row =
    let moved = c.sort_unstable_by_key.ensures.permutation in
    ((λ h. Contains-permutation _ _ row (IsPermutation-sym _ _ moved) h), (λ h. Contains-permutation _ _ row moved h))
