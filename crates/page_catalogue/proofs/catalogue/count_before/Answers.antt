use Rattle.std.proofs.Common.{ltb, ltb-true, ltb-false, arith, rules, ℕ}
use Rattle.std.proofs.lemmas.List.Sorted.{IsPartitionPoint-from_clause, IsPartitionedBy-ltb, IsNonDecreasingBy-from_default}
use Rattle.page_catalogue.proofs.catalogue.count_before.Goals as goal

pub returns-clause-counted : goal.returns-clause-counted
returns-clause-counted c =
    let parted = IsPartitionedBy-ltb (λ (x : ℕ). x) _ c.args.bound (IsNonDecreasingBy-from_default (λ x. x) _ 0 c.requires.ascend) in
    let point = IsPartitionPoint-from_clause (λ p. ltb p c.args.bound) _ _ c.partition_point.ensures.partitioned parted (λ a r q k. search rules) in
    λ p h. ltb-true _ _ (point.0 p 0 (omega arith) h)

pub returns-clause-others : goal.returns-clause-others
returns-clause-others c =
    let parted = IsPartitionedBy-ltb (λ (x : ℕ). x) _ c.args.bound (IsNonDecreasingBy-from_default (λ x. x) _ 0 c.requires.ascend) in
    let point = IsPartitionPoint-from_clause (λ p. ltb p c.args.bound) _ _ c.partition_point.ensures.partitioned parted (λ a r q k. search rules) in
    λ p h k. ltb-false _ _ (point.1 p 0 h k)
