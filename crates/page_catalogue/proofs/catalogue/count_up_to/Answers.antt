use Rattle.std.proofs.Common.{leb, leb-true, leb-false, arith, rules, ℕ}
use Rattle.std.proofs.lemmas.List.Sorted.{IsPartitionPoint-from_clause, IsPartitionedBy-leb, IsNonDecreasingBy-from_default}
use Rattle.page_catalogue.proofs.catalogue.count_up_to.Goals as goal

pub returns-clause-counted : goal.returns-clause-counted
returns-clause-counted c =
    let parted = IsPartitionedBy-leb (λ (x : ℕ). x) _ c.args.most (IsNonDecreasingBy-from_default (λ x. x) _ 0 c.requires.ascend) in
    let point = IsPartitionPoint-from_clause (λ p. leb p c.args.most) _ _ c.partition_point.ensures.partitioned parted (λ a r q k. search rules) in
    λ p h. leb-true _ _ (point.0 p 0 (omega arith) h)

pub returns-clause-others : goal.returns-clause-others
returns-clause-others c =
    let parted = IsPartitionedBy-leb (λ (x : ℕ). x) _ c.args.most (IsNonDecreasingBy-from_default (λ x. x) _ 0 c.requires.ascend) in
    let point = IsPartitionPoint-from_clause (λ p. leb p c.args.most) _ _ c.partition_point.ensures.partitioned parted (λ a r q k. search rules) in
    λ p h k. leb-false _ _ (point.1 p 0 h k)
