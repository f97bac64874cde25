use Rattle.std.proofs.Common.{ℕ, ◌≡◌, ◌≤◌, ◌-◌, ◌∙◌, List, length, filter, take, drop, true, false, ltb, leb, leb-true, sym, ap, subst, rules, arith}
use Rattle.std.specs.List.Sorted.{IsNonDecreasingBy, IsPartitionPoint}
use Rattle.std.proofs.lemmas.Bool.{ltb-true, ltb-false, leb-false}
use Rattle.std.proofs.lemmas.List.{length-drop, take_all}
use Rattle.std.proofs.lemmas.List.Sorted.{IsNonDecreasingBy-drop, IsPartitionPoint-from_clause, IsPartitionedBy-leb, IsPartitionedBy-ltb}
use Rattle.packet_signature.specs.declared.Row.{Row}
use Rattle.used_pages.specs.UsedPages.{has_key}
use Rattle.used_pages.proofs.Keyed.{keyed_part}
use Rattle.used_pages.proofs.keyed_rows.KeyedRows.with_key.Goals as goal

pub returns : goal.returns
returns c =
    let key : ℕ = c.args.key in
    let xs : List Row = c.self.inside.rows.items in
    let first : ℕ = c.partition_point-first.result in
    let count : ℕ = c.partition_point-count.result in
    let own : Row → ℕ = λ row. row.key in
    let ys : List Row = c.deref-2.result.now in
    let rest : List Row = take (length ys - first) (drop first ys) in
    let sorted : IsNonDecreasingBy own xs = c.self.invariant in
    let rest_is : rest ≡ drop first xs =
    ap (λ zs. take (length zs - first) (drop first zs)) c.deref-2.ensures.value ∙ take_all (length xs - first) (drop first xs) (let n = length-drop first xs in omega (arith, n)) in
    let point : IsPartitionPoint (λ (y : Row). ltb y.key key ≡ true) (λ y. ltb y.key key ≡ false) xs first =
    subst (λ zs. IsPartitionPoint (λ (y : Row). ltb y.key key ≡ true) (λ y. ltb y.key key ≡ false) zs first) c.deref.ensures.value
    (IsPartitionPoint-from_clause (λ p. ltb p.key key) _ _ c.partition_point-first.ensures.partitioned (IsPartitionedBy-ltb own _ key (subst (IsNonDecreasingBy own) (sym c.deref.ensures.value) sorted)) (λ a r q k. search rules)) in
    let end : IsPartitionPoint (λ (y : Row). leb y.key key ≡ true) (λ y. leb y.key key ≡ false) (drop first xs) count =
    subst (λ zs. IsPartitionPoint (λ (y : Row). leb y.key key ≡ true) (λ y. leb y.key key ≡ false) zs count) rest_is
    (IsPartitionPoint-from_clause (λ p. leb p.key key) _ _ c.partition_point-count.ensures.partitioned (IsPartitionedBy-leb own _ key (subst (IsNonDecreasingBy own) (sym rest_is) (IsNonDecreasingBy-drop own first xs sorted))) (λ a r q k. search rules)) in
    ap (take count) rest_is
    ∙ keyed_part key xs first count (subst (λ zs. first ≤ length zs) c.deref.ensures.value c.partition_point-first.ensures.bound) (subst (λ zs. count ≤ length zs) rest_is c.partition_point-count.ensures.bound)
    (λ k d lt. ltb-true _ _ (point.0 k d (omega arith) lt)) (λ k d from lt. ltb-false _ _ (point.1 k d from lt))
    (λ k d lt. leb-true _ _ (end.0 k d (omega arith) lt)) (λ k d from lt. leb-false _ _ (end.1 k d from lt))
    ∙ ap (filter (has_key key)) c.self.view_is
