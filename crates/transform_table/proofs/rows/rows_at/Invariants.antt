use Rattle.std.proofs.Common.{◌≡◌, ◌++◌, length}
use Rattle.std.specs.Prelude.{map, filter_map}
use Rattle.index_rings.specs.Walk.{places_left}
use Rattle.transform_table.specs.Rows.{pair_at}
use Rattle.transform_table.proofs.rows.rows_at.Given as goal

abbrev pub invariant-loop-place : goal.invariant-loop-place
invariant-loop-place l =
    l.found.items ++ map (λ pair. pair.1) (filter_map (pair_at l.rows l.olds) (places_left l.places)) ≡ map (λ pair. pair.1) (filter_map (pair_at l.rows l.olds) (places_left l.initial.places))

abbrev pub decreases-loop-place : goal.decreases-loop-place
decreases-loop-place l = length (places_left l.places)
