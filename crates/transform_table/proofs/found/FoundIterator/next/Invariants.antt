use Rattle.std.proofs.Common.{◌≡◌, length}
use Rattle.std.specs.Prelude.{filter_map}
use Rattle.index_rings.specs.Walk.{places_left}
use Rattle.transform_table.specs.Tables.{with_key}
use Rattle.transform_table.specs.Rows.{pair_at, AreHeld}
use Rattle.transform_table.proofs.found.FoundIterator.next.Given as goal

abbrev pub invariant-loop-place : goal.invariant-loop-place
invariant-loop-place l =
    AreHeld l.self-inside.rows.now l.self-inside.olds.now × (with_key l.self-inside.key (filter_map (pair_at l.self-inside.rows.now l.self-inside.olds.now) (places_left l.self-inside.places)) ≡ l.fn.self)

abbrev pub decreases-loop-place : goal.decreases-loop-place
decreases-loop-place l = length (places_left l.self-inside.places)
