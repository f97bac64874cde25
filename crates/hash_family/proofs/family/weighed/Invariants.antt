use Rattle.std.proofs.Common.{◌≡◌, ◌+◌, ◌-◌, ◌*◌, ◌%◌, ◌^◌, map, sum, slice_index}
use Rattle.std.specs.List.{range_with_len}
use Rattle.hash_family.proofs.family.weighed.Given as goal

abbrev pub invariant-terms : goal.invariant-terms
invariant-terms l =
    l.sum ≡ (slice_index l.row 0 + sum (map (λ j. slice_index l.row j * slice_index l.words (j - 1)) (range_with_len 1 l.j))) % 2 ^ 64
