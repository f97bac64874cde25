use Rattle.std.proofs.Common.{◌≡◌, drop}
use Rattle.std.specs.List.{list_all}
use Rattle.bloom_page.specs.Bits.{is_set}
use Rattle.bloom_page.proofs.words.are_set.Given as goal

abbrev pub invariant-loop-position : goal.invariant-loop-position
invariant-loop-position l = list_all (is_set l.words) (drop l.position-index l.positions) ≡ list_all (is_set l.words) l.positions
