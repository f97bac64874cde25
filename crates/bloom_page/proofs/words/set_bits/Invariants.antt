use Rattle.std.proofs.Common.{◌≡◌, drop}
use Rattle.bloom_page.specs.Bits.{with_bits}
use Rattle.bloom_page.proofs.words.set_bits.Given as goal

abbrev pub invariant-loop-position : goal.invariant-loop-position
invariant-loop-position l = with_bits l.words (drop l.position-index l.positions) ≡ with_bits l.initial.words l.positions
