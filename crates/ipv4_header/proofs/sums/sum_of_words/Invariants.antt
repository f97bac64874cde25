use Rattle.std.proofs.Common.{◌≡◌, ◌≤◌, ◌+◌, ◌*◌, drop}
use Rattle.ipv4_header.specs.Sums.{word_sum}
use Rattle.ipv4_header.proofs.sums.sum_of_words.Given as goal

abbrev pub invariant-words : goal.invariant-words
invariant-words l = record { summed : l.sum + word_sum (drop (2 * l.i) l.bytes) ≡ word_sum l.bytes; small : l.sum ≤ 65535 * l.i }
