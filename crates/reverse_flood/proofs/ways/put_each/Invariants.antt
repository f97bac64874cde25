use Rattle.std.proofs.Common.{◌≡◌, take, map}
use Rattle.reverse_flood.specs.Search.{rows_in}
use Rattle.reverse_flood.proofs.ways.put_each.Given as goal

abbrev pub invariant-loop-sig : goal.invariant-loop-sig
invariant-loop-sig l = l.origins.items ≡ map (λ s. record { sig = s; row = rows_in l.search s }) (take l.sig-index l.sigs)
