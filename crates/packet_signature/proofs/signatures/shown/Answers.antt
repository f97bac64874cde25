use Rattle.std.proofs.Common.{◌≡◌, ◌+◌, ◌-◌, ◌++◌, map, slice_index, ap, ◌∙◌, arith}
use Rattle.std.specs.List.{range_with_len}
use Rattle.packet_signature.specs.Signature.{masked}
use Rattle.packet_signature.proofs.Places.{take-places, places-padded}
use Rattle.packet_signature.proofs.signatures.shown.Goals as goal

pub returns : goal.returns
returns c =
    let first = c.copy_from_slice.ensures.after ∙ take-places 20 c.args.header.now c.requires in
    let left : 20 + c.min-count.result - 20 ≡ c.min-count.result = omega arith in
    let rest = places-padded 8 (20 + c.min-count.result - 20) c.min-count.result c.args.payload.now c.min-count.ensures left in
    rw (first, c.copy_from_slice-2.ensures.after) (ap (λ r. map (masked (slice_index c.args.header.now)) (range_with_len 0 20) ++ r) rest)
