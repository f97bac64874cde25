use Rattle.std.proofs.Common.{◌≢◌, length, Some, All}
use Rattle.slab.specs.Slab.{get}
use Rattle.index_rings.specs.Walk.{places_left}
use Rattle.indirect_store.specs.Held.{sig_in}
use Rattle.indirect_store.proofs.buckets.place_of.Given as goal

abbrev pub invariant-loop-place : goal.invariant-loop-place
invariant-loop-place l =
    All (λ place. sig_in (get l.slots place) ≢ Some l.sig) (places_left l.places) → All (λ place. sig_in (get l.slots place) ≢ Some l.sig) (places_left l.initial.places)

abbrev pub decreases-loop-place : goal.decreases-loop-place
decreases-loop-place l = length (places_left l.places)
