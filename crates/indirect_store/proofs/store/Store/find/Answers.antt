use Rattle.std.proofs.Common.{◌≢◌, ℕ, All, Some, arith}
use Rattle.slab.specs.Slab.{get}
use Rattle.index_rings.specs.Walk.{places_left}
use Rattle.indirect_store.specs.Held.{sig_in, sig_at}
use Rattle.indirect_store.specs.Stores.{bucket_at}
use Rattle.indirect_store.proofs.Keys.{if_none}
use Rattle.indirect_store.proofs.Stored.{none_found}
use Rattle.indirect_store.proofs.store.Store.find.Goals as goal

pub returns-clause-none : goal.returns-clause-none
returns-clause-none c =
    let s = c.self.inside.slots in let i = c.self.invariant in let sig = c.args.sig.now in let order = i.order in
    if_none c.place_of.result (All (λ place. sig_in (get s place) ≢ Some sig) (places_left c.places-places.result)) ((id : ℕ) → sig_at c.args.self.now id ≢ Some sig)
    (λ all. rw (← c.self.view_is) (none_found s order (places_left c.places-places.result) c.bucket_of.result sig i.filed.listed c.bucket_of.ensures.exact
    (c.places-places.ensures.all (bucket_at s) order i.filed.listed.distinct (omega (arith, i.filed.listed.count, c.len.ensures)) i.filed.chained) all)) c.place_of.ensures.none
