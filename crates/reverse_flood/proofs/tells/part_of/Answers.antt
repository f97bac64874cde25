use Rattle.std.proofs.Common.{refl}
use Rattle.reverse_flood.specs.Flood.{net_of, is_within}
use Rattle.reverse_flood.proofs.PartFacts.{part_told}
use Rattle.reverse_flood.proofs.tells.part_of.Goals as goal

pub returns : goal.returns
returns g c = λ entries exist way.
    let t = c.args.topology.now in
    part_told (net_of g.S.Sighting.shown c.args.sights.now t) (is_within t c.args.bound) entries c.args.search.now t c.in_ok-told.told _ c.topology_is_sound.ensures.few_routers refl (λ a b joined. (c.topology_is_sound.ensures.ends a b joined).1) exist
    c.in_ok-told.ensures.ordered c.in_ok-told.ensures.told way c.of.ensures c.of-2.ensures c.of-3.ensures c.of-4.ensures c.of-5.ensures
