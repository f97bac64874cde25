use Rattle.std.proofs.Common.{◌++◌, List, subst, sym}
use Rattle.std.specs.List.{Contains}
use Rattle.spie_base.proofs.Membership.{from_map}
use Rattle.reverse_flood.specs.declared.leads.Lead.{Lead}
use Rattle.reverse_flood.specs.declared.graphs.Node.{Node}
use Rattle.reverse_flood.specs.Flood.{net_of, everywhere}
use Rattle.reverse_flood.specs.Leads.{nodes_of}
use Rattle.reverse_flood.specs.Search.{IsUnderWay}
use Rattle.regional_agent.specs.Answers.{IsHome}
use Rattle.traceback_manager.proofs.RoundFacts.{node_of, of_batch}
use Rattle.traceback_manager.proofs.rounds.ask_region.Goals as goal

pub pick-requires-clause-exist : goal.pick-requires-clause-exist
pick-requires-clause-exist g c = λ l h. (c.requires.round l h).exists

pub follow_region-requires-clause-home : goal.follow_region-requires-clause-home
follow_region-requires-clause-home g c = λ l h.
    let Has : List Lead → Type 0 = λ ls. Contains ls l in
    c.requires.round l (of_batch c.args.topology.now c.args.region c.args.round.now l (subst Has c.in_ok-pick.ensures h)).0

pub follow_region-requires-clause-region : goal.follow_region-requires-clause-region
follow_region-requires-clause-region g c = λ n h.
    let t = c.args.topology.now in
    let Has : List Lead → Type 0 = λ ls. Contains (nodes_of ls) n in
    let i = from_map node_of _ n (subst Has c.in_ok-pick.ensures h) in
    let b = of_batch t c.args.region c.args.round.now i.of i.has in
    let Home : Node → Type 0 = λ m. IsHome t c.args.region m in
    subst Home i.is (record { exists = (c.requires.round i.of b.0).exists; here = b.1 })

pub returns-clause-under_way : goal.returns-clause-under_way
returns-clause-under_way g c = λ entries rest h.
    let t = c.args.topology.now in
    let P : List Lead → Type 0 = λ ls. IsUnderWay (net_of g.S.Sighting.shown c.args.sights.now t) everywhere entries c.args.search.now (nodes_of ls ++ (nodes_of c.args.leads.now.away.items ++ rest)) in
    c.in_ok-follow_region.ensures.under_way entries rest (subst P (sym c.in_ok-pick.ensures) h)
