use Rattle.std.proofs.Common.{◌∙◌, ◌++◌, [], List, refl, subst}
use Rattle.std.specs.List.{Contains}
use Rattle.std.proofs.lemmas.List.Elements.{Contains-append_left}
use Rattle.spie_base.proofs.Membership.{has_none}
use Rattle.reverse_flood.specs.declared.leads.Lead.{Lead}
use Rattle.reverse_flood.specs.Flood.{net_of, is_within}
use Rattle.reverse_flood.specs.Leads.{nodes_of}
use Rattle.reverse_flood.specs.Search.{IsUnderWay}
use Rattle.reverse_flood.proofs.AskFacts.{under_way_wider}
use Rattle.reverse_flood.proofs.floods.flood_within.Goals as goal

pub follow-requires-clause-away : goal.follow-requires-clause-away
follow-requires-clause-away g c = λ l h. let Has : List Lead → Type 0 = λ ls. Contains ls l in absurd (has_none l (subst Has c.in_ok-search.ensures.away h))

pub returns : goal.returns
returns g c =
    let t = c.args.topology.now in
    let net = net_of g.S.Sighting.shown c.args.sights.now t in
    let inside = is_within t c.args.within in
    let entries = c.args.entries.now in
    let before = c.begin.new.leads in
    let wide = under_way_wider net inside entries c.in_ok-search.search (nodes_of before.home.items) (nodes_of before.home.items ++ (nodes_of before.away.items ++ [])) (λ n h. Contains-append_left _ _ n h) (c.in_ok-search.ensures.under_way net inside) in
    let P : List Lead → Type 0 = λ ls. IsUnderWay net inside entries c.follow.new.search (nodes_of ls ++ []) in
    record { part = c.in_ok-part.ensures entries c.requires.exist (subst P (c.in_ok-follow.ensures.stays refl ∙ c.in_ok-search.ensures.away) (c.in_ok-follow.ensures.under_way entries [] wide)) }
