use Rattle.std.proofs.Common.{◌∙◌, ◌++◌, None, List, subst, ap, refl}
use Rattle.std.specs.List.{Contains}
use Rattle.std.proofs.lemmas.List.Elements.{Contains-append_left}
use Rattle.reverse_flood.specs.declared.leads.Lead.{Lead}
use Rattle.reverse_flood.proofs.AskFacts.{under_way_begin}
use Rattle.reverse_flood.proofs.floods.begin.Goals as goal

pub returns-clause-fine : goal.returns-clause-fine
returns-clause-fine c = c.in_ok-add_each.ensures.names.fine

pub returns-clause-home : goal.returns-clause-home
returns-clause-home c = λ l h.
    let names = c.in_ok-add_each.ensures.names in
    let a = names.leads in
    let Has : List Lead → Type 0 = λ ls. Contains ls l in
    names.each l (Contains-append_left a.home_added a.away_added l (subst Has (a.home ∙ ap (λ (x : List Lead). x ++ a.home_added) c.requires.home) h))

pub returns-clause-away : goal.returns-clause-away
returns-clause-away c =
    let names = c.in_ok-add_each.ensures.names in
    names.leads.away ∙ ap (λ (x : List Lead). x ++ names.leads.away_added) c.requires.away ∙ names.stays refl

pub returns-clause-under_way : goal.returns-clause-under_way
returns-clause-under_way c = λ net inside.
    let names = c.in_ok-add_each.ensures.names in
    under_way_begin None net c.args.topology.now inside c.args.entries.now c.no_names-search.result c.add_each.new.search c.args.leads.now c.add_each.new.leads c.no_names-search.ensures.none c.requires.home
    (names.leads.away ∙ ap (λ (x : List Lead). x ++ names.leads.away_added) c.requires.away ∙ names.stays refl) names
