use Rattle.std.proofs.Common.{◌∙◌, ◌∷◌, [], sym}
use Rattle.std.proofs.lemmas.Bool.{cond-false, cond-true}
use Rattle.reverse_flood.specs.Flood.{is_within}
use Rattle.reverse_flood.proofs.LeadFacts.{names_none, names_of}
use Rattle.reverse_flood.proofs.leads.add_inside.Goals as goal

pub returns-then-not-is_inside : goal.returns-then-not-is_inside
returns-then-not-is_inside c =
    names_of c.args.lane c.args.topology.now _ _ c.args.search.now c.args.search.now c.args.leads.now c.args.leads.now
    (sym (cond-false (is_within c.args.topology.now c.args.bound c.args.node.router.number) (c.args.node ∷ []) [] (sym c.is_inside.ensures ∙ c.if-not-is_inside.true)))
    (names_none c.args.lane c.args.topology.now c.args.search.now c.args.leads.now c.requires.fine)

pub returns : goal.returns
returns c =
    names_of c.args.lane c.args.topology.now _ _ c.args.search.now c.add_lead.new.search c.args.leads.now c.add_lead.new.leads
    (sym (cond-true (is_within c.args.topology.now c.args.bound c.args.node.router.number) (c.args.node ∷ []) [] (sym c.is_inside.ensures ∙ c.if-not-is_inside.false)))
    c.in_ok-add_lead.ensures.names
