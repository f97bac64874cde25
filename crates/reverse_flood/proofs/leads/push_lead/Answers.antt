use Rattle.std.proofs.Common.{◌∙◌, refl, sym}
use Rattle.reverse_flood.proofs.LeadFacts.{pushes_away, pushes_home}
use Rattle.reverse_flood.proofs.leads.push_lead.Goals as goal

pub returns-then-is_inside : goal.returns-then-is_inside
returns-then-is_inside c = pushes_home c.args.lane c.args.topology.now c.args.lead c.args.leads.now (record c.args.leads.now { home = c.push.new.self })
    (sym c.is_inside.ensures ∙ c.if-is_inside.true)
    c.in_ok-push.ensures.items refl

pub returns : goal.returns
returns c = pushes_away c.args.lane c.args.topology.now c.args.lead c.args.leads.now (record c.args.leads.now { away = c.push-2.new.self })
    (sym c.is_inside.ensures ∙ c.if-is_inside.false)
    c.in_ok-push-2.ensures.items refl
