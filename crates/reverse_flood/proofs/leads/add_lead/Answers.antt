use Rattle.std.proofs.Common.{◌∙◌, sym, refl}
use Rattle.spie_base.proofs.Booleans.{not_true}
use Rattle.reverse_flood.specs.Search.{is_named}
use Rattle.reverse_flood.specs.declared.leads.Lead.{Lead}
use Rattle.reverse_flood.proofs.EntryFacts.{from_push}
use Rattle.reverse_flood.proofs.LeadFacts.{names_new, names_old, row_kept}
use Rattle.reverse_flood.proofs.leads.add_lead.Goals as goal

pub returns-then-not-name-clause-names : goal.returns-then-not-name-clause-names
returns-then-not-name-clause-names c =
    names_old c.args.lane c.args.topology.now c.args.node c.args.search.now c.name.new.search c.args.leads.now c.name.ensures.fine c.name.ensures.rows c.name.ensures.changed
    (not_true (is_named c.args.search.now c.args.node) (sym c.name.ensures.new ∙ c.if-not-name.true)) c.name.ensures.named c.name.ensures.kept c.name.ensures.only

pub returns-clause-names : goal.returns-clause-names
returns-clause-names c =
    let lead : Lead = record { node = c.args.node; row = c.args.row } in
    names_new c.args.lane c.args.topology.now c.args.node lead c.args.search.now c.name.new.search c.args.leads.now c.push_lead.new.leads c.name.ensures.fine c.name.ensures.rows c.name.ensures.changed c.name.ensures.named c.name.ensures.kept c.name.ensures.only refl
    (record { row = row_kept c.args.search.now c.name.new.search c.args.node.sig c.args.row c.name.ensures.rows c.requires.row; exists = c.requires.exists; named = c.name.ensures.named })
    c.in_ok-push_lead.ensures

pub returns-clause-from : goal.returns-clause-from
returns-clause-from c = from_push c.args.lane c.args.topology.now (record { node = c.args.node; row = c.args.row }) c.args.leads.now c.push_lead.new.leads c.in_ok-push_lead.ensures
