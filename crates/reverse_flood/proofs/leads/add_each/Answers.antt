use Rattle.std.proofs.Common.{None, [], inl, arith}
use Rattle.std.proofs.lemmas.List.Elements.{Contains-get_or}
use Rattle.reverse_flood.proofs.EntryFacts.{from_join, from_of}
use Rattle.reverse_flood.proofs.LeadFacts.{each_more, names_join, names_none, names_of, names_row}
use Rattle.reverse_flood.proofs.WayFacts.{take_done}
use Rattle.reverse_flood.proofs.leads.add_each.Goals as goal

pub loop-node-init : goal.loop-node-init
loop-node-init c = record { names = names_none None c.args.topology.now c.args.search.now c.args.leads.now c.requires.fine; from = λ l h. inl h }

pub row_of-requires : goal.row_of-requires
row_of-requires c = c.loop-node.invariant.names.fine

pub add_lead-requires-clause-exists : goal.add_lead-requires-clause-exists
add_lead-requires-clause-exists c = c.requires.exist _ (Contains-get_or c.args.nodes.now c.loop-node.node-index _ c.loop-node-test.true)

pub loop-node-preserved : goal.loop-node-preserved
loop-node-preserved c =
    let t = c.args.topology.now in
    record {
      names = names_of None t _ _ c.args.search.now c.add_lead.new.search c.args.leads.now c.add_lead.new.leads
          (each_more c.args.nodes.now c.loop-node.node-index _ c.loop-node-test.true)
          (names_join None t _ _ c.args.search.now c.loop-node.search c.add_lead.new.search c.args.leads.now c.loop-node.leads c.add_lead.new.leads c.requires.few c.loop-node.invariant.names
          (names_join None t [] _ c.loop-node.search c.row_of.new.search c.add_lead.new.search c.loop-node.leads c.loop-node.leads c.add_lead.new.leads c.requires.few
          (names_row None t c.loop-node.search c.row_of.new.search c.loop-node.leads c.in_ok-row.ensures.fine c.in_ok-row.ensures.same c.row_of.ensures.changed c.in_ok-row.ensures.kept)
          c.in_ok-add_lead.ensures.names));
      from = from_of _ _ _ _ (each_more c.args.nodes.now c.loop-node.node-index _ c.loop-node-test.true)
          (from_join _ _ _ _ _ c.loop-node.invariant.from c.in_ok-add_lead.ensures.from);
    }

pub returns-clause-names : goal.returns-clause-names
returns-clause-names c =
    names_of None c.args.topology.now _ _ c.args.search.now c.loop-node.search c.args.leads.now c.loop-node.leads
    (take_done c.args.nodes.now c.loop-node.node-index (omega arith))
    c.loop-node.invariant.names

pub returns-clause-from : goal.returns-clause-from
returns-clause-from c = from_of _ _ _ _ (take_done c.args.nodes.now c.loop-node.node-index (omega arith)) c.loop-node.invariant.from
