use Rattle.std.proofs.Common.{[], ap, arith}
use Rattle.std.specs.List.{filter, flat_map}
use Rattle.spie_base.specs.declared.RouterId.{RouterId}
use Rattle.reverse_flood.specs.Flood.{is_within}
use Rattle.reverse_flood.specs.Leads.{pairs_with}
use Rattle.reverse_flood.proofs.LeadFacts.{names_join, names_none, names_of, names_row, steps_more}
use Rattle.reverse_flood.proofs.WayFacts.{take_done}
use Rattle.reverse_flood.proofs.leads.add_steps.Goals as goal

pub loop-sig-init : goal.loop-sig-init
loop-sig-init c = record { names = names_none c.args.lane c.args.topology.now c.args.search.now c.args.leads.now c.requires.fine }

pub row_from-requires-clause-fine : goal.row_from-requires-clause-fine
row_from-requires-clause-fine c = c.loop-sig.invariant.names.fine

pub row_from-requires-clause-known : goal.row_from-requires-clause-known
row_from-requires-clause-known c = c.loop-sig.invariant.names.rows c.args.lead.now.node.sig c.args.lead.now.row c.requires.known

pub loop-sig-preserved : goal.loop-sig-preserved
loop-sig-preserved c =
    let near = filter (λ (q : RouterId). is_within c.args.topology.now c.args.bound q.number) c.args.near.now in
    let t = c.args.topology.now in
    record {
      names = names_of c.args.lane t _ _ c.args.search.now c.add_beside.new.search c.args.leads.now c.add_beside.new.leads
          (steps_more near c.args.origins.now c.loop-sig.sig-index _ c.loop-sig-test.true)
          (names_join c.args.lane t _ _ c.args.search.now c.loop-sig.search c.add_beside.new.search c.args.leads.now c.loop-sig.leads c.add_beside.new.leads c.requires.few c.loop-sig.invariant.names
          (names_join c.args.lane t [] _ c.loop-sig.search c.row_from.new.search c.add_beside.new.search c.loop-sig.leads c.loop-sig.leads c.add_beside.new.leads c.requires.few
          (names_row c.args.lane t c.loop-sig.search c.row_from.new.search c.loop-sig.leads c.in_ok-row.ensures.fine c.in_ok-row.ensures.same c.row_from.ensures.changed c.in_ok-row.ensures.kept)
          c.in_ok-add_beside.ensures));
    }

pub returns : goal.returns
returns c =
    let near = filter (λ (q : RouterId). is_within c.args.topology.now c.args.bound q.number) c.args.near.now in
    names_of c.args.lane c.args.topology.now _ _ c.args.search.now c.loop-sig.search c.args.leads.now c.loop-sig.leads
    (ap (λ (l : _). flat_map (pairs_with near) l) (take_done c.args.origins.now c.loop-sig.sig-index (omega arith)))
    c.loop-sig.invariant.names
