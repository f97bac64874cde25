use Rattle.std.proofs.Common.{arith, ap}
use Rattle.std.proofs.lemmas.List.Elements.{Contains-get_or}
use Rattle.std.specs.List.{filter}
use Rattle.spie_base.specs.declared.RouterId.{RouterId}
use Rattle.reverse_flood.specs.Flood.{is_within}
use Rattle.reverse_flood.specs.Leads.{pairs_with}
use Rattle.reverse_flood.proofs.LeadFacts.{beside_more, names_join, names_none, names_of}
use Rattle.reverse_flood.proofs.WayFacts.{take_done}
use Rattle.reverse_flood.proofs.leads.add_beside.Goals as goal

pub loop-router-init : goal.loop-router-init
loop-router-init c = record { names = names_none c.args.lane c.args.topology.now c.args.search.now c.args.leads.now c.requires.fine }

pub add_inside-requires-clause-row : goal.add_inside-requires-clause-row
add_inside-requires-clause-row c = c.loop-router.invariant.names.rows c.args.sig.now c.args.row c.requires.row

pub add_inside-requires-clause-exists : goal.add_inside-requires-clause-exists
add_inside-requires-clause-exists c = c.requires.exist _ (Contains-get_or c.args.near.now c.loop-router.router-index _ c.loop-router-test.true)

pub loop-router-preserved : goal.loop-router-preserved
loop-router-preserved c =
    let p = λ (q : RouterId). is_within c.args.topology.now c.args.bound q.number in
    record {
      names = names_of c.args.lane c.args.topology.now _ _ c.args.search.now c.add_inside.new.search c.args.leads.now c.add_inside.new.leads
          (beside_more p c.args.near.now c.args.sig.now c.loop-router.router-index _ c.loop-router-test.true)
          (names_join c.args.lane c.args.topology.now _ _ c.args.search.now c.loop-router.search c.add_inside.new.search c.args.leads.now c.loop-router.leads c.add_inside.new.leads c.requires.few c.loop-router.invariant.names c.in_ok-add_inside.ensures);
    }

pub returns : goal.returns
returns c =
    let p = λ (q : RouterId). is_within c.args.topology.now c.args.bound q.number in
    names_of c.args.lane c.args.topology.now _ _ c.args.search.now c.loop-router.search c.args.leads.now c.loop-router.leads
    (ap (λ (rs : _). pairs_with (filter p rs) c.args.sig.now) (take_done c.args.near.now c.loop-router.router-index (omega arith)))
    c.loop-router.invariant.names
