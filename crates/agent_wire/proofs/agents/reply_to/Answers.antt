use Rattle.std.proofs.Common.{subst, sym, List}
use Rattle.reverse_flood.specs.declared.graphs.Node.{Node}
use Rattle.reverse_flood.specs.Flood.{IsPart, in_region, net_of}
use Rattle.regional_agent.specs.Answers.{AreHome}
use Rattle.agent_wire.proofs.agents.reply_to.Goals as goal

pub flood_region-requires-clause-home : goal.flood_region-requires-clause-home
flood_region-requires-clause-home g c = let At : List Node → Type 0 = λ xs. AreHome c.args.topology.now c.args.request.now.region xs in subst At (sym c.items.ensures) c.requires.home

pub returns : goal.returns
returns g c =
    let At : List Node → Type 0 = λ xs. IsPart (net_of g.S.Sighting.shown c.args.sights.now c.args.topology.now) (in_region c.args.topology.now c.args.request.now.region) xs c.in_ok-part.part in
    record {
      part = c.in_ok-part.part;
      is_part = subst At c.items.ensures c.in_ok-part.ensures.part;
      spells = record { is = c.in_ok-bytes.ensures.is; plain = record { number = c.number_is_plain.ensures; part = c.part_is_plain.ensures } };
    }
