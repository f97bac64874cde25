use Rattle.std.proofs.Common.{◌+◌, ◌<◌, ◌↔◌, [], length, slice_index_or, None, arith}
use Rattle.std.proofs.lemmas.List.Elements.{Contains-get_or}
use Rattle.std.proofs.lemmas.Option.{slice_get-get_or}
use Rattle.reverse_flood.specs.declared.graphs.Node.{Node}
use Rattle.reverse_flood.specs.Flood.{net_of, IsStep}
use Rattle.evidence_text.specs.declared.certificates.Named.{Named}
use Rattle.evidence_check.specs.Evidence.{stated_links}
use Rattle.evidence_check.proofs.PairFacts.{asks_join}
use Rattle.evidence_check.proofs.WalkFacts.{IsAskedTo, asked_more}
use Rattle.evidence_check.proofs.walk.mark_asked.Goals as goal

abbrev blank : Named
blank = record { node = record { router = record { number = 0 }; sig = record { bytes = [] } }; from = None }

pub ask_steps-requires-clause-exists : goal.ask_steps-requires-clause-exists
ask_steps-requires-clause-exists g c =
    let lt : c.loop-place.place < length c.args.nodes.now = omega (arith, c.loop-place-test.true) in
    c.requires.exist _ (Contains-get_or c.args.nodes.now c.loop-place.place blank lt)

pub loop-place-preserved : goal.loop-place-preserved
loop-place-preserved g c =
    let net = net_of g.S.Sighting.shown c.args.sights.now (stated_links c.args.links.now) in
    let lt : c.loop-place.place < length c.args.nodes.now = omega (arith, c.loop-place-test.true) in
    let x : Named = slice_index_or c.args.nodes.now c.loop-place.place blank in
    let at = slice_get-get_or c.args.nodes.now c.loop-place.place blank lt in
    let same : (n : Node) → IsStep net x.node n ↔ IsStep net x.node n = λ n. ((λ h. h), (λ h. h)) in
    record {
      within = omega (arith, lt);
      fine = c.in_ok-ask_steps.ensures.fine;
      asks = asks_join (IsAskedTo net c.args.start.now c.args.nodes.now c.loop-place.place) (IsStep net x.node) (IsAskedTo net c.args.start.now c.args.nodes.now (c.loop-place.place + 1)) c.args.pairs.now c.loop-place.pairs c.ask_steps.new.pairs
          (asked_more net c.args.start.now c.args.nodes.now c.loop-place.place x (IsStep net x.node) at same)
          c.loop-place.invariant.asks c.in_ok-ask_steps.ensures.asks;
    }
