use Rattle.std.proofs.Common.{◌++◌, ◌+◌, ◌<◌, List, ⊎_elim, subst, arith}
use Rattle.std.specs.List.{Contains}
use Rattle.std.proofs.lemmas.List.Elements.{Contains-append_left, Contains-append_right, Contains-append_cases}
use Rattle.spie_base.proofs.Membership.{has_none}
use Rattle.reverse_flood.specs.declared.leads.Lead.{Lead}
use Rattle.reverse_flood.specs.Flood.{net_of, everywhere}
use Rattle.reverse_flood.specs.Leads.{nodes_of}
use Rattle.reverse_flood.proofs.AskFacts.{keeps_join, under_way_wider}
use Rattle.reverse_flood.proofs.LeadFacts.{lead_kept}
use Rattle.traceback_manager.specs.Rounds.{batch, later, region_of}
use Rattle.traceback_manager.proofs.RoundFacts.{later_all, later_cases, later_none}
use Rattle.traceback_manager.proofs.rounds.ask_regions.Goals as goal

pub loop-region-init : goal.loop-region-init
loop-region-init g c =
    let t = c.args.topology.now in
    let net = net_of g.S.Sighting.shown c.args.sights.now t in
    let away = c.args.leads.now.away.items in
    let round = c.args.round.now in
    let Has : Lead → List Lead → Type 0 = λ l ls. Contains ls l in
    record {
      fine = c.requires.fine;
      kept = record { rows = λ sig row h. h; named = λ n few h. h };
      home = c.requires.home;
      away = λ l h. absurd (has_none l (subst (Has l) c.requires.away h));
      under_way = λ entries h. under_way_wider net everywhere entries c.args.search.now (nodes_of round) (nodes_of away ++ nodes_of (later t 0 round))
          (λ n x. Contains-append_right (nodes_of away) (nodes_of (later t 0 round)) n (later_all t round n x)) h;
    }

pub ask_region-requires-clause-round : goal.ask_region-requires-clause-round
ask_region-requires-clause-round g c = λ l h. lead_kept c.args.topology.now c.args.search.now c.loop-region.search l c.topology_is_sound.ensures.few_routers c.loop-region.invariant.kept (c.requires.round l h)

pub loop-region-preserved : goal.loop-region-preserved
loop-region-preserved g c =
    let t = c.args.topology.now in
    let net = net_of g.S.Sighting.shown c.args.sights.now t in
    let round = c.args.round.now in
    let region = c.loop-region.region in
    let old = c.loop-region.search in
    let new = c.in_ok-ask_region.ensures in
    let away = nodes_of c.loop-region.leads.away.items in
    let here = nodes_of (batch t region round) in
    let rest = nodes_of (later t (region + 1) round) in
    record {
      fine = new.fine;
      kept = keeps_join c.args.search.now old c.ask_region.new.search c.loop-region.invariant.kept new.kept;
      home = new.home;
      away = new.away;
      under_way = λ entries h. new.under_way entries rest
          (under_way_wider net everywhere entries old (away ++ nodes_of (later t region round)) (here ++ (away ++ rest))
          (λ n x. ⊎_elim
          (λ y. Contains-append_right here (away ++ rest) n (Contains-append_left away rest n y))
          (λ y. ⊎_elim
          (λ z. Contains-append_left here (away ++ rest) n z)
          (λ z. Contains-append_right here (away ++ rest) n (Contains-append_right away rest n z))
          (later_cases t region round n y))
          (Contains-append_cases away (nodes_of (later t region round)) n x))
          (c.loop-region.invariant.under_way entries h));
    }

pub returns-clause-under_way : goal.returns-clause-under_way
returns-clause-under_way g c = λ entries h.
    let t = c.args.topology.now in
    let net = net_of g.S.Sighting.shown c.args.sights.now t in
    let round = c.args.round.now in
    let region = c.loop-region.region in
    let away = nodes_of c.loop-region.leads.away.items in
    let below : (l : Lead) → Contains round l → region_of t l < region =
    λ l x. let home = c.topology_is_sound.ensures.homes l.node.router.number (c.requires.round l x).exists in omega (arith, home, c.loop-region-test.false, c.regions-region-end.ensures) in
    under_way_wider net everywhere entries c.loop-region.search (away ++ nodes_of (later t region round)) away
    (λ n x. ⊎_elim (λ y. y) (λ y. absurd (later_none t region round below n y)) (Contains-append_cases away (nodes_of (later t region round)) n x))
    (c.loop-region.invariant.under_way entries h)
