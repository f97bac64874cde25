use Rattle.std.proofs.Common.{◌≡◌, ◌∙◌, ◌∷◌, [], List, length, sym, subst, ap, arith}
use Rattle.std.specs.Vec.{vec_len}
use Rattle.std.proofs.lemmas.Bool.Decides.{Decides-eqb}
use Rattle.reverse_flood.specs.declared.leads.Lead.{Lead}
use Rattle.reverse_flood.specs.Flood.{net_of, everywhere}
use Rattle.reverse_flood.specs.Leads.{nodes_of, AreLeads}
use Rattle.reverse_flood.specs.Search.{IsUnderWay}
use Rattle.traceback_manager.proofs.RoundFacts.{no_items}
use Rattle.traceback_manager.proofs.traces.trace.Goals as goal

pub loop-turn-init : goal.loop-turn-init
loop-turn-init g c =
    let t = c.args.topology.now in
    let search = c.in_ok-search.search in
    let begun = c.in_ok-search.ensures in
    let swapped = c.swap.ensures in
    let Are : _ → Type 0 = λ v. AreLeads t search v.items in
    let Way : _ → Type 0 = λ v. IsUnderWay (net_of g.S.Sighting.shown c.args.sights.now t) everywhere (c.args.start.now ∷ []) search (nodes_of v.items) in
    record {
      fine = begun.fine;
      home = ap (λ v. v.items) swapped.y_after ∙ c.new-round.ensures.items;
      away = begun.away;
      round = subst Are (sym swapped.x_after) begun.home;
      under_way = subst Way (sym swapped.x_after) (begun.under_way (net_of g.S.Sighting.shown c.args.sights.now t) everywhere);
    }

pub returns-then-is_empty : goal.returns-then-is_empty
returns-then-is_empty g c =
    let t = c.args.topology.now in
    let round = c.loop-turn.round in
    let none = (Decides-eqb (vec_len round) 0).0 (sym c.is_empty.ensures ∙ c.if-is_empty.true) in
    let no_length : length round.items ≡ 0 = omega (arith, none) in
    let Way : List Lead → Type 0 = λ l. IsUnderWay (net_of g.S.Sighting.shown c.args.sights.now t) everywhere (c.args.start.now ∷ []) c.loop-turn.search (nodes_of l) in
    record { graph = c.in_ok-graph.ensures c.args.start.now c.requires.exists (subst Way (no_items round.items no_length) c.loop-turn.invariant.under_way) }

pub ask_regions-requires-clause-round : goal.ask_regions-requires-clause-round
ask_regions-requires-clause-round g c =
    let Are : List Lead → Type 0 = λ l. AreLeads c.args.topology.now c.loop-turn.search l in
    subst Are (sym c.deref.ensures.value) c.loop-turn.invariant.round

pub loop-turn-preserved : goal.loop-turn-preserved
loop-turn-preserved g c =
    let t = c.args.topology.now in
    let search = c.ask_regions.new.search in
    let new = c.in_ok-ask_regions.ensures in
    let swapped = c.swap-in-loop-turn.ensures in
    let Are : _ → Type 0 = λ v. AreLeads t search v.items in
    let Way : _ → Type 0 = λ v. IsUnderWay (net_of g.S.Sighting.shown c.args.sights.now t) everywhere (c.args.start.now ∷ []) search (nodes_of v.items) in
    let Was : List Lead → Type 0 = λ l. IsUnderWay (net_of g.S.Sighting.shown c.args.sights.now t) everywhere (c.args.start.now ∷ []) c.loop-turn.search (nodes_of l) in
    record {
      fine = new.fine;
      home = new.home;
      away = ap (λ v. v.items) swapped.y_after ∙ c.clear.ensures.items;
      round = subst Are (sym swapped.x_after) new.away;
      under_way = subst Way (sym swapped.x_after) (new.under_way (c.args.start.now ∷ []) (subst Was (sym c.deref.ensures.value) c.loop-turn.invariant.under_way));
    }
