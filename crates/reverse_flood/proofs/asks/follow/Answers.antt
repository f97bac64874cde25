use Rattle.std.proofs.Common.{◌≡◌, ◌∙◌, ◌<◌, ◌≤◌, ◌++◌, inl, inr, ⊎_elim, List, length, refl, sym, subst, ap, append-nil, arith}
use Rattle.std.proofs.lemmas.List.{drop_all, length-append}
use Rattle.std.proofs.lemmas.List.Elements.{Contains-append_cases}
use Rattle.std.specs.List.{Contains}
use Rattle.topology.specs.declared.limits.TheConstants.{ROUTERS_MOST}
use Rattle.reverse_flood.specs.declared.leads.Lead.{Lead}
use Rattle.reverse_flood.specs.Flood.{net_of, is_within}
use Rattle.reverse_flood.specs.Leads.{nodes_of}
use Rattle.reverse_flood.specs.Search.{IsUnderWay}
use Rattle.reverse_flood.proofs.AskFacts.{added_waiting, asks_keep, keeps_join, leads_more, names_within, still_waiting, under_way_next}
use Rattle.reverse_flood.proofs.asks.follow.Goals as goal

pub loop-next-init : goal.loop-next-init
loop-next-init g c = record {
  few = c.topology_is_sound.ensures.few_routers;
  fine = c.requires.fine;
  kept = record { rows = λ sig row h. h; named = λ n few h. h };
  home = c.requires.home;
  away = c.requires.away;
  stays = λ e. refl;
  elsewhere = λ l h. inl h;
  within = λ n small h. inl h;
  bound = omega arith;
  under_way = λ entries rest h. h;
}

pub ask_one-requires-clause-lead : goal.ask_one-requires-clause-lead
ask_one-requires-clause-lead g c =
    let lt : c.loop-next.next < length c.loop-next.leads.home.items = omega arith in
    c.loop-next.invariant.home c.lead_at-lead.result (c.loop-next.next, lt, sym c.lead_at-lead.ensures)

pub loop-next-preserved : goal.loop-next-preserved
loop-next-preserved g c =
    let t = c.args.topology.now in
    let net = net_of g.S.Sighting.shown c.args.sights.now t in
    let inside = is_within t c.args.bound in
    let old = c.loop-next.search in
    let new = c.ask_one.new.search in
    let before = c.loop-next.leads in
    let after = c.ask_one.new.leads in
    let lead = c.lead_at-lead.result in
    let few = c.loop-next.invariant.few in
    let asks = c.in_ok-ask_one.ensures in
    let lt : c.loop-next.next < length before.home.items = omega arith in
    let is = c.loop-next.invariant.home lead (c.loop-next.next, lt, sym c.lead_at-lead.ensures) in
    let exists = is.exists in
    let small : lead.node.router.number < ROUTERS_MOST = omega (arith, exists, few) in
    let more = leads_more c.args.lane net t inside lead.node old new before after few asks c.loop-next.invariant.home c.loop-next.invariant.away in
    let longer : length after.home.items ≡ _ = ap length asks.leads.home ∙ length-append before.home.items asks.leads.home_added in
    record {
      few = few;
      fine = asks.fine;
      kept = keeps_join c.args.search.now old new c.loop-next.invariant.kept (asks_keep c.args.lane net t inside lead.node old new before after asks);
      home = more.0;
      away = more.1;
      stays = λ e. asks.leads.away ∙ ap (λ (l : List Lead). before.away.items ++ l) (asks.stays e) ∙ append-nil before.away.items ∙ c.loop-next.invariant.stays e;
      elsewhere = λ l h.
          let Has : List Lead → Type 0 = λ ls. Contains ls l in
          ⊎_elim
          (λ o. c.loop-next.invariant.elsewhere l o)
          (λ x. inr (asks.elsewhere l x))
          (Contains-append_cases before.away.items asks.leads.away_added l (subst Has asks.leads.away h));
      within = names_within c.args.lane net t inside lead.node c.args.search.now old new before after asks c.loop-next.invariant.within;
      bound = omega (arith, lt, longer);
      under_way = λ entries rest h.
          under_way_next c.args.lane net t inside entries lead.node old new before after _ _ few (λ a b joined. (c.topology_is_sound.ensures.ends a b joined).1) is.named small asks
          (still_waiting before.home.items before.away.items after.home.items after.away.items asks.leads.home_added asks.leads.away_added c.loop-next.next lead rest lt c.lead_at-lead.ensures asks.leads.home asks.leads.away)
          (added_waiting before.home.items before.away.items after.home.items after.away.items asks.leads.home_added asks.leads.away_added c.loop-next.next rest lt asks.leads.home asks.leads.away)
          (c.loop-next.invariant.under_way entries rest h);
    }

pub returns-clause-under_way : goal.returns-clause-under_way
returns-clause-under_way g c = λ entries rest h.
    let net = net_of g.S.Sighting.shown c.args.sights.now c.args.topology.now in
    let home = c.loop-next.leads.home.items in
    let all : length home ≤ c.loop-next.next = omega arith in
    let P : List Lead → Type 0 = λ l. IsUnderWay net (is_within c.args.topology.now c.args.bound) entries c.loop-next.search (nodes_of l ++ (nodes_of c.loop-next.leads.away.items ++ rest)) in
    subst P (drop_all c.loop-next.next home all) (c.loop-next.invariant.under_way entries rest h)
