use Rattle.std.proofs.Common.{◌≡◌, ◌∙◌, ◌<◌, ◌↔◌, true, false, refl, sym, ap, [], length, IsTrue, arith}
use Rattle.std.specs.List.{Contains, filter, flat_map}
use Rattle.spie_base.proofs.Membership.{from_filter, into_filter}
use Rattle.spie_base.specs.declared.RouterId.{RouterId}
use Rattle.topology.specs.Layout.{is_linked}
use Rattle.topology.specs.declared.limits.TheConstants.{ROUTERS_MOST}
use Rattle.reverse_flood.specs.Flood.{net_of, is_within}
use Rattle.reverse_flood.specs.Leads.{pairs_with}
use Rattle.reverse_flood.proofs.AskFacts.{asks_hit, asks_unseen}
use Rattle.reverse_flood.proofs.LeadFacts.{names_of}
use Rattle.reverse_flood.proofs.StepFacts.{at_router}
use Rattle.reverse_flood.proofs.asks.ask_one.Goals as goal

pub note_found-requires-clause-few : goal.note_found-requires-clause-few
note_found-requires-clause-few g c = let exists = c.requires.lead.exists in omega (arith, exists, c.requires.few)

pub note_found-requires-clause-row : goal.note_found-requires-clause-row
note_found-requires-clause-row g c = c.in_ok-add_steps.ensures.rows c.args.lead.node.sig c.args.lead.row c.requires.lead.row

pub note_found-requires-clause-fine : goal.note_found-requires-clause-fine
note_found-requires-clause-fine g c = c.in_ok-add_steps.ensures.fine

pub note_unseen-requires-clause-few : goal.note_unseen-requires-clause-few
note_unseen-requires-clause-few g c = let exists = c.requires.lead.exists in omega (arith, exists, c.requires.few)

pub returns-in_ok-note_found : goal.returns-in_ok-note_found
returns-in_ok-note_found g c =
    let t = c.args.topology.now in
    let net = net_of g.S.Sighting.shown c.args.sights.now t in
    let node = c.args.lead.node in
    let exists = c.requires.lead.exists in
    let here : node.router.number < length c.args.sights.now = omega (arith, exists, c.requires.sights) in
    let small : node.router.number < ROUTERS_MOST = omega (arith, exists, c.requires.few) in
    let hit : net.hit node ≡ true = at_router (λ s. (g.S.Sighting.shown s).hit node.sig) false c.args.sights.now _ node.router.number c.index-sights-lead.result refl here c.index-sights-lead.is ∙ sym c.hit.ensures ∙ c.if-hit.true in
    let origins : c.in_ok-origins.origins.items ≡ net.origins node = c.in_ok-origins.ensures.exact ∙ sym (at_router (λ s. (g.S.Sighting.shown s).origins node.sig) [] c.args.sights.now _ node.router.number c.index-sights-lead.result refl here c.index-sights-lead.is) in
    let p = λ (q : RouterId). is_within t c.args.bound q.number in
    let near = c.linked-near.result.now in
    let same : (q : RouterId) → Contains (filter p near) q ↔ (IsTrue (is_linked t.links node.router.number q.number) × (is_within t c.args.bound q.number ≡ true)) =
    λ q. (
      (λ h. let f = from_filter p near q h in ((c.linked-near.ensures.same q).0 f.0, f.1)),
      (λ s. into_filter p near q ((c.linked-near.ensures.same q).1 s.0) s.1),
    ) in
    asks_hit c.args.lane net t (is_within t c.args.bound) node (filter p near) c.in_ok-origins.origins.items c.args.search.now c.add_steps.new.search c.note_found.new.search c.args.leads.now c.add_steps.new.leads c.requires.few c.requires.lead.named small hit same
    (λ q h. c.linked-near.ensures.exist q (from_filter p near q h).0) origins
    (names_of c.args.lane t _ _ c.args.search.now c.add_steps.new.search c.args.leads.now c.add_steps.new.leads (ap (flat_map (pairs_with (filter p near))) c.deref.ensures.value) c.in_ok-add_steps.ensures)
    c.in_ok-note_found.ensures

pub returns-else-hit : goal.returns-else-hit
returns-else-hit g c =
    let t = c.args.topology.now in
    let net = net_of g.S.Sighting.shown c.args.sights.now t in
    let node = c.args.lead.node in
    let exists = c.requires.lead.exists in
    let here : node.router.number < length c.args.sights.now = omega (arith, exists, c.requires.sights) in
    let unseen : net.hit node ≡ false = at_router (λ s. (g.S.Sighting.shown s).hit node.sig) false c.args.sights.now _ node.router.number c.index-sights-lead.result refl here c.index-sights-lead.is ∙ sym c.hit.ensures ∙ c.if-hit.false in
    asks_unseen c.args.lane net t (is_within t c.args.bound) node c.args.search.now c.note_unseen.new.search c.args.leads.now c.requires.lead.named unseen c.note_unseen.ensures
