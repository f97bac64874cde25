-- Back along a route whose pages are used, each hop's pair is a node of the query's graph.
use Rattle.std.proofs.Common.{◌≡◌, ℕ, ◌<◌, Bool, true, false, cond, ◌==◌, ◌∷◌, [], ◌⊎◌, ◌∙◌, sym, refl, subst, ap, inl, inr, ⊎_elim, List, length, filter}
use Rattle.std.specs.Bool.{IsTrue}
use Rattle.std.specs.List.{Contains, flat_map}
use Rattle.std.proofs.lemmas.Bool.{false≢true, eq-eqb}
use Rattle.std.proofs.lemmas.Bool.Decides.{Decides-eqb}
use Rattle.spie_base.proofs.Membership.{has_first, has_later, into_map, into_filter, into_flat_map}
use Rattle.spie_base.specs.Shapes.{shape_of}
use Rattle.spie_base.specs.declared.Rules.{Rules}
use Rattle.spie_base.specs.declared.Sig.{Sig}
use Rattle.bloom_page.specs.Sets.{are_in}
use Rattle.packet_signature.specs.declared.Kind.{Kind}
use Rattle.packet_signature.specs.declared.Row.{Row}
use Rattle.packet_signature.specs.Row.{row_of, inverse_of, key_of}
use Rattle.packet_signature.proofs.Restoring.{inverse_gives_old}
use Rattle.topology.specs.Layout.{Layout, is_linked}
use Rattle.reverse_flood.specs.declared.Node.{Node}
use Rattle.reverse_flood.specs.declared.Graph.{Graph}
use Rattle.reverse_flood.specs.Flood.{Net, IsHit, IsStep, IsNode, IsAsked, IsFlood, everywhere}
use Rattle.reverse_flood.specs.Found.{edge_from}
use Rattle.reverse_flood.proofs.Worklists.{node_from_asked}
use Rattle.used_pages.specs.UsedPages.{Held, UsedPage, holds_sig, undone}
use Rattle.router_account.specs.Account.{Account, held, Sight, marks, origins}
use Rattle.router_account.specs.Sights.{GotPage, got_or, page_by}
use Rattle.trace_history.specs.History.{History, Origin, same, changed, QueryRun, account}
use Rattle.trace_history.specs.Laws.{RoutesAreFound, NeverANo}
use Rattle.trace_history.specs.Ledgers.{ledger}
use Rattle.trace_history.specs.Outcomes.{IsTrueQuery}
use Rattle.trace_history.specs.Receipts.{Receipt}
use Rattle.trace_history.specs.Routers.{RouterRules}
use Rattle.trace_history.specs.Routes.{came_as, node_of, IsRecord, IsRoute, used_at, IsUsed, AreUsed, IsFirstUnused, IsHeld, IsNoNo}
use Rattle.trace_history.specs.Sights.{net_at, start_of, sight_at}
use Rattle.trace_history.proofs.Recorded.{any_true, HasRow, kept, entry_shows, row_stands, key-row_of}

-- pages that were read back and are true hold what was recorded
own_got : (rules : Rules) (a : Account) (page : ℕ) (b : Bool) (x : GotPage) (rest : Held) → (x.page == page) ≡ b → x.held ≡ held rules a x.page → rest ≡ held rules a page → cond b x.held rest ≡ held rules a page
own_got rules a page true x rest e is more = is ∙ ap (held rules a) ((Decides-eqb x.page page).0 e)
own_got rules a page false x rest e is more = more

all_got : (rules : Rules) (a : Account) (page : ℕ) (got : List GotPage) → ((x : GotPage) → Contains got x → x.held ≡ held rules a x.page) → got_or got page (held rules a page) ≡ held rules a page
all_got rules a page [] is = refl
all_got rules a page (x ∷ got) is =
    own_got rules a page (x.page == page) x (got_or got page (held rules a page)) refl (is x (has_first x got)) (all_got rules a page got (λ y h. is y (has_later x got y h)))

module _ (routers : ℕ) (rules : RouterRules) (layout : Layout) (history : History) (query : QueryRun) (true_query : IsTrueQuery routers rules history query) where
  abbrev net : Net
  net = net_at rules layout history query

  abbrev asked_for : Node → Type 0
  asked_for n = IsAsked net everywhere (start_of query ∷ []) n

  abbrev own : Receipt → Account
  own x = account rules x.hop.router history

  abbrev seen : Receipt → Sight
  seen x = sight_at rules history query x.hop.router

  -- the page of a hop, as the query sees it
  abbrev there : Receipt → UsedPage
  there x = page_by (rules x.hop.router) (ledger rules x.hop.router history) (query.reads x.hop.router) x.page

  held_is : (x : Receipt) → x.hop.router < routers → (there x).held ≡ held (rules x.hop.router) (own x) x.page
  held_is x lt = all_got (rules x.hop.router) (own x) x.page (query.reads x.hop.router).got (true_query x.hop.router lt)

  page_seen : (x : Receipt) → IsUsed rules history query x → Contains (seen x).used (there x)
  page_seen x used = into_map (page_by (rules x.hop.router) (ledger rules x.hop.router history) (query.reads x.hop.router)) (used_at rules history query x.hop.router) x.page used

  hop_hit : (x : Receipt) → IsRecord routers history x → IsUsed rules history query x → IsHit net (node_of x)
  hop_hit x is used =
      let r = x.hop.router in
      let shows : are_in (held (rules r) (own x) x.page).bits (marks (rules r) (own x).router x.page x.hop.sig) ≡ true =
      entry_shows (rules r) (own x) x.page x.hop.sig (kept rules history x is.recorded).entry in
      let Q : Held → Type 0 = λ h. are_in h.bits (marks (rules r) (own x).router x.page x.hop.sig) ≡ true in
      any_true (holds_sig (shape_of (rules r) (own x).router) x.hop.sig) (seen x).used (there x) (page_seen x used)
      (subst Q (sym (held_is x is.exists)) shows)

  -- what came to a hop that changed a packet is among the origins of what it recorded
  changed_from : (x : Receipt) (kind : Kind) (old : Sig) → IsRecord routers history x → length old.bytes ≡ 28 → IsUsed rules history query x → x.hop.origin ≡ changed kind old → Contains (origins (seen x) x.hop.sig) old
  changed_from x kind old is sized used e =
      let sig = x.hop.sig in
      let row = row_of kind old sig in
      let k = kept rules history x is.recorded in
      let O : Origin → Type 0 = λ o. HasRow (own x).rows x.page sig o in
      let stands : Contains (own x).rows (record { page = x.page; row = row }) = subst O e k.row in
      let Q : Held → Type 0 = λ h. Contains h.rows row in
      let in_page : Contains (there x).held.rows row = subst Q (sym (held_is x is.exists)) (row_stands (own x).rows x.page row stands) in
      let S : Sig → Type 0 = λ s. Contains (undone sig (there x)) s in
      has_later sig (flat_map (undone sig) (seen x).used) old
      (into_flat_map (undone sig) (seen x).used (there x) old (page_seen x used)
      (subst S (inverse_gives_old kind old sig sized is.sized)
      (into_map (λ (y : Row). inverse_of y sig) (filter (λ (y : Row). y.key == key_of sig) (there x).held.rows) row
      (into_filter (λ (y : Row). y.key == key_of sig) (there x).held.rows row in_page (eq-eqb row.key (key_of sig) (key-row_of kind old sig))))))

  -- the signature with which a packet came to a hop is one of them
  comes_from : (x : Receipt) (sig : Sig) (o : Origin) → IsRecord routers history x → length sig.bytes ≡ 28 → IsUsed rules history query x → x.hop.origin ≡ o → sig ≡ came_as x.hop.sig o → Contains (origins (seen x) x.hop.sig) sig
  comes_from x sig same is sized used e came =
      let P : Sig → Type 0 = λ s. Contains (origins (seen x) x.hop.sig) s in
      subst P (sym came) (has_first x.hop.sig (flat_map (undone x.hop.sig) (seen x).used))
  comes_from x sig (changed kind old) is sized used e came =
      let P : Sig → Type 0 = λ s. Contains (origins (seen x) x.hop.sig) s in
      let Long : Sig → Type 0 = λ s. length s.bytes ≡ 28 in
      subst P (sym came) (changed_from x kind old is (subst Long came sized) used e)

  node_there : (x : Receipt) → IsRecord routers history x → IsUsed rules history query x → asked_for (node_of x) → IsNode net everywhere (start_of query ∷ []) (node_of x)
  node_there x is used asked = node_from_asked net everywhere (start_of query ∷ []) (node_of x) asked (hop_hit x is used)

  step_there : (later x : Receipt) → IsRecord routers history later → IsRecord routers history x → IsUsed rules history query later → IsTrue (is_linked layout.links later.hop.router x.hop.router) → x.hop.sig ≡ came_as later.hop.sig later.hop.origin → IsStep net (node_of later) (node_of x)
  step_there later x is_later is used linked came = record { linked = linked; origin = comes_from later x.hop.sig later.hop.origin is_later is.sized used refl came }

  next_asked : (later x : Receipt) → IsNode net everywhere (start_of query ∷ []) (node_of later) → IsStep net (node_of later) (node_of x) → asked_for (node_of x)
  next_asked later x node step = inr (record { from = node_of later; node = node; step = step; within = refl })

  route_head : (x : Receipt) (earlier : List Receipt) → IsRoute routers layout history x earlier → IsRecord routers history x
  route_head x [] h = h
  route_head x (y ∷ earlier) h = h.0

  used_head : (x : Receipt) (earlier : List Receipt) → AreUsed rules history query x earlier → IsUsed rules history query x
  used_head x [] h = h
  used_head x (y ∷ earlier) h = h.0

  starts : (last : Receipt) → node_of last ≡ start_of query → asked_for (node_of last)
  starts last leads =
      let P : Node → Type 0 = λ n. Contains (start_of query ∷ []) n in
      inl (subst P (sym leads) (has_first (start_of query) []))

  walk : (graph : Graph) → IsFlood net (start_of query) graph → (last : Receipt) (earlier : List Receipt) → asked_for (node_of last) → IsRoute routers layout history last earlier → AreUsed rules history query last earlier → IsHeld graph last earlier
  walk graph flood last [] asked route used = (flood.nodes.same (node_of last)).1 (node_there last route used asked)
  walk graph flood last (x ∷ earlier) asked route used =
      let node = node_there last route.0 used.0 asked in
      let is = route_head x earlier route.3 in
      let step = step_there last x route.0 is used.0 route.1 route.2 in (
        (flood.nodes.same (node_of last)).1 node,
        (flood.edges.same (edge_from (node_of last) (node_of x))).1 (record { node = node; step = step; within = refl; hit = hop_hit x is (used_head x earlier used.1) }),
        walk graph flood x earlier (next_asked last x node step) route.3 used.1,
      )

  told_by : (graph : Graph) → IsFlood net (start_of query) graph → (n : Node) (b : Bool) → net.hit n ≡ b → asked_for n → net.missing n.router.number ≡ true → Contains graph.nodes n ⊎ Contains graph.unknown n
  told_by graph flood n true e asked missing = inl ((flood.nodes.same n).1 (node_from_asked net everywhere (start_of query ∷ []) n asked e))
  told_by graph flood n false e asked missing = inr ((flood.unknown.same n).1 (record { asked = asked; unseen = e; missing = missing }))

  no_no : (graph : Graph) → IsFlood net (start_of query) graph → (n : Node) → asked_for n → net.missing n.router.number ≡ true → IsNoNo net (start_of query) graph n
  no_no graph flood n asked missing = record {
    asked = asked;
    told = told_by graph flood n (net.hit n) refl asked missing;
    unclear = λ h. let clear = (flood.clear.same n).0 h in false≢true (sym clear.complete ∙ missing);
  }

  back : (graph : Graph) → IsFlood net (start_of query) graph → (last : Receipt) (earlier : List Receipt) (x : Receipt) → asked_for (node_of last) → IsRoute routers layout history last earlier → IsFirstUnused rules history query last earlier x → net.missing x.hop.router ≡ true → IsNoNo net (start_of query) graph (node_of x)
  back graph flood last [] x asked route first missing =
      let P : Receipt → Type 0 = λ y. asked_for (node_of y) in
      no_no graph flood (node_of x) (subst P first.0 asked) missing
  back graph flood last (next ∷ earlier) x asked route first missing =
      ⊎_elim
      (λ (here : (last ≡ x) × (IsUsed rules history query last → ⊥)).
      let P : Receipt → Type 0 = λ y. asked_for (node_of y) in
      no_no graph flood (node_of x) (subst P here.0 asked) missing)
      (λ (later : IsUsed rules history query last × IsFirstUnused rules history query next earlier x).
      back graph flood next earlier x (next_asked last next (node_there last route.0 later.0 asked) (step_there last next route.0 (route_head next earlier route.3) later.0 route.1 route.2)) route.3 later.1 missing)
      first

pub routes_are_found : RoutesAreFound
routes_are_found routers rules layout history query graph last earlier to used =
    walk routers rules layout history query to.is_true graph to.flood last earlier (starts routers rules layout history query to.is_true last to.leads) to.route used

pub never_a_no : NeverANo
never_a_no routers rules layout history query graph last earlier x to first missing =
    back routers rules layout history query to.is_true graph to.flood last earlier x (starts routers rules layout history query to.is_true last to.leads) to.route first missing
