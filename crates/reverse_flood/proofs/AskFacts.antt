-- A pair is asked, and a search goes on.
use Rattle.std.proofs.Common.{◌≡◌, ◌∙◌, ℕ, ◌+◌, ◌<◌, ◌≤◌, ◌⊎◌, inl, inr, ⊎_elim, Bool, true, false, List, [], ◌∷◌, ◌++◌, length, drop, get_or, suc, Option, Some, None, refl, sym, subst, ap, arith, ◌↔◌, IsTrue, drop-cons}
use Rattle.std.proofs.lemmas.Bool.{cond-true, cond-false, false≢true}
use Rattle.std.proofs.lemmas.List.{map-append, drop-append-le}
use Rattle.std.proofs.lemmas.List.Elements.{Contains-append_left, Contains-append_right, Contains-append_cases}
use Rattle.std.specs.BTreeMap.{get}
use Rattle.std.specs.List.{Contains, flat_map}
use Rattle.spie_base.proofs.Membership.{has_none, has_cases, into_map}
use Rattle.spie_base.specs.Order.{sig_cmp}
use Rattle.spie_base.specs.declared.Sig.{Sig}
use Rattle.spie_base.specs.declared.RouterId.{RouterId}
use Rattle.topology.specs.Layout.{Layout}
use Rattle.topology.specs.declared.limits.TheConstants.{ROUTERS_MOST}
use Rattle.reverse_flood.specs.declared.graphs.Node.{Node}
use Rattle.reverse_flood.specs.declared.cells.Search.{Search}
use Rattle.reverse_flood.specs.declared.leads.Lead.{Lead}
use Rattle.reverse_flood.specs.declared.leads.Leads.{Leads}
use Rattle.reverse_flood.specs.Flood.{Net, IsHit, is_within}
use Rattle.reverse_flood.specs.Search.{is_named, is_hit_cell, IsSettled, IsUnderWay}
use Rattle.reverse_flood.specs.Leads.{AreLeads, Asks, IsAmong, KeepsNames, Names, NamesWithin, SameTold, Settles, added_by, nodes_of, pairs_with}
use Rattle.reverse_flood.proofs.LeadFacts.{adds_none, lead_kept, names_keep, none_on, same_named, steps_has}
use Rattle.reverse_flood.proofs.Worklists.{node_from_asked}

-- a settled pair and the others: what was named stays named
pub settles_keep : (node : Node) (known : Bool) (origins : Option (List Sig)) (old new : Search) → Settles node known origins old new → KeepsNames old new
settles_keep node known origins old new s = record {
  rows = λ sig row h. ap (λ m. get sig_cmp m sig) s.rows ∙ h;
  named = λ n few h. ⊎_elim
      (λ (e : node ≡ n). let P : Node → Type 0 = λ m. is_named new m ≡ true in subst P e s.named)
      (λ o. same_named n old new o ∙ h)
      (s.others n few);
}

-- a pair that is named after it was settled was named before
settles_only : (node : Node) (known : Bool) (origins : Option (List Sig)) (old new : Search) → Settles node known origins old new → is_named old node ≡ true → (n : Node) → n.router.number < ROUTERS_MOST → is_named new n ≡ true → is_named old n ≡ true
settles_only node known origins old new s was n few h =
    ⊎_elim
    (λ (e : node ≡ n). let P : Node → Type 0 = λ m. is_named old m ≡ true in subst P e was)
    (λ o. sym (same_named n old new o) ∙ h)
    (s.others n few)

-- a pair that is hit
pub asks_hit : (lane : Option ℕ) (net : Net) (layout : Layout) (inside : ℕ → Bool) (node : Node) (near : List RouterId) (sigs : List Sig) (old mid new : Search) (before after : Leads) → length layout.names ≤ ROUTERS_MOST → is_named old node ≡ true → node.router.number < ROUTERS_MOST
    → IsHit net node → ((q : RouterId) → Contains near q ↔ (IsTrue (net.linked node.router.number q.number) × (inside q.number ≡ true))) → ((q : RouterId) → Contains near q → q.number < length layout.names) → sigs ≡ net.origins node
    → Names lane layout (flat_map (pairs_with near) sigs) old mid before after → Settles node true (Some sigs) mid new → Asks lane net layout inside node old new before after
asks_hit lane net layout inside node near sigs old mid new before after few was small hit same exist origins names settles =
    let keeps = settles_keep node true (Some sigs) mid new settles in
    let mid_named : is_named mid node ≡ true = (names_keep lane layout (flat_map (pairs_with near) sigs) old mid before after names).named node small was in
    let O : List Sig → Option (List Sig) = λ l. Some l in
    record {
      fine = settles.fine;
      rows = λ sig row h. keeps.rows sig row (names.rows sig row h);
      named = settles.named;
      settled = record {
        found = settles.found ∙ ap O origins ∙ sym (cond-true (net.hit node) (Some (net.origins node)) None hit);
        known = settles.known ∙ sym hit;
        steps = λ m _ step within.
            let Has : List Sig → Type 0 = λ l. Contains l m.sig in
            let near_has = (same m.router).1 (step.linked, within) in
            let exists = exist m.router near_has in
            let m_small : m.router.number < ROUTERS_MOST = omega (arith, exists, few) in
            keeps.named m m_small (names.all m m_small ((steps_has near sigs m).1 (near_has, subst Has (sym origins) step.origin)));
      };
      kept = λ n n_small h.
          let first = names.kept n n_small h in
          ⊎_elim
          (λ e. inl e)
          (λ o. inr (record { cell = o.cell ∙ first.cell; found = o.found ∙ first.found }))
          (settles.others n n_small);
      leads = names.leads;
      stays = names.stays;
      at_home = names.at_home;
      elsewhere = names.elsewhere;
      only = λ n n_small h. ⊎_elim
          (λ o. inl o)
          (λ x.
          let s = (steps_has near sigs n).0 x.0 in
          let l = (same n.router).0 s.0 in
          let Has : List Sig → Type 0 = λ l. Contains l n.sig in
          inr (hit, record { linked = l.0; origin = subst Has origins s.1 }, l.1, x.1))
          (names.only n n_small (settles_only node true (Some sigs) mid new settles mid_named n n_small h));
      each = λ l h. lead_kept layout mid new l few keeps (names.each l h);
    }

-- a pair that is no hit
pub asks_unseen : (lane : Option ℕ) (net : Net) (layout : Layout) (inside : ℕ → Bool) (node : Node) (old new : Search) (leads : Leads) → is_named old node ≡ true → net.hit node ≡ false → Settles node false None old new → Asks lane net layout inside node old new leads leads
asks_unseen lane net layout inside node old new leads was unseen settles = record {
  fine = settles.fine;
  rows = (settles_keep node false None old new settles).rows;
  named = settles.named;
  settled = record {
    found = settles.found ∙ sym (cond-false (net.hit node) (Some (net.origins node)) None unseen);
    known = settles.known ∙ sym unseen;
    steps = λ m hit _ _. absurd (false≢true (sym unseen ∙ hit));
  };
  kept = λ n small _. settles.others n small;
  leads = adds_none leads;
  stays = λ e. refl;
  at_home = none_on true lane layout;
  elsewhere = none_on false lane layout;
  only = λ n small h. inl (settles_only node false None old new settles was n small h);
  each = λ l h. absurd (has_none l h);
}

-- ---- a search goes on

pub asks_keep : (lane : Option ℕ) (net : Net) (layout : Layout) (inside : ℕ → Bool) (node : Node) (old new : Search) (before after : Leads) → Asks lane net layout inside node old new before after → KeepsNames old new
asks_keep lane net layout inside node old new before after asks = record {
  rows = asks.rows;
  named = λ n few h. ⊎_elim
      (λ (e : node ≡ n). let P : Node → Type 0 = λ m. is_named new m ≡ true in subst P e asks.named)
      (λ o. same_named n old new o ∙ h)
      (asks.kept n few h);
}

-- what was settled stays settled
pub settled_kept : (net : Net) (layout : Layout) (inside : ℕ → Bool) (old new : Search) (n : Node) → length layout.names ≤ ROUTERS_MOST → ((a b : ℕ) → IsTrue (net.linked a b) → b < length layout.names) → KeepsNames old new → SameTold n old new → IsSettled net inside old n → IsSettled net inside new n
settled_kept net layout inside old new n few ends keeps same is = record {
  found = same.found ∙ is.found;
  known = ap is_hit_cell same.cell ∙ is.known;
  steps = λ m hit step within.
      let exists = ends n.router.number m.router.number step.linked in
      keeps.named m (omega (arith, exists, few)) (is.steps m hit step within);
}

-- one of the waiting pairs was asked
pub under_way_next : (lane : Option ℕ) (net : Net) (layout : Layout) (inside : ℕ → Bool) (entries : List Node) (node : Node) (old new : Search) (before after : Leads) (waiting still : List Node) → length layout.names ≤ ROUTERS_MOST → ((a b : ℕ) → IsTrue (net.linked a b) → b < length layout.names)
    → is_named old node ≡ true → node.router.number < ROUTERS_MOST → (asks : Asks lane net layout inside node old new before after)
    → ((n : Node) → Contains waiting n → (node ≡ n) ⊎ Contains still n) → ((n : Node) → IsAmong (added_by asks.leads) n → Contains still n) → IsUnderWay net inside entries old waiting → IsUnderWay net inside entries new still
under_way_next lane net layout inside entries node old new before after waiting still few ends was small asks left added is =
    let keeps = asks_keep lane net layout inside node old new before after asks in
    let asked = is.sound node small was in
    record {
      sound = λ n n_small h. ⊎_elim
          (λ o. is.sound n n_small o)
          (λ x. inr (record { from = node; node = node_from_asked net inside entries node asked x.0; step = x.1; within = x.2 }))
          (asks.only n n_small h);
      entered = λ n n_small h. keeps.named n n_small (is.entered n n_small h);
      settled = λ n n_small h. ⊎_elim
          (λ o. ⊎_elim
          (λ (e : node ≡ n). let P : Node → Type 0 = λ m. IsSettled net inside new m in inr (subst P e asks.settled))
          (λ same. ⊎_elim
          (λ waits. ⊎_elim
          (λ (e : node ≡ n). let P : Node → Type 0 = λ m. IsSettled net inside new m in inr (subst P e asks.settled))
          (λ stays. inl stays)
          (left n waits))
          (λ settled. inr (settled_kept net layout inside old new n few ends keeps same settled))
          (is.settled n n_small o))
          (asks.kept n n_small o))
          (λ x. inl (added n x.3))
          (asks.only n n_small h);
    }

-- the pairs that wait, as leads at home from a place on, leads away, and others
abbrev pub waiting_from : List Lead → ℕ → List Lead → List Node → List Node
waiting_from home next away rest = nodes_of (drop next home) ++ (nodes_of away ++ rest)

still_home : (home added : List Lead) (next : ℕ) → next < length home → nodes_of (drop (next + 1) (home ++ added)) ≡ nodes_of (drop (next + 1) home) ++ nodes_of added
still_home home added next l =
    ap nodes_of (drop-append-le (next + 1) home added (omega (arith, l)))
    ∙ map-append (λ (x : Lead). x.node) (drop (next + 1) home) added

-- those that waited wait still, but for the one that is asked
pub still_waiting : (home away home_new away_new home_added away_added : List Lead) (next : ℕ) (lead : Lead) (rest : List Node) → next < length home → lead ≡ get_or home next lead → home_new ≡ home ++ home_added → away_new ≡ away ++ away_added → (n : Node) → Contains (waiting_from home next away rest) n → (lead.node ≡ n) ⊎ Contains (waiting_from home_new (next + 1) away_new rest) n
still_waiting home away home_new away_new home_added away_added next lead rest l is more more_away n h =
    let later = drop (next + 1) home in
    let one : suc next ≡ next + 1 = omega arith in
    let front : nodes_of (drop next home) ≡ lead.node ∷ nodes_of later =
    ap nodes_of (drop-cons home next lead l ∙ ap (λ (x : Lead). x ∷ drop (suc next) home) (sym is)) ∙ ap (λ k. lead.node ∷ nodes_of (drop k home)) one in
    let Has : List Node → Type 0 = λ ns. Contains ns n in
    let Home : List Lead → Type 0 = λ ls. Contains (waiting_from ls (next + 1) away_new rest) n in
    let Away : List Lead → Type 0 = λ ls. Contains (nodes_of (drop (next + 1) (home ++ home_added)) ++ (nodes_of ls ++ rest)) n in
    let put : Contains (nodes_of (drop (next + 1) (home ++ home_added)) ++ (nodes_of (away ++ away_added) ++ rest)) n → Contains (waiting_from home_new (next + 1) away_new rest) n = λ x. subst Home (sym more) (subst Away (sym more_away) x) in
    let nodes_more = map-append (λ (x : Lead). x.node) away away_added in
    ⊎_elim
    (λ x. ⊎_elim
    (λ e. inl e)
    (λ y. inr (put (Contains-append_left _ _ n (subst Has (sym (still_home home home_added next l)) (Contains-append_left (nodes_of later) (nodes_of home_added) n y)))))
    (has_cases lead.node (nodes_of later) n (subst Has front x)))
    (λ x. inr (put (Contains-append_right _ _ n (⊎_elim
    (λ y. Contains-append_left (nodes_of (away ++ away_added)) rest n (subst Has (sym nodes_more) (Contains-append_left (nodes_of away) (nodes_of away_added) n y)))
    (λ y. Contains-append_right (nodes_of (away ++ away_added)) rest n y)
    (Contains-append_cases (nodes_of away) rest n x)))))
    (Contains-append_cases (nodes_of (drop next home)) (nodes_of away ++ rest) n h)

-- and new leads wait
pub added_waiting : (home away home_new away_new home_added away_added : List Lead) (next : ℕ) (rest : List Node) → next < length home → home_new ≡ home ++ home_added → away_new ≡ away ++ away_added → (n : Node) → IsAmong (home_added ++ away_added) n → Contains (waiting_from home_new (next + 1) away_new rest) n
added_waiting home away home_new away_new home_added away_added next rest l more more_away n among =
    let Has : List Node → Type 0 = λ ns. Contains ns n in
    let Home : List Lead → Type 0 = λ ls. Contains (waiting_from ls (next + 1) away_new rest) n in
    let Away : List Lead → Type 0 = λ ls. Contains (nodes_of (drop (next + 1) (home ++ home_added)) ++ (nodes_of ls ++ rest)) n in
    let put : Contains (nodes_of (drop (next + 1) (home ++ home_added)) ++ (nodes_of (away ++ away_added) ++ rest)) n → Contains (waiting_from home_new (next + 1) away_new rest) n = λ x. subst Home (sym more) (subst Away (sym more_away) x) in
    let nodes_more = map-append (λ (x : Lead). x.node) away away_added in
    let At : List Lead → Node → Type 0 = λ ls m. Contains (nodes_of ls) m in
    put (⊎_elim
    (λ x. Contains-append_left _ _ n (subst Has (sym (still_home home home_added next l)) (Contains-append_right (nodes_of (drop (next + 1) home)) (nodes_of home_added) n (subst (At home_added) among.is (into_map (λ (y : Lead). y.node) home_added among.lead x)))))
    (λ x. Contains-append_right _ _ n (Contains-append_left (nodes_of (away ++ away_added)) rest n (subst Has (sym nodes_more) (Contains-append_right (nodes_of away) (nodes_of away_added) n (subst (At away_added) among.is (into_map (λ (y : Lead). y.node) away_added among.lead x))))))
    (Contains-append_cases home_added away_added among.lead among.has))

-- leads stay leads, and new ones are some
pub leads_more : (lane : Option ℕ) (net : Net) (layout : Layout) (inside : ℕ → Bool) (node : Node) (old new : Search) (before after : Leads) → length layout.names ≤ ROUTERS_MOST → Asks lane net layout inside node old new before after → AreLeads layout old before.home.items → AreLeads layout old before.away.items → AreLeads layout new after.home.items × AreLeads layout new after.away.items
leads_more lane net layout inside node old new before after few asks home away =
    let keeps = asks_keep lane net layout inside node old new before after asks in
    let a = asks.leads in
    let Has : Lead → List Lead → Type 0 = λ l ls. Contains ls l in (
      (λ l h. ⊎_elim (λ o. lead_kept layout old new l few keeps (home l o)) (λ x. asks.each l (Contains-append_left a.home_added a.away_added l x)) (Contains-append_cases before.home.items a.home_added l (subst (Has l) a.home h))),
      (λ l h. ⊎_elim (λ o. lead_kept layout old new l few keeps (away l o)) (λ x. asks.each l (Contains-append_right a.home_added a.away_added l x)) (Contains-append_cases before.away.items a.away_added l (subst (Has l) a.away h))),
    )

-- what is named is within, or away
pub names_within : (lane : Option ℕ) (net : Net) (layout : Layout) (inside : ℕ → Bool) (node : Node) (start old new : Search) (before after : Leads) → Asks lane net layout inside node old new before after → NamesWithin (is_within layout lane) start old before.away.items → NamesWithin (is_within layout lane) start new after.away.items
names_within lane net layout inside node start old new before after asks so_far = λ n small h.
    let a = asks.leads in
    ⊎_elim
    (λ o. ⊎_elim
    (λ was. inl was)
    (λ rest. inr (⊎_elim
    (λ within. inl within)
    (λ away. let Has : List Lead → Type 0 = λ ls. Contains ls away.lead in inr (record { lead = away.lead; has = subst Has (sym a.away) (Contains-append_left before.away.items a.away_added away.lead away.has); is = away.is }))
    rest))
    (so_far n small o))
    (λ x.
    let among = x.3 in
    let Has : List Lead → Type 0 = λ ls. Contains ls among.lead in
    let Within : Node → Type 0 = λ m. is_within layout lane m.router.number ≡ true in
    inr (⊎_elim
    (λ home. inl (subst Within among.is (asks.at_home among.lead home)))
    (λ away. inr (record { lead = among.lead; has = subst Has (sym a.away) (Contains-append_right before.away.items a.away_added among.lead away); is = among.is }))
    (Contains-append_cases a.home_added a.away_added among.lead among.has)))
    (asks.only n small h)

pub keeps_join : (a b c : Search) → KeepsNames a b → KeepsNames b c → KeepsNames a c
keeps_join a b c first second = record {
  rows = λ sig row h. second.rows sig row (first.rows sig row h);
  named = λ n few h. second.named n few (first.named n few h);
}

-- ---- a search begins

pub under_way_begin : (lane : Option ℕ) (net : Net) (layout : Layout) (inside : ℕ → Bool) (entries : List Node) (old new : Search) (before after : Leads) → ((n : Node) → is_named old n ≡ false) → before.home.items ≡ [] → after.away.items ≡ [] → Names lane layout entries old new before after → IsUnderWay net inside entries new (nodes_of after.home.items)
under_way_begin lane net layout inside entries old new before after none empty away names = record {
  sound = λ n few h. ⊎_elim (λ o. absurd (false≢true (sym (none n) ∙ o))) (λ x. inl x.0) (names.only n few h);
  entered = names.all;
  settled = λ n few h. ⊎_elim
      (λ o. absurd (false≢true (sym (none n) ∙ o)))
      (λ x.
      let l = x.1.lead in
      let a = names.leads in
      let Home : List Lead → Type 0 = λ ls. Contains ls l in
      let At : Node → Type 0 = λ m. Contains (nodes_of after.home.items) m in
      let put : Contains a.home_added l → Contains (nodes_of after.home.items) n = λ h. subst At x.1.is (into_map (λ (y : Lead). y.node) after.home.items l (subst Home (sym a.home) (Contains-append_right before.home.items a.home_added l h))) in
      inl (⊎_elim put (λ h. absurd (has_none l (subst Home away (subst Home (sym a.away) (Contains-append_right before.away.items a.away_added l h))))) (Contains-append_cases a.home_added a.away_added l x.1.has)))
      (names.only n few h);
}

-- where more pairs wait
pub under_way_wider : (net : Net) (inside : ℕ → Bool) (entries : List Node) (s : Search) (waiting more : List Node) → ((n : Node) → Contains waiting n → Contains more n) → IsUnderWay net inside entries s waiting → IsUnderWay net inside entries s more
under_way_wider net inside entries s waiting more all is = record {
  sound = is.sound;
  entered = is.entered;
  settled = λ n few h. ⊎_elim (λ w. inl (all n w)) (λ x. inr x) (is.settled n few h);
}
