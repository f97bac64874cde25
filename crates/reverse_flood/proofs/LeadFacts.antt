-- Pairs are named one after another.
use Rattle.std.proofs.Common.{◌≡◌, ◌∙◌, ℕ, ◌+◌, ◌<◌, ◌≤◌, ◌⊎◌, inl, inr, ⊎_elim, Bool, true, false, cond, List, [], ◌∷◌, ◌++◌, length, take, get_or, Option, Some, refl, sym, subst, ap, append_assoc, append-nil, arith, ◌↔◌}
use Rattle.std.proofs.lemmas.Bool.{false≢true}
use Rattle.std.proofs.lemmas.List.{take_more, map-append}
use Rattle.std.proofs.lemmas.List.Elements.{filter_more, Contains-append_left, Contains-append_right, Contains-append_cases}
use Rattle.std.specs.BTreeMap.{get}
use Rattle.std.specs.List.{Contains, filter, flat_map}
use Rattle.spie_base.proofs.FlatMaps.{flat_map_next}
use Rattle.spie_base.proofs.Membership.{has_none, has_first, has_one, from_map, into_map, from_flat_map, into_flat_map}
use Rattle.spie_base.specs.Order.{sig_cmp}
use Rattle.spie_base.specs.declared.Sig.{Sig}
use Rattle.spie_base.specs.declared.RouterId.{RouterId}
use Rattle.topology.specs.Layout.{Layout}
use Rattle.topology.specs.declared.limits.TheConstants.{ROUTERS_MOST}
use Rattle.reverse_flood.specs.declared.graphs.Node.{Node}
use Rattle.reverse_flood.specs.declared.cells.Search.{Search}
use Rattle.reverse_flood.specs.declared.leads.Lead.{Lead}
use Rattle.reverse_flood.specs.declared.leads.Leads.{Leads}
use Rattle.reverse_flood.specs.Rows.{KeepsRows}
use Rattle.reverse_flood.specs.Search.{cell_at, is_named, is_taken, origins_by, rows_in, IsFine}
use Rattle.reverse_flood.specs.Flood.{is_within}
use Rattle.reverse_flood.specs.Leads.{AddsLeads, AreOn, IsLead, KeepsNames, Names, PushesLead, SameTold, pair_with, pairs_with}

-- ---- leads

abbrev pub adds_none : (l : Leads) → AddsLeads l l
adds_none l = record { home_added = []; away_added = []; home = sym (append-nil l.home.items); away = sym (append-nil l.away.items) }

abbrev pub adds_join : (a b c : Leads) → AddsLeads a b → AddsLeads b c → AddsLeads a c
adds_join a b c first second = record {
  home_added = first.home_added ++ second.home_added;
  away_added = first.away_added ++ second.away_added;
  home = second.home ∙ ap (λ (l : List Lead). l ++ second.home_added) first.home ∙ append_assoc a.home.items first.home_added second.home_added;
  away = second.away ∙ ap (λ (l : List Lead). l ++ second.away_added) first.away ∙ append_assoc a.away.items first.away_added second.away_added;
}

-- no leads are on either side
pub none_on : (within : Bool) (lane : Option ℕ) (layout : Layout) → AreOn within lane layout []
none_on within lane layout = λ l h. absurd (has_none l h)

one_on : (within : Bool) (lane : Option ℕ) (layout : Layout) (lead : Lead) → is_within layout lane lead.node.router.number ≡ within → AreOn within lane layout (lead ∷ [])
one_on within lane layout lead is = λ l h. let Is : Lead → Type 0 = λ x. is_within layout lane x.node.router.number ≡ within in subst Is (has_one lead l h) is

pub pushes_home : (lane : Option ℕ) (layout : Layout) (lead : Lead) (before after : Leads) → is_within layout lane lead.node.router.number ≡ true → after.home.items ≡ before.home.items ++ lead ∷ [] → after.away.items ≡ before.away.items → PushesLead lane layout lead before after
pushes_home lane layout lead before after inside home away = record {
  adds = record { home_added = lead ∷ []; away_added = []; home = home; away = away ∙ sym (append-nil before.away.items) };
  is = refl;
  stays = λ e. refl;
  at_home = one_on true lane layout lead inside;
  elsewhere = none_on false lane layout;
}

pub pushes_away : (lane : Option ℕ) (layout : Layout) (lead : Lead) (before after : Leads) → is_within layout lane lead.node.router.number ≡ false → after.away.items ≡ before.away.items ++ lead ∷ [] → after.home.items ≡ before.home.items → PushesLead lane layout lead before after
pushes_away lane layout lead before after outside away home = record {
  adds = record { home_added = []; away_added = lead ∷ []; home = home ∙ sym (append-nil before.home.items); away = away };
  is = refl;
  stays = λ none. let P : Option ℕ → Type 0 = λ o. is_within layout o lead.node.router.number ≡ false in absurd (false≢true (sym (subst P none outside)));
  at_home = none_on true lane layout;
  elsewhere = one_on false lane layout lead outside;
}

-- what is in both parts
pub four_cases : (a b c d : List Lead) (l : Lead) → Contains ((a ++ c) ++ (b ++ d)) l → Contains (a ++ b) l ⊎ Contains (c ++ d) l
four_cases a b c d l h =
    ⊎_elim
    (λ x. ⊎_elim (λ y. inl (Contains-append_left a b l y)) (λ y. inr (Contains-append_left c d l y)) (Contains-append_cases a c l x))
    (λ x. ⊎_elim (λ y. inl (Contains-append_right a b l y)) (λ y. inr (Contains-append_right c d l y)) (Contains-append_cases b d l x))
    (Contains-append_cases (a ++ c) (b ++ d) l h)

pub four_first : (a b c d : List Lead) (l : Lead) → Contains (a ++ b) l → Contains ((a ++ c) ++ (b ++ d)) l
four_first a b c d l h =
    ⊎_elim
    (λ x. Contains-append_left (a ++ c) (b ++ d) l (Contains-append_left a c l x))
    (λ x. Contains-append_right (a ++ c) (b ++ d) l (Contains-append_left b d l x))
    (Contains-append_cases a b l h)

pub four_second : (a b c d : List Lead) (l : Lead) → Contains (c ++ d) l → Contains ((a ++ c) ++ (b ++ d)) l
four_second a b c d l h =
    ⊎_elim
    (λ x. Contains-append_left (a ++ c) (b ++ d) l (Contains-append_right a c l x))
    (λ x. Contains-append_right (a ++ c) (b ++ d) l (Contains-append_right b d l x))
    (Contains-append_cases c d l h)

-- a lead stays one
pub lead_kept : (layout : Layout) (old new : Search) (l : Lead) → length layout.names ≤ ROUTERS_MOST → KeepsNames old new → IsLead layout old l → IsLead layout new l
lead_kept layout old new l few keeps is =
    let exists = is.exists in
    let small : l.node.router.number < ROUTERS_MOST = omega (arith, exists, few) in
    record { row = keeps.rows l.node.sig l.row is.row; exists = is.exists; named = keeps.named l.node small is.named }

pub same_named : (n : Node) (old new : Search) → SameTold n old new → is_named new n ≡ is_named old n
same_named n old new same = ap is_taken same.cell

pub names_keep : (lane : Option ℕ) (layout : Layout) (nodes : List Node) (old new : Search) (before after : Leads) → Names lane layout nodes old new before after → KeepsNames old new
names_keep lane layout nodes old new before after names = record {
  rows = names.rows;
  named = λ n few h. same_named n old new (names.kept n few h) ∙ h;
}

-- ---- naming

pub names_none : (lane : Option ℕ) (layout : Layout) (s : Search) (l : Leads) → IsFine s → Names lane layout [] s s l l
names_none lane layout s l fine = record {
  fine = fine;
  rows = λ sig row h. h;
  kept = λ n few h. record { cell = refl; found = refl };
  all = λ n few h. absurd (has_none n h);
  leads = adds_none l;
  stays = λ e. refl;
  at_home = none_on true lane layout;
  elsewhere = none_on false lane layout;
  only = λ n few h. inl h;
  each = λ x h. absurd (has_none x h);
}

-- a row more
pub names_row : (lane : Option ℕ) (layout : Layout) (old new : Search) (l : Leads) → IsFine new → ((n : Node) → n.router.number < ROUTERS_MOST → cell_at new n ≡ cell_at old n) → new.changed ≡ old.changed → KeepsRows (rows_in old) (rows_in new) → Names lane layout [] old new l l
names_row lane layout old new l fine same changed kept = record {
  fine = fine;
  rows = kept;
  kept = λ n few h. record { cell = same n few; found = ap (origins_by new.changed.items n.sig) (same n few) ∙ ap (λ v. origins_by v.items n.sig (cell_at old n)) changed };
  all = λ n few h. absurd (has_none n h);
  leads = adds_none l;
  stays = λ e. refl;
  at_home = none_on true lane layout;
  elsewhere = none_on false lane layout;
  only = λ n few h. inl (ap is_taken (sym (same n few)) ∙ h);
  each = λ x h. absurd (has_none x h);
}

-- one pair, that was not named and is a lead now
pub names_new : (lane : Option ℕ) (layout : Layout) (node : Node) (lead : Lead) (old new : Search) (before after : Leads) → IsFine new → new.rows ≡ old.rows → new.changed ≡ old.changed → is_named new node ≡ true
    → ((n : Node) → n.router.number < ROUTERS_MOST → is_named old n ≡ true → cell_at new n ≡ cell_at old n) → ((n : Node) → n.router.number < ROUTERS_MOST → is_named new n ≡ true → (is_named old n ≡ true) ⊎ (node ≡ n))
    → lead.node ≡ node → IsLead layout new lead → PushesLead lane layout lead before after → Names lane layout (node ∷ []) old new before after
names_new lane layout node lead old new before after fine rows changed named kept only is_node is pushes =
    let Has : Lead → List Lead → Type 0 = λ l ls. Contains ls l in
    let Named : Node → Type 0 = λ n. is_named new n ≡ true in
    record {
      fine = fine;
      rows = λ sig row h. ap (λ m. get sig_cmp m sig) rows ∙ h;
      kept = λ n few h. record { cell = kept n few h; found = ap (origins_by new.changed.items n.sig) (kept n few h) ∙ ap (λ v. origins_by v.items n.sig (cell_at old n)) changed };
      all = λ n few h. subst Named (has_one node n h) named;
      leads = pushes.adds;
      stays = pushes.stays;
      at_home = pushes.at_home;
      elsewhere = pushes.elsewhere;
      only = λ n few h. ⊎_elim
          (λ o. inl o)
          (λ (e : node ≡ n).
          let In : Node → Type 0 = λ m. Contains (node ∷ []) m in
          inr (subst In e (has_first node []), record { lead = lead; has = subst (Has lead) (sym pushes.is) (has_first lead []); is = is_node ∙ e }))
          (only n few h);
      each = λ l h. let P : Lead → Type 0 = λ x. IsLead layout new x in subst P (has_one lead l (subst (Has l) pushes.is h)) is;
    }

-- one pair that was named before
pub names_old : (lane : Option ℕ) (layout : Layout) (node : Node) (old new : Search) (l : Leads) → IsFine new → new.rows ≡ old.rows → new.changed ≡ old.changed → is_named old node ≡ true → is_named new node ≡ true
    → ((n : Node) → n.router.number < ROUTERS_MOST → is_named old n ≡ true → cell_at new n ≡ cell_at old n) → ((n : Node) → n.router.number < ROUTERS_MOST → is_named new n ≡ true → (is_named old n ≡ true) ⊎ (node ≡ n)) → Names lane layout (node ∷ []) old new l l
names_old lane layout node old new l fine rows changed was named kept only =
    let Named : Node → Type 0 = λ n. is_named new n ≡ true in
    let Was : Node → Type 0 = λ n. is_named old n ≡ true in
    record {
      fine = fine;
      rows = λ sig row h. ap (λ m. get sig_cmp m sig) rows ∙ h;
      kept = λ n few h. record { cell = kept n few h; found = ap (origins_by new.changed.items n.sig) (kept n few h) ∙ ap (λ v. origins_by v.items n.sig (cell_at old n)) changed };
      all = λ n few h. subst Named (has_one node n h) named;
      leads = adds_none l;
      stays = λ e. refl;
      at_home = none_on true lane layout;
      elsewhere = none_on false lane layout;
      only = λ n few h. inl (⊎_elim (λ o. o) (λ (e : node ≡ n). subst Was e was) (only n few h));
      each = λ x h. absurd (has_none x h);
    }

-- one list after another
pub names_join : (lane : Option ℕ) (layout : Layout) (ns ms : List Node) (a b c : Search) (la lb lc : Leads) → length layout.names ≤ ROUTERS_MOST → Names lane layout ns a b la lb → Names lane layout ms b c lb lc → Names lane layout (ns ++ ms) a c la lc
names_join lane layout ns ms a b c la lb lc few first second =
    let h1 = first.leads.home_added in
    let w1 = first.leads.away_added in
    let h2 = second.leads.home_added in
    let w2 = second.leads.away_added in
    let after : (n : Node) → n.router.number < ROUTERS_MOST → is_named a n ≡ true → is_named b n ≡ true = λ n small h. same_named n a b (first.kept n small h) ∙ h in
    let later : (n : Node) → n.router.number < ROUTERS_MOST → is_named b n ≡ true → is_named c n ≡ true = λ n small h. same_named n b c (second.kept n small h) ∙ h in
    record {
      fine = second.fine;
      rows = λ sig row h. second.rows sig row (first.rows sig row h);
      kept = λ n small h.
          let x = first.kept n small h in
          let y = second.kept n small (after n small h) in
          record { cell = y.cell ∙ x.cell; found = y.found ∙ x.found };
      all = λ n small h. ⊎_elim (λ x. later n small (first.all n small x)) (λ y. second.all n small y) (Contains-append_cases ns ms n h);
      leads = adds_join la lb lc first.leads second.leads;
      stays = λ e. ap (λ (w : List Lead). w ++ second.leads.away_added) (first.stays e) ∙ second.stays e;
      at_home = λ l h. ⊎_elim (λ x. first.at_home l x) (λ y. second.at_home l y) (Contains-append_cases h1 h2 l h);
      elsewhere = λ l h. ⊎_elim (λ x. first.elsewhere l x) (λ y. second.elsewhere l y) (Contains-append_cases w1 w2 l h);
      only = λ n small h. ⊎_elim
          (λ named. ⊎_elim
          (λ o. inl o)
          (λ x. inr (Contains-append_left ns ms n x.0, record { lead = x.1.lead; has = four_first h1 w1 h2 w2 x.1.lead x.1.has; is = x.1.is }))
          (first.only n small named))
          (λ y. inr (Contains-append_right ns ms n y.0, record { lead = y.1.lead; has = four_second h1 w1 h2 w2 y.1.lead y.1.has; is = y.1.is }))
          (second.only n small h);
      each = λ l h. ⊎_elim
          (λ x. lead_kept layout b c l few (names_keep lane layout ms b c lb lc second) (first.each l x))
          (λ y. second.each l y)
          (four_cases h1 w1 h2 w2 l h);
    }

-- the same list in other words
pub names_of : (lane : Option ℕ) (layout : Layout) (ns ms : List Node) (a b : Search) (la lb : Leads) → ns ≡ ms → Names lane layout ns a b la lb → Names lane layout ms a b la lb
names_of lane layout ns ms a b la lb e names = let P : List Node → Type 0 = λ l. Names lane layout l a b la lb in subst P e names

-- a turn of the loop over routers, over signatures and over pairs
pub beside_more : (p : RouterId → Bool) (near : List RouterId) (sig : Sig) (i : ℕ) (d : RouterId) → i < length near → pairs_with (filter p (take i near)) sig ++ cond (p (get_or near i d)) (pair_with sig (get_or near i d) ∷ []) [] ≡ pairs_with (filter p (take (i + 1) near)) sig
beside_more p near sig i d l =
    let r = get_or near i d in
    let done = filter p (take i near) in
    let by : (b : Bool) → pairs_with done sig ++ cond b (pair_with sig r ∷ []) [] ≡ pairs_with (done ++ cond b (r ∷ []) []) sig =
    elim [ true ↦ sym (map-append (pair_with sig) done (r ∷ [])) | false ↦ append-nil (pairs_with done sig) ∙ sym (ap (λ (rs : List RouterId). pairs_with rs sig) (append-nil done)) ] in
    by (p r) ∙ sym (ap (λ (rs : List RouterId). pairs_with rs sig) (filter_more p near i d l))

pub steps_more : (near : List RouterId) (sigs : List Sig) (i : ℕ) (d : Sig) → i < length sigs → flat_map (pairs_with near) (take i sigs) ++ pairs_with near (get_or sigs i d) ≡ flat_map (pairs_with near) (take (i + 1) sigs)
steps_more near sigs i d l = sym (flat_map_next (pairs_with near) sigs i (get_or sigs i d) d l refl)

pub each_more : (nodes : List Node) (i : ℕ) (d : Node) → i < length nodes → take i nodes ++ get_or nodes i d ∷ [] ≡ take (i + 1) nodes
each_more nodes i d l = sym (take_more nodes i d l)

-- what all steps name
pub steps_has : (near : List RouterId) (sigs : List Sig) (n : Node) → Contains (flat_map (pairs_with near) sigs) n ↔ (Contains near n.router × Contains sigs n.sig)
steps_has near sigs n = (
  (λ h.
      let p = from_flat_map (pairs_with near) sigs n h in
      let i = from_map (pair_with p.of) near n p.in_piece in
      let Near : RouterId → Type 0 = λ r. Contains near r in
      let Has : Sig → Type 0 = λ s. Contains sigs s in
      (subst Near (ap (λ (x : Node). x.router) i.is) i.has, subst Has (ap (λ (x : Node). x.sig) i.is) p.has)),
  (λ s. into_flat_map (pairs_with near) sigs n.sig n s.1 (into_map (pair_with n.sig) near n.router s.0)),
)

-- a map of rows that stays
pub row_kept : (old new : Search) (sig : Sig) (row : ℕ) → new.rows ≡ old.rows → rows_in old sig ≡ Some row → rows_in new sig ≡ Some row
row_kept old new sig row rows h = ap (λ m. get sig_cmp m sig) rows ∙ h
