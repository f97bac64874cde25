-- What is told of named pairs, walked router by router and signature by signature.
use Rattle.std.proofs.Common.{◌≡◌, ◌∙◌, ℕ, zero, suc, ◌+◌, ◌<◌, ◌&&◌, ⊎_elim, Bool, true, false, cond, not, List, [], ◌∷◌, ◌++◌, length, take, get_or, Option, Some, None, refl, sym, subst, ap, arith, append_assoc, append-nil}
use Rattle.std.specs.Prelude.{is_some}
use Rattle.std.proofs.lemmas.Map.Lookups.{CmpEqualImpliesEq, exact_bytes}
use Rattle.std.proofs.lemmas.Bool.{cases_lt, false≢true}
use Rattle.std.proofs.lemmas.Cmp.{on_total, nat_list_cmp_total}
use Rattle.std.proofs.lemmas.List.{take_more, map-append}
use Rattle.std.proofs.lemmas.List.Elements.{filter-append, Contains-append_left, Contains-append_right, Contains-append_cases}
use Rattle.std.proofs.lemmas.Map.Views.{btree_map_get_iff, btree_map_contains_key_iff}
use Rattle.std.specs.BTreeMap.{IsOrdered}
use Rattle.std.specs.Cmp.{IsTotalOrder, nat_cmp_is}
use Rattle.std.specs.List.{Contains, filter}
use Rattle.std.specs.List.Sorted.{IsStrictlySortedBy}
use Rattle.std.specs.Map.{keys_of}
use Rattle.std.specs.declared.cmp.Ordering.TheVariants.{Less}
use Rattle.spie_base.proofs.Membership.{has_none, from_map, into_map, from_filter}
use Rattle.spie_base.proofs.SortedLists.{of_each}
use Rattle.spie_base.specs.Order.{router_cmp, sig_cmp}
use Rattle.spie_base.specs.declared.Sig.{Sig}
use Rattle.spie_base.specs.declared.RouterId.{RouterId}
use Rattle.topology.specs.Layout.{Layout}
use Rattle.reverse_flood.specs.declared.graphs.Node.{Node}
use Rattle.reverse_flood.specs.declared.graphs.Edge.{Edge}
use Rattle.reverse_flood.specs.declared.cells.Cell.{Cell}
use Rattle.reverse_flood.specs.declared.cells.Cell.TheVariants.{Free}
use Rattle.reverse_flood.specs.declared.cells.Search.{Search}
use Rattle.reverse_flood.specs.declared.tells.Told.{Told}
use Rattle.reverse_flood.specs.Flood.{Net, IsListOf, node_cmp, edge_cmp}
use Rattle.reverse_flood.specs.Found.{IsWay, found_net, is_inner, is_outer}
use Rattle.reverse_flood.specs.Rows.{cell_in}
use Rattle.reverse_flood.specs.Search.{found_in, is_known, is_named, is_taken, rows_in}
use Rattle.reverse_flood.specs.Told.{AddsWaysIf, IsTold, is_left, line_cmp, pairs_below, pairs_of}
use Rattle.reverse_flood.proofs.Ascents.{sorted_none, sorted_append, sorted_map, sorted_before, for_each}
use Rattle.reverse_flood.proofs.Orders.{lower_router, lower_sig}
use Rattle.reverse_flood.proofs.WayFacts.{ways_none, ways_push}

pub sigs_total : IsTotalOrder sig_cmp
sigs_total = on_total (λ (s : Sig). s.bytes) nat_list_cmp_total

pub sigs_exact : CmpEqualImpliesEq sig_cmp
sigs_exact a b e = let S : List ℕ → Sig = λ l. record { bytes = l } in ap S (exact_bytes a.bytes b.bytes e)

-- each signature of the map has its row
pub line_row : (s : Search) → IsOrdered sig_cmp s.rows → (l : Sig × ℕ) → Contains s.rows.entries l → rows_in s l.0 ≡ Some l.1
line_row s ordered l h = (btree_map_get_iff sigs_total sigs_exact s.rows ordered l.0 l.1).1 h

-- lines ascend where their signatures do
lines_from : (lines : List (Sig × ℕ)) → IsStrictlySortedBy sig_cmp (keys_of lines) → IsStrictlySortedBy line_cmp lines
unfolding IsStrictlySortedBy
lines_from [] s = tt
lines_from (l ∷ ls) s = (
  for_each (λ m. line_cmp l m ≡ Less) ls (λ m h. of_each (λ z. sig_cmp l.0 z ≡ Less) (keys_of ls) m.0 s.0 (into_map (λ (e : Sig × ℕ). e.0) ls m h)),
  lines_from ls s.1,
)

pub lines_ordered : (s : Search) → IsOrdered sig_cmp s.rows → IsStrictlySortedBy line_cmp s.rows.entries
lines_ordered s ordered = lines_from s.rows.entries ordered

-- a router with the signature of a line
abbrev pub node_at : RouterId → Sig × ℕ → Node
node_at router l = record { router = router; sig = l.0 }

lower_number : (a b : RouterId) → a.number < b.number → router_cmp a b ≡ Less
lower_number a b l = sym (nat_cmp_is a.number b.number Less l)

of_router : (lines : List (Sig × ℕ)) (r : RouterId) (n : Node) → Contains (pairs_of lines r) n → r ≡ n.router
of_router lines r n h = ap (λ (x : Node). x.router) (from_map (node_at r) lines n h).is

-- the pairs below a number have routers below it
pub below_number : (lines : List (Sig × ℕ)) (number : ℕ) (n : Node) → Contains (pairs_below lines number) n → n.router.number < number
below_number lines zero n h = absurd (has_none n h)
below_number lines (suc number) n h =
    ⊎_elim
    (λ x. let l = below_number lines number n x in omega (arith, l))
    (λ x. let e = ap (λ (q : RouterId). q.number) (of_router lines (record { number = number }) n x) in omega (arith, e))
    (Contains-append_cases (pairs_below lines number) (pairs_of lines (record { number = number })) n h)

-- and ascend
pub below_ordered : (lines : List (Sig × ℕ)) (number : ℕ) → IsStrictlySortedBy line_cmp lines → IsStrictlySortedBy node_cmp (pairs_below lines number)
below_ordered lines zero ordered = sorted_none node_cmp
below_ordered lines (suc number) ordered =
    let r : RouterId = record { number = number } in
    sorted_append node_cmp (pairs_below lines number) (pairs_of lines r) (below_ordered lines number ordered)
    (sorted_map line_cmp node_cmp (node_at r) lines (λ a b h. lower_sig r a.0 b.0 h) ordered)
    (λ x y h k.
    let l = below_number lines number x h in
    let e = ap (λ (q : RouterId). q.number) (of_router lines r y k) in
    lower_router x y (lower_number x.router y.router (omega (arith, l, e))))

-- they have each router below with each signature
pub below_has : (lines : List (Sig × ℕ)) (number : ℕ) (n : Node) → n.router.number < number → Contains (keys_of lines) n.sig → Contains (pairs_below lines number) n
below_has lines zero n l key = let no : ⊥ = omega (arith, l) in absurd no
below_has lines (suc number) n l key =
    let r : RouterId = record { number = number } in
    ⊎_elim
    (λ below. Contains-append_left (pairs_below lines number) (pairs_of lines r) n (below_has lines number n below key))
    (λ past.
    let at : number ≡ n.router.number = omega (arith, past, l) in
    let line = from_map (λ (e : Sig × ℕ). e.0) lines n.sig key in
    let N : ℕ → Sig → Node = λ k s. record { router = record { number = k }; sig = s } in
    let Made : Node → Type 0 = λ m. Contains (pairs_of lines r) m in
    Contains-append_right (pairs_below lines number) (pairs_of lines r) n
    (subst Made (ap (N number) line.is ∙ ap (λ k. N k n.sig) at) (into_map (node_at r) lines line.of line.has)))
    (cases_lt n.router.number number)

-- a named pair has a row
named_row : (o : Option ℕ) (cells : List Cell) (router : ℕ) → is_taken (cell_in Free cells router o) ≡ true → is_some o ≡ true
named_row None cells router h = absurd (false≢true h)
named_row (Some row) cells router h = refl

pub named_key : (s : Search) (n : Node) → is_named s n ≡ true → Contains (keys_of s.rows.entries) n.sig
named_key s n h = (btree_map_contains_key_iff sigs_total sigs_exact s.rows n.sig).0 (named_row (rows_in s n.sig) s.cells.items n.router.number h)

-- ---- telling

-- ---- telling

told_ways : (net : Net) (test known : Node → Bool) (walked : List Node) (n : Node) (before after : List Edge) → ((x : Node) → Contains walked x → node_cmp x n ≡ Less) → AddsWaysIf (known n) net test n before after → IsListOf edge_cmp (IsWay net test (filter known walked)) before → IsListOf edge_cmp (IsWay net test (filter known (walked ++ n ∷ []))) after
told_ways net test known walked n before after above adds is =
    let split = filter-append known walked (n ∷ []) in
    let by : (b : Bool) → known n ≡ b → IsListOf edge_cmp (IsWay net test (filter known (walked ++ n ∷ []))) after =
    elim [
      | true ↦ λ e.
          let P : List Node → Type 0 = λ l. IsListOf edge_cmp (IsWay net test l) after in
          subst P (sym (split ∙ ap (λ b. filter known walked ++ cond b (n ∷ []) []) e))
          (ways_push net test (filter known walked) n before after (λ x h. above x (from_filter known walked x h).0) (adds.found e) is)
      | false ↦ λ e.
          let P : List Node → Type 0 = λ l. IsListOf edge_cmp (IsWay net test l) after in
          let Q : List Edge → Type 0 = λ l. IsListOf edge_cmp (IsWay net test (filter known walked)) l in
          subst P (sym (split ∙ ap (λ b. filter known walked ++ cond b (n ∷ []) []) e ∙ append-nil (filter known walked))) (subst Q (sym (adds.none e)) is)
    ] in
    by (known n) refl

-- one more pair
pub told_next : (s : Search) (layout : Layout) (inside : ℕ → Bool) (missing : ℕ → Bool) (walked : List Node) (n : Node) (m : Bool) (before after : Told) → ((x : Node) → Contains walked x → node_cmp x n ≡ Less) → m ≡ missing n.router.number
    → after.nodes.items ≡ before.nodes.items ++ cond (is_known s n) (n ∷ []) [] → after.unknown.items ≡ before.unknown.items ++ cond (is_named s n && (not (is_known s n) && m)) (n ∷ []) [] → after.clear.items ≡ before.clear.items ++ cond (is_named s n && (not (is_known s n) && not m)) (n ∷ []) []
    → AddsWaysIf (is_known s n) (found_net (found_in s) layout) (is_inner inside (is_known s)) n before.ways.inner.items after.ways.inner.items → AddsWaysIf (is_known s n) (found_net (found_in s) layout) (is_outer inside) n before.ways.outer.items after.ways.outer.items
    → IsTold s layout inside missing walked before → IsTold s layout inside missing (walked ++ n ∷ []) after
told_next s layout inside missing walked n m before after above is_missing nodes unknown clear inner outer is =
    let net = found_net (found_in s) layout in
    let keep = λ (p : Node → Bool) (b : Bool) (old new : List Node) (so_far : old ≡ filter p walked) (more : new ≡ old ++ cond b (n ∷ []) []) (same : b ≡ p n).
    let e : new ≡ filter p (walked ++ n ∷ []) = more ∙ ap (λ (l : List Node). l ++ cond b (n ∷ []) []) so_far ∙ ap (λ v. filter p walked ++ cond v (n ∷ []) []) same ∙ sym (filter-append p walked (n ∷ [])) in e in
    record {
      nodes = keep (is_known s) (is_known s n) before.nodes.items after.nodes.items is.nodes nodes refl;
      unknown = keep (is_left s missing true) (is_named s n && (not (is_known s n) && m)) before.unknown.items after.unknown.items is.unknown unknown (ap (λ b. is_named s n && (not (is_known s n) && b)) is_missing);
      clear = keep (is_left s missing false) (is_named s n && (not (is_known s n) && not m)) before.clear.items after.clear.items is.clear clear (ap (λ b. is_named s n && (not (is_known s n) && not b)) is_missing);
      inner = told_ways net (is_inner inside (is_known s)) (is_known s) walked n before.ways.inner.items after.ways.inner.items above inner is.inner;
      outer = told_ways net (is_outer inside) (is_known s) walked n before.ways.outer.items after.ways.outer.items above outer is.outer;
    }

pub told_none : (s : Search) (layout : Layout) (inside : ℕ → Bool) (missing : ℕ → Bool) (told : Told) → told.nodes.items ≡ [] → told.unknown.items ≡ [] → told.clear.items ≡ [] → told.ways.inner.items ≡ [] → told.ways.outer.items ≡ [] → IsTold s layout inside missing [] told
told_none s layout inside missing told nodes unknown clear inner outer = record {
  nodes = nodes;
  unknown = unknown;
  clear = clear;
  inner = ways_none (found_net (found_in s) layout) (is_inner inside (is_known s)) told.ways.inner.items inner;
  outer = ways_none (found_net (found_in s) layout) (is_outer inside) told.ways.outer.items outer;
}

pub told_of : (s : Search) (layout : Layout) (inside : ℕ → Bool) (missing : ℕ → Bool) (walked same : List Node) (told : Told) → walked ≡ same → IsTold s layout inside missing walked told → IsTold s layout inside missing same told
told_of s layout inside missing walked same told e is = let P : List Node → Type 0 = λ l. IsTold s layout inside missing l told in subst P e is

-- the pairs walked before a line of a router
abbrev pub walked_to : List (Sig × ℕ) → RouterId → ℕ → List Node
walked_to lines router i = pairs_below lines router.number ++ pairs_of (take i lines) router

-- they are below the pair with its signature
pub line_above : (lines : List (Sig × ℕ)) (router : RouterId) (i : ℕ) (d l : Sig × ℕ) → IsStrictlySortedBy line_cmp lines → i < length lines → l ≡ get_or lines i d → (x : Node) → Contains (walked_to lines router i) x → node_cmp x (node_at router l) ≡ Less
line_above lines router i d l ordered within is x h =
    ⊎_elim
    (λ below. lower_router x (node_at router l) (lower_number x.router router (below_number lines router.number x below)))
    (λ here.
    let line = from_map (node_at router) (take i lines) x here in
    let Lower : Node → Type 0 = λ m. node_cmp m (node_at router l) ≡ Less in
    subst Lower line.is (lower_sig router line.of.0 l.0 (sorted_before line_cmp lines i l d line.of ordered within is line.has)))
    (Contains-append_cases (pairs_below lines router.number) (pairs_of (take i lines) router) x h)

pub walked_next : (lines : List (Sig × ℕ)) (router : RouterId) (i : ℕ) (d : Sig × ℕ) → i < length lines → walked_to lines router i ++ node_at router (get_or lines i d) ∷ [] ≡ walked_to lines router (i + 1)
walked_next lines router i d l =
    append_assoc (pairs_below lines router.number) (pairs_of (take i lines) router) (node_at router (get_or lines i d) ∷ [])
    ∙ ap (λ (x : List Node). pairs_below lines router.number ++ x)
    (sym (map-append (node_at router) (take i lines) (get_or lines i d ∷ [])) ∙ sym (ap (λ (x : List (Sig × ℕ)). pairs_of x router) (take_more lines i d l)))

-- after the last line
pub walked_done : (lines : List (Sig × ℕ)) (router : RouterId) → pairs_below lines router.number ++ pairs_of lines router ≡ pairs_below lines (router.number + 1)
walked_done lines router = let e : suc router.number ≡ router.number + 1 = omega arith in ap (pairs_below lines) e
