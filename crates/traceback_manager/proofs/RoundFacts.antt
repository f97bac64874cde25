-- The leads of a round, region by region.
use Rattle.std.proofs.Common.{◌≡◌, ℕ, ◌+◌, ◌<◌, ◌⊎◌, inl, inr, ⊎_elim, List, [], ◌∷◌, length, eq-eqb, refl, subst, arith}
use Rattle.std.specs.Prelude.{nat_le, ◌==◌}
use Rattle.std.specs.List.{Contains}
use Rattle.std.proofs.lemmas.Bool.{cases_eq, eqb-true, le-leb, leb-true}
use Rattle.spie_base.proofs.Membership.{from_filter, into_filter, from_map, into_map}
use Rattle.topology.specs.Layout.{Layout}
use Rattle.reverse_flood.specs.declared.graphs.Node.{Node}
use Rattle.reverse_flood.specs.declared.leads.Lead.{Lead}
use Rattle.reverse_flood.specs.Leads.{nodes_of}
use Rattle.traceback_manager.specs.Rounds.{batch, later, region_of}

-- a pair of leads
abbrev pub node_of : Lead → Node
node_of l = l.node

pub of_batch : (layout : Layout) (region : ℕ) (leads : List Lead) (l : Lead) → Contains (batch layout region leads) l → Contains leads l × (region_of layout l ≡ region)
of_batch layout region leads l h =
    let f = from_filter (λ (x : Lead). region_of layout x == region) leads l h in (f.0, eqb-true (region_of layout l) region f.1)

-- the leads from a region on lie in it, or from the next one on
pub later_cases : (layout : Layout) (region : ℕ) (leads : List Lead) (n : Node) → Contains (nodes_of (later layout region leads)) n → Contains (nodes_of (batch layout region leads)) n ⊎ Contains (nodes_of (later layout (region + 1) leads)) n
later_cases layout region leads n h =
    let i = from_map node_of (later layout region leads) n h in
    let l = i.of in
    let f = from_filter (λ (x : Lead). nat_le region (region_of layout x)) leads l i.has in
    let low = leb-true region (region_of layout l) f.1 in
    let Batch : Node → Type 0 = λ m. Contains (nodes_of (batch layout region leads)) m in
    let Later : Node → Type 0 = λ m. Contains (nodes_of (later layout (region + 1) leads)) m in
    ⊎_elim
    (λ (e : region_of layout l ≡ region). inl (subst Batch i.is (into_map node_of (batch layout region leads) l (into_filter (λ (x : Lead). region_of layout x == region) leads l f.0 (eq-eqb (region_of layout l) region e)))))
    (λ differ. inr (subst Later i.is (into_map node_of (later layout (region + 1) leads) l (into_filter (λ (x : Lead). nat_le (region + 1) (region_of layout x)) leads l f.0 (le-leb (region + 1) (region_of layout l) (omega (arith, low, differ)))))))
    (cases_eq (region_of layout l) region)

-- all lie from region 0 on, and none beyond the last
pub later_all : (layout : Layout) (leads : List Lead) (n : Node) → Contains (nodes_of leads) n → Contains (nodes_of (later layout 0 leads)) n
later_all layout leads n h =
    let i = from_map node_of leads n h in
    let Later : Node → Type 0 = λ m. Contains (nodes_of (later layout 0 leads)) m in
    subst Later i.is (into_map node_of (later layout 0 leads) i.of (into_filter (λ (x : Lead). nat_le 0 (region_of layout x)) leads i.of i.has (le-leb 0 (region_of layout i.of) (omega arith))))

pub later_none : (layout : Layout) (regions : ℕ) (leads : List Lead) → ((l : Lead) → Contains leads l → region_of layout l < regions) → (n : Node) → Contains (nodes_of (later layout regions leads)) n → ⊥
later_none layout regions leads below n h =
    let i = from_map node_of (later layout regions leads) n h in
    let f = from_filter (λ (x : Lead). nat_le regions (region_of layout x)) leads i.of i.has in
    let low = leb-true regions (region_of layout i.of) f.1 in
    let high = below i.of f.0 in
    omega (arith, low, high)

-- a list of no length has no items
pub no_items : {X : Type 0} (xs : List X) → length xs ≡ 0 → xs ≡ []
no_items [] e = refl
no_items (x ∷ xs) e = absurd (omega (arith, e))
