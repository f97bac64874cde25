-- Which leads of a round a region is asked for. No public clause cites this module.
use Rattle.std.specs.Prelude.{ℕ, ◌==◌, nat_le, List, ◌++◌, filter, slice_index}
use Rattle.topology.specs.Layout.{Layout}
use Rattle.reverse_flood.specs.declared.cells.Search.{Search}
use Rattle.reverse_flood.specs.declared.graphs.Node.{Node}
use Rattle.reverse_flood.specs.declared.leads.Lead.{Lead}
use Rattle.reverse_flood.specs.declared.leads.Leads.{Leads}
use Rattle.reverse_flood.specs.Flood.{Net, everywhere}
use Rattle.reverse_flood.specs.Leads.{nodes_of}
use Rattle.reverse_flood.specs.Search.{IsUnderWay}

abbrev pub region_of : Layout → Lead → ℕ
region_of layout l = slice_index layout.regions l.node.router.number

-- the leads that lie in a region
abbrev pub batch : Layout → (region : ℕ) → List Lead → List Lead
batch layout region leads = filter (λ l. region_of layout l == region) leads

-- those that lie in regions from a number on
abbrev pub later : Layout → (region : ℕ) → List Lead → List Lead
later layout region leads = filter (λ l. nat_le region (region_of layout l)) leads

-- a region was asked for its leads of a round: whatever the search began with and what else waits, it is under way still
abbrev pub AsksRegion : Net → Layout → (region : ℕ) → List Lead → (old new : Search) → (before after : Leads) → Type 0
AsksRegion net layout region round old new before after =
    (entries rest : List Node) → IsUnderWay net everywhere entries old (nodes_of (batch layout region round) ++ (nodes_of before.away.items ++ rest))
    → IsUnderWay net everywhere entries new (nodes_of after.away.items ++ rest)

-- and so were all regions
abbrev pub AsksAll : Net → List Lead → (old new : Search) → (after : Leads) → Type 0
AsksAll net round old new after =
    (entries : List Node) → IsUnderWay net everywhere entries old (nodes_of round) → IsUnderWay net everywhere entries new (nodes_of after.away.items)
