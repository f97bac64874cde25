-- What private code collects of the accepted parts. No public clause cites this module.
use Rattle.std.specs.Prelude.{Bool, List, [], Option, None, Some}
use Rattle.std.specs.List.{filter, flat_map, list_any}
use Rattle.reverse_flood.specs.declared.graphs.Node.{Node}
use Rattle.reverse_flood.specs.declared.graphs.Edge.{Edge}
use Rattle.reverse_flood.specs.declared.graphs.Part.{Part}
use Rattle.reverse_flood.specs.Rows.{node_eq}
use Rattle.agent_wire.specs.declared.requests.Asked.{Asked}

-- a list of a part, where there is one
abbrev pub told_by : {X : Type 0} → (Part → List X) → Option Part → List X
told_by list None = []
told_by list (Some part) = list part

abbrev pub told_of : {X : Type 0} → (Part → List X) → Asked → List X
told_of list q = told_by list q.part

-- that list of all requests
abbrev pub all_told : {X : Type 0} → (Part → List X) → List Asked → List X
all_told list made = flat_map (told_of list) made

-- exits that lead to one of some nodes
abbrev pub leads_to : List Node → Edge → Bool
leads_to nodes e = list_any (node_eq e.up) nodes

abbrev pub exits_among : List Node → Asked → List Edge
exits_among nodes q = filter (leads_to nodes) (told_of (λ p. p.exits) q)
