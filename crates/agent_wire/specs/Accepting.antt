-- How a manager's requests begin, and what becomes of them when it accepts a part.
use Rattle.std.specs.Prelude.{◌≡◌, ◌<◌, ℕ, zero, suc, List, [], ◌∷◌, ◌++◌, length, set, slice_get, slice_index, None, Some, is_some, true, ◌≤◌}
use Rattle.std.specs.List.{Contains}
use Rattle.topology.specs.Layout.{Layout}
use Rattle.reverse_flood.specs.declared.graphs.Node.{Node}
use Rattle.reverse_flood.specs.declared.graphs.Edge.{Edge}
use Rattle.reverse_flood.specs.declared.graphs.Part.{Part}
use Rattle.reverse_flood.specs.Flood.{IsListOf, node_cmp}
use Rattle.regional_agent.specs.Desks.{lying}
use Rattle.agent_wire.specs.declared.requests.Asked.{Asked}
use Rattle.wire_message.specs.declared.messages.Reply.{Reply}
use Rattle.agent_wire.specs.declared.manager.Taken.{Taken}
use Rattle.agent_wire.specs.declared.manager.Taken.TheVariants as taken
use Rattle.agent_wire.specs.Requests.{IsEntry}

-- a request without a part
abbrev pub open_request : (region : ℕ) → List Node → Asked
open_request region entries = record { region = region; entries = entries; part = None }

-- request 0: to the region of the start, with the start as its entry
abbrev pub first_request : Layout → (start : Node) → Asked
first_request layout start = open_request (slice_index layout.regions start.router.number) (start ∷ [])

-- ---- what a part leads to

-- an exit of a part leads to a pair of a router that exists, and no request had the pair as an entry
pub record IsNew (layout : Layout) (IsKnown : Node → Type 0) (part : Part) (n : Node) : Type 0 where
  pub exit : Edge
  pub has : Contains part.exits exit
  pub up : exit.up ≡ n
  pub exists : n.router.number < length layout.names
  pub unknown : IsKnown n → ⊥

-- a request to a region, where it has entries
abbrev pub request_of : (region : ℕ) → List Node → List Asked
request_of region [] = []
request_of region (n ∷ others) = open_request region (n ∷ others) ∷ []

-- the requests to the regions below a number, in rising order, for those of some pairs that lie in each
unfoldable pub requests_below : Layout → List Node → (number : ℕ) → List Asked
requests_below layout pairs zero = []
requests_below layout pairs (suc region) = requests_below layout pairs region ++ request_of region (lying layout region pairs)

abbrev pub requests_for : Layout → List Node → List Asked
requests_for layout pairs = requests_below layout pairs (length layout.region_names)

-- ---- accepting

abbrev pub with_part : Asked → Part → Asked
with_part q part = record q { part = Some part }

-- The part of a request that had none was accepted. The pairs to which its exits lead and that no request had as entries
-- are asked now: one more request for each region in which there are some.
pub record HasAccepted (layout : Layout) (number : ℕ) (part : Part) (before after : List Asked) : Type 0 where
  pub of : Asked
  pub stood : slice_get before number ≡ Some of
  pub unanswered : of.part ≡ None
  pub pairs : List Node
  pub new_pairs : IsListOf node_cmp (IsNew layout (IsEntry before) part) pairs
  pub is : after ≡ set before number (with_part of part) ++ requests_for layout pairs

-- a part was accepted for the request of this number
pub record IsRepeated (made : List Asked) (number : ℕ) : Type 0 where
  pub of : Asked
  pub stood : slice_get made number ≡ Some of
  pub answered : is_some of.part ≡ true

-- what a manager says of a reply, and what becomes of its requests
abbrev pub HasTaken : Layout → Reply → (before after : List Asked) → Taken → Type 0
HasTaken layout reply before after taken.Accepted = HasAccepted layout reply.number reply.part before after
HasTaken layout reply before after taken.Repeated = IsRepeated before reply.number × (after ≡ before)
HasTaken layout reply before after (taken.NoSuch have) = (have ≡ length before) × (have ≤ reply.number) × (after ≡ before)
