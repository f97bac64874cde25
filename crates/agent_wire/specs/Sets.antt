-- What private code keeps. No public clause cites this module.
use Rattle.std.specs.Prelude.{◌≡◌, ◌↔◌, ◌⊎◌, ◌&&◌, Bool, not, ℕ, List, length, nat_lt, map, slice_get, Some, None, ◌<◌, false, slice_index_or}
use Rattle.std.specs.List.{Contains, filter}
use Rattle.std.specs.List.Sorted.{IsStrictlySortedBy}
use Rattle.std.specs.BTreeSet.{BTreeSet, contains}
use Rattle.topology.specs.Layout.{Layout}
use Rattle.reverse_flood.specs.declared.graphs.Node.{Node}
use Rattle.reverse_flood.specs.declared.graphs.Edge.{Edge}
use Rattle.reverse_flood.specs.Flood.{node_cmp}
use Rattle.agent_wire.specs.declared.requests.Asked.{Asked}
use Rattle.agent_wire.specs.Requests.{IsEntry}
use Rattle.agent_wire.specs.Union.{first_open, is_open}

-- a set has what another has, and some items more
abbrev pub HasMore : {T : Type 0} → (before after : BTreeSet T) → List T → Type 0
HasMore {T} before after items = (x : T) → Contains after.keys x ↔ (Contains before.keys x ⊎ Contains items x)

-- and without some items
abbrev pub HasLess : {T : Type 0} → (before after : BTreeSet T) → List T → Type 0
HasLess {T} before after items = (x : T) → Contains after.keys x ↔ (Contains before.keys x × (Contains items x → ⊥))

-- a set has what another has, and maybe some of some items
pub record HasSome {T : Type 0} (before after : BTreeSet T) (items : List T) : Type 0 where
  pub kept : (x : T) → Contains before.keys x → Contains after.keys x
  pub only : (x : T) → Contains after.keys x → Contains before.keys x ⊎ Contains items x

abbrev pub HasSame : {T : Type 0} → (before after : BTreeSet T) → Type 0
HasSame {T} before after = (x : T) → Contains after.keys x ↔ Contains before.keys x

-- none of some items is in a set
abbrev pub AreOutside : {T : Type 0} → BTreeSet T → List T → Type 0
AreOutside {T} s items = (x : T) → Contains items x → Contains s.keys x → ⊥

-- the pair exists and is not known
abbrev pub is_new : Layout → BTreeSet Node → Node → Bool
is_new layout known n = nat_lt n.router.number (length layout.names) && not (contains node_cmp known n)

-- to which exits lead
abbrev pub news : Layout → BTreeSet Node → List Edge → List Node
news layout known exits = map (λ e. e.up) (filter (λ e. is_new layout known e.up) exits)

-- what holds of a manager's fields: it knows the entries, and they ascend
pub record IsKept (made : List Asked) (known : BTreeSet Node) : Type 0 where
  pub entries : (n : Node) → Contains known.keys n ↔ IsEntry made n
  pub ascending : (q : Asked) → Contains made q → IsStrictlySortedBy node_cmp q.entries

-- each request below a number has a part
abbrev pub AreSettled : List Asked → (number : ℕ) → Type 0
AreSettled made number = (k : ℕ) (d : Asked) → k < number → is_open (slice_index_or made k d) ≡ false

-- and it knows the first request without a part
pub record IsManaged (made : List Asked) (known : BTreeSet Node) (pending : ℕ) : Type 0 where
  pub kept : IsKept made known
  pub pending_is : pending ≡ first_open made

-- the request of a number has no part
pub record IsOpen (made : List Asked) (number : ℕ) : Type 0 where
  pub of : Asked
  pub stood : slice_get made number ≡ Some of
  pub unanswered : of.part ≡ None
