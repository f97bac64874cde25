-- A row as it is kept, and as it is shown. No public clause cites this module.
use Rattle.std.specs.Prelude.{◌≡◌, ℕ, Bool, true, false, List, [], length, Option, Some, None, IsSome, option_map, filter, filter_map, map, ◌==◌, if◌then◌else◌}
use Rattle.slab.specs.Slab.{Slab, get, slab_len}
use Rattle.index_rings.specs.Rings.{next_of}
use Rattle.index_rings.specs.Orders.{first_in}
use Rattle.index_rings.specs.Walk.{chain_walked}
use Rattle.index_rings.specs.declared.chains.Chains.{Chains}
use Rattle.spie_base.specs.declared.types.PageNo.{PageNo}
use Rattle.spie_base.specs.declared.types.Sig.{Sig}
use Rattle.indirect_store.specs.Held.{held_at, sig_at}
use Rattle.indirect_store.specs.declared.held.Held.{Held}
use Rattle.packet_signature.specs.declared.rows.Row.{Row}
use Rattle.packet_signature.specs.declared.rows.RowData.{RowData}
use Rattle.packet_signature.specs.declared.rows.RowData.TheVariants.{Direct, Indirect}
use Rattle.transform_table.specs.declared.line.Line.{Line}
use Rattle.transform_table.specs.declared.line.Kept.{Kept}
use Rattle.transform_table.specs.declared.line.Kept.TheVariants.{Bytes, Id}

-- what is read under an id: a row's id is always held
abbrev pub sig_or_none : Option Sig → Sig
sig_or_none None = record { bytes = [] }
sig_or_none (Some sig) = sig

abbrev pub data_of : List (Option Held) → Kept → RowData
data_of olds (Bytes bytes) = Direct bytes
data_of olds (Id id) = Indirect (sig_or_none (sig_at olds id))

abbrev pub pair_of : List (Option Held) → Line → PageNo × Row
pair_of olds line = (line.page, record { key = line.key; kind = line.kind; old = data_of olds line.kept })

-- the row at a place, with its page
abbrev pub pair_at : Slab Line → List (Option Held) → ℕ → Option (PageNo × Row)
pair_at rows olds place = option_map (pair_of olds) (get rows place)

-- the same, where it has the key
abbrev pub keyed : (key : ℕ) → Option (PageNo × Row) → Option (PageNo × Row)
keyed key None = None
keyed key (Some pair) = if pair.1.key == key then Some pair else None

-- those of a list of places, without their pages
abbrev pub rows_shown : Slab Line → List (Option Held) → List ℕ → List Row
rows_shown rows olds places = map (λ pair. pair.1) (filter_map (pair_at rows olds) places)

-- the places of the rows, in the order of adding
abbrev pub order_in : Slab Line → Chains → List ℕ
order_in rows all = chain_walked (next_of all.rings.links.items) (slab_len rows) (first_in all 0)

abbrev pub pairs_in : Slab Line → Chains → List (Option Held) → List (PageNo × Row)
pairs_in rows all olds = filter_map (pair_at rows olds) (order_in rows all)

-- whether what is kept is this id
abbrev pub is_id : ℕ → Kept → Bool
is_id id (Bytes bytes) = false
is_id id (Id other) = other == id

-- one for what holds
abbrev pub one_if : Bool → ℕ
one_if b = if b then 1 else 0

abbrev pub keeps_id : ℕ → Option Line → Bool
keeps_id id None = false
keeps_id id (Some line) = is_id id line.kept

-- how many rows keep an id
abbrev pub uses_by : Slab Line → List ℕ → ℕ → ℕ
uses_by rows order id = length (filter (λ place. keeps_id id (get rows place)) order)

-- each id that a row keeps is held
abbrev pub AreHeld : Slab Line → List (Option Held) → Type 0
AreHeld rows olds = (place id : ℕ) → keeps_id id (get rows place) ≡ true → IsSome (held_at olds id)
