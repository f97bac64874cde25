-- How a table is kept: its rows in a slab, their places in three chains, and their old signatures in a store. No public
-- clause cites this module.
use Rattle.std.specs.Prelude.{◌≡◌, ◌≢◌, ℕ, ◌<◌, ◌%◌, List, Option, Some, None}
use Rattle.slab.specs.Slab.{Slab, get, HasRoomFor}
use Rattle.index_rings.specs.Orders.{Holds, chains_in, places_in}
use Rattle.index_rings.specs.declared.chains.Chains.{Chains}
use Rattle.indirect_store.specs.Held.{uses_at}
use Rattle.indirect_store.specs.Stores.{ListsKeys}
use Rattle.indirect_store.specs.declared.held.Held.{Held}
use Rattle.transform_table.specs.declared.line.Line.{Line}
use Rattle.transform_table.specs.Rows.{uses_by}

abbrev pub page_of : Option Line → ℕ
page_of None = 0
page_of (Some line) = line.page.number

-- a key's bucket is the key modulo 1,024
abbrev pub bucket_of : Option Line → ℕ
bucket_of None = 0
bucket_of (Some line) = line.key % 1024

abbrev pub page_at : Slab Line → ℕ → ℕ
page_at rows place = page_of (get rows place)

abbrev pub bucket_at : Slab Line → ℕ → ℕ
bucket_at rows place = bucket_of (get rows place)

abbrev pub in_all : ℕ → ℕ
in_all place = 0

-- the rows stand at these places, in this order: each once in the chain of all rows, and the chain of each bucket and
-- of each page is the part of it with that bucket or that page
pub record AreChained (rows : Slab Line) (all buckets pages : Chains) (order : List ℕ) : Type 0 where
  pub listed : ListsKeys rows order
  pub in_one : Holds all in_all order
  pub in_buckets : Holds buckets (bucket_at rows) order
  pub in_pages : Holds pages (page_at rows) order
  pub paged : (place : ℕ) → get rows place ≢ None → page_at rows place < chains_in pages
  pub one : chains_in all ≡ 1
  pub many : chains_in buckets ≡ 1024

-- a row more of the page needs no memory
pub record HasRoom (rows : Slab Line) (all buckets pages : Chains) (page : ℕ) : Type 0 where
  pub row : HasRoomFor rows 1
  pub in_one : rows.vacant_key < places_in all
  pub in_buckets : rows.vacant_key < places_in buckets
  pub in_pages : rows.vacant_key < places_in pages
  pub has_page : page < chains_in pages

-- the rows stand in their chains, and each id's use count is the number of rows that keep it
pub record IsTable (rows : Slab Line) (all buckets pages : Chains) (olds : List (Option Held)) : Type 0 where
  pub order : List ℕ
  pub stands : AreChained rows all buckets pages order
  pub counted : (id : ℕ) → uses_at olds id ≡ uses_by rows order id
