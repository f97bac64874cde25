-- How a store is kept: its signatures in a slab, and their places in one chain a bucket. No public clause cites this
-- module.
use Rattle.std.specs.Prelude.{◌≡◌, ◌≢◌, ℕ, ◌<◌, ◌%◌, ◌^◌, List, length, Option, Some, None}
use Rattle.byteorder.specs.Endian.{big_number}
use Rattle.sha2.specs.Sha256.{sha256}
use Rattle.slab.specs.Slab.{Slab, get, slab_len}
use Rattle.index_rings.specs.Rings.{Distinct, Lacks}
use Rattle.index_rings.specs.Orders.{Holds, chains_in}
use Rattle.index_rings.specs.declared.chains.Chains.{Chains}
use Rattle.spie_base.specs.declared.types.Sig.{Sig}
use Rattle.indirect_store.specs.Held.{AreDifferent, AreUsed}
use Rattle.indirect_store.specs.declared.held.Held.{Held}

-- the first eight bytes of a signature's SHA-256 as a number, modulo 1,024
unfoldable pub bucket_of : Sig → ℕ
bucket_of sig = big_number 8 (sha256 sig.bytes) % 1024

abbrev pub bucket_in : Option Held → ℕ
bucket_in None = 0
bucket_in (Some held) = bucket_of held.sig

abbrev pub bucket_at : Slab Held → ℕ → ℕ
bucket_at slots place = bucket_in (get slots place)

-- what is held, with another count of uses
abbrev pub with_uses : Option Held → ℕ → Option Held
with_uses None uses = None
with_uses (Some held) uses = Some (record { sig = held.sig; uses = uses })

-- the list has each key of a slab that holds a value, once
pub record ListsKeys {T : Type 0} (slots : Slab T) (order : List ℕ) : Type 0 where
  pub distinct : Distinct order
  pub held : (place : ℕ) → get slots place ≡ None → Lacks order place
  pub free : (place : ℕ) → Lacks order place → get slots place ≡ None
  pub count : length order ≡ slab_len slots

-- each signature stands once, in its bucket's chain
pub record AreFiled (slots : Slab Held) (buckets : Chains) (order : List ℕ) : Type 0 where
  pub listed : ListsKeys slots order
  pub chained : Holds buckets (bucket_at slots) order
  pub many : chains_in buckets ≡ 1024

pub record IsStore (slots : Slab Held) (buckets : Chains) : Type 0 where
  pub order : List ℕ
  pub filed : AreFiled slots buckets order
  pub different : AreDifferent slots.slots
  pub used : AreUsed slots.slots
  pub fits : (id : ℕ) → get slots id ≢ None → id < 2 ^ 32
