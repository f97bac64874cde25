-- What a store holds: under each id, from 0 on, a signature with its uses, or nothing.
use Rattle.std.specs.Prelude.{◌≡◌, ◌≢◌, ℕ, ◌+◌, ◌-◌, List, Option, Some, None, slice_index_or, ◌==◌, if◌then◌else◌}
use Rattle.spie_base.specs.declared.types.Sig.{Sig}
use Rattle.indirect_store.specs.declared.held.Held.{Held}

abbrev pub held_at : List (Option Held) → ℕ → Option Held
held_at store id = slice_index_or store id None

-- how many uses
abbrev pub uses_in : Option Held → ℕ
uses_in None = 0
uses_in (Some held) = held.uses

-- which signature
abbrev pub sig_in : Option Held → Option Sig
sig_in None = None
sig_in (Some held) = Some held.sig

abbrev pub uses_at : List (Option Held) → ℕ → ℕ
uses_at store id = uses_in (held_at store id)

abbrev pub sig_at : List (Option Held) → ℕ → Option Sig
sig_at store id = sig_in (held_at store id)

-- what is held after one use more of a signature
abbrev pub one_more : Option Held → Sig → Option Held
one_more before sig = Some (record { sig = sig; uses = uses_in before + 1 })

-- what is held after one use less: nothing after the last one
abbrev pub one_fewer : Option Held → Option Held
one_fewer None = None
one_fewer (Some held) = if held.uses == 1 then None else Some (record { sig = held.sig; uses = held.uses - 1 })

-- one id changes, and all others stay
pub record ChangesOnly (old new : List (Option Held)) (id : ℕ) (now : Option Held) : Type 0 where
  pub changed : held_at new id ≡ now
  pub others : (other : ℕ) → other ≢ id → held_at new other ≡ held_at old other

-- different ids hold different signatures
abbrev pub AreDifferent : List (Option Held) → Type 0
AreDifferent store = (a b : ℕ) → (sig : Sig) → sig_at store a ≡ Some sig → sig_at store b ≡ Some sig → a ≡ b

-- what is held has a use
abbrev pub AreUsed : List (Option Held) → Type 0
AreUsed store = (id : ℕ) → held_at store id ≢ None → uses_at store id ≢ 0
