-- What moving a whole input or output does to the bytes that a source or sink tells.
use Rattle.std.specs.Prelude.{ℕ, ◌+◌, ◌≤◌, ◌≡◌, List, length, take, Vec, Result, Ok, Err}
use Rattle.std.specs.declared.option.Option.{Option}
use Rattle.std.specs.declared.alloc.Global.{Global}
use Rattle.std.specs.Io.KnownBytes.{Consumes, Appends, IsAtEnd}
use Rattle.spie_base.specs.declared.errors.ReadRefused.{ReadRefused}
use Rattle.spie_base.specs.declared.errors.ReadRefused.TheVariants.{Failed, TooLong, NoMemory}

-- some bytes were taken, and their number meets this
abbrev pub TookCount : Option (List ℕ) → Option (List ℕ) → (ℕ → Type 0) → Type 0
TookCount before after P = (bytes : List ℕ) × Consumes before after bytes × P (length bytes)

-- all was read, and the end was seen; or exactly one byte too many was taken; or, at a fault or for want of memory, some bytes
abbrev pub Took : Option (List ℕ) → Option (List ℕ) → ℕ → Result (Vec ℕ Global) ReadRefused → Type 0
Took before after most (Ok v) = Consumes before after v.items × (length v.items ≤ most) × IsAtEnd after
Took before after most (Err TooLong) = TookCount before after (λ count. count ≡ most + 1)
Took before after most (Err Failed) = TookCount before after (λ count. count ≤ most)
Took before after most (Err NoMemory) = TookCount before after (λ count. count ≤ most + 1)

-- a front of the bytes was appended
abbrev pub AppendsFront : Option (List ℕ) → Option (List ℕ) → List ℕ → Type 0
AppendsFront before after bytes = (count : ℕ) × (count ≤ length bytes) × Appends before after (take count bytes)
