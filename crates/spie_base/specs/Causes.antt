-- When a fault may be answered, by a count of faults that never falls.
use Rattle.std.specs.Prelude.{ℕ, ◌+◌, ◌-◌, ◌^◌, ◌≤◌, ◌≡◌, min, Result, Ok, Err, OnErr, OnOk}
use Rattle.spie_base.specs.declared.errors.ReadRefused.{ReadRefused}
use Rattle.spie_base.specs.declared.errors.ReadRefused.TheVariants.{Failed, TooLong, NoMemory}

-- the count has risen by so many, or stands at the end of a counter of 64 bits
abbrev pub RoseBy : (count before now : ℕ) → Type 0
RoseBy count before now = min (before + count) (2 ^ 64 - 1) ≤ now

-- the count has risen
abbrev pub Rose : (before now : ℕ) → Type 0
Rose before now = RoseBy 1 before now

-- a fault comes only where the count rose, and anything else only where it stayed
pub record HasCause {T E : Type 0} (before now : ℕ) (result : Result T E) : Type 0 where
  pub later : before ≤ now
  pub failed : OnErr result (Rose before now)
  pub kept : OnOk result (now ≡ before)

-- of an input that is read whole: only the source's own fault raises its count
abbrev pub HasReadCause : {T : Type 0} → ℕ → ℕ → Result T ReadRefused → Type 0
HasReadCause before now (Ok bytes) = now ≡ before
HasReadCause before now (Err Failed) = Rose before now
HasReadCause before now (Err TooLong) = now ≡ before
HasReadCause before now (Err NoMemory) = now ≡ before
