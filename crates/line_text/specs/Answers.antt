-- What a reader answers, for the rules and faults of any language: what it read, or why it ended.
use Rattle.std.specs.Prelude.{◌≡◌, Result, Ok, Err, IfSome}
use Rattle.std.specs.declared.option.Option.{Option}
use Rattle.std.specs.declared.option.Option.TheVariants.{None, Some}

-- the second step, if the first gave something
infixl 10 ◌>>=◌
abbrev pub ◌>>=◌ : {A B W : Type 0} → Result A W → (A → Result B W) → Result B W
(Ok x) >>= f = f x
(Err e) >>= f = Err e

-- where reading ended with a fault, the fault is this one. An end for want of memory has none, and tells nothing
abbrev pub Fails : {Y F : Type 0} → Option F → Result Y F → Type 0
Fails None read = Unit {0}
Fails (Some fault) read = read ≡ Err fault

-- of an end, `fault_in` is the fault, where there is one
module _ {E F : Type 0} (fault_in : E → Option F) where
  -- what was returned, seen by `view`, is what reading gives, unless memory ran out
  abbrev pub Gives : {X Y : Type 0} → (X → Y) → Result X E → Result Y F → Type 0
  Gives view (Ok x) read = read ≡ Ok (view x)
  Gives view (Err e) read = Fails (fault_in e) read

  -- this value, or a refusal with this fault, unless memory was refused
  abbrev pub IsReadAs : {X : Type 0} → Result X E → Result X F → Type 0
  IsReadAs answer wanted = Gives (λ x. x) answer wanted

  -- where it is a refusal, its fault is one of these
  abbrev pub RefusedWith : {X : Type 0} → Result X E → (F → Type 0) → Type 0
  RefusedWith (Ok x) P = Unit {0}
  RefusedWith (Err e) P = IfSome (fault_in e) P
