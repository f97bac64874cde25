-- What follows of the value in an `Option`.
use Rattle.std.proofs.Common.{sym, refl, subst}
use Rattle.std.specs.Prelude.{Option, Some, None, IsSome, IfSome}
use Rattle.std.specs.Option.{SomeIff}

pub if_so : {T : Type 0} → (r : Option T) (P : Type 0) (v : T) (Q : T → Type 0) → SomeIff r P v → Q v → IfSome r Q
if_so None P v Q h q = tt
if_so (Some x) P v Q h q = subst Q (sym h.1) q

pub if_some : {T : Type 0} → (r : Option T) (P : Type 0) (Q R : T → Type 0) → (IsSome r → P) → IfSome r Q → ((x : T) → P → Q x → R x) → IfSome r R
if_some None P Q R p q k = tt
if_some (Some x) P Q R p q k = k x (p refl) q
