-- What a whole input took, by its answer.
use Rattle.std.proofs.Common.{ℕ, ◌≡◌, ◌+◌, ◌≤◌, List, subst, sym}
use Rattle.std.specs.Prelude.{Result, Ok, Err, Vec, IsErrAnd}
use Rattle.std.specs.declared.option.Option.{Option}
use Rattle.std.specs.declared.alloc.Global.{Global}
use Rattle.spie_base.specs.Transfer.{Took, TookCount}
use Rattle.spie_base.specs.declared.errors.ReadRefused.{ReadRefused}
use Rattle.spie_base.specs.declared.errors.ReadRefused.TheVariants.{NoMemory}

-- refused memory, after some bytes
pub Took-no_memory : (before after : Option (List ℕ)) (most : ℕ) (r : Result (Vec ℕ Global) ReadRefused) → IsErrAnd r (λ e. e ≡ NoMemory) → TookCount before after (λ count. count ≤ most + 1) → Took before after most r
Took-no_memory before after most (Ok v) h t = absurd h
Took-no_memory before after most (Err e) h t = subst (λ why. Took before after most (Err why)) (sym h) t
