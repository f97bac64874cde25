-- Memory for steps to come.
use Rattle.std.proofs.Common.{◌≡◌, ℕ, ◌+◌, ◌*◌, ◌/◌, ◌<◌, ◌≤◌, List, [], ◌∷◌, ◌++◌, ap, ◌∙◌, subst, ⊎_elim, arith}
use Rattle.std.specs.Prelude.{Vec, vec_capacity}
use Rattle.std.specs.declared.alloc.Global.{Global}
use Rattle.gate_core.specs.Sound.{AreSpare}
use Rattle.gate_core.proofs.Lists.{at_snoc}
use Rattle.std.proofs.Math.Nat.{lt-div-mul-add, mul-add, mul_comm}

pub lists_enough : (steps wide : ℕ) → 1 ≤ wide → steps + 4 * wide ≤ wide * (steps / wide + 5)
lists_enough steps wide some =
    let q : ℕ = steps / wide in
    let a : steps < q * wide + wide = lt-div-mul-add {a = steps} {b = wide} (omega arith) in
    let b : wide * (q + 5) ≡ q * wide + wide * 5 = mul-add wide q 5 ∙ ap (λ (x : ℕ). x + wide * 5) (mul_comm wide q) in omega arith

-- one list more
pub spare_push : (wide : ℕ) (lists : List (Vec ℕ Global)) (v : Vec ℕ Global) → AreSpare wide lists → v.items ≡ [] → wide ≤ vec_capacity v → AreSpare wide (lists ++ v ∷ [])
spare_push wide lists v spare bare room i w at =
    ⊎_elim (λ old. spare i w old) (λ t. subst (λ (u : Vec ℕ Global). (u.items ≡ []) × (wide ≤ vec_capacity u)) t.1 (bare, room)) (at_snoc lists v w i at)
