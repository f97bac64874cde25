-- What a field that is read looks like, and the other way round.
use Rattle.std.proofs.Common.{ℕ, ◌≡◌, ◌^◌, ◌≤◌, ◌<◌, List, refl, arith, sym, ◌∙◌, Result, Ok, Err, Bool, true, false, cond, nat_lt, lit<}
use Rattle.std.proofs.lemmas.Bool.Decides.{nat_tests}
use Rattle.std.specs.Fmt.{decimal}
use Rattle.std.specs.Prelude.{codes}
use Rattle.std.specs.Str.{bytes_eq}
use Rattle.play_script.specs.Limits.{IsCore}
use Rattle.spie_base.specs.declared.types.TheConstants.{K_MOST, N_LEAST}
use Rattle.play_script.specs.declared.script.TheConstants.{CORE_N_MOST}
use Rattle.gate_core.specs.declared.steps.Actor.{Actor}
use Rattle.gate_core.specs.declared.steps.Actor.TheVariants as actor
use Rattle.hex.specs.Hex.{decode_sized}
use Rattle.hex.specs.declared.error.FromHexError.{FromHexError}
use Rattle.spie_base.specs.declared.types.PageShape.{PageShape}
use Rattle.spie_base.specs.declared.types.Sig.{Sig}
use Rattle.trace_format.proofs.Again.{number_again, base_again}
use Rattle.trace_format.proofs.FieldForms.{IsNumber, FieldMeets, bound, number_meets, base_meets}
use Rattle.line_text.proofs.Fields.{same}
use Rattle.spie_base.specs.Decimal.{number_in}
use Rattle.line_text.specs.Answers.{◌>>=◌}
use Rattle.trace_format.specs.Reading.{number, base_of}
use Rattle.trace_format.specs.Spelling.{IsBase}
use Rattle.trace_format.specs.declared.refused.WhyRefused.TheVariants as why
use Rattle.play_script.specs.Reading.{below, sig_of, sig_by, actor_in, shape_in}
use Rattle.play_script.specs.Spelling.{IsActor, IsSig}

-- a number below a bound
pub record IsBelow (field : List ℕ) (bound n : ℕ) : Type 0 where
  pub is : field ≡ decimal n
  pub under : n < bound

below_by : (field : List ℕ) (most n : ℕ) (b : Bool) → nat_lt n most ≡ b → field ≡ decimal n → FieldMeets (λ n. IsBelow field most n) (cond b (Ok n) (Err why.Field))
below_by field most n true t e = record { is = e; under = grind (arith, nat_tests) }
below_by field most n false t e = refl

pub below_meets : (field : List ℕ) (most : ℕ) → FieldMeets (λ n. IsBelow field most n) (below field most)
unfolding below
below_meets field most = bound (λ n. IsNumber field 0 4294967295 n) (λ r. FieldMeets (λ n. IsBelow field most n) r) (number field 0 4294967295) _ (number_meets field 0 4294967295 (lit< tt)) (λ n h. below_by field most n _ refl h.is) refl

under_again : (n most : ℕ) → nat_lt n most ≡ true → cond (nat_lt n most) (Ok n) (Err why.Field) ≡ Ok n
under_again n most t = rw t refl

pub below_again : (most n : ℕ) → most ≤ 2 ^ 32 → n < most → below (decimal n) most ≡ Ok n
unfolding below
below_again most n small h =
    let t : nat_lt n most ≡ true = grind (arith, nat_tests) in
    let r : number (decimal n) 0 4294967295 ≡ Ok n = number_again 0 4294967295 n (lit< tt) (omega arith) (omega arith) in
    rw r (under_again n most t)

sig_meets_by : (field : List ℕ) (r : Result (List ℕ) FromHexError) → decode_sized field 28 ≡ r → FieldMeets (λ sig. IsSig field sig) (sig_by r)
sig_meets_by field (Ok bytes) e = e
sig_meets_by field (Err w) e = refl

pub sig_meets : (field : List ℕ) → FieldMeets (λ sig. IsSig field sig) (sig_of field)
unfolding sig_of
sig_meets field = sig_meets_by field _ refl

pub sig_again : (field : List ℕ) (sig : Sig) → IsSig field sig → sig_of field ≡ Ok sig
unfolding sig_of
sig_again field sig e = rw e refl

actor_meets_by : (passes : ℕ) (field : List ℕ) (b : Bool) → bytes_eq field (codes "k") ≡ b → FieldMeets (λ who. IsActor passes who field) (cond b (Ok actor.Keeper) (below field passes >>= (λ n. Ok (actor.Pass n))))
actor_meets_by passes field true e = same field (codes "k") e
actor_meets_by passes field false e = bound (λ n. IsBelow field passes n) (λ r. FieldMeets (λ who. IsActor passes who field) r) (below field passes) (λ n. Ok (actor.Pass n)) (below_meets field passes) (λ n h. (h.is, h.under)) refl

pub actor_meets : (passes : ℕ) (field : List ℕ) → FieldMeets (λ who. IsActor passes who field) (actor_in passes field)
unfolding actor_in
actor_meets passes field = actor_meets_by passes field _ refl

-- `k` is no number's text
letter : number (codes "k") 0 4294967295 ≡ Err why.Field
unfolding number number_in
letter = refl

no_letter : (n : ℕ) → n < 2 ^ 32 → codes "k" ≡ decimal n → ⊥
no_letter n small e =
    let r : number (decimal n) 0 4294967295 ≡ Ok n = number_again 0 4294967295 n (lit< tt) (omega arith) (omega arith) in
    let l : number (decimal n) 0 4294967295 ≡ Err why.Field = rw (← e) letter in
    let q : Err why.Field ≡ Ok n = sym l ∙ r in
    absurd (cc)

actor_again_by : (passes : ℕ) (field : List ℕ) (n : ℕ) (b : Bool) → bytes_eq field (codes "k") ≡ b → field ≡ decimal n → passes ≤ 2 ^ 32 → n < passes → cond b (Ok actor.Keeper) (below field passes >>= (λ n. Ok (actor.Pass n))) ≡ Ok (actor.Pass n)
actor_again_by passes field n true e is small h = absurd (no_letter n (omega arith) (sym (same field (codes "k") e) ∙ is))
actor_again_by passes field n false e is small h = let r : below field passes ≡ Ok n = rw is (below_again passes n small h) in rw r refl

pub actor_again : (passes : ℕ) (who : Actor) (field : List ℕ) → passes ≤ 2 ^ 32 → IsActor passes who field → actor_in passes field ≡ Ok who
unfolding actor_in
actor_again passes actor.Keeper field small e = rw e refl
actor_again passes (actor.Pass n) field small e = actor_again_by passes field n _ refl e.0 small e.1

-- the numbers and the seed of the second line
pub record IsSpelled (k n base : List ℕ) (shape : PageShape) : Type 0 where
  pub k_is : k ≡ decimal shape.k
  pub n_is : n ≡ decimal shape.n
  pub in_range : IsCore shape
  pub base_is : IsBase base shape.base
  pub router : shape.router.number ≡ 0

shape_of : ℕ → ℕ → ℕ → PageShape
shape_of k n base = record { k = k; n = n; base = base; router = record { number = 0 } }

pub shape_meets : (k n base : List ℕ) → FieldMeets (λ shape. IsSpelled k n base shape) (shape_in k n base)
unfolding shape_in
shape_meets k n base =
    bound (λ v. IsNumber k 1 K_MOST v) (λ r. FieldMeets (λ shape. IsSpelled k n base shape) r) (number k 1 K_MOST) _ (number_meets k 1 K_MOST (lit< tt)) (λ a p.
    bound (λ v. IsNumber n N_LEAST CORE_N_MOST v) (λ r. FieldMeets (λ shape. IsSpelled k n base shape) r) (number n N_LEAST CORE_N_MOST) _ (number_meets n N_LEAST CORE_N_MOST (lit< tt)) (λ b q.
    bound (λ v. IsBase base v) (λ r. FieldMeets (λ shape. IsSpelled k n base shape) r) (base_of base) _ (base_meets base) (λ c s.
    record { k_is = p.is; n_is = q.is; in_range = record { in_range = record { k_least = p.low; k_most = p.high; n_least = q.low; n_most = let h = q.high in omega arith }; n_most = q.high }; base_is = s; router = refl }) refl) refl) refl

pub shape_again : (base : List ℕ) (shape : PageShape) → IsCore shape → IsBase base shape.base → shape.router.number ≡ 0 → shape_in (decimal shape.k) (decimal shape.n) base ≡ Ok shape
unfolding shape_in
shape_again base shape r b z =
    rw (number_again 1 K_MOST shape.k (lit< tt) r.in_range.k_least r.in_range.k_most, number_again N_LEAST CORE_N_MOST shape.n (lit< tt) r.in_range.n_least r.n_most, base_again base shape.base b) (rw (← z) refl)
