-- The parts of a gate word, and what a step on it makes of them.
use Rattle.std.proofs.Common.{◌≡◌, ℕ, ◌+◌, ◌-◌, ◌*◌, ◌%◌, ◌^◌, ◌<◌, ◌≢◌, cond, eqb, sym, refl, subst, ⊎_elim, arith, bit_and}
use Rattle.std.proofs.lemmas.Bool.Decides.{eqb_tells}
use Rattle.gate_core.specs.declared.states.SlotPhase.{SlotPhase}
use Rattle.gate_core.specs.declared.states.SlotPhase.TheVariants.{Free, Open, Sealed, Quiet}
use Rattle.gate_core.specs.Acts.{inside_of, seal_of, page_of}
use Rattle.gate_core.specs.Invariant.{seal_bit}
use Rattle.std.proofs.lemmas.Nat.Bits.{and_pow}

pub gate_inside : (a b c n : ℕ) → a < 65536 → b < 2 → n ≡ a + b * 65536 + c * 4294967296 → inside_of n ≡ a
gate_inside a b c n h k e = omega arith

pub gate_seal : (a b c n : ℕ) → a < 65536 → b < 2 → n ≡ a + b * 65536 + c * 4294967296 → seal_of n ≡ b
gate_seal a b c n h k e = omega arith

pub gate_page : (a b c n : ℕ) → a < 65536 → b < 2 → n ≡ a + b * 65536 + c * 4294967296 → page_of n ≡ c
gate_page a b c n h k e = omega arith

pub one_more : (n : ℕ) → n + 1 < 18446744073709551616 → (n + 1) % 2 ^ 64 ≡ n + 1
one_more n h = omega arith

pub one_less : (n : ℕ) → 0 < n → n < 18446744073709551616 → (n + (2 ^ 64 - 1)) % 2 ^ 64 ≡ n - 1
one_less n h k = omega arith

pub sealed_two : (ph : SlotPhase) → seal_bit ph < 2
sealed_two Free = omega arith
sealed_two Open = omega arith
sealed_two Sealed = omega arith
sealed_two (Quiet next) = omega arith

pub unsealed_open : (ph : SlotPhase) → seal_bit ph ≡ 0 → ph ≡ Open
unsealed_open Free e = absurd (omega arith)
unsealed_open Open e = refl
unsealed_open Sealed e = absurd (omega arith)
unsealed_open (Quiet next) e = absurd (omega arith)

pub seal_masked : (gate : ℕ) → bit_and gate 65536 ≡ seal_of gate * 65536
seal_masked gate = and_pow gate 16

pub unsealed : (gate : ℕ) → seal_of gate ≢ 1 → seal_of gate ≡ 0
unsealed gate ne = omega arith

-- the two cases of a test
pub tested : {A : Type 0} (F : A → Type 0) (a b : ℕ) (x y : A) → (a ≡ b → F x) → (a ≢ b → F y) → F (cond (eqb a b) x y)
tested F a b x y hit miss = ⊎_elim (λ t. subst (λ c. F (cond c x y)) (sym t.0) (hit t.1)) (λ t. subst (λ c. F (cond c x y)) (sym t.0) (miss t.1)) (eqb_tells a b)
