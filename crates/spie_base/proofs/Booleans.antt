-- Truth values that are joined.
use Rattle.std.proofs.Common.{◌≡◌, ◌⊎◌, inl, inr, refl, sym, Bool, true, false, not, ◌&&◌, ◌||◌}
use Rattle.std.proofs.lemmas.Bool.{false≢true}

pub and_true : (a : Bool) → (a && true) ≡ a
and_true true = refl
and_true false = refl

pub and_false : (a : Bool) → (a && false) ≡ false
and_false true = refl
and_false false = refl

pub or_true : (a : Bool) → (a || true) ≡ true
or_true true = refl
or_true false = refl

pub or_false : (a : Bool) → (a || false) ≡ a
or_false true = refl
or_false false = refl

-- both hold
pub both_hold : (a b : Bool) → a ≡ true → b ≡ true → (a && b) ≡ true
both_hold true b p q = q
both_hold false b p q = absurd (false≢true p)

pub both_held : (a b : Bool) → (a && b) ≡ true → (a ≡ true) × (b ≡ true)
both_held true b e = (refl, e)
both_held false b e = absurd (false≢true e)

-- one of them holds
pub one_holds : (a b : Bool) → a ≡ true ⊎ b ≡ true → (a || b) ≡ true
one_holds true b h = refl
one_holds false b (inl p) = absurd (false≢true p)
one_holds false b (inr q) = q

pub one_held : (a b : Bool) → (a || b) ≡ true → a ≡ true ⊎ b ≡ true
one_held true b e = inl refl
one_held false b e = inr e

-- neither does
pub none_held : (a b : Bool) → (a || b) ≡ false → (a ≡ false) × (b ≡ false)
none_held true b e = absurd (false≢true (sym e))
none_held false b e = (refl, e)

pub none_holds : (a b : Bool) → a ≡ false → b ≡ false → (a || b) ≡ false
none_holds true b p q = absurd (false≢true (sym p))
none_holds false b p q = q

pub not_false : (a : Bool) → not a ≡ true → a ≡ false
not_false true e = absurd (false≢true e)
not_false false e = refl

pub not_true : (a : Bool) → not a ≡ false → a ≡ true
not_true true e = refl
not_true false e = absurd (false≢true (sym e))
