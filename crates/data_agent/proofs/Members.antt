-- Membership of numbers in lists, as a test.
use Rattle.std.proofs.Common.{ℕ, ◌≡◌, ◌++◌, ◌==◌, ◌||◌, List, false}
use Rattle.std.specs.List.{Contains}
use Rattle.std.proofs.lemmas.Bool.{false_from_ne_true}
use Rattle.std.proofs.lemmas.List.Folds.{list_any-append}
use Rattle.bloom_page.specs.Sets.{is_in}
use Rattle.bloom_page.proofs.Members.{Contains-from_is_in}

pub is_in-none : (ps : List ℕ) (p : ℕ) → (Contains ps p → ⊥) → is_in ps p ≡ false
is_in-none ps p none = false_from_ne_true (is_in ps p) (λ is. none (Contains-from_is_in ps p is))

pub is_in-append : (ps qs : List ℕ) (p : ℕ) → is_in (ps ++ qs) p ≡ (is_in ps p || is_in qs p)
is_in-append ps qs p = list_any-append (λ q. p == q) ps qs
