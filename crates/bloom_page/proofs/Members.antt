-- Which positions are in a list, and in the set that a test makes.
use Rattle.std.proofs.Common.{ℕ, ◌+◌, ◌<◌, ◌≤◌, ◌≡◌, ◌↔◌, ◌==◌, Bool, IsTrue, true, false, ◌&&◌, List, filter, All, ⊎_elim, sym, ap, ◌∙◌, arith}
use Rattle.std.specs.Cmp.{nat_eq_equiv}
use Rattle.std.specs.List.{Contains, range_with_len}
use Rattle.std.proofs.Math.Bool.{and-true}
use Rattle.std.proofs.lemmas.Bool.{and_left, cases_lt, eqb-true}
use Rattle.std.proofs.lemmas.List.Elements.{All-weaker}
use Rattle.std.proofs.lemmas.List.Sums.{AllPass-from_list_all, list_all-from_AllPass}
use Rattle.std.proofs.lemmas.List.FromFn.{length-range_with_len, get_or-range_with_len}
use Rattle.std.proofs.lemmas.Map.Views.{list_any-from_Contains, Contains-from_any, any-filter_same}
use Rattle.bloom_page.specs.Sets.{is_in, are_in}

-- the test and the fact
pub is_in-from_Contains : (ps : List ℕ) (p : ℕ) → Contains ps p → is_in ps p ≡ true
is_in-from_Contains ps p = list_any-from_Contains nat_eq_equiv p ps

pub Contains-from_is_in : (ps : List ℕ) (p : ℕ) → is_in ps p ≡ true → Contains ps p
Contains-from_is_in ps p = Contains-from_any eqb-true p ps

pub Contains-range : (m p : ℕ) → p < m → Contains (range_with_len 0 m) p
Contains-range m p below = (p, rw (length-range_with_len 0 m) below, get_or-range_with_len 0 m p p below ∙ (let e : 0 + p ≡ p = omega arith in e))

-- a filter has what passes
pub is_in-filter : (test : ℕ → Bool) (ps : List ℕ) (p : ℕ) → is_in (filter test ps) p ≡ (test p && is_in ps p)
is_in-filter test ps p = any-filter_same (λ q. p == q) test (test p) (λ q same. ap test (sym (eqb-true p q same))) ps

-- what passes below m, where nothing else does
pub is_in-filter_range : (test : ℕ → Bool) (m p : ℕ) → (m ≤ p → test p ≡ false) → is_in (filter test (range_with_len 0 m)) p ≡ test p
is_in-filter_range test m p above =
    is_in-filter test (range_with_len 0 m) p
    ∙ ⊎_elim
    (λ below. ap (λ b. test p && b) (is_in-from_Contains (range_with_len 0 m) p (Contains-range m p below)) ∙ and-true (test p))
    (λ past. and_left (test p) (is_in (range_with_len 0 m) p) (above past) ∙ sym (above past))
    (cases_lt p m)

-- inclusion, by the test and by the fact
pub are_in-inclusion : (ps marks : List ℕ) → IsTrue (are_in ps marks) ↔ All (Contains ps) marks
are_in-inclusion ps marks = (
  (λ all. All-weaker (λ p. is_in ps p ≡ true) (Contains ps) (Contains-from_is_in ps) marks (AllPass-from_list_all (is_in ps) marks all)),
  λ each. list_all-from_AllPass (is_in ps) marks (All-weaker (Contains ps) (λ p. is_in ps p ≡ true) (is_in-from_Contains ps) marks each),
)
