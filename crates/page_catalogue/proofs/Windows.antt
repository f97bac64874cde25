use Rattle.std.proofs.Common.{ℕ, zero, suc, ◌≡◌, ◌<◌, ◌≤◌, ◌+◌, ◌-◌, ◌↔◌, List, length, get_or, arith, inl, inr, true, false, Bool, ltb, IsTrue, refl, sym, ◌∙◌}
use Rattle.std.proofs.lemmas.Bool.{cases_lt, lt-ltb, le-ltb, false≢true}
use Rattle.std.proofs.lemmas.Bool.Decides.{nat_tests}
use Rattle.spie_base.specs.declared.Rules.{Rules}
use Rattle.page_catalogue.specs.Pages.{opened, is_in_window, is_expired}
use Rattle.page_catalogue.specs.Catalogues.{AreExpired}
use Rattle.page_catalogue.specs.Private.{IsOld}

-- the same as a window's test, by parts
pub record InWindow (rules : Rules) (closings : List ℕ) (time p : ℕ) : Type 0 where
  pub exists : p ≤ length closings
  pub opened : opened closings p ≤ time
  pub closed : p < length closings → time - rules.width ≤ get_or closings p 0

pub from_test : (rules : Rules) (closings : List ℕ) (time p : ℕ) → IsTrue (is_in_window rules closings time p) → InWindow rules closings time p
unfolding is_in_window
from_test rules closings time p h = record {
  exists = grind (arith, nat_tests);
  opened = grind (arith, nat_tests);
  closed = λ lt. grind (arith, nat_tests);
}

pub to_test : (rules : Rules) (closings : List ℕ) (time p : ℕ) → InWindow rules closings time p → IsTrue (is_in_window rules closings time p)
unfolding is_in_window
to_test rules closings time p w =
    let a : p ≤ length closings = w.exists in
    let b : opened closings p ≤ time = w.opened in
    elim (cases_lt p (length closings)) [
      | inl lt ↦ let c : time - rules.width ≤ get_or closings p 0 = w.closed lt in grind (arith, nat_tests)
      | inr ge ↦ let e : p ≡ length closings = omega arith in grind (arith, nat_tests)
    ]

-- what stands between the two counts is in the window
pub window_has : (rules : Rules) (closings : List ℕ) (time first last : ℕ) → last ≤ length closings → ((p : ℕ) → first ≤ p → p < length closings → time - rules.width ≤ get_or closings p 0) → ((p : ℕ) → p < last → get_or closings p 0 ≤ time) → (p : ℕ) → first ≤ p → p ≤ last → InWindow rules closings time p
window_has rules closings time first last within above upto zero f l = record { exists = omega arith; opened = omega arith; closed = λ h. above zero f h }
window_has rules closings time first last within above upto (suc q) f l = record { exists = omega arith; opened = upto q (omega arith); closed = λ h. above (suc q) f h }

-- what is in the window is not before the first count
pub window_from : (rules : Rules) (closings : List ℕ) (time first : ℕ) → first ≤ length closings → ((p : ℕ) → p < first → get_or closings p 0 < time - rules.width) → (p : ℕ) → InWindow rules closings time p → first ≤ p
window_from rules closings time first within below p w =
    elim (cases_lt p first) [
      | inl lt ↦ let early : get_or closings p 0 < time - rules.width = below p lt in
          let late : time - rules.width ≤ get_or closings p 0 = w.closed (omega arith) in absurd (omega arith)
      | inr le ↦ le
    ]

-- nor after the last
pub window_to : (rules : Rules) (closings : List ℕ) (time last : ℕ) → ((p : ℕ) → last ≤ p → p < length closings → time < get_or closings p 0) → (p : ℕ) → InWindow rules closings time p → p ≤ last
window_to rules closings time last past zero w = omega arith
window_to rules closings time last past (suc q) w =
    elim (cases_lt q last) [
      | inl lt ↦ omega arith
      | inr le ↦ let exists : suc q ≤ length closings = w.exists in
          let opened : get_or closings q 0 ≤ time = w.opened in
          let late : time < get_or closings q 0 = past q le (omega arith) in absurd (omega arith)
    ]

-- the window has a page
pub window_some : (rules : Rules) (closings : List ℕ) (time first last : ℕ) → first ≤ length closings → ((p : ℕ) → p < first → get_or closings p 0 < time - rules.width) → ((p : ℕ) → last ≤ p → p < length closings → time < get_or closings p 0) → first ≤ last
window_some rules closings time first last within below past =
    elim (cases_lt last first) [
      | inl lt ↦ let early : get_or closings last 0 < time - rules.width = below last lt in
          let late : time < get_or closings last 0 = past last (omega arith) (omega arith) in absurd (omega arith)
      | inr le ↦ le
    ]

-- the test of expiry, and what it says
pub old_then : (rules : Rules) (closings : List ℕ) (clock page : ℕ) → IsOld rules closings clock page → is_expired rules closings clock page ≡ true
unfolding is_expired
old_then rules closings clock page old =
    let lt : page < length closings = old.closed in
    elim old.why [
      | inl many ↦ grind (arith, nat_tests)
      | inr long ↦ grind (arith, nat_tests)
    ]

pub then_old : (rules : Rules) (closings : List ℕ) (clock page : ℕ) → is_expired rules closings clock page ≡ true → IsOld rules closings clock page
unfolding is_expired
then_old rules closings clock page e =
    let lt : page < length closings = grind (arith, nat_tests) in
    record {
      closed = lt;
      why = elim (cases_lt (length closings) (page + 1 + rules.keep)) [
        | inl few ↦ inr (grind (arith, nat_tests))
        | inr many ↦ inl (omega arith)
      ];
    }

by_bound : (rules : Rules) (closings : List ℕ) (clock gone : ℕ) → ((page : ℕ) → (page < gone) ↔ IsOld rules closings clock page) → (page : ℕ) (b : Bool) → is_expired rules closings clock page ≡ b → ltb page gone ≡ b
by_bound rules closings clock gone exact page true e = lt-ltb page gone ((exact page).1 (then_old rules closings clock page e))
by_bound rules closings clock gone exact page false e = elim (cases_lt page gone) [
  | inl lt ↦ absurd (false≢true (sym e ∙ old_then rules closings clock page ((exact page).0 lt)))
  | inr ge ↦ le-ltb page gone ge
]

pub are_expired : (rules : Rules) (closings : List ℕ) (clock gone : ℕ) → ((page : ℕ) → (page < gone) ↔ IsOld rules closings clock page) → AreExpired rules closings clock gone
are_expired rules closings clock gone exact page = by_bound rules closings clock gone exact page (is_expired rules closings clock page) refl
