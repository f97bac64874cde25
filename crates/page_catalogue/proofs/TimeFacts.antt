-- Windows have pages, and expired pages are a prefix that stays.
use Rattle.std.proofs.Common.{ℕ, zero, suc, ◌≡◌, ◌<◌, ◌≤◌, ◌+◌, ◌++◌, List, length, get_or, length-append, arith, inl, inr, true, IsTrue}
use Rattle.std.proofs.lemmas.Bool.{cases_lt}
use Rattle.std.proofs.lemmas.List.{get_or_append_left}
use Rattle.spie_base.specs.declared.Rules.{Rules}
use Rattle.page_catalogue.specs.Pages.{is_in_window, is_expired, AreAscending}
use Rattle.page_catalogue.specs.Private.{IsOld}
use Rattle.page_catalogue.proofs.Windows.{InWindow, to_test, old_then, then_old}

-- a page with nothing closed by the time behind it, or an earlier one, is in the window
some_page : (rules : Rules) (closings : List ℕ) (time n : ℕ) → n ≤ length closings → (n < length closings → time < get_or closings n 0) → (page : ℕ) × InWindow rules closings time page
some_page rules closings time zero within past = (0, record { exists = omega arith; opened = omega arith; closed = λ lt. let late : time < get_or closings 0 0 = past lt in omega arith })
some_page rules closings time (suc q) within past =
    elim (cases_lt time (get_or closings q 0)) [
      | inl late ↦ some_page rules closings time q (omega arith) (λ lt. late)
      | inr early ↦ (suc q, record { exists = within; opened = early; closed = λ lt. let late : time < get_or closings (suc q) 0 = past lt in omega arith })
    ]

pub window_has : (rules : Rules) (closings : List ℕ) (time : ℕ) → (page : ℕ) × IsTrue (is_in_window rules closings time page)
window_has rules closings time =
    let found = some_page rules closings time (length closings) (omega arith) (λ lt. absurd (omega arith)) in
    (found.0, to_test rules closings time found.0 found.1)

old_before : (rules : Rules) (closings : List ℕ) (clock page earlier : ℕ) → AreAscending closings → earlier ≤ page → IsOld rules closings clock page → IsOld rules closings clock earlier
old_before rules closings clock page earlier ascend le old =
    let lt : page < length closings = old.closed in
    let order : get_or closings earlier 0 ≤ get_or closings page 0 = ascend earlier page le lt in
    record {
      closed = omega arith;
      why = elim old.why [
        | inl many ↦ inl (omega arith)
        | inr long ↦ inr (omega arith)
      ];
    }

pub expired_before : (rules : Rules) (closings : List ℕ) (clock page earlier : ℕ) → AreAscending closings → earlier ≤ page → is_expired rules closings clock page ≡ true → is_expired rules closings clock earlier ≡ true
expired_before rules closings clock page earlier ascend le e =
    old_then rules closings clock earlier (old_before rules closings clock page earlier ascend le (then_old rules closings clock page e))

old_later : (rules : Rules) (closings more : List ℕ) (clock later page : ℕ) → clock ≤ later → IsOld rules closings clock page → IsOld rules (closings ++ more) later page
old_later rules closings more clock later page le old =
    let lt : page < length closings = old.closed in
    let longer : length (closings ++ more) ≡ length closings + length more = length-append closings more in
    let same : get_or (closings ++ more) page 0 ≡ get_or closings page 0 = get_or_append_left closings more 0 page lt in
    record {
      closed = omega (arith, longer);
      why = elim old.why [
        | inl many ↦ inl (omega (arith, longer))
        | inr long ↦ inr (omega (arith, same))
      ];
    }

pub expired_later : (rules : Rules) (closings more : List ℕ) (clock later page : ℕ) → clock ≤ later → is_expired rules closings clock page ≡ true → is_expired rules (closings ++ more) later page ≡ true
expired_later rules closings more clock later page le e =
    old_then rules (closings ++ more) later page (old_later rules closings more clock later page le (then_old rules closings clock page e))
