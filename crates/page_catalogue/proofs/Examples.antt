-- Worked cases of closing, expiry and windows, computed.
use Rattle.std.proofs.Common.{ℕ, ◌≡◌, ◌∷◌, [], true, false, refl}
use Rattle.spie_base.specs.declared.Rules.{Rules}
use Rattle.page_catalogue.specs.Pages.{is_due, is_expired, is_in_window}

abbrev rules : (limit span keep age width : ℕ) → Rules
rules limit span keep age width = record { k = 1; n = 16; limit = limit; span = span; keep = keep; age = age; width = width; base = 0 }

-- three pages closed at 1, and one closed page may be kept: the first two are expired
expired_first : is_expired (rules 60000 1000 1 5000 100) (1 ∷ 1 ∷ 1 ∷ []) 2 0 ≡ true
unfolding is_expired
expired_first = refl

expired_next : is_expired (rules 60000 1000 1 5000 100) (1 ∷ 1 ∷ 1 ∷ []) 2 1 ≡ true
unfolding is_expired
expired_next = refl

expired_last : is_expired (rules 60000 1000 1 5000 100) (1 ∷ 1 ∷ 1 ∷ []) 2 2 ≡ false
unfolding is_expired
expired_last = refl

-- the open page never expires
expired_open : is_expired (rules 60000 1000 1 5000 100) (1 ∷ 1 ∷ 1 ∷ []) 9000 3 ≡ false
unfolding is_expired
expired_open = refl

-- a page that closed at 1 expires when the age has passed
aged_before : is_expired (rules 60000 1000 8 5000 100) (1 ∷ []) 5000 0 ≡ false
unfolding is_expired
aged_before = refl

aged_at : is_expired (rules 60000 1000 8 5000 100) (1 ∷ []) 5001 0 ≡ true
unfolding is_expired
aged_at = refl

-- a window of no width: the page that closed at 10 and the one that opened then
window_before : is_in_window (rules 60000 10 8 5000 0) (10 ∷ []) 9 1 ≡ false
unfolding is_in_window
window_before = refl

window_at : is_in_window (rules 60000 10 8 5000 0) (10 ∷ []) 10 0 ≡ true
unfolding is_in_window
window_at = refl

window_opened : is_in_window (rules 60000 10 8 5000 0) (10 ∷ []) 10 1 ≡ true
unfolding is_in_window
window_opened = refl

window_after : is_in_window (rules 60000 10 8 5000 0) (10 ∷ []) 11 0 ≡ false
unfolding is_in_window
window_after = refl

-- a width that reaches before 0 reaches to 0
window_wide : is_in_window (rules 60000 10 8 5000 100) (10 ∷ []) 11 0 ≡ true
unfolding is_in_window
window_wide = refl

-- one mark closes a page at the next tick, and none doesn't
due_at : is_due (rules 1 1000 8 5000 100) [] 2 1 ≡ true
unfolding is_due
due_at = refl

due_below : is_due (rules 1 1000 8 5000 100) [] 1 0 ≡ false
unfolding is_due
due_below = refl

-- the span counts from when the page opened
due_span : is_due (rules 60000 10 8 5000 100) (10 ∷ []) 20 0 ≡ true
unfolding is_due
due_span = refl

due_early : is_due (rules 60000 10 8 5000 100) (10 ∷ []) 19 0 ≡ false
unfolding is_due
due_early = refl
