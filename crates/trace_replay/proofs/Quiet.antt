-- Items that add nothing to the totals.
use Rattle.std.proofs.Common.{ℕ, ◌≡◌, ◌∷◌, [], ◌++◌, ◌∙◌, List, map, ap, refl}
use Rattle.std.specs.Prelude.{fold}
use Rattle.std.specs.List.{flat_map}
use Rattle.std.specs.declared.option.Option.{Option}
use Rattle.std.specs.Prelude.{Some, None}
use Rattle.report_text.specs.declared.Item.{Item}
use Rattle.router_account.specs.declared.Watch.{Watch}
use Rattle.router_account.specs.declared.Watch.TheVariants.{Seen, NotSeen, Unknown}
use Rattle.router_account.specs.Barriers.{Closing}
use Rattle.trace_history.specs.declared.Totals.{Totals}
use Rattle.trace_history.specs.Report.{with_answer, totals_of, no_totals, watch_item, closing_items, left_items}
use Rattle.trace_replay.specs.declared.state.Answer.{Answer}
use Rattle.trace_replay.specs.declared.state.Answer.TheVariants.{Entered, Opened, Archived, Watched}
use Rattle.trace_replay.specs.Segments.{Splits, Pending, item_by, pending_items}

pub record AreQuiet (items : List Item) : Type 0 where
  pub each : (z : Totals) → fold with_answer z items ≡ z

pub fold_append : (xs ys : List Item) (z : Totals) → fold with_answer z (xs ++ ys) ≡ fold with_answer (fold with_answer z xs) ys
fold_append [] ys z = refl
fold_append (x ∷ xs) ys z = fold_append xs ys (with_answer z x)

pub quiet_none : AreQuiet []
quiet_none = record { each = λ z. refl }

pub quiet_append : (xs ys : List Item) → AreQuiet xs → AreQuiet ys → AreQuiet (xs ++ ys)
quiet_append xs ys a b = record { each = λ z. fold_append xs ys z ∙ ap (λ w. fold with_answer w ys) (a.each z) ∙ b.each z }

pub quiet_cons : (x : Item) (xs : List Item) → ((z : Totals) → with_answer z x ≡ z) → AreQuiet xs → AreQuiet (x ∷ xs)
quiet_cons x xs a b = record { each = λ z. ap (λ w. fold with_answer w xs) (a z) ∙ b.each z }

pub quiet_map : {X : Type 0} (f : X → Item) → ((z : Totals) (x : X) → with_answer z (f x) ≡ z) → (xs : List X) → AreQuiet (map f xs)
quiet_map f a [] = quiet_none
quiet_map f a (x ∷ xs) = quiet_cons (f x) (map f xs) (λ z. a z x) (quiet_map f a xs)

pub quiet_flat_map : {X : Type 0} (f : X → List Item) → ((x : X) → AreQuiet (f x)) → (xs : List X) → AreQuiet (flat_map f xs)
quiet_flat_map f a [] = quiet_none
quiet_flat_map f a (x ∷ xs) = quiet_append (f x) (flat_map f xs) (a x) (quiet_flat_map f a xs)

watch_quiet : (z : Totals) (line : ℕ) (w : Watch) → with_answer z (watch_item line w) ≡ z
watch_quiet z line Seen = refl
watch_quiet z line NotSeen = refl
watch_quiet z line Unknown = refl

item_quiet : (f : Splits) (z : Totals) (line : ℕ) (a : Answer) → with_answer z (item_by f line a) ≡ z
item_quiet f z line (Entered page) = refl
item_quiet f z line (Opened page) = refl
item_quiet f z line (Archived router) = refl
item_quiet f z line (Watched w) = watch_quiet z line w

pub quiet_pending : (f : Splits) (xs : List Pending) → AreQuiet (pending_items f xs)
quiet_pending f xs = quiet_map (λ (x : Pending). item_by f x.line x.answer) (λ z x. item_quiet f z x.line x.answer) xs

pub quiet_left : (line : ℕ) (left : ℕ → List ℕ) (r : ℕ) → AreQuiet (left_items line left r)
quiet_left line left r = quiet_map _ (λ z x. refl) (left r)

pub quiet_closing : (line r : ℕ) (o : Option Closing) → AreQuiet (closing_items line r o)
quiet_closing line r None = quiet_none
quiet_closing line r (Some x) = quiet_cons _ [] (λ z. refl) quiet_none

pub totals_quiet : (items more : List Item) → AreQuiet more → totals_of (items ++ more) ≡ totals_of items
totals_quiet items more a = fold_append items more no_totals ∙ a.each (totals_of items)
