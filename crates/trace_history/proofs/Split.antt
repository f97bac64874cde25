-- Each page of a window is used, expired or unread.
use Rattle.std.proofs.Common.{◌≡◌, ℕ, Bool, true, false, not, ◌==◌, ◌∷◌, [], ◌⊎◌, ◌∙◌, sym, refl, subst, inl, inr, ⊎_elim, List, map}
use Rattle.std.specs.List.{Contains, list_any}
use Rattle.std.proofs.lemmas.Bool.{false≢true, eq-eqb}
use Rattle.std.proofs.lemmas.Bool.Decides.{Decides-eqb}
use Rattle.spie_base.proofs.Booleans.{one_held, none_holds, none_held, not_false}
use Rattle.spie_base.proofs.Membership.{has_first, has_later, from_map, into_map, from_filter, into_filter}
use Rattle.spie_base.specs.declared.Rules.{Rules}
use Rattle.router_account.specs.Ledger.{Ledger, was_expired}
use Rattle.router_account.specs.Sights.{UnreadPage, Reading, IsRead, is_unread, is_missing, used_by, expired_by}
use Rattle.trace_history.specs.Laws.{PagesAreThree}
use Rattle.trace_history.specs.Ledgers.{ledger}
use Rattle.trace_history.specs.Routes.{AreThree}
use Rattle.trace_history.specs.Sights.{query_window}
use Rattle.trace_history.proofs.Recorded.{any_true}

any_found : {X : Type 0} (p : X → Bool) (xs : List X) → list_any p xs ≡ true → (x : X) × Contains xs x × (p x ≡ true)
any_found p [] e = absurd (false≢true e)
any_found p (a ∷ xs) e =
    ⊎_elim
    (λ h. (a, has_first a xs, h))
    (λ t. let f = any_found p xs t in (f.0, has_later a xs f.0 f.1, f.2))
    (one_held (p a) (list_any p xs) e)

not_of : (b : Bool) → b ≡ false → not b ≡ true
not_of true e = absurd (false≢true (sym e))
not_of false e = refl

module _ (rules : Rules) (l : Ledger) (pages : List ℕ) (reading : Reading) (is : IsRead rules l pages reading) where
  abbrev unread : List ℕ
  unread = map (λ (x : UnreadPage). x.page) reading.unread

  is_listed : (page : ℕ) → is_unread reading page ≡ true → Contains unread page
  is_listed page e =
      let f = any_found (λ (x : UnreadPage). x.page == page) reading.unread e in
      let P : ℕ → Type 0 = λ p. Contains unread p in
      subst P ((Decides-eqb f.0.page page).0 f.2) (into_map (λ (x : UnreadPage). x.page) reading.unread f.0 f.1)

  listed_is : (page : ℕ) → Contains unread page → is_unread reading page ≡ true
  listed_is page h =
      let i = from_map (λ (x : UnreadPage). x.page) reading.unread page h in
      any_true (λ (x : UnreadPage). x.page == page) reading.unread i.of i.has (eq-eqb i.of.page page i.is)

  not_missing : (page : ℕ) → Contains (used_by rules l pages reading) page → (was_expired rules l page ≡ false) × (is_unread reading page ≡ false)
  not_missing page h =
      none_held (was_expired rules l page) (is_unread reading page)
      (not_false (is_missing rules l reading page) (from_filter (λ (p : ℕ). not (is_missing rules l reading p)) pages page h).1)

  is_one : (page : ℕ) → Contains pages page → Contains (used_by rules l pages reading) page ⊎ (Contains (expired_by rules l pages) page ⊎ Contains unread page)
  is_one page h =
      let Goal : Type 0 = Contains (used_by rules l pages reading) page ⊎ (Contains (expired_by rules l pages) page ⊎ Contains unread page) in
      let by_unread : (b : Bool) → is_unread reading page ≡ b → was_expired rules l page ≡ false → Goal =
      elim [
        | true ↦ λ e live. inr (inr (is_listed page e))
        | false ↦ λ e live. inl (into_filter (λ (p : ℕ). not (is_missing rules l reading p)) pages page h (not_of (is_missing rules l reading page) (none_holds (was_expired rules l page) (is_unread reading page) live e)))
      ] in
      let by_expired : (b : Bool) → was_expired rules l page ≡ b → Goal =
      elim [
        | true ↦ λ e. inr (inl (into_filter (was_expired rules l) pages page h e))
        | false ↦ λ e. by_unread (is_unread reading page) refl e
      ] in
      by_expired (was_expired rules l page) refl

  unread_shelved : (page : ℕ) → Contains unread page → Contains pages page × (was_expired rules l page ≡ false)
  unread_shelved page h =
      let i = from_map (λ (x : UnreadPage). x.page) reading.unread page h in
      let s = is.unread i.of i.has in
      let P : ℕ → Type 0 = λ p. Contains pages p × (was_expired rules l p ≡ false) in
      subst P i.is (s.window, s.live)

  pub three : AreThree pages (used_by rules l pages reading) (expired_by rules l pages) unread
  three = record {
    all = λ page. (
      is_one page,
      (λ w. ⊎_elim
          (λ u. (from_filter (λ (p : ℕ). not (is_missing rules l reading p)) pages page u).0)
          (λ v. ⊎_elim (λ e. (from_filter (was_expired rules l) pages page e).0) (λ n. (unread_shelved page n).0) v)
          w),
    );
    live = λ page u e. false≢true (sym (not_missing page u).0 ∙ (from_filter (was_expired rules l) pages page e).1);
    read = λ page u n. false≢true (sym (not_missing page u).1 ∙ listed_is page n);
    kept = λ page e n. false≢true (sym (unread_shelved page n).1 ∙ (from_filter (was_expired rules l) pages page e).1);
  }

pub pages_are_three : PagesAreThree
pages_are_three routers rules history query read r lt =
    three (rules r) (ledger rules r history) (query_window rules history query r) (query.reads r) (read r lt)
