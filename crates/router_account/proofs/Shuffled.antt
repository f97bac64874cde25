-- What a page holds depends on which entries there are, and not on their order: several workers' entries are gathered in
-- another order than the lines'.
use Rattle.std.proofs.Common.{ℕ, ◌≡◌, ◌∷◌, [], ◌^◌, ◌∙◌, ⊎_elim, ◌↔◌, Bool, true, false, ◌&&◌, ◌==◌, List, sym, ap, refl, inl, inr}
use Rattle.std.specs.List.{Contains, list_any, range_with_len}
use Rattle.std.proofs.lemmas.Bool.{false≢true}
use Rattle.std.proofs.lemmas.List.Elements.{filter_agree}
use Rattle.spie_base.proofs.Booleans.{one_holds, one_held}
use Rattle.spie_base.proofs.Membership.{has_none, has_first, has_later, has_cases}
use Rattle.spie_base.specs.Shapes.{shape_of}
use Rattle.spie_base.specs.declared.Entry.{Entry}
use Rattle.spie_base.specs.declared.Rules.{Rules}
use Rattle.hash_family.specs.Entries.{is_marked}
use Rattle.bloom_page.specs.Sets.{is_in, set_of}
use Rattle.router_account.specs.Account.{Account, marks, bits}

-- accounts of one router with the same rows and closings, and the same entries in some order
pub record IsShuffled (a b : Account) : Type 0 where
  pub router : a.router ≡ b.router
  pub rows : a.rows ≡ b.rows
  pub closings : a.closings ≡ b.closings
  pub entries : (e : Entry) → Contains a.entries e ↔ Contains b.entries e

same_bool : (a b : Bool) → (a ≡ true → b ≡ true) → (b ≡ true → a ≡ true) → a ≡ b
same_bool true b f g = sym (f refl)
same_bool false true f g = g refl
same_bool false false f g = refl

any_has : {X : Type 0} (p : X → Bool) (xs : List X) → list_any p xs ≡ true → (y : X) × Contains xs y × (p y ≡ true)
any_has p [] h = absurd (false≢true h)
any_has p (x ∷ xs) h = ⊎_elim (λ first. (x, has_first x xs, first)) (λ more. let m = any_has p xs more in (m.0, has_later x xs m.0 m.1, m.2)) (one_held (p x) (list_any p xs) h)

has_any : {X : Type 0} (p : X → Bool) (xs : List X) (y : X) → Contains xs y → p y ≡ true → list_any p xs ≡ true
has_any p [] y h e = absurd (has_none y h)
has_any p (x ∷ xs) y h e = ⊎_elim (λ same. one_holds (p x) (list_any p xs) (inl (ap p same ∙ e))) (λ more. one_holds (p x) (list_any p xs) (inr (has_any p xs y more e))) (has_cases x xs y h)

any_same : {X : Type 0} (p : X → Bool) (xs ys : List X) → ((y : X) → Contains xs y ↔ Contains ys y) → list_any p xs ≡ list_any p ys
any_same p xs ys same = same_bool (list_any p xs) (list_any p ys)
    (λ h. let m = any_has p xs h in has_any p ys m.0 ((same m.0).0 m.1) m.2)
    (λ h. let m = any_has p ys h in has_any p xs m.0 ((same m.0).1 m.1) m.2)

pub bits_shuffled : (rules : Rules) (a b : Account) (page : ℕ) → IsShuffled a b → bits rules a page ≡ bits rules b page
unfolding set_of
bits_shuffled rules a b page s =
    filter_agree (is_marked (shape_of rules a.router) a.entries page) (is_marked (shape_of rules b.router) b.entries page)
    (λ q. ap (λ (r : ℕ). is_marked (shape_of rules r) a.entries page q) s.router
    ∙ any_same (λ (entry : Entry). (entry.page.number == page) && is_in (marks rules b.router page entry.sig) q) a.entries b.entries s.entries)
    (range_with_len 0 (2 ^ rules.n))
