-- Requests of which one gets its part, with further ones behind them.
use Rattle.std.proofs.Common.{◌≡◌, ◌∙◌, ◌<◌, ℕ, false, refl, zero, suc, ◌⊎◌, inl, inr, ⊎_elim, sym, subst, ap, List, [], ◌∷◌, ◌++◌, None, Some, length, set, slice_get, get_or, length-append, ◌+◌, arith}
use Rattle.std.specs.List.{Contains}
use Rattle.std.specs.BTreeSet.{BTreeSet}
use Rattle.std.specs.List.Sorted.{IsStrictlySortedBy}
use Rattle.std.proofs.lemmas.List.{set-append_left}
use Rattle.std.proofs.lemmas.List.Sums.{fails_before_first}
use Rattle.std.proofs.lemmas.Bool.{false≢true}
use Rattle.std.proofs.lemmas.Option.{none-some}
use Rattle.std.proofs.lemmas.List.Elements.{Contains-append_cases}
use Rattle.std.proofs.lemmas.List.Kept.{IsStrictlySortedBy-filter}
use Rattle.spie_base.proofs.Membership.{has_none, has_first, has_later, has_cases}
use Rattle.topology.specs.Layout.{Layout, IsSound}
use Rattle.reverse_flood.specs.declared.graphs.Node.{Node}
use Rattle.reverse_flood.specs.declared.graphs.Part.{Part}
use Rattle.reverse_flood.specs.Flood.{IsListOf, node_cmp, in_region}
use Rattle.agent_wire.specs.declared.requests.Asked.{Asked}
use Rattle.agent_wire.specs.Requests.{IsEntry}
use Rattle.agent_wire.specs.Accepting.{open_request, IsNew, requests_for, with_part}
use Rattle.agent_wire.specs.Union.{first_open, is_open}
use Rattle.agent_wire.specs.Sets.{AreSettled, HasMore, HasSame, IsKept}
use Rattle.agent_wire.proofs.FollowFacts.{below_follows, entry_cases, entry_follows, entry_left, entry_right, follow_entry}

-- ---- a list with one element changed

pub set_has : {X : Type 0} (xs : List X) (i : ℕ) (a y : X) → Contains (set xs i a) y → (a ≡ y) ⊎ Contains xs y
set_has [] i a y h = absurd (has_none y h)
set_has (x ∷ xs) zero a y h = ⊎_elim inl (λ k. inr (has_later x xs y k)) (has_cases a xs y h)
set_has {X} (x ∷ xs) (suc i) a y h =
    ⊎_elim (λ e. let At : X → Type 0 = λ z. Contains (x ∷ xs) z in inr (subst At e (has_first x xs)))
    (λ k. ⊎_elim inl (λ m. inr (has_later x xs y m)) (set_has xs i a y k))
    (has_cases x (set xs i a) y h)

pub set_new : {X : Type 0} (xs : List X) (i : ℕ) (a of : X) → slice_get xs i ≡ Some of → Contains (set xs i a) a
set_new [] i a of e = let no : None ≡ Some of = e in let f : ⊥ = cc in absurd f
set_new (x ∷ xs) zero a of e = has_first a xs
set_new (x ∷ xs) (suc i) a of e = has_later x (set xs i a) a (set_new xs i a of e)

pub some_is : {X : Type 0} (x y : X) → Some x ≡ Some y → x ≡ y
some_is x y e = cc

pub set_kept : {X : Type 0} (xs : List X) (i : ℕ) (a of y : X) → slice_get xs i ≡ Some of → Contains xs y → (of ≡ y) ⊎ Contains (set xs i a) y
set_kept [] i a of y e h = absurd (has_none y h)
set_kept (x ∷ xs) zero a of y e h = ⊎_elim (λ s. inl (sym (some_is x of e) ∙ s)) (λ k. inr (has_later a xs y k)) (has_cases x xs y h)
set_kept {X} (x ∷ xs) (suc i) a of y e h =
    ⊎_elim (λ s. let At : X → Type 0 = λ z. Contains (x ∷ set xs i a) z in inr (subst At s (has_first x (set xs i a))))
    (λ k. ⊎_elim inl (λ m. inr (has_later x (set xs i a) y m)) (set_kept xs i a of y e k))
    (has_cases x xs y h)

pub stood_has : {X : Type 0} (xs : List X) (i : ℕ) (of : X) → slice_get xs i ≡ Some of → Contains xs of
stood_has [] i of e = let no : None ≡ Some of = e in let f : ⊥ = cc in absurd f
stood_has {X} (x ∷ xs) zero of e = let At : X → Type 0 = λ z. Contains (x ∷ xs) z in subst At (some_is x of e) (has_first x xs)
stood_has (x ∷ xs) (suc i) of e = has_later x xs of (stood_has xs i of e)

-- ---- entries

pub set_entry : (made : List Asked) (number : ℕ) (part : Part) (of : Asked) (n : Node) → slice_get made number ≡ Some of → IsEntry made n → IsEntry (set made number (with_part of part)) n
set_entry made number part of n stood h =
    ⊎_elim
    (λ (e : of ≡ h.of).
    let At : Asked → Type 0 = λ a. Contains a.entries n in
    record { of = with_part of part; has = set_new made number (with_part of part) of stood; entry = subst At (sym e) h.entry })
    (λ k. record { of = h.of; has = k; entry = h.entry })
    (set_kept made number (with_part of part) of h.of stood h.has)

pub entry_set : (made : List Asked) (number : ℕ) (part : Part) (of : Asked) (n : Node) → slice_get made number ≡ Some of → IsEntry (set made number (with_part of part)) n → IsEntry made n
entry_set made number part of n stood h =
    ⊎_elim
    (λ (e : with_part of part ≡ h.of).
    let At : Asked → Type 0 = λ a. Contains a.entries n in
    record { of = of; has = stood_has made number of stood; entry = subst At (sym e) h.entry })
    (λ k. record { of = h.of; has = k; entry = h.entry })
    (set_has made number (with_part of part) h.of h.has)

-- ---- what a manager keeps

pub kept_same : (made after : List Asked) (known then : BTreeSet Node) → after ≡ made → HasSame known then → IsKept made known → IsKept after then
kept_same made after known then same sets kept = let At : List Asked → Type 0 = λ xs. IsKept xs then in
    subst At (sym same) (record {
      entries = λ n. ((λ h. (kept.entries n).0 ((sets n).0 h)), λ h. (sets n).1 ((kept.entries n).1 h));
      ascending = kept.ascending;
    })

pub kept_more : (layout : Layout) (made : List Asked) (known then : BTreeSet Node) (number : ℕ) (of : Asked) (part : Part) (pairs : List Node)
    → IsSound layout → slice_get made number ≡ Some of → IsListOf node_cmp (IsNew layout (λ n. Contains known.keys n) part) pairs → HasMore known then pairs → IsKept made known
    → IsKept (set made number (with_part of part) ++ requests_for layout pairs) then
kept_more layout made known then number of part pairs sound stood news more kept =
    let changed = set made number (with_part of part) in
    let others = requests_for layout pairs in
    record {
      entries = λ n. (
        (λ h. ⊎_elim
            (λ k. entry_left changed others n (set_entry made number part of n stood ((kept.entries n).0 k)))
            (λ k. entry_right changed others n (follow_entry layout pairs n sound k ((news.same n).0 k).exists))
            ((more n).0 h)),
        (λ h. (more n).1 (⊎_elim
            (λ k. inl ((kept.entries n).1 (entry_set made number part of n stood k)))
            (λ k. inr (entry_follows layout pairs n k))
            (entry_cases changed others n h))),
      );
      ascending = λ q h.
          let At : Asked → Type 0 = λ a. IsStrictlySortedBy node_cmp a.entries in
          ⊎_elim
          (λ k. ⊎_elim
          (λ (e : with_part of part ≡ q). subst At e (kept.ascending of (stood_has made number of stood)))
          (λ m. kept.ascending q m)
          (set_has made number (with_part of part) q k))
          (λ k.
          let f = below_follows layout pairs (length layout.region_names) q k in
          subst At (sym f.is) (IsStrictlySortedBy-filter node_cmp (λ n. in_region layout q.region n.router.number) pairs news.ascending))
          (Contains-append_cases changed others q h);
    }

-- what is new to a set is new to the requests whose entries it has
pub news_same : (layout : Layout) (made : List Asked) (known : BTreeSet Node) (part : Part) (pairs : List Node) → IsKept made known → IsListOf node_cmp (IsNew layout (λ n. Contains known.keys n) part) pairs → IsListOf node_cmp (IsNew layout (IsEntry made) part) pairs
news_same layout made known part pairs kept news = record {
  ascending = news.ascending;
  same = λ n. (
    (λ h. let w = (news.same n).0 h in record { exit = w.exit; has = w.has; up = w.up; exists = w.exists; unknown = λ k. w.unknown ((kept.entries n).1 k) }),
    (λ w. (news.same n).1 (record { exit = w.exit; has = w.has; up = w.up; exists = w.exists; unknown = λ k. w.unknown ((kept.entries n).0 k) })),
  );
}

-- ---- writing a part

pub stood_below : {X : Type 0} (xs : List X) (i : ℕ) (of : X) → slice_get xs i ≡ Some of → i < length xs
stood_below [] i of e = let no : None ≡ Some of = e in let f : ⊥ = cc in absurd f
stood_below (x ∷ xs) zero of e = omega arith
stood_below (x ∷ xs) (suc i) of e = let l = stood_below xs i of e in omega (arith, l)

got : {X : Type 0} (xs ys : List X) (i : ℕ) (of d : X) → slice_get xs i ≡ Some of → get_or (xs ++ ys) i d ≡ of
got [] ys i of d e = let no : None ≡ Some of = e in let f : ⊥ = cc in absurd f
got (x ∷ xs) ys zero of d e = some_is x of e
got (x ∷ xs) ys (suc i) of d e = got xs ys i of d e

pub written : (before more made : List Asked) (number : ℕ) (of at : Asked) (part : Part) → slice_get before number ≡ Some of → made ≡ before ++ more → at ≡ get_or made number at → set made number (with_part at part) ≡ set before number (with_part of part) ++ more
written before more made number of at part stood is there =
    let same : at ≡ of = there ∙ ap (λ xs. get_or xs number at) is ∙ got before more number of at stood in
    ap (λ xs. set xs number (with_part at part)) is
    ∙ ap (λ a. set (before ++ more) number (with_part a part)) same
    ∙ set-append_left before more number (with_part of part) (stood_below before number of stood)

pub below_more : (before more made : List Asked) (number : ℕ) (of : Asked) → slice_get before number ≡ Some of → made ≡ before ++ more → number < length made
below_more before more made number of stood is =
    let l = stood_below before number of stood in
    let long : length made ≡ length before + length more = ap (λ (xs : List Asked). length xs) is ∙ length-append before more in
    omega (arith, l, long)

-- ---- requests that have their parts

left_settled : (xs more : List Asked) (k : ℕ) → ((d : Asked) → is_open (get_or xs k d) ≡ false) → (d : Asked) → is_open (get_or (xs ++ more) k d) ≡ false
left_settled [] more k e d = absurd (false≢true (sym (e (open_request 0 []))))
left_settled (x ∷ xs) more zero e d = e d
left_settled (x ∷ xs) more (suc k) e d = left_settled xs more k e d

set_settled : (before more : List Asked) (number : ℕ) (of : Asked) (part : Part) (k : ℕ) → slice_get before number ≡ Some of → ((d : Asked) → is_open (get_or before k d) ≡ false) → (d : Asked) → is_open (get_or (set before number (with_part of part) ++ more) k d) ≡ false
set_settled [] more number of part k stood e d = absurd (none-some of stood)
set_settled (x ∷ xs) more zero of part zero stood e d = refl
set_settled (x ∷ xs) more zero of part (suc k) stood e d = left_settled xs more k e d
set_settled (x ∷ xs) more (suc number) of part zero stood e d = e d
set_settled (x ∷ xs) more (suc number) of part (suc k) stood e d = set_settled xs more number of part k stood e d

pub settled_more : (before more made : List Asked) (number : ℕ) (of : Asked) (part : Part) (pending : ℕ) → slice_get before number ≡ Some of → made ≡ set before number (with_part of part) ++ more → pending ≡ first_open before → AreSettled made pending
settled_more before more made number of part pending stood is same k d l =
    let At : List Asked → Type 0 = λ xs. is_open (get_or xs k d) ≡ false in
    let below : k < first_open before = subst (λ m. k < m) same l in
    subst At (sym is) (set_settled before more number of part k stood (λ e. fails_before_first is_open before k e below) d)
