-- Lists of items, read and read again.
use Rattle.std.proofs.Common.{◌≡◌, ℕ, zero, suc, Bool, true, cond, List, [], ◌∷◌, ◌++◌, length, All, Option, None, Some, Result, Ok, Err, refl, sym, ap, subst, ◌∙◌, append_assoc}
use Rattle.std.specs.Cmp.{IsTotalOrder}
use Rattle.std.specs.Int.{w64, to_be_bytes}
use Rattle.std.specs.List.{flat_map, AllByRecursion}
use Rattle.std.specs.List.Sorted.{IsStrictlySortedBy}
use Rattle.std.specs.Ordering.{is_lt}
use Rattle.std.specs.declared.cmp.Ordering.{Ordering}
use Rattle.std.specs.declared.cmp.Ordering.TheVariants.{Less, Equal, Greater}
use Rattle.std.proofs.lemmas.List.Elements.{All-nil, All-cons, All-head, All-tail}
use Rattle.std.proofs.lemmas.List.Concat.{flat_map-cons}
use Rattle.wire_message.specs.Spelling.{spelled_list, AreBytes, IsPlainList}
use Rattle.wire_message.specs.Reading.{◌>>=◌, Form, eight_form, field_in, is_above, next_in, items_in, list_in}
use Rattle.wire_message.proofs.FieldFacts.{bind_ok, guard_ok, ok_is, Takes, Takes-then, IsForm, TakesField, field_takes, field_again, IsEight, eight_is}

-- ---- an item and the one before it

-- all items are above the one before them, where there is one
abbrev pub AreAbove : {X : Type 0} → (X → X → Ordering) → Option X → List X → Type 0
AreAbove cmp None xs = Unit {0}
AreAbove cmp (Some before) xs = AllByRecursion (λ x. cmp before x ≡ Less) xs

is_less : (o : Ordering) → is_lt o ≡ true → o ≡ Less
is_less Less e = refl
is_less Equal e = absurd cc
is_less Greater e = absurd cc

raised : {X : Type 0} (cmp : X → X → Ordering) → IsTotalOrder cmp → (before x : X) (xs : List X) → cmp before x ≡ Less → AllByRecursion (λ y. cmp x y ≡ Less) xs → AllByRecursion (λ y. cmp before y ≡ Less) xs
raised cmp total before x [] below all = tt
raised cmp total before x (y ∷ xs) below all = (total.trans before x y below all.0, raised cmp total before x xs below all.1)

no_items : {X : Type 0} (cmp : X → X → Ordering) (before : Option X) → AreAbove cmp before []
no_items cmp None = tt
no_items cmp (Some before) = tt

one_more : {X : Type 0} (cmp : X → X → Ordering) → IsTotalOrder cmp → (before : Option X) (x : X) (xs : List X) → is_above cmp before x ≡ true → AllByRecursion (λ y. cmp x y ≡ Less) xs → AreAbove cmp before (x ∷ xs)
one_more cmp total None x xs above all = tt
one_more cmp total (Some before) x xs above all = let below = is_less (cmp before x) above in (below, raised cmp total before x xs below all)

first_above : {X : Type 0} (cmp : X → X → Ordering) (before : Option X) (x : X) (xs : List X) → AreAbove cmp before (x ∷ xs) → is_above cmp before x ≡ true
first_above cmp None x xs above = refl
first_above cmp (Some before) x xs above = ap is_lt above.0

-- ---- the next item

pub record TakesNext {X : Type 0} (form : Form X) (cmp : X → X → Ordering) (P : X → Type 0) (before : Option X) (bytes : List ℕ) (x : X × List ℕ) : Type 0 where
  pub field : TakesField form P bytes x
  pub above : is_above cmp before x.0 ≡ true

next_takes : {X : Type 0} (form : Form X) (cmp : X → X → Ordering) (P : X → Type 0) → IsForm form P → (before : Option X) (bytes : List ℕ) (x : X × List ℕ) → AreBytes bytes → next_in form cmp before bytes ≡ Ok x → TakesNext form cmp P before bytes x
next_takes {X} form cmp P is before bytes x fits e =
    let a = bind_ok (field_in form bytes) (λ item. cond (is_above cmp before item.0) (Ok item) (Err (length bytes))) x e in
    let g = guard_ok (is_above cmp before a.0.0) (length bytes) a.0 x a.2 in
    subst (λ (y : X × List ℕ). TakesNext form cmp P before bytes y) g.1 (record { field = field_takes form P is bytes a.0 fits a.1; above = g.0 })

next_again : {X : Type 0} (form : Form X) (cmp : X → X → Ordering) (P : X → Type 0) → IsForm form P → (before : Option X) (x : X) (rest : List ℕ) → P x → is_above cmp before x ≡ true → next_in form cmp before (form.spelled x ++ rest) ≡ Ok (x, rest)
next_again {X} form cmp P is before x rest plain above =
    ap (λ (r : Result (X × List ℕ) ℕ). r >>= λ item. cond (is_above cmp before item.0) (Ok item) (Err (length (form.spelled x ++ rest)))) (field_again form P is x rest plain)
    ∙ ap (λ (b : Bool). cond b (Ok (x, rest)) (Err (length (form.spelled x ++ rest)))) above

-- ---- items

pub record TakesItems {X : Type 0} (form : Form X) (cmp : X → X → Ordering) (P : X → Type 0) (count : ℕ) (before : Option X) (bytes : List ℕ) (x : List X × List ℕ) : Type 0 where
  pub takes : Takes bytes (flat_map form.spelled x.0) x.1
  pub size : length x.0 ≡ count
  pub plain : All P x.0
  pub above : AreAbove cmp before x.0
  pub ascends : IsStrictlySortedBy cmp x.0

abbrev pub items_made : {X : Type 0} (first : X) (others : List X × List ℕ) → List X × List ℕ
items_made first others = (first ∷ others.0, others.1)

pub items_take : {X : Type 0} (form : Form X) (cmp : X → X → Ordering) (P : X → Type 0) → IsForm form P → IsTotalOrder cmp → (count : ℕ) (before : Option X) (bytes : List ℕ) (x : List X × List ℕ) → AreBytes bytes
    → items_in form cmp count before bytes ≡ Ok x → TakesItems form cmp P count before bytes x
unfolding items_in IsStrictlySortedBy
items_take {X} form cmp P is total zero before bytes x fits e =
    subst (λ (y : List X × List ℕ). TakesItems form cmp P 0 before bytes y) (ok_is ([], bytes) x e)
    (record { takes = record { parts = refl; rest_fits = fits }; size = refl; plain = All-nil P; above = no_items cmp before; ascends = tt })
items_take {X} form cmp P is total (suc count) before bytes x fits e =
    let a = bind_ok (next_in form cmp before bytes) (λ first. items_in form cmp count (Some first.0) first.1 >>= λ others. Ok (items_made first.0 others)) x e in
    let b = bind_ok (items_in form cmp count (Some a.0.0) a.0.1) (λ others. Ok (items_made a.0.0 others)) x a.2 in
    let first = next_takes form cmp P is before bytes a.0 fits a.1 in
    let others = items_take form cmp P is total count (Some a.0.0) a.0.1 b.0 first.field.takes.rest_fits b.1 in
    let both = Takes-then bytes (form.spelled a.0.0) a.0.1 (flat_map form.spelled b.0.0) b.0.1 first.field.takes others.takes in
    let whole : Takes bytes (flat_map form.spelled (a.0.0 ∷ b.0.0)) b.0.1 = subst (λ (t : List ℕ). Takes bytes t b.0.1) (sym (flat_map-cons form.spelled a.0.0 b.0.0)) both in
    subst (λ (y : List X × List ℕ). TakesItems form cmp P (suc count) before bytes y) (ok_is (items_made a.0.0 b.0) x b.2)
    (record { takes = whole; size = ap suc others.size; plain = All-cons P a.0.0 b.0.0 first.field.plain others.plain; above = one_more cmp total before a.0.0 b.0.0 first.above others.above; ascends = (others.above, others.ascends) })

pub items_again : {X : Type 0} (form : Form X) (cmp : X → X → Ordering) (P : X → Type 0) → IsForm form P → (items : List X) (before : Option X) (rest : List ℕ) → All P items → AreAbove cmp before items → IsStrictlySortedBy cmp items
    → items_in form cmp (length items) before (flat_map form.spelled items ++ rest) ≡ Ok (items, rest)
unfolding items_in IsStrictlySortedBy
items_again form cmp P is [] before rest plain above ascends = refl
items_again {X} form cmp P is (item ∷ items) before rest plain above ascends =
    let others = flat_map form.spelled items ++ rest in
    let regrouped : flat_map form.spelled (item ∷ items) ++ rest ≡ form.spelled item ++ others = ap (λ (t : List ℕ). t ++ rest) (flat_map-cons form.spelled item items) ∙ append_assoc (form.spelled item) (flat_map form.spelled items) rest in
    ap (items_in form cmp (suc (length items)) before) regrouped
    ∙ ap (λ (r : Result (X × List ℕ) ℕ). r >>= λ first. items_in form cmp (length items) (Some first.0) first.1 >>= λ others. Ok (items_made first.0 others)) (next_again form cmp P is before item others (All-head P item items plain) (first_above cmp before item items above))
    ∙ ap (λ (r : Result (List X × List ℕ) ℕ). r >>= λ others. Ok (items_made item others)) (items_again form cmp P is items (Some item) rest (All-tail P item items plain) ascends.0 ascends.1)

-- ---- lists

pub record TakesList {X : Type 0} (form : Form X) (cmp : X → X → Ordering) (P : X → Type 0) (bytes : List ℕ) (x : List X × List ℕ) : Type 0 where
  pub takes : Takes bytes (spelled_list form.spelled x.0) x.1
  pub plain : IsPlainList P x.0
  pub ascends : IsStrictlySortedBy cmp x.0

pub list_takes : {X : Type 0} (form : Form X) (cmp : X → X → Ordering) (P : X → Type 0) → IsForm form P → IsTotalOrder cmp → (bytes : List ℕ) (x : List X × List ℕ) → AreBytes bytes → list_in form cmp bytes ≡ Ok x → TakesList form cmp P bytes x
unfolding list_in
list_takes form cmp P is total bytes x fits e =
    let a = bind_ok (field_in eight_form bytes) (λ count. items_in form cmp count.0 None count.1) x e in
    let count = field_takes eight_form IsEight eight_is bytes a.0 fits a.1 in
    let items = items_take form cmp P is total a.0.0 None a.0.1 x count.takes.rest_fits a.2 in
    let counted : Takes bytes (to_be_bytes w64 (length x.0)) a.0.1 = subst (λ (n : ℕ). Takes bytes (to_be_bytes w64 n) a.0.1) (sym items.size) count.takes in
    record {
      takes = Takes-then bytes (to_be_bytes w64 (length x.0)) a.0.1 (flat_map form.spelled x.0) x.1 counted items.takes;
      plain = record { size = subst IsEight (sym items.size) count.plain; items = items.plain };
      ascends = items.ascends;
    }

pub list_again : {X : Type 0} (form : Form X) (cmp : X → X → Ordering) (P : X → Type 0) → IsForm form P → (items : List X) (rest : List ℕ) → IsPlainList P items → IsStrictlySortedBy cmp items
    → list_in form cmp (spelled_list form.spelled items ++ rest) ≡ Ok (items, rest)
unfolding list_in
list_again form cmp P is items rest plain ascends =
    let others = flat_map form.spelled items ++ rest in
    ap (λ (t : List ℕ). field_in eight_form t >>= λ count. items_in form cmp count.0 None count.1) (append_assoc (to_be_bytes w64 (length items)) (flat_map form.spelled items) rest)
    ∙ ap (λ (r : Result (ℕ × List ℕ) ℕ). r >>= λ count. items_in form cmp count.0 None count.1) (field_again eight_form IsEight eight_is (length items) others plain.size)
    ∙ items_again form cmp P is items None rest plain.items tt ascends
