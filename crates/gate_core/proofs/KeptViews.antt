-- The views that are made from what the machine keeps.
use Rattle.std.proofs.Common.{◌≡◌, ℕ, suc, zero, ◌+◌, ◌≤◌, ◌≢◌, Bool, true, false, cond, eqb, List, [], ◌∷◌, ◌++◌, length, set, sym, refl, ap, ◌∙◌, subst, arith}
use mathlib.Core.Option.{some, some-injective, some-ne-none}
use lib.ListN.{get_elem?}
use Rattle.gate_core.specs.declared.states.PassState.{PassState}
use Rattle.gate_core.specs.declared.core_data.Seat.{Seat}
use Rattle.gate_core.specs.Views.{View}
use Rattle.gate_core.specs.Core.{items_at}
use Rattle.gate_core.specs.Kept.{Notes, view_of, views_from}
use Rattle.gate_core.proofs.Gates.{tested}

pub length-views_from : (notes : Notes) (place : ℕ) (xs : List Seat) → length (views_from notes place xs) ≡ length xs
length-views_from notes place [] = refl
length-views_from notes place (x ∷ xs) = ap suc (length-views_from notes (place + 1) xs)

pub view_there : (notes : Notes) (place i : ℕ) (xs : List Seat) (x : Seat) → get_elem? xs i ≡ some x → get_elem? (views_from notes place xs) i ≡ some (view_of notes (place + i) x.state)
view_there notes place i [] x at = absurd (some-ne-none x (sym at))
view_there notes place zero (y ∷ ys) x at =
    subst (λ (k : ℕ). some (view_of notes place y.state) ≡ some (view_of notes k x.state)) (let e : place ≡ place + 0 = omega arith in e)
    (ap (λ (z : Seat). some (view_of notes place z.state)) (some-injective y x at))
view_there notes place (suc i) (y ∷ ys) x at =
    subst (λ (k : ℕ). get_elem? (views_from notes (place + 1) ys) i ≡ some (view_of notes k x.state)) (let e : place + 1 + i ≡ place + suc i = omega arith in e)
    (view_there notes (place + 1) i ys x at)

-- notes that give the same views
pub views-same : (n n' : Notes) (place : ℕ) (xs : List Seat) → ((j : ℕ) (st : PassState) → place ≤ j → view_of n' j st ≡ view_of n j st) → views_from n' place xs ≡ views_from n place xs
views-same n n' place [] same = refl
views-same n n' place (x ∷ xs) same =
    ap (λ (v : View). v ∷ views_from n' (place + 1) xs) (same place x.state (omega arith))
    ∙ ap (λ (vs : List View). view_of n place x.state ∷ vs) (views-same n n' (place + 1) xs (λ j st h. same j st (omega arith)))

-- one seat changes, and the notes for the others stay
pub views-turn : (n n' : Notes) (place i : ℕ) (xs : List Seat) (y : Seat) → ((j : ℕ) (st : PassState) → j ≢ place + i → view_of n' j st ≡ view_of n j st)
    → views_from n' place (set xs i y) ≡ set (views_from n place xs) i (view_of n' (place + i) y.state)
views-turn n n' place i [] y same = refl
views-turn n n' place zero (x ∷ xs) y same =
    let e : place ≡ place + 0 = omega arith in
    ap (λ (vs : List View). view_of n' place y.state ∷ vs) (views-same n n' (place + 1) xs (λ j st h. same j st (λ k. omega arith)))
    ∙ ap (λ (k : ℕ). view_of n' k y.state ∷ views_from n (place + 1) xs) e
views-turn n n' place (suc i) (x ∷ xs) y same =
    let e : place + 1 + i ≡ place + suc i = omega arith in
    ap (λ (v : View). v ∷ views_from n' (place + 1) (set xs i y)) (same place x.state (λ h. omega arith))
    ∙ ap (λ (vs : List View). view_of n place x.state ∷ vs)
    (views-turn n n' (place + 1) i xs y (λ j st h. same j st (λ k. h (k ∙ sym e)))
    ∙ ap (λ (k : ℕ). set (views_from n (place + 1) xs) i (view_of n' k y.state)) e)

both : {T : Type 0} → (b : Bool) (y : T) (long short last : List T) → long ≡ short ++ last → cond b (y ∷ long) long ≡ cond b (y ∷ short) short ++ last
both true y long short last e = ap (λ xs. y ∷ xs) e
both false y long short last e = e

-- one item more, of the actor at q
pub items_at-push : {T : Type 0} → (place q : ℕ) (ps : List ℕ) (xs : List T) (x : T) → length ps ≡ length xs
    → items_at place (ps ++ q ∷ []) (xs ++ x ∷ []) ≡ items_at place ps xs ++ cond (eqb q place) (x ∷ []) []
items_at-push place q [] [] x e = tested (λ z. z ≡ z) q place (x ∷ []) [] (λ _. refl) (λ _. refl)
items_at-push place q [] (y ∷ ys) x e = absurd (omega arith)
items_at-push place q (p ∷ ps) [] x e = absurd (omega arith)
items_at-push place q (p ∷ ps) (y ∷ ys) x e =
    let rest = items_at-push place q ps ys x (omega arith) in
    let last = cond (eqb q place) (x ∷ []) [] in
    both (eqb p place) y (items_at place (ps ++ q ∷ []) (ys ++ x ∷ [])) (items_at place ps ys) last rest
