-- The last item of a list, changed.
use Rattle.std.proofs.Common.{◌≡◌, List, [], ◌∷◌, ◌++◌, refl, ap, sym, ◌∙◌}
use Rattle.evidence_text.specs.Language.{with_last}

put_last : {X : Type 0} (f : X → X) (x y : X) (ys : List X) (z : X) → with_last f (y ∷ (ys ++ z ∷ [])) ≡ y ∷ with_last f (ys ++ z ∷ [])
put_last f x y [] z = refl
put_last f x y (v ∷ vs) z = refl

pub with_last_at : {X : Type 0} (f : X → X) (xs : List X) (x : X) → with_last f (xs ++ x ∷ []) ≡ xs ++ f x ∷ []
with_last_at f [] x = refl
with_last_at f (y ∷ ys) x = put_last f x y ys x ∙ ap (λ z. y ∷ z) (with_last_at f ys x)

-- an item was taken off, changed, and put back
pub put_back : {X : Type 0} (f : X → X) (old left new : List X) (x y : X) → old ≡ left ++ x ∷ [] → y ≡ f x → new ≡ left ++ y ∷ [] → new ≡ with_last f old
put_back f old left new x y o is n = n ∙ ap (λ z. left ++ z ∷ []) is ∙ sym (ap (with_last f) o ∙ with_last_at f left x)
