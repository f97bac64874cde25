-- The last entry of a list.
use Rattle.std.specs.Prelude.{◌≡◌, List, [], ◌∷◌, ◌++◌, Option, Some, None, refl}
use Rattle.spie_base.specs.declared.types.Entry.{Entry}

abbrev pub last_from : Entry → List Entry → Entry
last_from e [] = e
last_from e (f ∷ fs) = last_from f fs

abbrev pub last_of : List Entry → Option Entry
last_of [] = None
last_of (e ∷ es) = Some (last_from e es)

pub last_from-snoc : (e f : Entry) (es : List Entry) → last_from e (es ++ f ∷ []) ≡ f
last_from-snoc e f [] = refl
last_from-snoc e f (g ∷ gs) = last_from-snoc g f gs

pub last_of-snoc : (es : List Entry) (f : Entry) → last_of (es ++ f ∷ []) ≡ Some f
last_of-snoc [] f = refl
last_of-snoc (e ∷ es) f = λ k. Some (last_from-snoc e f es k)
