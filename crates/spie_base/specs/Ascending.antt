-- A list in ascending order, each item once. There is one such list of given items: `in_order` is it.
use Rattle.std.specs.Prelude.{List, [], ◌∷◌}
use Rattle.std.specs.declared.cmp.Ordering.{Ordering}
use Rattle.std.specs.declared.cmp.Ordering.TheVariants.{Less, Equal, Greater}

-- an item put in its place among others that ascend, by how it compares with the first of them
abbrev pub put_at : {T : Type 0} → Ordering → T → T → (others with_it : List T) → List T
put_at Less item other others with_it = item ∷ other ∷ others
put_at Equal item other others with_it = other ∷ others
put_at Greater item other others with_it = other ∷ with_it

abbrev pub put_in : {T : Type 0} → (T → T → Ordering) → T → List T → List T
put_in cmp item [] = item ∷ []
put_in cmp item (other ∷ others) = put_at (cmp item other) item other others (put_in cmp item others)

-- the items in ascending order, each once
abbrev pub in_order : {T : Type 0} → (T → T → Ordering) → List T → List T
in_order cmp [] = []
in_order cmp (item ∷ items) = put_in cmp item (in_order cmp items)
