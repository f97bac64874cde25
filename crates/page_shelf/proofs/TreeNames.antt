-- Names that compare alike are one, and what a change of a tree does to what stands under its names.
use Rattle.std.proofs.Common.{subst, arith, ◌+◌, length, take, ℕ, ◌≡◌, ◌∙◌, ap, sym, refl, false, List}
use Rattle.std.specs.Prelude.{Option, option_map, Vec, min}
use Rattle.std.specs.BTreeMap.{BTreeMap, get_by, UpdatesBy, is_at}
use Rattle.std.specs.Cmp.{Equal-is}
use Rattle.std.specs.Ordering.{ordering_then}
use Rattle.std.specs.declared.alloc.Global.{Global}
use Rattle.std.specs.declared.cmp.Ordering.{Ordering}
use Rattle.std.specs.declared.cmp.Ordering.TheVariants.{Less, Equal, Greater}
use Rattle.std.proofs.lemmas.Bool.{false_from_ne_true}
use Rattle.std.proofs.lemmas.List.{take_min}
use Rattle.std.proofs.lemmas.Map.Lookups.{exact_unsigned}
use Rattle.page_shelf.specs.Memory.{part_place, Key, key_of, key_cmp, contents_of}
use Rattle.page_shelf.specs.Shelves.{IsSet}
use Rattle.page_shelf.specs.declared.names.ShelfName.{ShelfName}
use Rattle.page_shelf.specs.declared.names.ShelfPart.{ShelfPart}
use Rattle.page_shelf.specs.declared.names.ShelfPart.TheVariants.{Bits, Rows}

both_equal : (a b : Ordering) → ordering_then a b ≡ Equal → (a ≡ Equal) × (b ≡ Equal)
both_equal Less b e = absurd cc
both_equal Equal b e = (refl, e)
both_equal Greater b e = absurd cc

same_part : (a b : ShelfPart) → part_place a ≡ part_place b → a ≡ b
same_part Bits Bits e = refl
same_part Bits Rows e = absurd (omega (arith, e))
same_part Rows Bits e = absurd (omega (arith, e))
same_part Rows Rows e = refl

same_name : (a b : ShelfName) → key_cmp (key_of a) (key_of b) ≡ Equal → a ≡ b
same_name a b e =
    let last = both_equal _ _ e in
    let first = both_equal _ _ last.0 in
    let N : ℕ → ℕ → ShelfPart → ShelfName = λ r p part. record { router = record { number = r }; page = record { number = p }; part = part } in
    ap (λ r. N r a.page.number a.part) (exact_unsigned a.router.number b.router.number first.0)
    ∙ ap (λ p. N b.router.number p a.part) (exact_unsigned a.page.number b.page.number first.1)
    ∙ ap (λ part. N b.router.number b.page.number part) (same_part a.part b.part (exact_unsigned (part_place a.part) (part_place b.part) last.1))

other_name : (a b : ShelfName) → (b ≡ a → ⊥) → is_at (key_cmp (key_of a)) (key_of b) ≡ false
other_name a b apart = false_from_ne_true _ (λ e. apart (sym (same_name a b ((Equal-is (key_cmp (key_of a) (key_of b))).0 e))))

abbrev pub bytes_of : Option (Vec ℕ Global) → Option (List ℕ)
bytes_of found = option_map (λ (bytes : Vec ℕ Global). bytes.items) found

-- one name has other bytes or none, and the others stand as before
set_at : (name : ShelfName) (before after : BTreeMap Key (Vec ℕ Global)) (w : Option (Vec ℕ Global)) → UpdatesBy key_cmp (key_cmp (key_of name)) before after w → IsSet name (bytes_of w) (contents_of before) (contents_of after)
set_at name before after w u = record {
  here = ap bytes_of u.1;
  others = λ other apart. ap bytes_of (u.2 (key_of other) (other_name name other apart));
}

pub is_set : (name : ShelfName) (key : Key) (before after : BTreeMap Key (Vec ℕ Global)) (w : Option (Vec ℕ Global)) → key ≡ key_of name → UpdatesBy key_cmp (key_cmp key) before after w → IsSet name (bytes_of w) (contents_of before) (contents_of after)
is_set name key before after w e u = set_at name before after w (let P : Key → Type 0 = λ k. UpdatesBy key_cmp (key_cmp k) before after w in subst P e u)

-- what a look-up finds
pub is_found : (name : ShelfName) (key : Key) (tree : BTreeMap Key (Vec ℕ Global)) (found : Option (Vec ℕ Global)) → key ≡ key_of name → found ≡ get_by (key_cmp key) tree → contents_of tree name ≡ bytes_of found
is_found name key tree found e is = sym (ap bytes_of (is ∙ ap (λ (k : Key). get_by (key_cmp k) tree) e))

-- as much as was asked for and one byte more, or all where there are fewer
pub front_is : (bytes front : List ℕ) (most count : ℕ) → count ≡ min (length bytes) (most + 1) → front ≡ take count bytes → front ≡ take (most + 1) bytes
front_is bytes front most count is e = e ∙ ap (λ n. take n bytes) (is ∙ sides) ∙ take_min (most + 1) bytes
  where
    sides : min (length bytes) (most + 1) ≡ min (most + 1) (length bytes)
    sides = omega arith
