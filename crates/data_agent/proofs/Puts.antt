-- What puts do to a shelf, one after the other.
use Rattle.std.proofs.Common.{ℕ, ◌≡◌, ◌≤◌, ◌+◌, ◌-◌, ◌^◌, List, true, false, not, min, is_some, Option, Some, None, sym, ap, arith}
use Rattle.std.proofs.lemmas.Bool.{false≢true}
use Rattle.spie_base.specs.Causes.{RoseBy}
use Rattle.page_shelf.specs.Shelves.{IsSame}
use Rattle.page_shelf.specs.declared.ShelfName.{ShelfName}
use Rattle.page_shelf.specs.declared.ShelfPart.{ShelfPart}
use Rattle.router_account.specs.Records.{name_of}
use Rattle.router_account.specs.Shelves.{ShelfView}
use Rattle.shelved_page.specs.Shelving.{IsPut, count_if}

pub rose_then : (a b x y z : ℕ) → RoseBy a x y → RoseBy b y z → RoseBy (a + b) x z
rose_then a b x y z p q = let first : min (x + a) (2 ^ 64 - 1) ≤ y = p in let second : min (y + b) (2 ^ 64 - 1) ≤ z = q in omega arith

pub rose_less : (a b x y : ℕ) → b ≤ a → RoseBy a x y → RoseBy b x y
rose_less a b x y le p = let first : min (x + a) (2 ^ 64 - 1) ≤ y = p in omega arith

pub rose_none : (x y : ℕ) → x ≤ y → RoseBy 0 x y
rose_none x y le = omega arith

pub later_by : (a x y : ℕ) → x ≤ 2 ^ 64 - 1 → RoseBy a x y → x ≤ y
later_by a x y within p = let first : min (x + a) (2 ^ 64 - 1) ≤ y = p in omega arith

pub put_still : (name : ShelfName) (text : List ℕ) (y z : ShelfView) (digest : Option (List ℕ)) → IsPut name text y z digest → z.tells ≡ y.tells
put_still name text y z (Some d) h = h.1
put_still name text y z None h = h.0

pub put_rose : (name : ShelfName) (text : List ℕ) (y z : ShelfView) (digest : Option (List ℕ)) → IsPut name text y z digest → RoseBy (count_if (not (is_some digest))) y.faults z.faults
put_rose name text y z (Some d) h = let same : z.faults ≡ y.faults = h.2 in rose_none y.faults z.faults (omega arith)
put_rose name text y z None h = h.1

pub put_here : (name : ShelfName) (text : List ℕ) (y z : ShelfView) (digest : Option (List ℕ)) → IsPut name text y z digest → y.tells ≡ true → is_some digest ≡ true → z.contents name ≡ Some text
put_here name text y z (Some d) h t is = (h.3 t).here
put_here name text y z None h t is = absurd (false≢true is)

pub put_others : (name : ShelfName) (text : List ℕ) (y z : ShelfView) (digest : Option (List ℕ)) → IsPut name text y z digest → y.tells ≡ true → (other : ShelfName) → (other ≡ name → ⊥) → z.contents other ≡ y.contents other
put_others name text y z (Some d) h t other apart = (h.3 t).others other apart
put_others name text y z None h t other apart = h.2 t other

pub put_same : (name : ShelfName) (text : List ℕ) (y z : ShelfView) (digest : Option (List ℕ)) → IsPut name text y z digest → y.tells ≡ true → is_some digest ≡ false → IsSame y.contents z.contents
put_same name text y z (Some d) h t is = absurd (false≢true (sym is))
put_same name text y z None h t is = h.2 t

-- ---- names

pub same_page : (r s p q : ℕ) (part other : ShelfPart) → name_of r p part ≡ name_of s q other → p ≡ q
same_page r s p q part other e = ap (λ n. n.page.number) e

pub same_router : (r s p q : ℕ) (part other : ShelfPart) → name_of r p part ≡ name_of s q other → r ≡ s
same_router r s p q part other e = ap (λ n. n.router.number) e

pub same_part : (r s p q : ℕ) (part other : ShelfPart) → name_of r p part ≡ name_of s q other → part ≡ other
same_part r s p q part other e = ap (λ n. n.part) e
