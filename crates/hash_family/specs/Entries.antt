-- The marks of signatures that were recorded in pages.
use Rattle.std.specs.Prelude.{ℕ, ◌≡◌, ◌<◌, ◌==◌, ◌&&◌, Bool, List}
use Rattle.std.specs.List.{list_any}
use mathlib.Core.Option.{some}
use lib.ListN.{get_elem?}
use Rattle.spie_base.specs.declared.types.Entry.{Entry}
use Rattle.spie_base.specs.declared.types.PageShape.{PageShape}
use Rattle.spie_base.specs.declared.types.Sig.{Sig}
use Rattle.hash_family.specs.Positions.{position, marks_of}

-- p is one of the first m marks of a signature
abbrev pub IsAmong : PageShape → (page : ℕ) → Sig → (m p : ℕ) → Type 0
IsAmong shape page sig m p = (i : ℕ) × (i < m) × (position shape page sig i ≡ p)

-- p is a mark of an entry of the page
abbrev pub IsMarked : PageShape → List Entry → (page p : ℕ) → Type 0
IsMarked shape entries page p =
    (i : ℕ) × (entry : Entry) × (get_elem? entries i ≡ some entry) × (entry.page.number ≡ page) × IsAmong shape page entry.sig shape.k p

-- the test of it: `proofs/EntryFacts` has that they agree
abbrev pub is_marked : PageShape → List Entry → (page p : ℕ) → Bool
is_marked shape entries page p =
    list_any (λ entry. (entry.page.number == page) && list_any (λ q. p == q) (marks_of shape page entry.sig)) entries
