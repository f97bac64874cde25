-- What the keeper reads of the bits of a page.
use Rattle.std.specs.Prelude.{◌≡◌, ◌↔◌, ℕ, ◌/◌, ◌%◌, ◌<◌, Bool, true, false, List, [], ◌∷◌, ◌++◌, length, map}
use Rattle.std.specs.Int.{bit_at}
use Rattle.std.specs.List.{range_with_len}
use Rattle.spie_base.specs.declared.PageShape.{PageShape}
use Rattle.spie_base.specs.declared.Sig.{Sig}
use Rattle.spie_base.specs.declared.types.Entry.{Entry}
use Rattle.atomic_table.specs.declared.shared.Seat.{Seat}
use Rattle.bloom_page.specs.Sets.{PageSet, set_of}
use Rattle.hash_family.specs.Entries.{IsMarked, is_marked}
use Rattle.hash_family.specs.Positions.{position}
use Rattle.gate_core.specs.declared.view.Probed.{Probed}
use Rattle.gate_core.specs.declared.view.View.{View}
use Rattle.gate_core.specs.Marks.{size}
use Rattle.gate_core.specs.Acts.{with_duties}
use Rattle.page_gate.specs.Held.{Held}
use Rattle.page_gate.specs.Steps.{Nothing}
use Rattle.page_gate.specs.Tried.{StaysWith}

-- a view that has noted these reads too
abbrev pub noting_more : View → List Probed → View
noting_more v more = with_duties v (record v.duties { probes = v.duties.probes ++ more })

-- a keeper that has noted these reads too, and is the same in all else
abbrev pub probed_held : Held → List Probed → Held
probed_held keeper more = record keeper { view = noting_more keeper.view more }

-- a read of mark i of a signature, by a keeper that had so many entries
abbrev pub read_of : PageShape → (page : ℕ) → Sig → (known i : ℕ) → (bit : Bool) → Probed
read_of shape page sig known i bit = record { page = page; at = position shape page sig i; bit = bit; known = known }

-- reads of the first marks, each as set
abbrev pub set_reads : PageShape → (page : ℕ) → Sig → (known count : ℕ) → List Probed
set_reads shape page sig known count = map (λ i. read_of shape page sig known i true) (range_with_len 0 count)

-- each mark was read as set; or those before mark i were, and mark i was read as not set, the last
abbrev pub ReadsTell : PageShape → (page : ℕ) → Sig → (known : ℕ) → (more : List Probed) → (answer : Bool) → Type 0
ReadsTell shape page sig known more true = more ≡ set_reads shape page sig known shape.k
ReadsTell shape page sig known more false = (i : ℕ) × (i < shape.k) × (more ≡ set_reads shape page sig known i ++ read_of shape page sig known i false ∷ [])

-- the keeper has noted what it read of the marks of the signature in the page
abbrev pub Probes : PageShape → (page : ℕ) → Sig → Held → Held → (answer : Bool) → Type 0
Probes shape page sig before after answer = (more : List Probed) × (after ≡ probed_held before more) × ReadsTell shape page sig (length before.view.entries) more answer

-- each mark of the signature in the page is a mark of one of these entries
abbrev pub HaveAllMarks : PageShape → List Entry → (page : ℕ) → Sig → Type 0
HaveAllMarks shape entries page sig = (i : ℕ) → i < shape.k → IsMarked shape entries page (position shape page sig i)

-- ---- whole words

-- the bits of word j of a page are exactly the marks of these entries of the page
abbrev pub IsWordOf : PageShape → List Entry → (page j word : ℕ) → Type 0
IsWordOf shape entries page j word = (p : ℕ) → p < size shape → p / 64 ≡ j → (bit_at word (p % 64) ≡ 1) ↔ IsMarked shape entries page p

-- the set of all marks of these entries in the page
abbrev pub marked_set : PageShape → List Entry → (page : ℕ) → PageSet
marked_set shape entries page = set_of shape.n (is_marked shape entries page)

-- the keeper has noted some reads more, and is the same in all else
abbrev pub OnlyProbes : Held → Held → Type 0
OnlyProbes before after = (more : List Probed) × (after ≡ probed_held before more)

-- the same of a seat
abbrev pub OnlyNotes : Seat Nothing View → Seat Nothing View → Type 0
OnlyNotes before after = (more : List Probed) × StaysWith before after (noting_more before.me.0 more)
