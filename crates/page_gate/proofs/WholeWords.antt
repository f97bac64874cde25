-- Whole words of a page, and the set of its marks.
use Rattle.std.proofs.Common.{◌≡◌, ◌↔◌, ℕ, ◌+◌, ◌*◌, ◌/◌, ◌%◌, ◌^◌, ◌<◌, ◌≤◌, ◌==◌, Bool, true, false, cond, List, [], ◌∷◌, ◌++◌, length, get_or, count_by, count_ones, refl, sym, ap, ap₂, ◌∙◌, subst, ⊎_elim, arith, append_assoc, length-append}
use Rattle.std.specs.Int.{bit_at}
use Rattle.std.specs.List.{range_with_len}
use Rattle.std.proofs.Math.Seq.{get_or-append_seam}
use Rattle.std.proofs.lemmas.Bool.{cases_lt, cases_Bool, eqb-true, eq-eqb}
use Rattle.std.proofs.lemmas.List.{get_or_append_left}
use Rattle.std.proofs.lemmas.List.Sums.{sum_by-append, length-filter, count_by-le-length}
use Rattle.std.proofs.lemmas.List.FromFn.{length-range_with_len}
use Rattle.atomic_table.specs.Table.{Me}
use Rattle.atomic_table.specs.declared.shared.Seat.{Seat}
use Rattle.spie_base.specs.declared.PageShape.{PageShape}
use Rattle.spie_base.specs.declared.types.Entry.{Entry}
use Rattle.spie_base.specs.Shapes.{IsShape}
use Rattle.bloom_page.specs.Bits.{bit_in, is_set, members_of}
use Rattle.bloom_page.specs.Sets.{set_of}
use Rattle.bloom_page.proofs.Counting.{count_ones-by_bits}
use Rattle.bloom_page.proofs.Ranges.{range-append, count_shift}
use Rattle.bloom_page.proofs.WordFacts.{set_of-same, set_of-words}
use Rattle.hash_family.specs.Entries.{IsMarked, is_marked}
use Rattle.hash_family.proofs.EntryFacts.{marked-from_test, test-from_marked}
use Rattle.gate_core.specs.declared.view.Probed.{Probed}
use Rattle.gate_core.specs.declared.view.View.{View}
use Rattle.gate_core.specs.Marks.{width, size}
use Rattle.gate_core.specs.Acts.{bit_place, CanLook}
use Rattle.gate_core.specs.Invariant.{Met}
use Rattle.gate_core.proofs.Alone.{met_alone}
use Rattle.gate_core.proofs.Bits.{page_bit_none}
use Rattle.gate_core.proofs.Readings.{met_fits}
use Rattle.bloom_page.proofs.WordFacts.{bits_of_words}
use Rattle.page_gate.specs.Pages.{CanRead}
use Rattle.page_gate.specs.Probes.{noting_more, IsWordOf, OnlyNotes, marked_set}
use Rattle.page_gate.specs.Steps.{Nothing}

-- after any reads, more can be read
pub still_readable : (v u : View) (page s : ℕ) (more : List Probed) → u ≡ noting_more v more → CanRead v page s → CanRead u page s
still_readable v u page s more is k = subst (λ (w : View). CanRead w page s) (sym is) (record { role = k.role; idle = k.idle; near = k.near; stands = k.stands; whole = k.whole; here = k.here })

-- reads behind reads
pub noted_more : (v : View) (more most : List Probed) → noting_more (noting_more v more) most ≡ noting_more v (more ++ most)
noted_more v more most = ap (λ (ps : List Probed). record v { duties = record v.duties { probes = ps } }) (append_assoc v.duties.probes more most)

pub notes_more : (a b c : Seat Nothing View) → OnlyNotes a b → OnlyNotes b c → OnlyNotes a c
notes_more a b c (more, first) (most, then) = (
  more ++ most,
  (
    then.0 ∙ first.0,
    then.1 ∙ first.1,
    then.2 ∙ ap (λ (m : Me Nothing View). (noting_more m.0 most, m.1)) first.2 ∙ ap (λ (u : View). (u, a.me.1)) (noted_more a.me.0 more most),
  ),
)

pub noted_entries : (a b : Seat Nothing View) → OnlyNotes a b → b.me.0.entries ≡ a.me.0.entries
noted_entries a b (more, same) = ap (λ (m : Me Nothing View). m.0.entries) same.2

-- a word that the keeper reads with no pass out
pub word_met : (shape : PageShape) (v : View) (page s j n : ℕ) → CanRead v page s → v.duties.out ≡ 0 → Met shape v (bit_place shape s j) n → IsWordOf shape v.entries page j n
word_met shape v page s j n k none_out m p small at =
    let place = bit_place shape s j in
    let fit = (met_fits shape v k.role place n m).slots in
    let alone = met_alone shape v place n m k.role none_out (subst CanLook (sym k.idle) tt) in
    let live = page_bit_none shape m.words v.duties s p (fit.taken_words s k.near k.stands ∙ k.whole) in
    let read = ap (λ (i : ℕ). bit_at (get_or m.words (bit_place shape s i) 0) (p % 64)) at ∙ ap (λ (x : ℕ). bit_at x (p % 64)) m.reads in
    let both = alone.standing s k.near k.stands p small in (
      (λ one. subst (λ (g : ℕ). IsMarked shape v.entries g p) k.here (both.0 (live ∙ read ∙ one))),
      (λ mark. sym (live ∙ read) ∙ both.1 (subst (λ (g : ℕ). IsMarked shape v.entries g p) (sym k.here) mark)),
    )

-- ---- tests and facts

same_tests : (a b : Bool) → (a ≡ true → b ≡ true) → (b ≡ true → a ≡ true) → a ≡ b
same_tests a b there back = ⊎_elim (λ e. e ∙ sym (there e)) (λ e. ⊎_elim (λ f. let g : true ≡ false = sym (back f) ∙ e in cc) (λ f. e ∙ sym f) (cases_Bool b)) (cases_Bool a)

-- a bit of a word is the test of the mark
bit_tests : (shape : PageShape) (entries : List Entry) (page j word p : ℕ) → IsWordOf shape entries page j word → p < size shape → p / 64 ≡ j → (bit_at word (p % 64) == 1) ≡ is_marked shape entries page p
bit_tests shape entries page j word p is small at = same_tests (bit_at word (p % 64) == 1) (is_marked shape entries page p)
    (λ one. test-from_marked shape page p entries ((is p small at).0 (eqb-true (bit_at word (p % 64)) 1 one)))
    (λ told. eq-eqb (bit_at word (p % 64)) 1 ((is p small at).1 (marked-from_test shape page p entries told)))

-- ---- all words together

-- the words of a page are its set
pub words_set : (shape : PageShape) (entries : List Entry) (page : ℕ) (words : List ℕ) → IsShape shape → length words ≡ width shape → ((j : ℕ) → j < length words → IsWordOf shape entries page j (get_or words j 0))
    → record { n = shape.n; members = members_of words } ≡ marked_set shape entries page
words_set shape entries page words fit many each =
    let whole : 64 * width shape ≡ 2 ^ shape.n = bits_of_words shape.n (width shape) fit.n_least refl in
    set_of-words shape.n words (omega arith)
    ∙ set_of-same shape.n (is_set words) (is_marked shape entries page) (λ p small. let small' : p < size shape = (let g : p < 64 * width shape = omega arith in g) in
    bit_tests shape entries page (p / 64) (get_or words (p / 64) 0) p (each (p / 64) (let g : p / 64 < length words = omega arith in g)) small' refl)

-- the same, where it is known of each bit
pub bits_set : (shape : PageShape) (entries : List Entry) (page : ℕ) (words : List ℕ) → IsShape shape → length words ≡ width shape → ((p : ℕ) → p < size shape → (bit_in words p ≡ 1) ↔ IsMarked shape entries page p)
    → record { n = shape.n; members = members_of words } ≡ marked_set shape entries page
bits_set shape entries page words fit many bits = words_set shape entries page words fit many
    (λ j lt p small at. subst (λ (i : ℕ). (bit_at (get_or words i 0) (p % 64) ≡ 1) ↔ IsMarked shape entries page p) at (bits p small))

pub length-more : (words : List ℕ) (n : ℕ) → length (words ++ n ∷ []) ≡ length words + 1
length-more words n = length-append words (n ∷ [])

-- one word more behind those that were read
pub each_more : (shape : PageShape) (entries : List Entry) (page : ℕ) (words : List ℕ) (n : ℕ) → ((j : ℕ) → j < length words → IsWordOf shape entries page j (get_or words j 0)) → IsWordOf shape entries page (length words) n
    → (j : ℕ) → j < length words + 1 → IsWordOf shape entries page j (get_or (words ++ n ∷ []) j 0)
each_more shape entries page words n each new j lt = ⊎_elim
    (λ less. subst (IsWordOf shape entries page j) (sym (get_or_append_left words (n ∷ []) 0 j less)) (each j less))
    (λ le. let e : length words ≡ j = omega arith in
    subst (λ (i : ℕ). IsWordOf shape entries page i (get_or (words ++ n ∷ []) i 0)) e (subst (IsWordOf shape entries page (length words)) (sym (get_or-append_seam words n [] 0)) new))
    (cases_lt j (length words))

-- the bits of one word more
pub ones_of_word : (shape : PageShape) (entries : List Entry) (page j word ones : ℕ) → j < width shape → word < 2 ^ 64 → IsWordOf shape entries page j word → ones ≡ count_by (is_marked shape entries page) (range_with_len 0 (64 * j))
    → ones + count_ones word ≡ count_by (is_marked shape entries page) (range_with_len 0 (64 * (j + 1)))
ones_of_word shape entries page j word ones lt fits is so_far =
    let f : ℕ → Bool = is_marked shape entries page in
    let here : count_by f (range_with_len (64 * j + 0) 64) ≡ count_by (λ (b : ℕ). bit_at word b == 1) (range_with_len 0 64) =
    count_shift f (λ (b : ℕ). bit_at word b == 1) (64 * j) 0 64 (λ b small.
    let p : ℕ = 64 * j + b in
    let low : p % 64 ≡ b = omega arith in
    let w : j < width shape = lt in
    let below : p < size shape = (let g : p < 64 * width shape = omega arith in g) in
    sym (bit_tests shape entries page j word p is below (let g : p / 64 ≡ j = omega arith in g)) ∙ ap (λ (i : ℕ). bit_at word i == 1) low) in
    let count : count_ones word ≡ count_by (λ (b : ℕ). bit_at word b == 1) (range_with_len 0 64) = ap (λ (n : ℕ). count_ones n) (let e : word ≡ word % 2 ^ 64 = omega arith in e) ∙ count_ones-by_bits word 64 in
    ap₂ (λ (a b : ℕ). a + b) so_far (count ∙ sym here ∙ ap (λ (a : ℕ). count_by f (range_with_len a 64)) (let e : 64 * j + 0 ≡ 0 + 64 * j = omega arith in e))
    ∙ sym (sum_by-append (λ (p : ℕ). cond (f p) 1 0) (range_with_len 0 (64 * j)) (range_with_len (0 + 64 * j) 64))
    ∙ ap (count_by f) (sym (range-append 0 (64 * j) 64))
    ∙ ap (λ (n : ℕ). count_by f (range_with_len 0 n)) (let e : 64 * j + 64 ≡ 64 * (j + 1) = omega arith in e)

pub ones_most : (shape : PageShape) (entries : List Entry) (page n ones : ℕ) → ones ≡ count_by (is_marked shape entries page) (range_with_len 0 n) → ones ≤ n
ones_most shape entries page n ones is = omega (arith, count_by-le-length (is_marked shape entries page) (range_with_len 0 n), length-range_with_len 0 n)

-- and of all
pub ones_all : (shape : PageShape) (entries : List Entry) (page ones : ℕ) → IsShape shape → ones ≡ count_by (is_marked shape entries page) (range_with_len 0 (64 * width shape)) → ones ≡ length (marked_set shape entries page).members
unfolding set_of
ones_all shape entries page ones fit is =
    is
    ∙ ap (λ (n : ℕ). count_by (is_marked shape entries page) (range_with_len 0 n)) (bits_of_words shape.n (width shape) fit.n_least refl)
    ∙ sym (length-filter (is_marked shape entries page) (range_with_len 0 (2 ^ shape.n)))
