-- How many entries each page has, and one page more.
use Rattle.std.proofs.Common.{ℕ, ◌≡◌, ◌≢◌, ◌+◌, ◌<◌, ◌≤◌, ◌==◌, List, [], ◌∷◌, ◌++◌, length, take, get_or, refl, ap, sym, ◌∙◌, arith, Bool, true, false, zero-add, count_by, slice_index, slice_set}
use Rattle.std.specs.List.{flat_map, range_with_len}
use Rattle.std.proofs.lemmas.Grind.{common_steps, flat_map-append}
use Rattle.std.proofs.lemmas.Bool.Decides.{nat_tests}
use Rattle.std.proofs.lemmas.List.Sums.{count_by_more_yes, count_by_more_no, count_by-le-length}
use Rattle.bloom_page.proofs.Ranges.{range-append}
use Rattle.spie_base.specs.declared.types.Entry.{Entry}

range_more : (n : ℕ) → range_with_len 0 (n + 1) ≡ range_with_len 0 n ++ n ∷ []
range_more n = range-append 0 n 1 ∙ (rw (zero-add n) refl)

flat_one : (f : ℕ → List ℕ) (n : ℕ) → flat_map f (n ∷ []) ≡ f n
flat_one f n = grind (arith, common_steps)

pub pages_more : (f : ℕ → List ℕ) (n : ℕ) → flat_map f (range_with_len 0 (n + 1)) ≡ flat_map f (range_with_len 0 n) ++ f n
pages_more f n = ap (λ z. flat_map f z) (range_more n) ∙ flat_map-append f (range_with_len 0 n) (n ∷ []) ∙ ap (λ z. flat_map f (range_with_len 0 n) ++ z) (flat_one f n)

-- ---- entries by page

abbrev no_entry : Entry
no_entry = record { page = record { number = 0 }; sig = record { bytes = [] } }

abbrev pub on_page : (p : ℕ) → Entry → Bool
on_page p e = e.page.number == p

-- the counts are those of the first entries
abbrev pub Each : List ℕ → (pages : ℕ) → List Entry → (i : ℕ) → Type 0
Each counts pages entries i = (p : ℕ) → p < pages → slice_index counts p ≡ count_by (on_page p) (take i entries)

other_page : (page p : ℕ) → page ≢ p → (page == p) ≡ false
other_page page p n = grind (arith, nat_tests)

same_page : (page : ℕ) → (page == page) ≡ true
same_page page = grind (arith, nat_tests)

is_page : (page p : ℕ) (b : Bool) → (page == p) ≡ b → (b ≡ true → page ≡ p)
is_page page p b e t = grind (arith, nat_tests)

set_same : (counts : List ℕ) (page v : ℕ) → page < length counts → slice_index (slice_set counts page v) page ≡ v
set_same counts page v h = grind (arith, common_steps)

set_other : (counts : List ℕ) (page p v : ℕ) → page ≢ p → slice_index (slice_set counts page v) p ≡ slice_index counts p
set_other counts page p v n = grind (arith, common_steps)

value_is : (counts : List ℕ) (page v : ℕ) → page < length counts → v ≡ get_or counts page v → v ≡ slice_index counts page
value_is counts page v h e = grind (arith, common_steps)

one_by : (counts : List ℕ) (pages : ℕ) (entries : List Entry) (i v p : ℕ) (b : Bool) → ((get_or entries i no_entry).page.number == p) ≡ b → i < length entries → (get_or entries i no_entry).page.number < length counts → v ≡ slice_index counts (get_or entries i no_entry).page.number → slice_index counts p ≡ count_by (on_page p) (take i entries) → slice_index (slice_set counts (get_or entries i no_entry).page.number (v + 1)) p ≡ count_by (on_page p) (take (i + 1) entries)
one_by counts pages entries i v p true e h w v_is was =
    let same : (get_or entries i no_entry).page.number ≡ p = is_page _ p true e refl in
    let m : count_by (on_page p) (take (i + 1) entries) ≡ count_by (on_page p) (take i entries) + 1 = count_by_more_yes (on_page p) entries i no_entry h e in
    let s : slice_index (slice_set counts p (v + 1)) p ≡ v + 1 = set_same counts p (v + 1) (rw (← same) w) in
    let q : v ≡ slice_index counts p = rw (← same) v_is in
    rw (same, s, m, ← was, ← q) refl
one_by counts pages entries i v p false e h w v_is was =
    let n : (get_or entries i no_entry).page.number ≢ p = λ q. grind (arith, nat_tests) in
    set_other counts _ p (v + 1) n ∙ was ∙ sym (count_by_more_no (on_page p) entries i no_entry h e)

pub counted : (counts : List ℕ) (pages : ℕ) (entries : List Entry) (i v : ℕ) → i < length entries → (get_or entries i no_entry).page.number < length counts → v ≡ get_or counts (get_or entries i no_entry).page.number v → Each counts pages entries i → Each (slice_set counts (get_or entries i no_entry).page.number (v + 1)) pages entries (i + 1)
counted counts pages entries i v h w v_is each p under = one_by counts pages entries i v p _ refl h w (value_is counts _ v w v_is) (each p under)

pub passed_over : (counts : List ℕ) (pages : ℕ) (entries : List Entry) (i : ℕ) → i < length entries → pages ≤ (get_or entries i no_entry).page.number → Each counts pages entries i → Each counts pages entries (i + 1)
passed_over counts pages entries i h w each p under = each p under ∙ sym (count_by_more_no (on_page p) entries i no_entry h (other_page _ p (λ q. omega (arith, w, under, q))))

pub few : (counts : List ℕ) (pages : ℕ) (entries : List Entry) (i v : ℕ) → (get_or entries i no_entry).page.number < length counts → length counts ≡ pages → v ≡ get_or counts (get_or entries i no_entry).page.number v → Each counts pages entries i → v ≤ i
few counts pages entries i v w size v_is each =
    let page = (get_or entries i no_entry).page.number in
    let q : v ≡ count_by (on_page page) (take i entries) = value_is counts page v w v_is ∙ each page (rw (← size) w) in
    let m : count_by (on_page page) (take i entries) ≤ length (take i entries) = count_by-le-length (on_page page) (take i entries) in
    let t : length (take i entries) ≤ i = grind (arith, common_steps) in
    omega (arith, q, m, t)
