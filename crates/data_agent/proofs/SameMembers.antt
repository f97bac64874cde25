-- Lists with the same entries have the same marks.
use Rattle.std.proofs.Common.{ℕ, ◌≡◌, ◌∷◌, [], ◌++◌, ⊎_elim, ◌↔◌, ◌&&◌, ◌==◌, ◌<◌, ◌^◌, Bool, true, false, List, sym, subst, refl}
use Rattle.std.specs.List.{Contains, list_any, range_with_len}
use Rattle.std.proofs.lemmas.Bool.{eqb-true, false≢true}
use Rattle.std.proofs.lemmas.List.Elements.{Contains-append_cases, Contains-append_left, Contains-append_right}
use Rattle.spie_base.proofs.Booleans.{both_held, one_held}
use Rattle.spie_base.proofs.Membership.{has_first, has_later, into_filter}
use Rattle.spie_base.specs.Shapes.{IsShape}
use Rattle.spie_base.specs.declared.Entry.{Entry}
use Rattle.spie_base.specs.declared.PageShape.{PageShape}
use Rattle.bloom_page.proofs.Members.{Contains-range}
use Rattle.bloom_page.proofs.WordFacts.{set_of-same}
use Rattle.bloom_page.specs.Sets.{set_of}
use Rattle.gate_core.proofs.Bits.{position_below}
use Rattle.gate_core.specs.Marks.{size}
use Rattle.hash_family.proofs.EntryFacts.{marked-from_test, test-from_marked}
use Rattle.hash_family.proofs.PositionFacts.{position-below}
use Rattle.hash_family.specs.Entries.{IsMarked, is_marked}
use Rattle.hash_family.specs.Positions.{marks_of}
use Rattle.page_gate.specs.Probes.{marked_set}
use Rattle.data_agent.specs.Members.{HaveSameMembers}
use Rattle.data_agent.proofs.Watching.{any_has}

pub same_members : (a b : List Entry) → a ≡ b → HaveSameMembers a b
same_members a b is = subst (HaveSameMembers a) is (λ entry. (λ has. has, λ has. has))

-- a list that is another has the same entries as that
pub members_from : (a b c : List Entry) → a ≡ b → HaveSameMembers b c → HaveSameMembers a c
members_from a b c is same = subst (λ (es : List Entry). HaveSameMembers es c) (sym is) same

pub members_more : (a b more : List Entry) → HaveSameMembers a b → HaveSameMembers (a ++ more) (b ++ more)
members_more a b more same = λ entry. (
  λ has. ⊎_elim (λ here. Contains-append_left b more entry ((same entry).0 here)) (Contains-append_right b more entry) (Contains-append_cases a more entry has),
  λ has. ⊎_elim (λ here. Contains-append_left a more entry ((same entry).1 here)) (Contains-append_right a more entry) (Contains-append_cases b more entry has),
)

-- ---- tests of an element

some_passes : {X : Type 0} (p : X → Bool) (xs : List X) → list_any p xs ≡ true → (x : X) × Contains xs x × (p x ≡ true)
some_passes p [] is = absurd (false≢true is)
some_passes p (x ∷ xs) is =
    ⊎_elim (λ here. (x, has_first x xs, here)) (λ more. let m = some_passes p xs more in (m.0, has_later x xs m.0 m.1, m.2)) (one_held (p x) (list_any p xs) is)

same_test : (a b : Bool) → (a ≡ true → b ≡ true) → (b ≡ true → a ≡ true) → a ≡ b
same_test true b f g = sym (f refl)
same_test false true f g = g refl
same_test false false f g = refl

-- ---- the marks of a page are those of its own entries

marked_there : (shape : PageShape) (a b : List Entry) (page p : ℕ) → ((entry : Entry) → entry.page.number ≡ page → Contains a entry → Contains b entry) → is_marked shape a page p ≡ true → is_marked shape b page p ≡ true
marked_there shape a b page p there is =
    let test : Entry → Bool = λ entry. (entry.page.number == page) && list_any (λ (q : ℕ). p == q) (marks_of shape page entry.sig) in
    let (entry, has, holds) = some_passes test a is in
    let at = both_held (entry.page.number == page) (list_any (λ (q : ℕ). p == q) (marks_of shape page entry.sig)) holds in
    any_has test b entry (there entry (eqb-true entry.page.number page at.0) has) holds

pub page_marks : (shape : PageShape) (a b : List Entry) (page : ℕ) → ((entry : Entry) → entry.page.number ≡ page → Contains a entry ↔ Contains b entry) → marked_set shape a page ≡ marked_set shape b page
page_marks shape a b page same = set_of-same shape.n (is_marked shape a page) (is_marked shape b page) (λ p lt.
    same_test (is_marked shape a page p) (is_marked shape b page p) (marked_there shape a b page p (λ entry at. (same entry at).0)) (marked_there shape b a page p (λ entry at. (same entry at).1)))

pub marked_members : (shape : PageShape) (a b : List Entry) (page : ℕ) → HaveSameMembers a b → marked_set shape a page ≡ marked_set shape b page
marked_members shape a b page same = page_marks shape a b page (λ entry at. same entry)

-- ---- marks

pub members_back : (a b : List Entry) → HaveSameMembers a b → HaveSameMembers b a
members_back a b same = λ entry. ((same entry).1, (same entry).0)

pub marked_by : (shape : PageShape) (a b : List Entry) (page p : ℕ) → HaveSameMembers a b → IsMarked shape a page p → IsMarked shape b page p
marked_by shape a b page p same marked = marked-from_test shape page p b (marked_there shape a b page p (λ entry at. (same entry).0) (test-from_marked shape page p a marked))

-- a mark is a position of the page
mark_small : (shape : PageShape) (entries : List Entry) (page p : ℕ) → IsMarked shape entries page p → p < 2 ^ shape.n
mark_small shape entries page p (i, entry, at, of, (j, within, is)) = subst (λ (q : ℕ). q < 2 ^ shape.n) is (position-below shape page entry.sig j)

pub mark_below : (shape : PageShape) (entries : List Entry) (page p : ℕ) → IsShape shape → IsMarked shape entries page p → p < size shape
mark_below shape entries page p fit (i, entry, at, of, (j, within, is)) = subst (λ (q : ℕ). q < size shape) is (position_below shape page entry.sig j fit)

pub mark_in : (shape : PageShape) (entries : List Entry) (page p : ℕ) → IsMarked shape entries page p → Contains (marked_set shape entries page).members p
unfolding set_of
mark_in shape entries page p marked =
    into_filter (is_marked shape entries page) (range_with_len 0 (2 ^ shape.n)) p (Contains-range (2 ^ shape.n) p (mark_small shape entries page p marked)) (test-from_marked shape page p entries marked)
