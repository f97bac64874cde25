-- Lists with a comma between each two items are read back.
use Rattle.std.proofs.Common.{◌≡◌, ℕ, List, [], ◌∷◌, ◌++◌, map, true, false, cond, refl, ◌∙◌}
use Rattle.std.proofs.lemmas.List.Elements.{All-head, All-tail}
use Rattle.std.specs.List.{All, flat_map}
use Rattle.spie_base.specs.declared.PageNo.{PageNo}
use Rattle.report_text.specs.declared.items.Bad.{Bad}
use Rattle.report_text.specs.Laws.{IsPage, IsBad}
use Rattle.line_text.specs.Writing.{listed}
use Rattle.report_text.specs.Report.{page_text, pages_text, bad_one, bad_text}
use Rattle.report_text.proofs.Pieces.{Each, lacks, lacks-append, parts, parts_joined}
use Rattle.report_text.proofs.Numbers.{space, comma, lacks-decimal, is_dash, no_dash-decimal}
use Rattle.report_text.proofs.PageFields.{page_of, page_back, bad_of, bad_back, bad_space, bad_comma, bad_starts}

abbrev pub list_of : {X : Type 0} → (List ℕ → X) → List ℕ → List X
list_of back text = cond (is_dash text) [] (map back (parts 44 text))

-- how an item of a list is read back
pub record IsReadBack {X : Type 0} (text : X → List ℕ) (back : List ℕ → X) (x : X) : Type 0 where
  pub same : back (text x) ≡ x
  pub space : lacks 32 (text x) ≡ true
  pub comma : lacks 44 (text x) ≡ true
  pub starts : (rest : List ℕ) → is_dash (text x ++ rest) ≡ false

pub each_of : {X : Type 0} (P Q : X → Type 0) → ((x : X) → P x → Q x) → (xs : List X) → All P xs → Each Q xs
each_of P Q turn [] all = tt
each_of P Q turn (x ∷ xs) all = (turn x (All-head P x xs all), each_of P Q turn xs (All-tail P x xs all))

each_turned : {X : Type 0} (P Q : X → Type 0) → ((x : X) → P x → Q x) → (xs : List X) → Each P xs → Each Q xs
each_turned P Q turn [] each = tt
each_turned P Q turn (x ∷ xs) each = (turn x each.0, each_turned P Q turn xs each.1)

module _ {X : Type 0} (text : X → List ℕ) (back : List ℕ → X) where
  all_back : (xs : List X) → Each (IsReadBack text back) xs → map back (map text xs) ≡ xs
  all_back [] each = refl
  all_back (x ∷ xs) each = λ i. (each.0).same i ∷ all_back xs each.1 i

  pub list_back : (xs : List X) → Each (IsReadBack text back) xs → list_of back (listed text xs) ≡ xs
  list_back [] each = refl
  list_back (x ∷ xs) each =
      let commas : Each (λ y. lacks 44 (text y) ≡ true) xs = each_turned (IsReadBack text back) (λ y. lacks 44 (text y) ≡ true) (λ y r. r.comma) xs each.1 in
      (λ i. cond ((each.0).starts (flat_map (λ y. 44 ∷ text y) xs) i) [] (map back (parts_joined 44 text (text x) xs (each.0).comma commas i)))
      ∙ all_back (x ∷ xs) each

  lacks-more : (xs : List X) → Each (IsReadBack text back) xs → lacks 32 (flat_map (λ x. 44 ∷ text x) xs) ≡ true
  lacks-more [] each = refl
  lacks-more (x ∷ xs) each = lacks-append 32 (text x) (flat_map (λ y. 44 ∷ text y) xs) (each.0).space (lacks-more xs each.1)

  pub lacks-listed : (xs : List X) → Each (IsReadBack text back) xs → lacks 32 (listed text xs) ≡ true
  lacks-listed [] each = refl
  lacks-listed (x ∷ xs) each = lacks-append 32 (text x) (flat_map (λ y. 44 ∷ text y) xs) (each.0).space (lacks-more xs each.1)

page_reads : (page : PageNo) → IsPage page → IsReadBack page_text page_of page
page_reads page small = record {
  same = page_back page small;
  space = lacks-decimal 32 page.number space small;
  comma = lacks-decimal 44 page.number comma small;
  starts = λ rest. no_dash-decimal page.number rest small;
}

bad_reads : (bad : Bad) → IsBad bad → IsReadBack bad_one bad_of bad
bad_reads bad small = record {
  same = bad_back bad small;
  space = bad_space bad small;
  comma = bad_comma bad small;
  starts = λ rest. bad_starts bad rest small;
}

each_page : (pages : List PageNo) → All IsPage pages → Each (IsReadBack page_text page_of) pages
each_page pages all = each_of IsPage (IsReadBack page_text page_of) page_reads pages all

each_bad : (bads : List Bad) → All IsBad bads → Each (IsReadBack bad_one bad_of) bads
each_bad bads all = each_of IsBad (IsReadBack bad_one bad_of) bad_reads bads all

pub pages_back : (pages : List PageNo) → All IsPage pages → list_of page_of (pages_text pages) ≡ pages
pages_back pages all = list_back page_text page_of pages (each_page pages all)

pub lacks-pages : (pages : List PageNo) → All IsPage pages → lacks 32 (pages_text pages) ≡ true
lacks-pages pages all = lacks-listed page_text page_of pages (each_page pages all)

pub bads_back : (bads : List Bad) → All IsBad bads → list_of bad_of (bad_text bads) ≡ bads
bads_back bads all = list_back bad_one bad_of bads (each_bad bads all)

pub lacks-bads : (bads : List Bad) → All IsBad bads → lacks 32 (bad_text bads) ≡ true
lacks-bads bads all = lacks-listed bad_one bad_of bads (each_bad bads all)
