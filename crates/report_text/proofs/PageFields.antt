-- Pages, ranges of pages and unreadable pages are read back from their fields.
use Rattle.std.proofs.Common.{◌≡◌, ℕ, List, [], ◌∷◌, ◌++◌, true, false, cond, ◌==◌, Option, Some, None, refl, ap, ◌∙◌}
use Rattle.std.specs.Prelude.{codes}
use Rattle.std.proofs.lemmas.List.{append_assoc}
use Rattle.spie_base.specs.declared.PageNo.{PageNo}
use Rattle.spie_base.specs.declared.PageRange.{PageRange}
use Rattle.report_text.specs.declared.items.Bad.{Bad}
use Rattle.report_text.specs.declared.items.CauseWord.{CauseWord}
use Rattle.report_text.specs.declared.items.CauseWord.TheVariants.{Failed, Other, Absent, Broken}
use Rattle.report_text.specs.Laws.{IsPage, IsBad, IsPages}
use Rattle.report_text.specs.Report.{page_text, range_text, cause_text, bad_one}
use Rattle.report_text.proofs.Pieces.{lacks, lacks-append, parts, parts_one, parts_more}
use Rattle.report_text.proofs.Numbers.{IsMark, space, comma, dash, colon, number_of, number_back, lacks-decimal, is_dash, no_dash-decimal}

abbrev pub page_of : List ℕ → PageNo
page_of text = record { number = number_of text }

pub page_back : (page : PageNo) → IsPage page → page_of (page_text page) ≡ page
page_back page small = λ i. record { number = number_back page.number small i }

-- the first and the second part of a text that is cut
abbrev pub first_part : List (List ℕ) → List ℕ
first_part [] = []
first_part (part ∷ more) = part

abbrev pub second_part : List (List ℕ) → List ℕ
second_part [] = []
second_part (part ∷ more) = first_part more

cut_in_two : (c : ℕ) (a b : List ℕ) → lacks c a ≡ true → lacks c b ≡ true → parts c (a ++ c ∷ b) ≡ a ∷ b ∷ []
cut_in_two c a b ea eb = parts_more c a b ea ∙ ap (λ ps. a ∷ ps) (parts_one c b eb)

abbrev pages_between : List (List ℕ) → PageRange
pages_between ps = record { first = page_of (first_part ps); last = page_of (second_part ps) }

abbrev pub range_of : List ℕ → Option PageRange
range_of text = cond (is_dash text) None (Some (pages_between (parts 45 text)))

range_parts : (range : PageRange) → IsPages (Some range) → parts 45 (range_text (Some range)) ≡ page_text range.first ∷ page_text range.last ∷ []
range_parts range small =
    ap (parts 45) (append_assoc (page_text range.first) (codes "-") (page_text range.last))
    ∙ cut_in_two 45 (page_text range.first) (page_text range.last) (lacks-decimal 45 range.first.number dash small.0) (lacks-decimal 45 range.last.number dash small.1)

range_starts : (range : PageRange) → IsPages (Some range) → is_dash (range_text (Some range)) ≡ false
range_starts range small =
    ap is_dash (append_assoc (page_text range.first) (codes "-") (page_text range.last)) ∙ no_dash-decimal range.first.number (codes "-" ++ page_text range.last) small.0

pub range_back : (range : Option PageRange) → IsPages range → range_of (range_text range) ≡ range
range_back None small = refl
range_back (Some range) small =
    (λ i. cond (range_starts range small i) None (Some (pages_between (range_parts range small i))))
    ∙ (λ i. Some (record { first = page_back range.first small.0 i; last = page_back range.last small.1 i }))

pub lacks-range : (range : Option PageRange) → IsPages range → lacks 32 (range_text range) ≡ true
lacks-range None small = refl
lacks-range (Some range) small =
    lacks-append 32 (page_text range.first ++ codes "-") (page_text range.last)
    (lacks-append 32 (page_text range.first) (codes "-") (lacks-decimal 32 range.first.number space small.0) refl)
    (lacks-decimal 32 range.last.number space small.1)

abbrev pub cause_of : List ℕ → CauseWord
cause_of [] = Failed
cause_of (b ∷ bs) = cond (b == 102) Failed (cond (b == 111) Other (cond (b == 97) Absent Broken))

cause_back : (cause : CauseWord) → cause_of (cause_text cause) ≡ cause
cause_back Failed = refl
cause_back Other = refl
cause_back Absent = refl
cause_back Broken = refl

abbrev pub IsPlain : List ℕ → Type 0
IsPlain text = (lacks 32 text ≡ true) × (lacks 44 text ≡ true) × (lacks 58 text ≡ true)

cause_plain : (cause : CauseWord) → IsPlain (cause_text cause)
cause_plain Failed = (refl, refl, refl)
cause_plain Other = (refl, refl, refl)
cause_plain Absent = (refl, refl, refl)
cause_plain Broken = (refl, refl, refl)

abbrev bad_between : List (List ℕ) → Bad
bad_between ps = record { page = page_of (first_part ps); cause = cause_of (second_part ps) }

abbrev pub bad_of : List ℕ → Bad
bad_of text = bad_between (parts 58 text)

bad_parts : (bad : Bad) → IsBad bad → parts 58 (bad_one bad) ≡ page_text bad.page ∷ cause_text bad.cause ∷ []
bad_parts bad small =
    ap (parts 58) (append_assoc (page_text bad.page) (codes ":") (cause_text bad.cause))
    ∙ cut_in_two 58 (page_text bad.page) (cause_text bad.cause) (lacks-decimal 58 bad.page.number colon small) (cause_plain bad.cause).2

pub bad_back : (bad : Bad) → IsBad bad → bad_of (bad_one bad) ≡ bad
bad_back bad small = ap bad_between (bad_parts bad small) ∙ (λ i. record { page = page_back bad.page small i; cause = cause_back bad.cause i })

lacks-bad : (c : ℕ) (bad : Bad) → IsMark c → lacks c (codes ":") ≡ true → lacks c (cause_text bad.cause) ≡ true → IsBad bad → lacks c (bad_one bad) ≡ true
lacks-bad c bad mark one cause small =
    lacks-append c (page_text bad.page ++ codes ":") (cause_text bad.cause) (lacks-append c (page_text bad.page) (codes ":") (lacks-decimal c bad.page.number mark small) one) cause

pub bad_space : (bad : Bad) → IsBad bad → lacks 32 (bad_one bad) ≡ true
bad_space bad small = lacks-bad 32 bad space refl (cause_plain bad.cause).0 small

pub bad_comma : (bad : Bad) → IsBad bad → lacks 44 (bad_one bad) ≡ true
bad_comma bad small = lacks-bad 44 bad comma refl (cause_plain bad.cause).1 small

pub bad_starts : (bad : Bad) (rest : List ℕ) → IsBad bad → is_dash (bad_one bad ++ rest) ≡ false
bad_starts bad rest small =
    ap is_dash (append_assoc (page_text bad.page ++ codes ":") (cause_text bad.cause) rest ∙ append_assoc (page_text bad.page) (codes ":") (cause_text bad.cause ++ rest))
    ∙ no_dash-decimal bad.page.number (codes ":" ++ (cause_text bad.cause ++ rest)) small
