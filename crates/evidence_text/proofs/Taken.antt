-- What the reading of a line gives, and that a line with a fault is refused with it.
use Rattle.std.proofs.Common.{ℕ, ◌≡◌, List, [], ◌∷◌, refl, ap, sym, ◌∙◌, subst, Result, Ok, Err, Bool, true, false, cond}
use Rattle.std.specs.declared.option.Option.{Option}
use Rattle.std.specs.declared.option.Option.TheVariants.{None, Some}
use Rattle.line_text.specs.Reading.{LineMeets}
use Rattle.line_text.specs.Text.{fields}
use Rattle.evidence_text.proofs.Again.{IsFew, spelled_reads}
use Rattle.evidence_text.proofs.Meets.{IsTaken, IsLost, Meets, line_by_meets}
use Rattle.evidence_text.proofs.Wording.{IsCounted, counted, count_is, word_ok, word_again}
use Rattle.evidence_text.specs.Before.{Known, known_of}
use Rattle.evidence_text.specs.Language.{HasWord, IsBad, IsLine, IsMiscounted, IsMisformed, IsMisplaced, certificates, refusals}
use Rattle.evidence_text.specs.Order.{bounds_of, count_of}
use Rattle.evidence_text.specs.Reading.{accept, grown, line_by, by_word, by_fields, word_of, read_line, reader}
use Rattle.evidence_text.specs.Said.{Said, VersionLine, RoutersLine, LinkLine, StartLine, RouterLine, PageLine, RowLine, NodeLine, EdgeLine, UnknownLine, ClearLine, EndLine, EarlyLine}
use Rattle.evidence_text.specs.Spelling.{Spells, word_text}
use Rattle.evidence_text.specs.declared.refused.CheckWhy.{CheckWhy}
use Rattle.evidence_text.specs.declared.refused.CheckWhy.TheVariants as why
use Rattle.evidence_text.specs.declared.words.Word.{Word}

-- ---- what is read of the fields

abbrev pub HasNoWord : List (List ℕ) → Type 0
HasNoWord fields = (w : Word) → HasWord fields w → ⊥

abbrev pub Reason : Known → List (List ℕ) → CheckWhy → Type 0
Reason known fields why.Word = HasNoWord fields
Reason known fields why.Fields = IsMiscounted fields
Reason known fields why.Field = IsCounted fields
Reason known fields why.Order = IsLost known fields
Reason known fields _ = ⊥

abbrev pub FieldsMeet : Known → List (List ℕ) → Result Known CheckWhy → Type 0
FieldsMeet known fields (Ok new) = IsTaken known fields new
FieldsMeet known fields (Err y) = Reason known fields y

with_word : (known : Known) (w : Word) (rest : List (List ℕ)) (r : Result Known CheckWhy) → Meets known w rest r → FieldsMeet known (word_text w ∷ rest) r
with_word known w rest (Ok new) m = m
with_word known w rest (Err why.Fields) m = record { w = w; rest = rest; are = refl; other = m }
with_word known w rest (Err why.Field) m = record { w = w; rest = rest; are = refl; count = m }
with_word known w rest (Err why.Order) m = m
with_word known w rest (Err why.TooLong) m = m
with_word known w rest (Err why.After) m = m
with_word known w rest (Err why.Ending) m = m
with_word known w rest (Err why.Word) m = absurd m

first_is : (v w : List ℕ) (a b : List (List ℕ)) → v ∷ a ≡ w ∷ b → v ≡ w
first_is v w a b e = cc

not_some : (w : Word) → None ≡ Some w → ⊥
not_some w e = absurd (cc)

none_found : (f : List ℕ) (rest : List (List ℕ)) → word_of f ≡ None → HasNoWord (f ∷ rest)
none_found f rest e w h = not_some w (sym e ∙ ap word_of (first_is f (word_text w) rest h.0 h.1) ∙ word_again w)

no_fields : (w : Word) (rest : List (List ℕ)) → [] ≡ word_text w ∷ rest → ⊥
no_fields w rest e = absurd (cc)

by_word_meets : (known : Known) (f : List ℕ) (rest : List (List ℕ)) (o : Option Word) → word_of f ≡ o → FieldsMeet known (f ∷ rest) (by_word known o rest)
by_word_meets known f rest None e = none_found f rest e
by_word_meets known f rest (Some w) e =
    let P : List ℕ → Type 0 = λ z. FieldsMeet known (z ∷ rest) (line_by known w rest) in
    subst P (sym (word_ok f w e)) (with_word known w rest _ (line_by_meets known w rest))

pub fields_meet : (known : Known) (parts : List (List ℕ)) → FieldsMeet known parts (by_fields known parts)
fields_meet known [] = λ w h. no_fields w h.0 h.1
fields_meet known (f ∷ rest) = by_word_meets known f rest _ refl

-- ---- a line behind the lines before

pub grown_known : (before : List Said) (s : Said) → grown (known_of before) s ≡ known_of (s ∷ before)
unfolding grown
grown_known before VersionLine = refl
grown_known before (RoutersLine count) = refl
grown_known before (LinkLine link) = refl
grown_known before (StartLine start) = refl
grown_known before (RouterLine shape missing) = refl
grown_known before (PageLine page words) = refl
grown_known before (RowLine row) = refl
grown_known before (NodeLine named) = refl
grown_known before (EdgeLine edge) = refl
grown_known before (UnknownLine node) = refl
grown_known before (ClearLine node) = refl
grown_known before EndLine = refl
grown_known before (EarlyLine w rest) = refl

-- a field that is refused belongs to a line that says nothing
not_refused : (known : Known) (said : Said) (b : Bool) → cond b (Ok (grown known said)) (Err why.Order) ≡ Err why.Field → ⊥
not_refused known said true e = absurd (cc)
not_refused known said false e = absurd (cc)

accept_no_field : (known : Known) (said : Said) → accept known said ≡ Err why.Field → ⊥
unfolding accept
accept_no_field known said e = not_refused known said _ e

says_nothing : (before : List Said) (parts : List (List ℕ)) → IsFew (count_of before) → by_fields (known_of before) parts ≡ Err why.Field → (said : Said) → Spells (bounds_of before) said parts → ⊥
says_nothing before parts f e said s = accept_no_field (known_of before) said (sym (spelled_reads (known_of before) said parts f s) ∙ e)

bad : (before : List Said) (line : List ℕ) (y : CheckWhy) → IsFew (count_of before) → by_fields (known_of before) (fields line) ≡ Err y → Reason (known_of before) (fields line) y → IsBad before line y
bad before line why.Word f e m = m
bad before line why.Fields f e m = m
bad before line why.Field f e m = record { w = m.w; rest = m.rest; are = m.are; count = m.count; nothing = says_nothing before (fields line) f e }
bad before line why.Order f e m = record { said = m.said; spelled = m.spelled; misplaced = m.misplaced }
bad before line why.TooLong f e m = m
bad before line why.After f e m = m
bad before line why.Ending f e m = m

line_by_fields : (before : List Said) (line : List ℕ) (r : Result Known CheckWhy) → IsFew (count_of before) → by_fields (known_of before) (fields line) ≡ r → FieldsMeet (known_of before) (fields line) r → LineMeets certificates refusals reader before line r
line_by_fields before line (Ok new) f e m = (m.said, record { spelled = m.spelled; stands = m.stood }, m.grows ∙ grown_known before m.said)
line_by_fields before line (Err y) f e m = bad before line y f e m

pub line_meets : (before : List Said) (line : List ℕ) → IsFew (count_of before) → LineMeets certificates refusals reader before line (read_line (known_of before) line)
unfolding read_line
line_meets before line f = line_by_fields before line _ f refl (fields_meet (known_of before) (fields line))

-- a line is read as what it says
pub line_again : (before : List Said) (line : List ℕ) (said : Said) → IsFew (count_of before) → IsLine before line said → read_line (known_of before) line ≡ Ok (known_of (said ∷ before))
unfolding read_line accept
line_again before line said f l = spelled_reads (known_of before) said (fields line) f l.spelled ∙ (rw l.stands (ap (λ v. Ok v) (grown_known before said)))

-- ---- and a line with a fault is refused with it

misplaced_reads : (before : List Said) (line : List ℕ) → IsFew (count_of before) → IsMisplaced before (fields line) → read_line (known_of before) line ≡ Err why.Order
unfolding read_line accept
misplaced_reads before line f h = spelled_reads (known_of before) h.said (fields line) f h.spelled ∙ (rw h.misplaced refl)

no_word_reads : (before : List Said) (line : List ℕ) (r : Result Known CheckWhy) → HasNoWord (fields line) → LineMeets certificates refusals reader before line r → r ≡ Err why.Word
no_word_reads before line (Ok new) h m = let c = counted _ m.0 (fields line) m.1.spelled in absurd (h c.w (c.rest, c.are))
no_word_reads before line (Err why.Word) h m = refl
no_word_reads before line (Err why.Fields) h m = absurd (h m.w (m.rest, m.are))
no_word_reads before line (Err why.Field) h m = absurd (h m.w (m.rest, m.are))
no_word_reads before line (Err why.Order) h m = let c = counted _ m.said (fields line) m.spelled in absurd (h c.w (c.rest, c.are))
no_word_reads before line (Err why.TooLong) h m = absurd m
no_word_reads before line (Err why.After) h m = absurd m
no_word_reads before line (Err why.Ending) h m = absurd m

miscounted_reads : (before : List Said) (line : List ℕ) (r : Result Known CheckWhy) → IsMiscounted (fields line) → LineMeets certificates refusals reader before line r → r ≡ Err why.Fields
miscounted_reads before line (Ok new) h m = absurd (h.other (count_is (fields line) h.w h.rest h.are (counted _ m.0 (fields line) m.1.spelled)))
miscounted_reads before line (Err why.Word) h m = absurd (m h.w (h.rest, h.are))
miscounted_reads before line (Err why.Fields) h m = refl
miscounted_reads before line (Err why.Field) h m = absurd (h.other (count_is (fields line) h.w h.rest h.are (record { w = m.w; rest = m.rest; are = m.are; count = m.count })))
miscounted_reads before line (Err why.Order) h m = absurd (h.other (count_is (fields line) h.w h.rest h.are (counted _ m.said (fields line) m.spelled)))
miscounted_reads before line (Err why.TooLong) h m = absurd m
miscounted_reads before line (Err why.After) h m = absurd m
miscounted_reads before line (Err why.Ending) h m = absurd m

misformed_reads : (before : List Said) (line : List ℕ) (r : Result Known CheckWhy) → IsMisformed before (fields line) → LineMeets certificates refusals reader before line r → r ≡ Err why.Field
misformed_reads before line (Ok new) h m = absurd (h.nothing m.0 m.1.spelled)
misformed_reads before line (Err why.Word) h m = absurd (m h.w (h.rest, h.are))
misformed_reads before line (Err why.Fields) h m = absurd (m.other (count_is (fields line) m.w m.rest m.are (record { w = h.w; rest = h.rest; are = h.are; count = h.count })))
misformed_reads before line (Err why.Field) h m = refl
misformed_reads before line (Err why.Order) h m = absurd (h.nothing m.said m.spelled)
misformed_reads before line (Err why.TooLong) h m = absurd m
misformed_reads before line (Err why.After) h m = absurd m
misformed_reads before line (Err why.Ending) h m = absurd m

pub line_sole : (before : List Said) (line : List ℕ) (rule : CheckWhy) → IsFew (count_of before) → IsBad before line rule → read_line (known_of before) line ≡ Err rule
line_sole before line why.Word f h = no_word_reads before line _ h (line_meets before line f)
line_sole before line why.Fields f h = miscounted_reads before line _ h (line_meets before line f)
line_sole before line why.Field f h = misformed_reads before line _ h (line_meets before line f)
line_sole before line why.Order f h = misplaced_reads before line f h
line_sole before line why.TooLong f h = absurd h
line_sole before line why.After f h = absurd h
line_sole before line why.Ending f h = absurd h
