-- The words of a certificate's lines.
use Rattle.std.proofs.Common.{ℕ, ◌≡◌, List, [], ◌∷◌, length, refl, ap, sym, ◌∙◌, Bool, true, false, cond}
use Rattle.std.specs.Str.{bytes_eq}
use Rattle.std.specs.declared.option.Option.{Option}
use Rattle.std.specs.declared.option.Option.TheVariants.{None, Some}
use Rattle.line_text.proofs.Fields.{same}
use Rattle.evidence_text.specs.Reading.{word_of}
use Rattle.evidence_text.specs.Said.{Said, VersionLine, RoutersLine, LinkLine, StartLine, RouterLine, PageLine, RowLine, NodeLine, EdgeLine, UnknownLine, ClearLine, EndLine, EarlyLine}
use Rattle.evidence_text.specs.Spelling.{Bounds, Spells, IsFormed, word_text, word_said, rest_of, arity, are_early}
use Rattle.evidence_text.specs.declared.words.Word.{Word}
use Rattle.evidence_text.specs.declared.words.Word.TheVariants as word

-- ---- the word that a field is

a_word : (field : List ℕ) (v w : Word) → bytes_eq field (word_text v) ≡ true → Some v ≡ Some w → field ≡ word_text w
a_word field v w e f = let q : v ≡ w = cc in rw (← q) (same field (word_text v) e)

word_by : (field : List ℕ) (b : Bool) (v : Word) (rest : Option Word) (w : Word) → bytes_eq field (word_text v) ≡ b → (rest ≡ Some w → field ≡ word_text w) → cond b (Some v) rest ≡ Some w → field ≡ word_text w
word_by field true v rest w t more e = a_word field v w t e
word_by field false v rest w t more e = more e

no_word : (field : List ℕ) (w : Word) → None ≡ Some w → field ≡ word_text w
no_word field w e = absurd (cc)

pub word_ok : (field : List ℕ) (w : Word) → word_of field ≡ Some w → field ≡ word_text w
unfolding word_of
word_ok field w e = word_by field (bytes_eq field (word_text word.Edge)) word.Edge _ w refl (word_by field (bytes_eq field (word_text word.Row)) word.Row _ w refl (word_by field (bytes_eq field (word_text word.Node)) word.Node _ w refl (word_by field (bytes_eq field (word_text word.Clear)) word.Clear _ w refl (word_by field (bytes_eq field (word_text word.Unknown)) word.Unknown _ w refl (word_by field (bytes_eq field (word_text word.Page)) word.Page _ w refl (word_by field (bytes_eq field (word_text word.Link)) word.Link _ w refl (word_by field (bytes_eq field (word_text word.Router)) word.Router _ w refl (word_by field (bytes_eq field (word_text word.Start)) word.Start _ w refl (word_by field (bytes_eq field (word_text word.End)) word.End _ w refl (word_by field (bytes_eq field (word_text word.Routers)) word.Routers _ w refl (word_by field (bytes_eq field (word_text word.Version)) word.Version _ w refl (no_word field w)))))))))))) e

pub word_again : (w : Word) → word_of (word_text w) ≡ Some w
unfolding word_of
word_again word.Version = refl
word_again word.Routers = refl
word_again word.Link = refl
word_again word.Start = refl
word_again word.Router = refl
word_again word.Page = refl
word_again word.Row = refl
word_again word.Node = refl
word_again word.Edge = refl
word_again word.Unknown = refl
word_again word.Clear = refl
word_again word.End = refl

same_word : (v w : Word) → Some v ≡ Some w → v ≡ w
same_word v w e = cc

-- one text is no two words'
pub one_word : (v w : Word) → word_text v ≡ word_text w → v ≡ w
one_word v w e = same_word v w (sym (word_again v) ∙ ap word_of e ∙ word_again w)

-- ---- the number of fields

no_count : (b : Bool) (x y : ℕ) → false ≡ true → x ≡ y
no_count b x y e = absurd (cc)

pub early_counted : (w : Word) (rest : List (List ℕ)) → are_early w rest ≡ true → length rest ≡ arity w
early_counted word.Link (a ∷ b ∷ []) e = refl
early_counted word.Link [] e = no_count true _ _ e
early_counted word.Link (a ∷ []) e = no_count true _ _ e
early_counted word.Link (a ∷ b ∷ c ∷ xs) e = no_count true _ _ e
early_counted word.Start (a ∷ b ∷ []) e = refl
early_counted word.Start [] e = no_count true _ _ e
early_counted word.Start (a ∷ []) e = no_count true _ _ e
early_counted word.Start (a ∷ b ∷ c ∷ xs) e = no_count true _ _ e
early_counted word.Router (a ∷ b ∷ c ∷ d ∷ f ∷ []) e = refl
early_counted word.Router [] e = no_count true _ _ e
early_counted word.Router (a ∷ []) e = no_count true _ _ e
early_counted word.Router (a ∷ b ∷ []) e = no_count true _ _ e
early_counted word.Router (a ∷ b ∷ c ∷ []) e = no_count true _ _ e
early_counted word.Router (a ∷ b ∷ c ∷ d ∷ []) e = no_count true _ _ e
early_counted word.Router (a ∷ b ∷ c ∷ d ∷ f ∷ g ∷ xs) e = no_count true _ _ e
early_counted word.Page (a ∷ b ∷ []) e = refl
early_counted word.Page [] e = no_count true _ _ e
early_counted word.Page (a ∷ []) e = no_count true _ _ e
early_counted word.Page (a ∷ b ∷ c ∷ xs) e = no_count true _ _ e
early_counted word.Node (a ∷ b ∷ c ∷ []) e = refl
early_counted word.Node [] e = no_count true _ _ e
early_counted word.Node (a ∷ []) e = no_count true _ _ e
early_counted word.Node (a ∷ b ∷ []) e = no_count true _ _ e
early_counted word.Node (a ∷ b ∷ c ∷ d ∷ xs) e = no_count true _ _ e
early_counted word.Edge (a ∷ b ∷ c ∷ d ∷ []) e = refl
early_counted word.Edge [] e = no_count true _ _ e
early_counted word.Edge (a ∷ []) e = no_count true _ _ e
early_counted word.Edge (a ∷ b ∷ []) e = no_count true _ _ e
early_counted word.Edge (a ∷ b ∷ c ∷ []) e = no_count true _ _ e
early_counted word.Edge (a ∷ b ∷ c ∷ d ∷ f ∷ xs) e = no_count true _ _ e
early_counted word.Unknown (a ∷ b ∷ []) e = refl
early_counted word.Unknown [] e = no_count true _ _ e
early_counted word.Unknown (a ∷ []) e = no_count true _ _ e
early_counted word.Unknown (a ∷ b ∷ c ∷ xs) e = no_count true _ _ e
early_counted word.Clear (a ∷ b ∷ []) e = refl
early_counted word.Clear [] e = no_count true _ _ e
early_counted word.Clear (a ∷ []) e = no_count true _ _ e
early_counted word.Clear (a ∷ b ∷ c ∷ xs) e = no_count true _ _ e
early_counted word.Version rest e = no_count true _ _ e
early_counted word.Routers rest e = no_count true _ _ e
early_counted word.Row rest e = no_count true _ _ e
early_counted word.End rest e = no_count true _ _ e

pub formed_count : (b : Bounds) (said : Said) → IsFormed b said → length (rest_of said) ≡ arity (word_said said)
formed_count b VersionLine h = refl
formed_count b (RoutersLine count) h = refl
formed_count b (LinkLine link) h = refl
formed_count b (StartLine start) h = refl
formed_count b (RouterLine shape missing) h = refl
formed_count b (PageLine page words) h = refl
formed_count b (RowLine row) h = refl
formed_count b (NodeLine named) h = refl
formed_count b (EdgeLine edge) h = refl
formed_count b (UnknownLine node) h = refl
formed_count b (ClearLine node) h = refl
formed_count b EndLine h = refl
formed_count b (EarlyLine w rest) h = early_counted w rest h.1

-- ---- the word and the number of fields of a line

pub record IsCounted (fields : List (List ℕ)) : Type 0 where
  pub w : Word
  pub rest : List (List ℕ)
  pub are : fields ≡ word_text w ∷ rest
  pub count : length rest ≡ arity w

pub counted : (b : Bounds) (said : Said) (fields : List (List ℕ)) → Spells b said fields → IsCounted fields
counted b said fields s = record { w = word_said said; rest = rest_of said; are = s.are; count = formed_count b said s.formed }

first_is : (v w : List ℕ) (a b : List (List ℕ)) → v ∷ a ≡ w ∷ b → v ≡ w
first_is v w a b e = cc

others_are : (v w : List ℕ) (a b : List (List ℕ)) → v ∷ a ≡ w ∷ b → a ≡ b
others_are v w a b e = cc

-- a line has one word, and one number of fields
pub count_is : (fields : List (List ℕ)) (w : Word) (rest : List (List ℕ)) → fields ≡ word_text w ∷ rest → (c : IsCounted fields) → length rest ≡ arity w
count_is fields w rest e c =
    let both : word_text w ∷ rest ≡ word_text c.w ∷ c.rest = sym e ∙ c.are in
    ap length (others_are _ _ rest c.rest both) ∙ c.count ∙ ap arity (sym (one_word w c.w (first_is _ _ rest c.rest both)))
