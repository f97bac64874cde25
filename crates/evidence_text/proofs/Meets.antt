-- What the reading of a line's fields gives: what they say, or the first rule that they break.
use Rattle.std.proofs.Common.{ℕ, ◌≡◌, ◌≢◌, ◌-◌, ◌^◌, ◌<◌, List, [], ◌∷◌, length, refl, sym, subst, arith, Result, Ok, Err, Bool, true, false, cond, nat_lt, lit<, ◌==◌}
use Rattle.std.proofs.lemmas.Bool.{eqb-true}
use Rattle.std.proofs.lemmas.Bool.Decides.{nat_tests}
use Rattle.std.specs.Fmt.{decimal}
use Rattle.std.specs.Prelude.{codes}
use Rattle.std.specs.Str.{bytes_eq}
use Rattle.std.specs.declared.option.Option.{Option}
use Rattle.std.specs.declared.option.Option.TheVariants.{None, Some}
use Rattle.line_text.proofs.Fields.{same}
use Rattle.line_text.specs.Answers.{◌>>=◌}
use Rattle.spie_base.specs.Shapes.{IsShape}
use Rattle.spie_base.specs.declared.types.PageNo.{PageNo}
use Rattle.spie_base.specs.declared.types.PageShape.{PageShape}
use Rattle.spie_base.specs.declared.types.TheConstants.{K_MOST, N_LEAST, N_MOST}
use Rattle.packet_signature.specs.declared.rows.Row.{Row}
use Rattle.topology.specs.declared.limits.TheConstants.{ROUTERS_MOST}
use Rattle.reverse_flood.specs.declared.graphs.Node.{Node}
use Rattle.reverse_flood.specs.declared.graphs.Edge.{Edge}
use Rattle.evidence_text.proofs.FieldForms.{FieldMeets, bound, IsNumber, number_meets, IsBelow, below_meets, IsWord64, word64_meets, IsWords, words_meet, kind_meets, IsOld, data_meets, IsFrom, place_meets, flag_meets, IsPairOf, pair_meets}
use Rattle.evidence_text.specs.Before.{Known, bounds_in, told_in}
use Rattle.evidence_text.specs.Order.{stands}
use Rattle.evidence_text.specs.Reading.{number, below, word64_in, words_in, kind_in, data_in, place_in, flag_in, pair_in, version_rest, routers_rest, link_fields, link_rest, pair_rest, shape_fields, router_fields, router_rest, page_fields, page_rest, row_fields, row_rest, node_fields, node_rest, edge_fields, edge_rest, end_rest, early_why, grown, accept, version_line, routers_line, link_line, start_line, router_line, page_line, row_line, node_line, edge_line, unknown_line, clear_line, end_line, line_by}
use Rattle.evidence_text.specs.Said.{Said, VersionLine, RoutersLine, LinkLine, StartLine, RouterLine, PageLine, RowLine, NodeLine, EdgeLine, UnknownLine, ClearLine, EndLine, EarlyLine}
use Rattle.evidence_text.specs.Spelling.{Spells, IsRouter, IsPair, IsEarly, AreWords, word_text, arity, are_early, kind_word, flag_text}
use Rattle.evidence_text.specs.declared.certificates.Link.{Link}
use Rattle.evidence_text.specs.declared.certificates.Named.{Named}
use Rattle.evidence_text.specs.declared.refused.CheckWhy.{CheckWhy}
use Rattle.evidence_text.specs.declared.refused.CheckWhy.TheVariants as why
use Rattle.evidence_text.specs.declared.words.Word.{Word}
use Rattle.evidence_text.specs.declared.words.Word.TheVariants as word

-- a line that was taken
pub record IsTaken (known : Known) (fields : List (List ℕ)) (new : Known) : Type 0 where
  pub said : Said
  pub spelled : Spells (bounds_in known) said fields
  pub stood : stands (told_in known) said ≡ true
  pub grows : new ≡ grown known said

-- a line that may not stand here
pub record IsLost (known : Known) (fields : List (List ℕ)) : Type 0 where
  pub said : Said
  pub spelled : Spells (bounds_in known) said fields
  pub misplaced : stands (told_in known) said ≡ false

abbrev pub Reason : Known → Word → List (List ℕ) → CheckWhy → Type 0
Reason known w rest why.Fields = length rest ≢ arity w
Reason known w rest why.Field = length rest ≡ arity w
Reason known w rest why.Order = IsLost known (word_text w ∷ rest)
Reason known w rest _ = ⊥

abbrev pub Meets : Known → Word → List (List ℕ) → Result Known CheckWhy → Type 0
Meets known w rest (Ok new) = IsTaken known (word_text w ∷ rest) new
Meets known w rest (Err y) = Reason known w rest y

accept_by : (known : Known) (w : Word) (rest : List (List ℕ)) (said : Said) (b : Bool) → stands (told_in known) said ≡ b → Spells (bounds_in known) said (word_text w ∷ rest) → Meets known w rest (cond b (Ok (grown known said)) (Err why.Order))
accept_by known w rest said true e s = record { said = said; spelled = s; stood = e; grows = refl }
accept_by known w rest said false e s = record { said = said; spelled = s; misplaced = e }

accepts : (known : Known) (w : Word) (rest : List (List ℕ)) (said : Said) → Spells (bounds_in known) said (word_text w ∷ rest) → Meets known w rest (accept known said)
unfolding accept
accepts known w rest said s = accept_by known w rest said _ refl s

-- what stands behind the word is so, or there are too few fields or too many, or one is not of its form
abbrev RestMeets : {A : Type 0} → Word → List (List ℕ) → (A → Type 0) → Result A CheckWhy → Type 0
RestMeets w rest P (Ok x) = P x
RestMeets w rest P (Err why.Fields) = length rest ≢ arity w
RestMeets w rest P (Err why.Field) = length rest ≡ arity w
RestMeets w rest P (Err _) = ⊥

-- then the line is taken where it may stand
then_accepts : {A : Type 0} (known : Known) (w : Word) (rest : List (List ℕ)) (P : A → Type 0) (r : Result A CheckWhy) (f : A → Said) → RestMeets w rest P r → ((x : A) → P x → Spells (bounds_in known) (f x) (word_text w ∷ rest)) → Meets known w rest (r >>= (λ x. accept known (f x)))
then_accepts known w rest P (Ok x) f h says = accepts known w rest (f x) (says x h)
then_accepts known w rest P (Err why.Fields) f h says = h
then_accepts known w rest P (Err why.Field) f h says = h
then_accepts known w rest P (Err why.TooLong) f h says = h
then_accepts known w rest P (Err why.After) f h says = h
then_accepts known w rest P (Err why.Ending) f h says = h
then_accepts known w rest P (Err why.Word) f h says = h
then_accepts known w rest P (Err why.Order) f h says = absurd h

-- fields of which one may be refused
of_fields : {A : Type 0} (w : Word) (rest : List (List ℕ)) (P : A → Type 0) (r : Result A CheckWhy) → length rest ≡ arity w → FieldMeets P r → RestMeets w rest P r
of_fields w rest P (Ok x) c h = h
of_fields {A = A} w rest P (Err y) c h = let Q : CheckWhy → Type 0 = λ v. RestMeets {A = A} w rest P (Err v) in subst Q (sym h) c

then_fields : {A : Type 0} (known : Known) (w : Word) (rest : List (List ℕ)) (P : A → Type 0) (r : Result A CheckWhy) (f : A → Said) → length rest ≡ arity w → FieldMeets P r → ((x : A) → P x → Spells (bounds_in known) (f x) (word_text w ∷ rest)) → Meets known w rest (r >>= (λ x. accept known (f x)))
then_fields known w rest P r f c h says = then_accepts known w rest P r f (of_fields w rest P r c h) says

-- ---- before it is known how many routers there are

early_by : (known : Known) (w : Word) (rest : List (List ℕ)) (b : Bool) → are_early w rest ≡ b → IsEarly (bounds_in known) w → length rest ≡ arity w → Reason known w rest (cond b why.Order why.Field)
early_by known w rest true e early c = record { said = EarlyLine w rest; spelled = record { are = refl; formed = (early, e) }; misplaced = refl }
early_by known w rest false e early c = c

not_so_many : (a b : ℕ) → (a == b) ≡ false → a ≢ b
not_so_many a b e q = grind (arith, nat_tests)

early_count : (known : Known) (w : Word) (rest : List (List ℕ)) (b : Bool) → (length rest == arity w) ≡ b → IsEarly (bounds_in known) w → Reason known w rest (cond b (cond (are_early w rest) why.Order why.Field) why.Fields)
early_count known w rest true e early = early_by known w rest _ refl early (eqb-true (length rest) (arity w) e)
early_count known w rest false e early = not_so_many (length rest) (arity w) e

early_meets : (known : Known) (w : Word) (rest : List (List ℕ)) → IsEarly (bounds_in known) w → Meets known w rest (Err (early_why w rest))
unfolding early_why
early_meets known w rest early = early_count known w rest _ refl early

-- ---- what stands behind each word

version_by : (v : List ℕ) (b : Bool) → bytes_eq v (codes "1") ≡ b → RestMeets word.Version (v ∷ []) (λ (u : Unit {0}). v ≡ codes "1") (cond b (Ok tt) (Err why.Field))
version_by v true e = same v (codes "1") e
version_by v false e = refl

version_meets : (known : Known) (rest : List (List ℕ)) → Meets known word.Version rest (version_line known rest)
unfolding version_line version_rest
version_meets known [] = λ q. omega arith
version_meets known (v ∷ []) = then_accepts known word.Version (v ∷ []) (λ (u : Unit {0}). v ≡ codes "1") _ (λ u. VersionLine) (version_by v _ refl) (λ u h. record { are = rw h refl; formed = tt })
version_meets known (v ∷ x ∷ xs) = λ q. omega arith

routers_meet : (known : Known) (rest : List (List ℕ)) → Meets known word.Routers rest (routers_line known rest)
unfolding routers_line routers_rest
routers_meet known [] = λ q. omega arith
routers_meet known (v ∷ []) = then_fields known word.Routers (v ∷ []) (λ n. IsNumber v 1 ROUTERS_MOST n) (number v 1 ROUTERS_MOST) RoutersLine refl (number_meets v 1 ROUTERS_MOST (lit< tt)) (λ n h. record { are = rw h.is refl; formed = (h.low, h.high) })
routers_meet known (v ∷ x ∷ xs) = λ q. omega arith

router_fits : (c : Option ℕ) (count r : ℕ) → c ≡ Some count → r < count → IsRouter c r
router_fits c count r e h = rw e h

pair_fits : (c : Option ℕ) (count : ℕ) (router sig : List ℕ) (n : Node) → c ≡ Some count → IsPairOf count router sig n → IsPair c n
pair_fits c count router sig n e h = (router_fits c count n.router.number e h.known, h.fits)

-- a link
record IsLinkOf (count : ℕ) (low high : List ℕ) (l : Link) : Type 0 where
  low_is : low ≡ decimal l.low.number
  high_is : high ≡ decimal l.high.number
  low_fits : l.low.number < count
  high_fits : l.high.number < count
  ascends : l.low.number < l.high.number

link_by : (count : ℕ) (low high : List ℕ) (l h : ℕ) (b : Bool) → nat_lt l h ≡ b → IsBelow low count l → IsBelow high count h → FieldMeets (λ l. IsLinkOf count low high l) (cond b (Ok (record { low = record { number = l }; high = record { number = h } })) (Err why.Field))
link_by count low high l h true t p q = record { low_is = p.is; high_is = q.is; low_fits = p.under; high_fits = q.under; ascends = grind (arith, nat_tests) }
link_by count low high l h false t p q = refl

link_fields_meet : (count : ℕ) (low high : List ℕ) → FieldMeets (λ l. IsLinkOf count low high l) (link_fields count low high)
unfolding link_fields
link_fields_meet count low high =
    bound (λ n. IsBelow low count n) (λ r. FieldMeets (λ l. IsLinkOf count low high l) r) (below low count) _ (below_meets low count) (λ l p.
    bound (λ n. IsBelow high count n) (λ r. FieldMeets (λ l. IsLinkOf count low high l) r) (below high count) _ (below_meets high count) (λ h q.
    link_by count low high l h _ refl p q) refl) refl

link_meets : (known : Known) (c : Option ℕ) (rest : List (List ℕ)) → known.count ≡ c → Meets known word.Link rest (link_line known c rest)
unfolding link_line link_rest
link_meets known None rest e = early_meets known word.Link rest e
link_meets known (Some count) [] e = λ q. omega arith
link_meets known (Some count) (a ∷ []) e = λ q. omega arith
link_meets known (Some count) (a ∷ b ∷ []) e = then_fields known word.Link (a ∷ b ∷ []) (λ l. IsLinkOf count a b l) (link_fields count a b) LinkLine refl (link_fields_meet count a b) (λ l h. record { are = rw (h.low_is, h.high_is) refl; formed = (router_fits known.count count _ e h.low_fits, router_fits known.count count _ e h.high_fits, h.ascends) })
link_meets known (Some count) (a ∷ b ∷ x ∷ xs) e = λ q. omega arith

-- a router and a signature
start_meets : (known : Known) (c : Option ℕ) (rest : List (List ℕ)) → known.count ≡ c → Meets known word.Start rest (start_line known c rest)
unfolding start_line pair_rest
start_meets known None rest e = early_meets known word.Start rest e
start_meets known (Some count) [] e = λ q. omega arith
start_meets known (Some count) (a ∷ []) e = λ q. omega arith
start_meets known (Some count) (a ∷ b ∷ []) e = then_fields known word.Start (a ∷ b ∷ []) (λ n. IsPairOf count a b n) (pair_in count a b) StartLine refl (pair_meets count a b) (λ n h. record { are = rw (h.router_is, h.sig_is) refl; formed = pair_fits known.count count a b n e h })
start_meets known (Some count) (a ∷ b ∷ x ∷ xs) e = λ q. omega arith

unknown_meets : (known : Known) (c : Option ℕ) (rest : List (List ℕ)) → known.count ≡ c → Meets known word.Unknown rest (unknown_line known c rest)
unfolding unknown_line pair_rest
unknown_meets known None rest e = early_meets known word.Unknown rest e
unknown_meets known (Some count) [] e = λ q. omega arith
unknown_meets known (Some count) (a ∷ []) e = λ q. omega arith
unknown_meets known (Some count) (a ∷ b ∷ []) e = then_fields known word.Unknown (a ∷ b ∷ []) (λ n. IsPairOf count a b n) (pair_in count a b) UnknownLine refl (pair_meets count a b) (λ n h. record { are = rw (h.router_is, h.sig_is) refl; formed = pair_fits known.count count a b n e h })
unknown_meets known (Some count) (a ∷ b ∷ x ∷ xs) e = λ q. omega arith

clear_meets : (known : Known) (c : Option ℕ) (rest : List (List ℕ)) → known.count ≡ c → Meets known word.Clear rest (clear_line known c rest)
unfolding clear_line pair_rest
clear_meets known None rest e = early_meets known word.Clear rest e
clear_meets known (Some count) [] e = λ q. omega arith
clear_meets known (Some count) (a ∷ []) e = λ q. omega arith
clear_meets known (Some count) (a ∷ b ∷ []) e = then_fields known word.Clear (a ∷ b ∷ []) (λ n. IsPairOf count a b n) (pair_in count a b) ClearLine refl (pair_meets count a b) (λ n h. record { are = rw (h.router_is, h.sig_is) refl; formed = pair_fits known.count count a b n e h })
clear_meets known (Some count) (a ∷ b ∷ x ∷ xs) e = λ q. omega arith

-- a router
record IsShapeOf (count : ℕ) (router k n base : List ℕ) (s : PageShape) : Type 0 where
  router_is : router ≡ decimal s.router.number
  k_is : k ≡ decimal s.k
  n_is : n ≡ decimal s.n
  base_is : IsWord64 base s.base
  known : s.router.number < count
  in_range : IsShape s

shape_meets : (count : ℕ) (router k n base : List ℕ) → FieldMeets (λ s. IsShapeOf count router k n base s) (shape_fields count router k n base)
unfolding shape_fields
shape_meets count router k n base =
    bound (λ v. IsBelow router count v) (λ r. FieldMeets (λ s. IsShapeOf count router k n base s) r) (below router count) _ (below_meets router count) (λ a p.
    bound (λ v. IsNumber k 1 K_MOST v) (λ r. FieldMeets (λ s. IsShapeOf count router k n base s) r) (number k 1 K_MOST) _ (number_meets k 1 K_MOST (lit< tt)) (λ b q.
    bound (λ v. IsNumber n N_LEAST N_MOST v) (λ r. FieldMeets (λ s. IsShapeOf count router k n base s) r) (number n N_LEAST N_MOST) _ (number_meets n N_LEAST N_MOST (lit< tt)) (λ c u.
    bound (λ v. IsWord64 base v) (λ r. FieldMeets (λ s. IsShapeOf count router k n base s) r) (word64_in base) _ (word64_meets base) (λ d v.
    record { router_is = p.is; k_is = q.is; n_is = u.is; base_is = v; known = p.under; in_range = record { k_least = q.low; k_most = q.high; n_least = u.low; n_most = u.high } }) refl) refl) refl) refl

record IsRouterOf (count : ℕ) (router k n base missing : List ℕ) (x : PageShape × Bool) : Type 0 where
  shape : IsShapeOf count router k n base x.0
  missing_is : missing ≡ flag_text x.1

router_fields_meet : (count : ℕ) (router k n base missing : List ℕ) → FieldMeets (λ x. IsRouterOf count router k n base missing x) (router_fields count router k n base missing)
unfolding router_fields
router_fields_meet count router k n base missing =
    bound (λ s. IsShapeOf count router k n base s) (λ r. FieldMeets (λ x. IsRouterOf count router k n base missing x) r) (shape_fields count router k n base) _ (shape_meets count router k n base) (λ s p.
    bound (λ flag. missing ≡ flag_text flag) (λ r. FieldMeets (λ x. IsRouterOf count router k n base missing x) r) (flag_in missing) _ (flag_meets missing) (λ flag q.
    record { shape = p; missing_is = q }) refl) refl

router_meets : (known : Known) (c : Option ℕ) (rest : List (List ℕ)) → known.count ≡ c → Meets known word.Router rest (router_line known c rest)
unfolding router_line router_rest
router_meets known None rest e = early_meets known word.Router rest e
router_meets known (Some count) [] e = λ q. omega arith
router_meets known (Some count) (a ∷ []) e = λ q. omega arith
router_meets known (Some count) (a ∷ b ∷ []) e = λ q. omega arith
router_meets known (Some count) (a ∷ b ∷ c ∷ []) e = λ q. omega arith
router_meets known (Some count) (a ∷ b ∷ c ∷ d ∷ []) e = λ q. omega arith
router_meets known (Some count) (a ∷ b ∷ c ∷ d ∷ f ∷ []) e = then_fields known word.Router (a ∷ b ∷ c ∷ d ∷ f ∷ []) (λ x. IsRouterOf count a b c d f x) (router_fields count a b c d f) (λ x. RouterLine x.0 x.1) refl (router_fields_meet count a b c d f) (λ x h. record { are = rw (h.shape.router_is, h.shape.k_is, h.shape.n_is, h.shape.base_is.is, h.missing_is) refl; formed = (router_fits known.count count _ e h.shape.known, h.shape.in_range, h.shape.base_is.fits) })
router_meets known (Some count) (a ∷ b ∷ c ∷ d ∷ f ∷ x ∷ xs) e = λ q. omega arith

-- a page
record IsPageOf (n : ℕ) (page words : List ℕ) (x : PageNo × List ℕ) : Type 0 where
  number : IsNumber page 0 4294967295 x.0.number
  bits : IsWords words (2 ^ (n - 6)) x.1

page_fields_meet : (n : ℕ) (page words : List ℕ) → FieldMeets (λ x. IsPageOf n page words x) (page_fields n page words)
unfolding page_fields
page_fields_meet n page words =
    bound (λ v. IsNumber page 0 4294967295 v) (λ r. FieldMeets (λ x. IsPageOf n page words x) r) (number page 0 4294967295) _ (number_meets page 0 4294967295 (lit< tt)) (λ v p.
    bound (λ ws. IsWords words (2 ^ (n - 6)) ws) (λ r. FieldMeets (λ x. IsPageOf n page words x) r) (words_in n words) _ (words_meet n words) (λ ws q.
    record { number = p; bits = q }) refl) refl

words_fit : (c : Option ℕ) (n : ℕ) (field words : List ℕ) → c ≡ Some n → IsWords field (2 ^ (n - 6)) words → AreWords c words
words_fit c n field words e h = rw e (h.long, h.each)

page_meets : (known : Known) (c : Option ℕ) (rest : List (List ℕ)) → known.n ≡ c → Meets known word.Page rest (page_line known c rest)
unfolding page_line page_rest
page_meets known None rest e = early_meets known word.Page rest e
page_meets known (Some n) [] e = λ q. omega arith
page_meets known (Some n) (a ∷ []) e = λ q. omega arith
page_meets known (Some n) (a ∷ b ∷ []) e = then_fields known word.Page (a ∷ b ∷ []) (λ x. IsPageOf n a b x) (page_fields n a b) (λ x. PageLine x.0 x.1) refl (page_fields_meet n a b) (λ x h. record { are = rw (h.number.is, h.bits.is) refl; formed = (let high = h.number.high in omega (arith, high), words_fit known.n n b x.1 e h.bits) })
page_meets known (Some n) (a ∷ b ∷ x ∷ xs) e = λ q. omega arith

-- a row
record IsRowOf (key k w old : List ℕ) (row : Row) : Type 0 where
  key_is : IsWord64 key row.key
  kind_is : k ≡ kind_word row.kind
  data_is : IsOld row.kind w old row.old

row_fields_meet : (key k w old : List ℕ) → FieldMeets (λ row. IsRowOf key k w old row) (row_fields key k w old)
unfolding row_fields
row_fields_meet key k w old =
    bound (λ v. IsWord64 key v) (λ r. FieldMeets (λ row. IsRowOf key k w old row) r) (word64_in key) _ (word64_meets key) (λ v p.
    bound (λ x. k ≡ kind_word x) (λ r. FieldMeets (λ row. IsRowOf key k w old row) r) (kind_in k) _ (kind_meets k) (λ x q.
    bound (λ y. IsOld x w old y) (λ r. FieldMeets (λ row. IsRowOf key k w old row) r) (data_in x w old) _ (data_meets x w old) (λ y u.
    record { key_is = p; kind_is = q; data_is = u }) refl) refl) refl

row_meets : (known : Known) (rest : List (List ℕ)) → Meets known word.Row rest (row_line known rest)
unfolding row_line row_rest
row_meets known [] = λ q. omega arith
row_meets known (a ∷ []) = λ q. omega arith
row_meets known (a ∷ b ∷ []) = λ q. omega arith
row_meets known (a ∷ b ∷ c ∷ []) = λ q. omega arith
row_meets known (a ∷ b ∷ c ∷ d ∷ []) = then_fields known word.Row (a ∷ b ∷ c ∷ d ∷ []) (λ row. IsRowOf a b c d row) (row_fields a b c d) RowLine refl (row_fields_meet a b c d) (λ row h. record { are = rw (h.key_is.is, h.kind_is, h.data_is.word, h.data_is.is) refl; formed = (h.key_is.fits, h.data_is.fits) })
row_meets known (a ∷ b ∷ c ∷ d ∷ x ∷ xs) = λ q. omega arith

-- a node
record IsNodeOf (count : ℕ) (router sig from : List ℕ) (x : Named) : Type 0 where
  node : IsPairOf count router sig x.node
  place : IsFrom from x.from

node_fields_meet : (count : ℕ) (router sig from : List ℕ) → FieldMeets (λ x. IsNodeOf count router sig from x) (node_fields count router sig from)
unfolding node_fields
node_fields_meet count router sig from =
    bound (λ n. IsPairOf count router sig n) (λ r. FieldMeets (λ x. IsNodeOf count router sig from x) r) (pair_in count router sig) _ (pair_meets count router sig) (λ n p.
    bound (λ place. IsFrom from place) (λ r. FieldMeets (λ x. IsNodeOf count router sig from x) r) (place_in from) _ (place_meets from) (λ place q.
    record { node = p; place = q }) refl) refl

node_meets : (known : Known) (c : Option ℕ) (rest : List (List ℕ)) → known.count ≡ c → Meets known word.Node rest (node_line known c rest)
unfolding node_line node_rest
node_meets known None rest e = early_meets known word.Node rest e
node_meets known (Some count) [] e = λ q. omega arith
node_meets known (Some count) (a ∷ []) e = λ q. omega arith
node_meets known (Some count) (a ∷ b ∷ []) e = λ q. omega arith
node_meets known (Some count) (a ∷ b ∷ c ∷ []) e = then_fields known word.Node (a ∷ b ∷ c ∷ []) (λ x. IsNodeOf count a b c x) (node_fields count a b c) NodeLine refl (node_fields_meet count a b c) (λ x h. record { are = rw (h.node.router_is, h.node.sig_is, h.place.is) refl; formed = (pair_fits known.count count a b x.node e h.node, h.place.fits) })
node_meets known (Some count) (a ∷ b ∷ c ∷ x ∷ xs) e = λ q. omega arith

-- an edge
record IsEdgeOf (count : ℕ) (down sig up old : List ℕ) (x : Edge) : Type 0 where
  lower : IsPairOf count down sig x.down
  upper : IsPairOf count up old x.up

edge_fields_meet : (count : ℕ) (down sig up old : List ℕ) → FieldMeets (λ x. IsEdgeOf count down sig up old x) (edge_fields count down sig up old)
unfolding edge_fields
edge_fields_meet count down sig up old =
    bound (λ n. IsPairOf count down sig n) (λ r. FieldMeets (λ x. IsEdgeOf count down sig up old x) r) (pair_in count down sig) _ (pair_meets count down sig) (λ n p.
    bound (λ n. IsPairOf count up old n) (λ r. FieldMeets (λ x. IsEdgeOf count down sig up old x) r) (pair_in count up old) _ (pair_meets count up old) (λ m q.
    record { lower = p; upper = q }) refl) refl

edge_meets : (known : Known) (c : Option ℕ) (rest : List (List ℕ)) → known.count ≡ c → Meets known word.Edge rest (edge_line known c rest)
unfolding edge_line edge_rest
edge_meets known None rest e = early_meets known word.Edge rest e
edge_meets known (Some count) [] e = λ q. omega arith
edge_meets known (Some count) (a ∷ []) e = λ q. omega arith
edge_meets known (Some count) (a ∷ b ∷ []) e = λ q. omega arith
edge_meets known (Some count) (a ∷ b ∷ c ∷ []) e = λ q. omega arith
edge_meets known (Some count) (a ∷ b ∷ c ∷ d ∷ []) e = then_fields known word.Edge (a ∷ b ∷ c ∷ d ∷ []) (λ x. IsEdgeOf count a b c d x) (edge_fields count a b c d) EdgeLine refl (edge_fields_meet count a b c d) (λ x h. record { are = rw (h.lower.router_is, h.lower.sig_is, h.upper.router_is, h.upper.sig_is) refl; formed = (pair_fits known.count count a b x.down e h.lower, pair_fits known.count count c d x.up e h.upper) })
edge_meets known (Some count) (a ∷ b ∷ c ∷ d ∷ x ∷ xs) e = λ q. omega arith

end_meets : (known : Known) (rest : List (List ℕ)) → Meets known word.End rest (end_line known rest)
unfolding end_line end_rest
end_meets known [] = accepts known word.End [] EndLine (record { are = refl; formed = tt })
end_meets known (x ∷ xs) = λ q. omega arith

-- ---- a line

pub line_by_meets : (known : Known) (w : Word) (rest : List (List ℕ)) → Meets known w rest (line_by known w rest)
unfolding line_by
line_by_meets known word.Version rest = version_meets known rest
line_by_meets known word.Routers rest = routers_meet known rest
line_by_meets known word.Link rest = link_meets known known.count rest refl
line_by_meets known word.Start rest = start_meets known known.count rest refl
line_by_meets known word.Router rest = router_meets known known.count rest refl
line_by_meets known word.Page rest = page_meets known known.n rest refl
line_by_meets known word.Row rest = row_meets known rest
line_by_meets known word.Node rest = node_meets known known.count rest refl
line_by_meets known word.Edge rest = edge_meets known known.count rest refl
line_by_meets known word.Unknown rest = unknown_meets known known.count rest refl
line_by_meets known word.Clear rest = clear_meets known known.count rest refl
line_by_meets known word.End rest = end_meets known rest
